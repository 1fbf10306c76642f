-- Crashes, recoveries, and sites that are made or join keep all that holds of the world.
use Rattle.std.proofs.Common.{◌≡◌, ◌∙◌, ◌⊎◌, inl, inr, ℕ, zero, suc, ◌+◌, ◌-◌, ◌<◌, List, [], ◌∷◌, length, take, drop, refl, ap, sym, subst, arith, Bool, true, false}
use Rattle.std.proofs.lemmas.Bool.{not-false}
use Rattle.std.specs.Prelude.{leb, not, if◌then◌else◌, Option, Some, None, eqb, ltb, ◌&&◌, ◌||◌}
use Rattle.std.specs.List.{AllByRecursion}
use Rattle.std.proofs.lemmas.Bool.Decides.{nat_tests}
use Rattle.vx_model.specs.Content.{Write, Content}
use Rattle.vx_model.specs.Sizes.{ring_of}
use Rattle.vx_model.specs.Sites.{is_origin, first_line}
use Rattle.vx_model.specs.declared.history.Line.{Line}
use Rattle.vx_model.specs.declared.limits.TheConstants.{MOST_LINKS}
use Rattle.vx_model.specs.declared.link.Prot.{Prot}
use Rattle.vx_model.specs.declared.link.SyncMode.{SyncMode}
use Rattle.vx_model.specs.declared.no.No.TheVariants.{Size, Role as WrongRole, Exists, Limit}
use Rattle.vx_model.specs.declared.no.Counted.TheVariants.{Links}
use Rattle.vx_model.specs.declared.site.Mark.TheVariants.{Consistent}
use Rattle.vx_model.specs.declared.site.SiteState.{SiteState}
use Rattle.vx_model.specs.declared.site.SiteState.TheVariants.{Bare, Up, Deported, Down}
use Rattle.vx_model.proofs.Contents.{folded_size}
use Rattle.vx_history.proofs.Updates.{all_updated, all_lines, by_test, at_place, and_left, and_right}
use Rattle.vx_history.proofs.CrashLemmas.{crash_state}
use Rattle.vx_history.proofs.GoodLemmas.{up_is_made, made_is_given}
use Rattle.vx_history.proofs.Places.{places_further, places_made}
use Rattle.vx_history.specs.World.{World, Node, Link as LinkRecord, Volume, History, Gathering, Hello, with_node, bare_site, no_volumes, updated, line_updated}
use Rattle.vx_history.specs.Steps.{raw_volumes, raw_content, burned, crashed, crash_left, kept_by, deported_site, fallen_site, fallen_world, site_made, begun_site, begun_line, line_begun, raw_made, group_back, group_up, stopped_by}
use Rattle.vx_history.specs.Good.{IsMade}
use Rattle.vx_history.specs.Listed.{HasPlaces}
use Rattle.vx_history.specs.Sends.{is_linked, with_link, with_links, sending, greeting}
use Rattle.vx_history.specs.declared.event.Said.TheVariants.{Done}
use Rattle.vx_history.specs.Refusals.{Outcome, says, unless, is_primary, follows, may_link, agree, sizes_meet, rings_fit, count_links_of}
use Rattle.vx_history.specs.Gatherings.{emptied}
use Rattle.vx_history.specs.Events
use Rattle.vx_history.specs.Step.{done, link_part}
use Rattle.vx_history.specs.Fits.{WriteFits, Fitting, IsSized, IsAlike, LeadsAlone, blocks_of_volume}
use Rattle.vx_history.specs.GoodGatherings.{IsPart, MayGather}
use Rattle.vx_history.specs.Sound.{Sound, is_at_rest}
use Rattle.vx_history.specs.declared.event.LinkPart.{LinkPart}
use Rattle.vx_history.specs.declared.event.LinkPart.TheVariants.{Joins, Made, Marked, Opened}
use Rattle.vx_world.proofs.Lists.{each_weaker}
use Rattle.vx_world.proofs.Guards
use Rattle.vx_world.proofs.Guards.{rest_bare}
use Rattle.vx_world.proofs.Nodes
use Rattle.vx_world.proofs.Keeping.{Keeps, keeps_same, keeps_trans, keeps_links, made_link, made_rows, ArePlaced, keeps_sending, keeps_node, keeps_crash, IsFitted, each_take, fits_there, alike_there, gather_up, all_parts}
use Rattle.vx_world.proofs.KeptWrites.{Leaves, like_fitted, bare_same}

-- ## Crashes and recoveries

pub crash_leaves : (w : World) (q k : ℕ) → Sound w → (w.nodes q).state ≡ Up → Keeps w (Events.crash_at w q k)
crash_leaves w q k s up =
    let n : Node = w.nodes q in
    let row : ℕ → LinkRecord = λ to. Events.link_left n k (w.links q to) in
    let fitted : Fitting w → IsFitted n (crashed n k) = λ f. record {
      volumes = refl;
      ring = refl;
      line = refl;
      made = λ _ e. let g : Up ≡ Bare = sym up ∙ e in cc;
      start = λ v. refl;
      base = folded_size n.base (drop n.safe (take k n.log));
      log = each_take (WriteFits n) k n.log;
    } in
    let bare : Fitting w → (crashed n k).state ≡ Bare → n.ring ≡ 0 = λ f e. absurd (let g : Down ≡ Bare = e in cc) in
    by_test (λ (v : World). Keeps w (emptied (with_links v q row) q)) (is_origin n.role) (crash_left w q k) (with_node w q (crashed n k))
    (λ o. keeps_crash w q (crashed n k) fitted bare (line_updated w.lines n.line (kept_by (w.lines n.line) n k)) (updated w.links q row) (made_rows w q row (λ to. refl))
    (λ f. all_lines (λ l (r : History). AllByRecursion (WriteFits (w.nodes l.origin)) r.held) w.lines n.line (kept_by (w.lines n.line) n k)
    (subst (λ (i : ℕ). AllByRecursion (WriteFits (w.nodes i)) (take k n.log)) (sym ((s.good.nodes q).own_line (up_is_made n up) o))
    (each_take (WriteFits n) k n.log (f.logs q)))
    (λ l _. f.held l)))
    (λ _. keeps_crash w q (crashed n k) fitted bare w.lines (updated w.links q row) (made_rows w q row (λ to. refl)) (λ f. f.held))

pub deport_leaves : (w : World) (q : ℕ) → Sound w → (w.nodes q).state ≡ Up → Keeps w (Events.deport_at w q)
deport_leaves w q s up =
    let k : ℕ = Events.kept_of (w.nodes q) 0 in
    let v : World = Events.crash_at w q k in
    let down : (v.nodes q).state ≡ Down = crash_state w q k in
    let m : Node = deported_site (w.nodes q).fuse (v.nodes q) in
    keeps_trans w v (Events.deport_at w q) (crash_leaves w q k s up)
    (keeps_node v q m (λ f. like_fitted (v.nodes q) m refl refl refl (λ _ e. let g : Down ≡ Bare = sym down ∙ e in cc) refl refl refl)
    (λ f e. absurd (let g : Deported ≡ Bare = e in cc)) (λ u. absurd (let g : Down ≡ Up = sym down ∙ u in cc)))

fallen_leaves : (w : World) (q : ℕ) → (w.nodes q).state ≡ Deported → Keeps w (fallen_world w q)
fallen_leaves w q away =
    let m : Node = fallen_site (w.nodes q) in
    keeps_node w q m (λ f. like_fitted (w.nodes q) m refl refl refl (λ _ e. let g : Deported ≡ Bare = sym away ∙ e in cc) refl refl refl)
    (λ f e. absurd (let g : Down ≡ Bare = e in cc)) (λ u. absurd (let g : Deported ≡ Up = sym away ∙ u in cc))

pub fall_leaves : (w : World) (q : ℕ) (state : SiteState) → (w.nodes q).state ≡ state → Leaves w (Events.fall_from state w q)
fall_leaves w q Bare e = keeps_same w
fall_leaves w q Up e = keeps_same w
fall_leaves w q Deported e = fallen_leaves w q e
fall_leaves w q Down e = keeps_same w

pub recovery_leaves : (w : World) (q : ℕ) (fails : Option ℕ) → is_at_rest (w.nodes q).state ≡ true → Leaves w (Events.recovery w q fails)
recovery_leaves w q None rest =
    Nodes.back_by (λ (m : Node). Keeps w
    (sending (with_links (with_node w q m) q (λ to. Events.restarted_link m to (w.links q to))) (Events.recovery_greeting q m))) (w.nodes q)
    (λ mark _ _ _ _.
    let n : Node = w.nodes q in
    let m : Node = Nodes.risen n mark in
    let v : World = with_node w q m in
    let u : World = with_links v q (λ to. Events.restarted_link m to (w.links q to)) in
    keeps_sending w u
    (keeps_links w v
    (keeps_node w q m (λ f. like_fitted n m refl refl refl (λ _. rest_bare n.state rest) refl refl refl)
    (λ f e. absurd (let g : Up ≡ Bare = e in cc)) (λ _. refl))
    u.links (made_rows v q (λ to. Events.restarted_link m to (w.links q to)) (λ to. refl)))
    (Events.recovery_greeting q m)
    (by_test (AllByRecursion IsPart) (is_origin m.role) [] (greeting q m.other m) (λ _. tt)
    (λ _. all_parts q m.other m.line (Hello m.session (length m.log) m.safe))))
recovery_leaves w q (Some disk) rest =
    let m : Node = record (w.nodes q) { session = (w.nodes q).session + 1 } in
    keeps_node w q m (λ f. like_fitted (w.nodes q) m refl refl refl (λ made. made) refl refl refl) (bare_same w q m refl refl) (λ u. u)

pub recover_leaves : (w : World) (q : ℕ) (state : SiteState) (fails : Option ℕ) → (w.nodes q).state ≡ state → Leaves w (Events.recover_from state w q fails)
recover_leaves w q Bare fails e = keeps_same w
recover_leaves w q Up fails e = keeps_same w
recover_leaves w q Deported fails e = Guards.unless_holds (Keeps w) _ _ w (Events.recovery w q fails) (keeps_same w) (λ _. recovery_leaves w q fails (ap is_at_rest e))
recover_leaves w q Down fails e = Guards.unless_holds (Keeps w) _ _ w (Events.recovery w q fails) (keeps_same w) (λ _. recovery_leaves w q fails (ap is_at_rest e))

-- a group of disks that comes up again in its session
pub again_leaves : (w : World) (q : ℕ) → is_at_rest (w.nodes q).state ≡ true → Leaves w (Events.group_again w q)
again_leaves w q rest =
    let n : Node = w.nodes q in
    let m : Node = group_up n in
    Guards.unless_holds (Keeps w) (not (Events.is_plain_group n)) WrongRole w (says (group_back w q) Done) (keeps_same w)
    (λ _. keeps_node w q m (λ f. like_fitted n m refl refl refl (λ _. rest_bare n.state rest) refl refl refl)
    (λ f e. absurd (let g : Up ≡ Bare = e in cc)) (λ _. refl))

-- ## Sites that are made, and that join

pub agree_self : (xs : List Volume) → agree xs xs ≡ true
agree_self [] = refl
agree_self (x ∷ xs) = both (eqb x.blocks x.blocks) (agree xs xs) (same x.blocks) (agree_self xs)
  where
    same : (n : ℕ) → eqb n n ≡ true
    same n = grind (arith, nat_tests)

    both : (a b : Bool) → a ≡ true → b ≡ true → (a && b) ≡ true
    both true b e f = f
    both false b e f = absurd (cc)

pub alike_self : (n : Node) → IsAlike n n
alike_self n = record { volumes = agree_self n.volumes; rings = rings n.ring }
  where
    rings : (k : ℕ) → (leb 17 k || leb k k) ≡ true
    rings k = either (leb 17 k) (leb k k) (let e : leb k k ≡ true = grind (arith, nat_tests) in e)
      where
        either : (a b : Bool) → b ≡ true → (a || b) ≡ true
        either true b e = refl
        either false b e = e

-- a bare site becomes another one that holds no write
module _ (w : World) (i sites : ℕ) (n : Node) (h : Line → History) (s : Sound w) (bare : (w.nodes i).state ≡ Bare) (sized : IsSized n) (empty : n.log ≡ [])
    (own : IsMade n → n.line.origin ≡ i)
    (lines : (l : Line) → ((h l).held ≡ []) ⊎ ((h l).held ≡ (w.lines l).held)) where
  abbrev pub founded : ℕ → Node
  founded = updated w.nodes i n

  pub founded_held : Fitting w → (l : Line) → AllByRecursion (WriteFits (founded l.origin)) (h l).held
  founded_held f l = by_case (lines l)
    where
      by_case : ((h l).held ≡ []) ⊎ ((h l).held ≡ (w.lines l).held) → AllByRecursion (WriteFits (founded l.origin)) (h l).held
      by_case (inl none) = subst (λ (xs : List Write). AllByRecursion (WriteFits (founded l.origin)) xs) (sym none) tt
      by_case (inr same) =
          subst (λ (xs : List Write). AllByRecursion (WriteFits (founded l.origin)) xs) (sym same)
          (each_weaker (WriteFits (w.nodes l.origin)) (WriteFits (founded l.origin))
          (λ x. all_updated (λ k (m : Node). WriteFits (w.nodes k) x → WriteFits m x) w.nodes i n (λ fits. absurd (omega (arith, fits.room, (f.sized i).bare bare)))
          (λ _ _ fits. fits) l.origin)
          (w.lines l).held (f.held l))

  pub founded_alike : Fitting w → (k : ℕ) → IsMade (founded k) → IsAlike (founded (founded k).line.origin) (founded k)
  founded_alike f =
      all_updated (λ k (m : Node). IsMade m → IsAlike (founded m.line.origin) m) w.nodes i n
      (λ made. subst (λ (o : ℕ). IsAlike (founded o) n) (sym (own made)) (subst (λ (m : Node). IsAlike m n) (sym (at_place w.nodes i n)) (alike_self n)))
      (λ k _ made. all_updated (λ o (m : Node). IsMade (w.nodes o) → IsAlike (w.nodes o) (w.nodes k) → IsAlike m (w.nodes k)) w.nodes i n
      (λ there. absurd (there bare)) (λ _ _ _ alike. alike) (w.nodes k).line.origin (s.good.begun k made) (f.alike k made))

  pub founded_alone : Fitting w → (k : ℕ) → IsMade (founded k) → LeadsAlone (founded (founded k).line.origin) k (founded k)
  founded_alone f =
      all_updated (λ k (m : Node). IsMade m → LeadsAlone (founded m.line.origin) k m) w.nodes i n
      (λ made _. own made)
      (λ k _ made. all_updated (λ o (m : Node). IsMade (w.nodes o) → LeadsAlone (w.nodes o) k (w.nodes k) → LeadsAlone m k (w.nodes k)) w.nodes i n
      (λ there. absurd (there bare)) (λ _ _ _ lone. lone) (w.nodes k).line.origin (s.good.begun k made) (f.alone k made))

  pub founded_leaves : (ArePlaced w → (p : ℕ) → HasPlaces sites (w.links p)) → Keeps w (record w { sites = sites; nodes = founded; lines = h })
  founded_leaves placed = record {
    places = placed;
    gathers = λ g. record {
      parts = g.parts;
      each = all_updated (λ k (m : Node). MayGather k m w.packets (w.gathering k)) w.nodes i n
          (gather_up i (w.nodes i) n w.packets (w.gathering i) (λ up. let e : Up ≡ Bare = sym up ∙ bare in absurd (cc)) (g.each i))
          (λ k _. g.each k);
    };
    fits = λ f. record {
      sized = all_updated (λ _ (m : Node). IsSized m) w.nodes i n sized (λ k _. f.sized k);
      logs = all_updated (λ _ (m : Node). AllByRecursion (WriteFits m) m.log) w.nodes i n
          (subst (λ (xs : List Write). AllByRecursion (WriteFits n) xs) (sym empty) tt) (λ k _. f.logs k);
      held = founded_held f;
      alike = founded_alike f;
      alone = founded_alone f;
    };
  }

pub site_leaves : (w : World) (name : List ℕ) (disks blocks : ℕ) → Sound w → Keeps w (site_made w name disks blocks)
site_leaves w name disks blocks s =
    founded_leaves w w.sites (w.sites + 1) (bare_site name disks blocks) w.lines s (s.good.later w.sites (omega arith))
    (record { start = λ v. refl; base = λ v. refl; bare = λ _. refl }) refl (λ made. absurd (made refl)) (λ l. inr refl) (λ h p. places_further w.sites (w.links p) (h p))

pub raw_sizes : (k n blocks v : ℕ) → (if ltb v n then blocks else 0) ≡ blocks_of_volume (raw_volumes k n blocks) v
raw_sizes k zero blocks v = let e : ltb v 0 ≡ false = grind (arith, nat_tests) in ap (λ (b : Bool). if b then blocks else 0) e
raw_sizes k (suc n) blocks zero = let e : ltb 0 (suc n) ≡ true = grind (arith, nat_tests) in ap (λ (b : Bool). if b then blocks else 0) e
raw_sizes k (suc n) blocks (suc v) = ap (λ (b : Bool). if b then blocks else 0) (less v n) ∙ raw_sizes (k + 1) n blocks v
  where
    less : (a b : ℕ) → ltb (suc a) (suc b) ≡ ltb a b
    less a b = grind (arith, nat_tests)

begun_leaves : (w : World) (q ring : ℕ) (volumes : List Volume) (content : Content) → ((v : ℕ) → content.size v ≡ blocks_of_volume volumes v)
    → Sound w → (w.nodes q).state ≡ Bare → Keeps w (line_begun w q ring volumes content)
begun_leaves w q ring volumes content sizes s bare =
    founded_leaves w q w.sites (begun_site q ring volumes content (w.nodes q)) (line_updated w.lines (first_line q) (begun_line content)) s bare
    (record { start = sizes; base = sizes; bare = λ e. absurd (let g : Up ≡ Bare = e in cc) })
    refl (λ _. refl)
    (all_lines (λ l (r : History). (r.held ≡ []) ⊎ (r.held ≡ (w.lines l).held)) w.lines (first_line q) (begun_line content) (inl refl) (λ l _. inr refl)) (λ h. h)

pub raw_leaves : (w : World) (q : ℕ) → Sound w → (w.nodes q).state ≡ Bare → Keeps w (raw_made w q)
raw_leaves w q =
    let n : Node = w.nodes q in
    begun_leaves w q (ring_of n.blocks) (raw_volumes 1 (n.disks - 2) n.blocks) (raw_content n.disks n.blocks) (λ v. raw_sizes 1 (n.disks - 2) n.blocks v)

pub group_from_leaves : (w : World) (q : ℕ) (state : SiteState) → Sound w → (w.nodes q).state ≡ state → Leaves w (Events.group_from state w q)
group_from_leaves w q Bare s e = begun_leaves w q 0 [] no_volumes (λ v. refl) s e
group_from_leaves w q Up s e = keeps_same w
group_from_leaves w q Deported s e = again_leaves w q (ap is_at_rest e)
group_from_leaves w q Down s e = again_leaves w q (ap is_at_rest e)

-- a site that joins has the sizes of its primary, which has volumes
pub join_leaves : (w : World) (p q : ℕ) → (w.nodes p).line.origin ≡ p → ((w.nodes p).volumes ≡ [] → ⊥) → IsAlike (w.nodes p) (w.nodes q)
    → Keeps w (emptied (with_node w q (Events.joined (w.nodes p) p (w.nodes q))) q)
join_leaves w p q own some alike = record {
  places = λ h. h;
  gathers = λ g. record {
    parts = g.parts;
    each = all_updated (λ k (h : Option Gathering). MayGather k (joined k) w.packets h) w.gathering q None tt
        (λ k apart. all_updated (λ j (m : Node). (j ≡ q → ⊥) → MayGather j m w.packets (w.gathering j)) w.nodes q n (λ no. absurd (no refl))
        (λ j _ _. g.each j) k apart);
  };
  fits = λ f. record {
    sized = all_updated (λ _ (m : Node). IsSized m) w.nodes q n (record { start = (f.sized q).base; base = (f.sized q).base; bare = (f.sized q).bare })
        (λ k _. f.sized k);
    logs = all_updated (λ _ (m : Node). AllByRecursion (WriteFits m) m.log) w.nodes q n tt (λ k _. f.logs k);
    held = λ l. each_weaker (WriteFits (w.nodes l.origin)) (WriteFits (joined l.origin))
        (fits_there (w.nodes l.origin) (joined l.origin) (volumes l.origin) (rings l.origin)) (w.lines l).held (f.held l);
    alike = all_updated (λ _ (m : Node). IsMade m → IsAlike (joined m.line.origin) m) w.nodes q n
        (λ _. subst (λ (o : ℕ). IsAlike (joined o) n) (sym own) (alike_there (w.nodes p) (w.nodes q) (joined p) n (volumes p) (rings p) refl refl alike))
        (λ k _ made. alike_there (w.nodes (w.nodes k).line.origin) (w.nodes k) (joined (w.nodes k).line.origin) (w.nodes k)
        (volumes (w.nodes k).line.origin) (rings (w.nodes k).line.origin) refl refl (f.alike k made));
    alone = all_updated (λ k (m : Node). IsMade m → LeadsAlone (joined m.line.origin) k m) w.nodes q n
        (λ _ none. absurd (some (subst (λ (o : ℕ). (w.nodes o).volumes ≡ []) own (sym (volumes (w.nodes p).line.origin) ∙ none))))
        (λ k _ made none. f.alone k made (sym (volumes (w.nodes k).line.origin) ∙ none));
  };
}
  where
    n : Node
    n = Events.joined (w.nodes p) p (w.nodes q)

    joined : ℕ → Node
    joined = updated w.nodes q (Events.joined (w.nodes p) p (w.nodes q))

    volumes : (k : ℕ) → (updated w.nodes q (Events.joined (w.nodes p) p (w.nodes q)) k).volumes ≡ (w.nodes k).volumes
    volumes = all_updated (λ k (m : Node). m.volumes ≡ (w.nodes k).volumes) w.nodes q (Events.joined (w.nodes p) p (w.nodes q)) refl (λ _ _. refl)

    rings : (k : ℕ) → (updated w.nodes q (Events.joined (w.nodes p) p (w.nodes q)) k).ring ≡ (w.nodes k).ring
    rings = all_updated (λ k (m : Node). m.ring ≡ (w.nodes k).ring) w.nodes q (Events.joined (w.nodes p) p (w.nodes q)) refl (λ _ _. refl)

-- of sizes that meet there are some
meets_some : (xs ys : List Volume) → sizes_meet xs ys ≡ true → xs ≡ [] → ⊥
meets_some [] ys e none = let g : false ≡ true = e in cc
meets_some (x ∷ xs) ys e none = cc

-- a link that is made in the next place
made_leaves : (w : World) (p q : ℕ) (l : LinkRecord) → q < w.sites → is_linked (w.links p q) ≡ false → l.made ≡ Some (count_links_of w p) → Keeps w (with_link w p q l)
made_leaves w p q l below free made = record {
  gathers = λ g. record { parts = g.parts; each = g.each };
  fits = λ f. record { sized = f.sized; logs = f.logs; held = f.held; alike = f.alike; alone = f.alone };
  places = λ h. all_updated (λ k (row : ℕ → LinkRecord). HasPlaces w.sites row) w.links p (updated (w.links p) q l)
      (places_made w.sites (w.links p) q l below free made (h p)) (λ k apart. h k);
}

pub link_part_leaves : (part : LinkPart) (w : World) (p q : ℕ) (sync : SyncMode) (prot : Prot) → Sound w → (w.nodes p).state ≡ Up → (w.nodes q).state ≡ Up → Leaves w (link_part part w p q sync prot)
link_part_leaves Joins w p q sync prot s up there =
    let a : Node = w.nodes p in
    let o : Outcome = done (emptied (with_node w q (Events.joined a p (w.nodes q))) q) in
    let fit : Bool = sizes_meet a.volumes (w.nodes q).volumes && rings_fit a (w.nodes q) in
    let fits : Outcome = unless (not fit) Size w o in
    let few : Outcome = unless (leb MOST_LINKS (count_links_of w p)) (Limit Links MOST_LINKS) w fits in
    Guards.unless_holds (Keeps w) (not (may_link w p q)) WrongRole w (unless (is_linked (w.links p q)) (Exists (w.nodes q).name) w few) (keeps_same w)
    (λ may. Guards.unless_holds (Keeps w) (is_linked (w.links p q)) (Exists (w.nodes q).name) w few (keeps_same w)
    (λ _. Guards.unless_holds (Keeps w) (leb MOST_LINKS (count_links_of w p)) (Limit Links MOST_LINKS) w fits (keeps_same w)
    (λ _. Guards.unless_holds (Keeps w) (not fit) Size w o (keeps_same w)
    (λ sizes. join_leaves w p q
    ((s.good.nodes p).own_line (up_is_made a up) (Guards.primary_origin a.role (and_left (is_primary a.role) _ (not-false (may_link w p q) may))))
    (meets_some a.volumes (w.nodes q).volumes (and_left (sizes_meet a.volumes (w.nodes q).volumes) (rings_fit a (w.nodes q)) (not-false fit sizes)))
    (record {
      volumes = and_right (not (eqb (length a.volumes) 0)) (agree a.volumes (w.nodes q).volumes)
          (and_left (sizes_meet a.volumes (w.nodes q).volumes) (rings_fit a (w.nodes q)) (not-false fit sizes));
      rings = and_right
          (sizes_meet a.volumes (w.nodes q).volumes) (rings_fit a (w.nodes q)) (not-false fit sizes);
    })))))
link_part_leaves Made w p q sync prot s up there =
    let l : LinkRecord = Events.new_link (count_links_of w p) sync prot (w.nodes q) in
    Guards.unless_holds (Keeps w) (not (is_primary (w.nodes p).role && follows w p q)) WrongRole w
    (unless (is_linked (w.links p q)) (Exists (w.nodes q).name) w (done (with_link w p q l))) (keeps_same w)
    (λ _. Guards.unless_holds (Keeps w) (is_linked (w.links p q)) (Exists (w.nodes q).name) w (done (with_link w p q l)) (keeps_same w)
    (λ free. made_leaves w p q l (made_is_given w q s.good (up_is_made (w.nodes q) there)) free refl))
link_part_leaves Marked w p q sync prot s up there =
    let m : Node = record (w.nodes q) { mark = Consistent } in
    Guards.unless_holds (Keeps w) _ WrongRole w (done (with_node w q m)) (keeps_same w)
    (λ _. keeps_node w q m (λ f. like_fitted (w.nodes q) m refl refl refl (λ made. made) refl refl refl) (bare_same w q m refl refl) (λ u. u))
link_part_leaves Opened w p q sync prot s up there =
    let l : LinkRecord = Events.opened (w.links p q) (w.nodes p).safe in
    Guards.unless_holds (Keeps w) _ WrongRole w (done (with_link w p q l)) (keeps_same w) (λ _. keeps_links w w (keeps_same w) (with_link w p q l).links (made_link w p q l refl))

pub stopped_leaves : (w : World) (q disk : ℕ) → Keeps w (stopped_by w q disk)
stopped_leaves w q disk =
    let m : Node = record (w.nodes q) { halted = Some disk; fuse = burned (w.nodes q).fuse } in
    keeps_node w q m (λ f. like_fitted (w.nodes q) m refl refl refl (λ made. made) refl refl refl) (bare_same w q m refl refl) (λ u. u)
