-- What the parts of a line that makes a link change, and that each of them follows the one before it.
use Rattle.std.proofs.Common.{◌≡◌, ◌∙◌, ℕ, ◌+◌, ◌<◌, [], ◌∷◌, Bool, true, false, refl, ap, sym, subst, arith}
use Rattle.std.proofs.lemmas.Bool.{not-false}
use Rattle.std.specs.Prelude.{not, ◌&&◌, eqb, leb, Option, None, if◌then◌else◌}
use Rattle.vx_model.specs.Sites.{first_line, is_origin, is_up, same_line}
use Rattle.vx_model.specs.declared.limits.TheConstants.{MOST_LINKS}
use Rattle.vx_model.specs.declared.link.Prot.{Prot}
use Rattle.vx_model.specs.declared.link.SyncMode.{SyncMode}
use Rattle.vx_model.specs.declared.no.Counted.TheVariants.{Links}
use Rattle.vx_model.specs.declared.no.No.{No}
use Rattle.vx_model.specs.declared.no.No.TheVariants.{Down as NotUp, Exists, Limit, Role as WrongRole, Size}
use Rattle.vx_model.specs.declared.site.Mark.TheVariants.{Consistent}
use Rattle.vx_model.specs.declared.site.SiteState.{SiteState}
use Rattle.vx_model.specs.declared.site.SiteState.TheVariants.{Up}
use Rattle.vx_model.proofs.Tests.{both_true}
use Rattle.vx_history.proofs.Updates.{and_left, and_right, at_place, by_test, eqb_apart, eqb_equal, eqb_self, same_line_self}
use Rattle.vx_history.specs.Doubts.{Doubted, happened}
use Rattle.vx_history.specs.Events.{joined, new_link, opened}
use Rattle.vx_history.specs.Gatherings.{emptied}
use Rattle.vx_history.specs.Receiving.{phase_takes}
use Rattle.vx_history.specs.Refusals.{Outcome, sizes_meet, at_site, both_at_work, follows, is_consistent, is_empty, is_fresh, is_primary, is_stale_mode, count_links_of, may_link, refused, rings_fit, unless, unless_halted}
use Rattle.vx_history.specs.Sends.{is_linked, with_link}
use Rattle.vx_history.specs.Step.{done, link_part, outcome_of, run, step}
use Rattle.vx_history.specs.World.{Gathering, Link as LinkOf, Node, World, updated, with_node}
use Rattle.vx_history.specs.declared.event.Event.TheVariants.{Link}
use Rattle.vx_history.specs.declared.event.LinkPart.{LinkPart}
use Rattle.vx_history.specs.declared.event.LinkPart.TheVariants.{Joins, Made, Marked, Opened}
use Rattle.vx_history.specs.declared.event.Said.TheVariants.{Done, Refused}
use Rattle.vx_events.proofs.Passing.{is_site, off}
use Rattle.vx_events.specs.Doubts.{sure}
use Rattle.vx_events.specs.Effects.{EffectAt}
use Rattle.vx_effects.proofs.Effects.{Turns, effect_of, turns_node, updated_self}
use Rattle.vx_effects.proofs.Tests

never : (why : No) → Refused why ≡ Done → ⊥
never why e = cc

-- two sites that are made, up and not halted
pub record AreTwo (w : World) (p s : ℕ) : Type 0 where
  pub first : p < w.sites
  pub second : s < w.sites
  pub up : (w.nodes p).state ≡ Up
  pub up_too : (w.nodes s).state ≡ Up
  pub running : (w.nodes p).halted ≡ None
  pub running_too : (w.nodes s).halted ≡ None

module _ (w : World) (p s : ℕ) (sync : SyncMode) (prot : Prot) where
  -- a part that is done passed the tests of its sites
  pub two_done : (part : LinkPart) → (step w (Link p s sync prot part)).said ≡ Done → AreTwo w p s × (outcome_of w (Link p s sync prot part) ≡ link_part part w p s sync prot)
  two_done part =
      let o : Outcome = link_part part w p s sync prot in
      let Q : Outcome → Type 0 = λ (r : Outcome). r.said ≡ Done → AreTwo w p s × (r ≡ o) in
      let none : (why : No) → Q (refused w why) = λ why e. absurd (never why e) in
      Tests.site_ends Q w none p (at_site w s (both_at_work w p s o))
      (λ first. Tests.site_ends Q w none s (both_at_work w p s o)
      (λ second. Tests.both_ends Q w none p s o
      (λ up up_too running running_too e.
      (record { first = first; second = second; up = up; up_too = up_too; running = running; running_too = running_too }, refl))))

  -- what is said of the part itself
  part_done : (part : LinkPart) → (step w (Link p s sync prot part)).said ≡ Done → (link_part part w p s sync prot).said ≡ Done
  part_done part said = subst (λ (o : Outcome). o.said ≡ Done) (two_done part said).1 said

  -- both sites pass the tests of the sites
  two_pass : (part : LinkPart) → AreTwo w p s → outcome_of w (Link p s sync prot part) ≡ link_part part w p s sync prot
  two_pass part t =
      let o : Outcome = link_part part w p s sync prot in
      let second : Outcome = unless_halted (w.nodes s).halted w o in
      let works : Outcome = both_at_work w p s o in
      is_site w p (at_site w s works) t.first
      ∙ is_site w s works t.second
      ∙ off (not (is_up (w.nodes p).state && is_up (w.nodes s).state)) NotUp w (unless_halted (w.nodes p).halted w second)
      (ap (λ (x : SiteState). not (is_up x && is_up (w.nodes s).state)) t.up ∙ ap (λ (x : SiteState). not (is_up x)) t.up_too)
      ∙ ap (λ (h : Option ℕ). unless_halted h w second) t.running
      ∙ ap (λ (h : Option ℕ). unless_halted h w o) t.running_too

  -- ---- what each part makes of the world

  abbrev behind_joins : World
  behind_joins = emptied (with_node w s (joined (w.nodes p) p (w.nodes s))) s

  abbrev behind_made : World
  behind_made = with_link w p s (new_link (count_links_of w p) sync prot (w.nodes s))

  abbrev behind_marked : World
  behind_marked = with_node w s (record (w.nodes s) { mark = Consistent })

  abbrev behind_opened : World
  behind_opened = with_link w p s (opened (w.links p s) (w.nodes p).safe)

  pub joins_done : (step w (Link p s sync prot Joins)).said ≡ Done
      → (may_link w p s ≡ true) × (is_linked (w.links p s) ≡ false) × (link_part Joins w p s sync prot ≡ done behind_joins)
  joins_done said =
      let o : Outcome = done behind_joins in
      let sized : Outcome = unless (not (sizes_meet (w.nodes p).volumes (w.nodes s).volumes && rings_fit (w.nodes p) (w.nodes s))) Size w o in
      let few : Outcome = unless (leb MOST_LINKS (count_links_of w p)) (Limit Links MOST_LINKS) w sized in
      let free : Outcome = unless (is_linked (w.links p s)) (Exists (w.nodes s).name) w few in
      let Q : Outcome → Type 0 = λ (r : Outcome). r.said ≡ Done → (may_link w p s ≡ true) × (is_linked (w.links p s) ≡ false) × (r ≡ o) in
      let none : (why : No) → Q (refused w why) = λ why e. absurd (never why e) in
      Tests.unless_ends Q w none (not (may_link w p s)) WrongRole free
      (λ may. Tests.unless_ends Q w none (is_linked (w.links p s)) (Exists (w.nodes s).name) few
      (λ unlinked. Tests.unless_ends Q w none (leb MOST_LINKS (count_links_of w p)) (Limit Links MOST_LINKS) sized
      (λ _. Tests.unless_ends Q w none (not (sizes_meet (w.nodes p).volumes (w.nodes s).volumes && rings_fit (w.nodes p) (w.nodes s))) Size o
      (λ _ e. (not-false (may_link w p s) may, unlinked, refl))))) (part_done Joins said)

  pub made_done : (step w (Link p s sync prot Made)).said ≡ Done
      → (is_linked (w.links p s) ≡ false) × (link_part Made w p s sync prot ≡ done behind_made)
  made_done said =
      let o : Outcome = done behind_made in
      let free : Outcome = unless (is_linked (w.links p s)) (Exists (w.nodes s).name) w o in
      let Q : Outcome → Type 0 = λ (r : Outcome). r.said ≡ Done → (is_linked (w.links p s) ≡ false) × (r ≡ o) in
      let none : (why : No) → Q (refused w why) = λ why e. absurd (never why e) in
      Tests.unless_ends Q w none (not (is_primary (w.nodes p).role && follows w p s)) WrongRole free
      (λ _. Tests.unless_ends Q w none (is_linked (w.links p s)) (Exists (w.nodes s).name) o (λ unlinked e. (unlinked, refl))) (part_done Made said)

  pub marked_done : (step w (Link p s sync prot Marked)).said ≡ Done → link_part Marked w p s sync prot ≡ done behind_marked
  marked_done said =
      let Q : Outcome → Type 0 = λ (r : Outcome). r.said ≡ Done → r ≡ done behind_marked in
      let none : (why : No) → Q (refused w why) = λ why e. absurd (never why e) in
      Tests.unless_ends Q w none (not (is_primary (w.nodes p).role && (follows w p s && (is_linked (w.links p s) && is_empty (w.nodes p).log)))) WrongRole (done behind_marked)
      (λ _ e. refl) (part_done Marked said)

  -- whether the link may go by the log
  abbrev pub may_open : Bool
  may_open =
      is_primary (w.nodes p).role
      && (follows w p s && (is_linked (w.links p s) && (is_empty (w.nodes p).log && (is_stale_mode (w.links p s).mode && (phase_takes (w.nodes s).phase && is_consistent (w.nodes s).mark)))))

  pub opened_done : (step w (Link p s sync prot Opened)).said ≡ Done → (may_open ≡ true) × (link_part Opened w p s sync prot ≡ done behind_opened)
  opened_done said =
      let Q : Outcome → Type 0 = λ (r : Outcome). r.said ≡ Done → (may_open ≡ true) × (r ≡ done behind_opened) in
      let none : (why : No) → Q (refused w why) = λ why e. absurd (never why e) in
      Tests.unless_ends Q w none (not may_open) WrongRole (done behind_opened) (λ may e. (not-false may_open may, refl)) (part_done Opened said)

-- ---- one site alone

-- a header at one site alone
abbrev one_by : Bool → ℕ
one_by b = if b then 1 else 0

one_here : (s : ℕ) → one_by (eqb s s) ≡ 1
one_here s = ap one_by (eqb_self s)

none_there : (s i : ℕ) → (i ≡ s → ⊥) → one_by (eqb s i) ≡ 0
none_there s i apart = by_test (λ (m : ℕ). m ≡ 0) (eqb s i) 1 0 (λ e. absurd (apart (sym (eqb_equal s i e)))) (λ _. refl)

-- a link of a row alone
turns_link : (p s : ℕ) (w : World) (l : LinkOf) → Turns p w (with_link w p s l) (w.nodes p) (updated (w.links p) s l) w.packets (w.gathering p)
turns_link p s w l = record {
  sites = refl;
  nodes = λ i. updated_self w.nodes p i;
  links = λ i k. refl;
  headers = λ i. refl;
  sent = refl;
  gathering = λ i. updated_self w.gathering p i;
}

module _ (d : Doubted) (p s : ℕ) (sync : SyncMode) (prot : Prot) (taken : Bool) where
  abbrev w : World
  w = d.world

  pub joins_effect : (step w (Link p s sync prot Joins)).said ≡ Done
      → EffectAt s d (happened d (Link p s sync prot Joins) taken) (joined (w.nodes p) p (w.nodes s)) (w.links s) (w.headers s + 1) (d.after s) w.packets None
  joins_effect said =
      effect_of d (Link p s sync prot Joins) (done (behind_joins w p s sync prot)) s 1 ((two_done w p s sync prot Joins said).1 ∙ (joins_done w p s sync prot said).2)
      (record {
        sites = refl;
        nodes = λ i. refl;
        links = λ i k. ap (λ (row : ℕ → LinkOf). row k) (updated_self w.links s i);
        headers = λ i. refl;
        sent = refl;
        gathering = λ i. refl;
      }) (one_here s) (λ i apart. none_there s i apart)

  pub made_effect : (step w (Link p s sync prot Made)).said ≡ Done
      → EffectAt p d (happened d (Link p s sync prot Made) taken) (w.nodes p) (updated (w.links p) s (new_link (count_links_of w p) sync prot (w.nodes s))) (w.headers p + 1) (d.after p) w.packets (w.gathering p)
  made_effect said =
      effect_of d (Link p s sync prot Made) (done (behind_made w p s sync prot)) p 1 ((two_done w p s sync prot Made said).1 ∙ (made_done w p s sync prot said).1)
      (turns_link p s w (new_link (count_links_of w p) sync prot (w.nodes s))) (one_here p) (λ i apart. none_there p i apart)

  pub marked_effect : (step w (Link p s sync prot Marked)).said ≡ Done
      → EffectAt s d (happened d (Link p s sync prot Marked) taken) (record (w.nodes s) { mark = Consistent }) (w.links s) (w.headers s + 1) (d.after s) w.packets (w.gathering s)
  marked_effect said =
      effect_of d (Link p s sync prot Marked) (done (behind_marked w p s sync prot)) s 1 ((two_done w p s sync prot Marked said).1 ∙ marked_done w p s sync prot said)
      (turns_node s w (record (w.nodes s) { mark = Consistent })) (one_here s) (λ i apart. none_there s i apart)

  pub opened_effect : (step w (Link p s sync prot Opened)).said ≡ Done
      → EffectAt p d (happened d (Link p s sync prot Opened) taken) (w.nodes p) (updated (w.links p) s (opened (w.links p s) (w.nodes p).safe)) (w.headers p + 1) (d.after p) w.packets (w.gathering p)
  opened_effect said =
      effect_of d (Link p s sync prot Opened) (done (behind_opened w p s sync prot)) p 1 ((two_done w p s sync prot Opened said).1 ∙ (opened_done w p s sync prot said).1)
      (turns_link p s w (opened (w.links p s) (w.nodes p).safe)) (one_here p) (λ i apart. none_there p i apart)

-- ---- each part follows the one before it

-- a primary with nothing logged, and a site that follows it
pub record IsPair (a b : Node) : Type 0 where
  pub up : a.state ≡ Up
  pub up_too : b.state ≡ Up
  pub running : a.halted ≡ None
  pub running_too : b.halted ≡ None
  pub primary : is_primary a.role ≡ true
  pub empty : is_empty a.log ≡ true
  pub follows : (not (is_origin b.role) && same_line b.line a.line) ≡ true
  pub takes : phase_takes b.phase ≡ true

-- two sites that are such a pair, of which the one has this link to the other
pub record IsPaired (w : World) (p s : ℕ) (l : LinkOf) : Type 0 where
  pub first : p < w.sites
  pub second : s < w.sites
  pub apart : s ≡ p → ⊥
  pub pair : IsPair (w.nodes p) (w.nodes s)
  pub link : w.links p s ≡ l

two_of : (w : World) (p s : ℕ) (l : LinkOf) → IsPaired w p s l → AreTwo w p s
two_of w p s l q = record {
  first = q.first;
  second = q.second;
  up = q.pair.up;
  up_too = q.pair.up_too;
  running = q.pair.running;
  running_too = q.pair.running_too;
}

module _ (w : World) (p s : ℕ) (sync : SyncMode) (prot : Prot) where
  abbrev after : LinkPart → World
  after part = (step w (Link p s sync prot part)).world

  abbrev effect_in : LinkPart → ℕ → Node → (ℕ → LinkOf) → Option Gathering → Type 0
  effect_in part i n row gathered = EffectAt i (sure w) (happened (sure w) (Link p s sync prot part) true) n row (w.headers i + 1) None w.packets gathered

  -- the site that joined follows
  pub joins_pairs : (step w (Link p s sync prot Joins)).said ≡ Done → IsPaired (after Joins) p s (w.links p s) × (is_linked (w.links p s) ≡ false)
  joins_pairs said =
      let t = (two_done w p s sync prot Joins said).0 in
      let j = joins_done w p s sync prot said in
      let a : Node = w.nodes p in
      let f = joins_effect (sure w) p s sync prot true said in
      let led = is_primary a.role in
      let other = not (eqb s p) in
      let empty = is_empty a.log in
      let first = same_line a.line (first_line p) in
      let r1 = and_right led (other && (empty && (first && is_fresh w s))) j.0 in
      let r2 = and_right other (empty && (first && is_fresh w s)) r1 in
      let apart : s ≡ p → ⊥ = eqb_apart s p (is_false (eqb s p) (and_left other (empty && (first && is_fresh w s)) r1)) in (
        record {
          first = omega (arith, t.first, f.site.sites);
          second = omega (arith, t.second, f.site.sites);
          apart = apart;
          pair = subst (λ (n : Node). IsPair n ((after Joins).nodes s)) (sym (f.site.nodes p (λ e. apart (sym e)))) (subst (λ (n : Node). IsPair a n) (sym f.is.node) (record {
            up = t.up;
            up_too = t.up_too;
            running = t.running;
            running_too = t.running_too;
            primary = and_left led (other && (empty && (first && is_fresh w s))) j.0;
            empty = and_left empty (first && is_fresh w s) r2;
            follows = same_line_self a.line;
            takes = refl;
          }));
          link = f.site.links p s (λ e. apart (sym e));
        },
        j.1,
      )
    where
      is_false : (b : Bool) → not b ≡ true → b ≡ false
      is_false true e = absurd (cc)
      is_false false e = refl

  made_goes : (l : LinkOf) → IsPaired w p s l → is_linked l ≡ false → (step w (Link p s sync prot Made)).said ≡ Done
  made_goes l q free =
      let a : Node = w.nodes p in
      let o : Outcome = done (behind_made w p s sync prot) in
      let unlinked : Outcome = unless (is_linked (w.links p s)) (Exists (w.nodes s).name) w o in
      ap (λ (r : Outcome). r.said)
      (two_pass w p s sync prot Made (two_of w p s l q)
      ∙ off (not (is_primary a.role && follows w p s)) WrongRole w unlinked (ap not (both_true (is_primary a.role) (follows w p s) q.pair.primary q.pair.follows))
      ∙ off (is_linked (w.links p s)) (Exists (w.nodes s).name) w o (ap is_linked q.link ∙ free))

  -- the link that was made goes by nothing
  made_pairs : (l : LinkOf) → IsPaired w p s l → (step w (Link p s sync prot Made)).said ≡ Done → IsPaired (after Made) p s (new_link (count_links_of w p) sync prot (w.nodes s))
  made_pairs l q said =
      let f = made_effect (sure w) p s sync prot true said in
      record {
        first = omega (arith, q.first, f.site.sites);
        second = omega (arith, q.second, f.site.sites);
        apart = q.apart;
        pair = subst (λ (n : Node). IsPair n ((after Made).nodes s)) (sym f.is.node) (subst (λ (n : Node). IsPair (w.nodes p) n) (sym (f.site.nodes s q.apart)) q.pair);
        link = f.is.links s ∙ at_place (w.links p) s (new_link (count_links_of w p) sync prot (w.nodes s));
      }

  marked_goes : (l : LinkOf) → IsPaired w p s l → is_linked l ≡ true → (step w (Link p s sync prot Marked)).said ≡ Done
  marked_goes l q linked =
      let a : Node = w.nodes p in
      let there : is_linked (w.links p s) ≡ true = ap is_linked q.link ∙ linked in
      ap (λ (r : Outcome). r.said)
      (two_pass w p s sync prot Marked (two_of w p s l q)
      ∙ off (not (is_primary a.role && (follows w p s && (is_linked (w.links p s) && is_empty a.log)))) WrongRole w (done (behind_marked w p s sync prot))
      (ap not (both_true (is_primary a.role) (follows w p s && (is_linked (w.links p s) && is_empty a.log)) q.pair.primary
      (both_true (follows w p s) (is_linked (w.links p s) && is_empty a.log) q.pair.follows (both_true (is_linked (w.links p s)) (is_empty a.log) there q.pair.empty)))))

  -- the site that follows is consistent
  marked_pairs : (l : LinkOf) → IsPaired w p s l → (step w (Link p s sync prot Marked)).said ≡ Done → IsPaired (after Marked) p s l × (is_consistent ((after Marked).nodes s).mark ≡ true)
  marked_pairs l q said =
      let f = marked_effect (sure w) p s sync prot true said in
      let other : p ≡ s → ⊥ = λ e. q.apart (sym e) in (
        record {
          first = omega (arith, q.first, f.site.sites);
          second = omega (arith, q.second, f.site.sites);
          apart = q.apart;
          pair = subst (λ (n : Node). IsPair n ((after Marked).nodes s)) (sym (f.site.nodes p other)) (subst (λ (n : Node). IsPair (w.nodes p) n) (sym f.is.node) (record {
            up = q.pair.up;
            up_too = q.pair.up_too;
            running = q.pair.running;
            running_too = q.pair.running_too;
            primary = q.pair.primary;
            empty = q.pair.empty;
            follows = q.pair.follows;
            takes = q.pair.takes;
          }));
          link = f.site.links p s other ∙ q.link;
        },
        ap (λ (n : Node). is_consistent n.mark) f.is.node,
      )

  opened_goes : (l : LinkOf) → IsPaired w p s l → is_linked l ≡ true → is_stale_mode l.mode ≡ true → is_consistent (w.nodes s).mark ≡ true → (step w (Link p s sync prot Opened)).said ≡ Done
  opened_goes l q linked stale marked =
      let a : Node = w.nodes p in
      let b : Node = w.nodes s in
      let m : LinkOf = w.links p s in
      let there : is_linked m ≡ true = ap is_linked q.link ∙ linked in
      let waits : is_stale_mode m.mode ≡ true = ap (λ (x : LinkOf). is_stale_mode x.mode) q.link ∙ stale in
      let c1 = both_true (phase_takes b.phase) (is_consistent b.mark) q.pair.takes marked in
      let c2 = both_true (is_stale_mode m.mode) (phase_takes b.phase && is_consistent b.mark) waits c1 in
      let c3 = both_true (is_empty a.log) (is_stale_mode m.mode && (phase_takes b.phase && is_consistent b.mark)) q.pair.empty c2 in
      let c4 = both_true (is_linked m) (is_empty a.log && (is_stale_mode m.mode && (phase_takes b.phase && is_consistent b.mark))) there c3 in
      let c5 = both_true (follows w p s) (is_linked m && (is_empty a.log && (is_stale_mode m.mode && (phase_takes b.phase && is_consistent b.mark)))) q.pair.follows c4 in
      let all : may_open w p s sync prot ≡ true =
      both_true (is_primary a.role) (follows w p s && (is_linked m && (is_empty a.log && (is_stale_mode m.mode && (phase_takes b.phase && is_consistent b.mark))))) q.pair.primary c5 in
      ap (λ (r : Outcome). r.said)
      (two_pass w p s sync prot Opened (two_of w p s l q) ∙ off (not (may_open w p s sync prot)) WrongRole w (done (behind_opened w p s sync prot)) (ap not all))

module _ (w : World) (p s : ℕ) (sync : SyncMode) (prot : Prot) (said : (step w (Link p s sync prot Joins)).said ≡ Done) where
  abbrev one : World
  one = run w (Link p s sync prot Joins ∷ [])

  abbrev two : World
  two = run w (Link p s sync prot Joins ∷ Link p s sync prot Made ∷ [])

  abbrev three : World
  three = run w (Link p s sync prot Joins ∷ Link p s sync prot Made ∷ Link p s sync prot Marked ∷ [])

  pub made_follows : (step one (Link p s sync prot Made)).said ≡ Done
  made_follows = let q = joins_pairs w p s sync prot said in made_goes one p s sync prot (w.links p s) q.0 q.1

  abbrev link_there : LinkOf
  link_there = new_link (count_links_of one p) sync prot (one.nodes s)

  two_paired : IsPaired two p s link_there
  two_paired = made_pairs one p s sync prot (w.links p s) (joins_pairs w p s sync prot said).0 made_follows

  pub marked_follows : (step two (Link p s sync prot Marked)).said ≡ Done
  marked_follows = marked_goes two p s sync prot link_there two_paired refl

  pub opened_follows : (step three (Link p s sync prot Opened)).said ≡ Done
  opened_follows = let q = marked_pairs two p s sync prot link_there two_paired marked_follows in opened_goes three p s sync prot link_there q.0 refl refl q.1
