-- Writes, packets that are sent and records that are applied keep all that holds of the world.
use Rattle.std.proofs.Common.{◌≡◌, ◌∙◌, ℕ, ◌+◌, ◌≤◌, List, [], ◌∷◌, ◌++◌, length, take, drop, refl, ap, sym, subst, arith, Bool, true, false}
use Rattle.std.proofs.lemmas.Bool.{not-false}
use Rattle.std.specs.Prelude.{leb, not, Option, Some, None, eqb, ltb, ◌||◌}
use Rattle.std.specs.List.{AllByRecursion}
use Rattle.std.proofs.lemmas.Bool.Decides.{nat_tests}
use Rattle.vx_model.specs.Content.{Write, Content, blocks_in}
use Rattle.vx_model.specs.Answer.{is_too_large, is_wrong_count, is_past}
use Rattle.vx_model.specs.Sites.{is_bare}
use Rattle.vx_model.specs.declared.history.Line.{Line}
use Rattle.vx_model.specs.declared.limits.TheConstants.{MOST_CALL_BLOCKS}
use Rattle.vx_model.specs.declared.no.No.TheVariants.{Size, Range, Role as WrongRole, Unknown}
use Rattle.vx_model.specs.declared.no.Named.TheVariants.{Number as ByNumber}
use Rattle.vx_model.specs.declared.site.SiteState.TheVariants.{Bare, Up}
use Rattle.vx_model.proofs.Contents.{folded_size}
use Rattle.vx_history.proofs.Updates.{by_test}
use Rattle.vx_history.proofs.GoodLemmas.{up_is_made}
use Rattle.vx_history.specs.Admission.{Admitted, Held_by, Goes}
use Rattle.vx_history.specs.LinkForms.{with_plain}
use Rattle.vx_history.specs.World.{World, Node, Link as LinkRecord, Hello, Update, DataAck, with_node}
use Rattle.vx_history.specs.Steps.{burned, logged, told_of, written, half_written}
use Rattle.vx_history.specs.Good.{IsMade}
use Rattle.vx_history.specs.Sends.{with_link, sent_by, packets_of, updates, between, greeting}
use Rattle.vx_history.specs.Refusals.{Outcome, is_primary}
use Rattle.vx_history.specs.Events
use Rattle.vx_history.specs.Step.{write_at}
use Rattle.vx_history.specs.Fits.{WriteFits, Fitting, IsSized}
use Rattle.vx_history.specs.GoodGatherings.{IsPart}
use Rattle.vx_history.specs.Sound.{Sound}
use Rattle.vx_history.specs.declared.sender.Action.{Action}
use Rattle.vx_history.specs.declared.sender.Action.TheVariants.{Nothing, Ignored, Taken, Updates}
use Rattle.vx_history.specs.declared.sender.SEvent.{SEvent}
use Rattle.vx_history.specs.declared.receiver.RState.{RState}
use Rattle.vx_history.specs.declared.receiver.RAction.{RAction}
use Rattle.vx_history.specs.declared.receiver.RAction.TheVariants.{Nothing as DoesNothing, Ignored as Ignores, IgnoredAck, Take, DataAck as AcksFromDisk}
use Rattle.vx_world.proofs.Lists.{each_append}
use Rattle.vx_world.proofs.Guards
use Rattle.vx_world.proofs.Keeping.{Keeps, keeps_same, keeps_trans, keeps_links, made_link, made_rows, keeps_sending, keeps_node, keeps_history, IsFitted, all_parts}

abbrev pub Leaves : World → Outcome → Type 0
Leaves w o = Keeps w o.world

-- a site of which no size and no write changes
pub like_fitted : (n m : Node) → m.volumes ≡ n.volumes → m.ring ≡ n.ring → m.line ≡ n.line → (IsMade m → IsMade n) → m.start ≡ n.start → m.base ≡ n.base
    → m.log ≡ n.log → IsFitted n m
like_fitted n m volumes ring line made start base log = record {
  volumes = volumes;
  ring = ring;
  line = line;
  made = made;
  start = λ v. ap (λ (c : Content). c.size v) start;
  base = λ v. ap (λ (c : Content). c.size v) base;
  log = λ h. subst (λ (xs : List Write). AllByRecursion (WriteFits n) xs) (sym log) h;
}

-- with one write more
pub longer_fitted : (n : Node) (x : Write) (halted : Option ℕ) (m : Node) → m.volumes ≡ n.volumes → m.ring ≡ n.ring → m.line ≡ n.line → (IsMade m → IsMade n)
    → m.start ≡ n.start → ((v : ℕ) → m.base.size v ≡ n.base.size v) → m.log ≡ n.log ++ x ∷ [] → WriteFits n x → IsFitted n m
longer_fitted n x halted m volumes ring line made start base log fits = record {
  volumes = volumes;
  ring = ring;
  line = line;
  made = made;
  start = λ v. ap (λ (c : Content). c.size v) start;
  base = base;
  log = λ h. subst (λ (xs : List Write). AllByRecursion (WriteFits n) xs) (sym log) (each_append (WriteFits n) n.log (x ∷ []) h (fits, tt));
}

-- no bare site has a ring
pub bare_same : (w : World) (i : ℕ) (n : Node) → n.state ≡ (w.nodes i).state → n.ring ≡ (w.nodes i).ring → Fitting w → n.state ≡ Bare → n.ring ≡ 0
bare_same w i n state ring f bare = ring ∙ (f.sized i).bare (sym state ∙ bare)

pub bare_never : (n : Node) → (n.state ≡ Bare → ⊥) → n.state ≡ Bare → n.ring ≡ 0
bare_never n not bare = absurd (not bare)

-- ## Writes

module _ (w : World) (p : ℕ) (x : Write) (up : (w.nodes p).state ≡ Up) (own : (w.nodes p).line.origin ≡ p) (fits : Fitting w → WriteFits (w.nodes p) x) where
  pub not_bare : (w.nodes p).state ≡ Bare → ⊥
  not_bare e = let f : Up ≡ Bare = sym up ∙ e in cc

  pub written_leaves : Keeps w (written w p x)
  written_leaves =
      let n : Node = w.nodes p in
      keeps_history w p (logged n x)
      (λ f. longer_fitted n x n.halted (logged n x) refl refl refl (λ made. made) refl (λ v. refl) refl (fits f))
      (λ f e. bare_never (logged n x) not_bare e)
      (told_of (w.lines n.line) x) (λ u. u)
      (λ f. each_append (WriteFits (w.nodes n.line.origin)) (w.lines n.line).held (x ∷ []) (f.held n.line)
      (subst (λ (i : ℕ). WriteFits (w.nodes i) x) (sym own) (fits f), tt))

  pub half_leaves : (disk : ℕ) → Keeps w (half_written w p x disk)
  half_leaves disk =
      let n : Node = w.nodes p in
      let m : Node = record n { log = n.log ++ x ∷ []; halted = Some disk; fuse = burned n.fuse } in
      keeps_node w p m
      (λ f. longer_fitted n x (Some disk) m refl refl refl (λ made. made) refl (λ v. refl) refl (fits f))
      (λ f e. bare_never m not_bare e)
      (λ u. u)

-- what fits a world's sites fits them with other links
fits_links : (w : World) (links : ℕ → ℕ → LinkRecord) (P : Type 0) → (Fitting w → P) → Fitting (record w { links = links }) → P
fits_links w links P fits f = fits (record { sized = f.sized; logs = f.logs; held = f.held; alike = f.alike; alone = f.alone })

pub put_leaves : (w : World) (p : ℕ) (x : Write) → (w.nodes p).state ≡ Up → (w.nodes p).line.origin ≡ p → (Fitting w → WriteFits (w.nodes p) x) → (fails : Option ℕ)
    → Leaves w (Events.put_in w p x fails)
put_leaves w p x up own fits None =
    let v : World = Events.links_marked w p (x ∷ []) in
    keeps_trans w v (written v p x) (keeps_links w w (keeps_same w) v.links (made_rows w p (λ k. Events.link_marked (x ∷ []) (w.links p k)) (λ k. refl)))
    (written_leaves v p x up own (fits_links w v.links (WriteFits (w.nodes p) x) fits))
put_leaves w p x up own fits (Some disk) = half_leaves w p x up own fits disk

pub written_if_leaves : (admitted : Admitted) (w : World) (p : ℕ) (x : Write) (fails : Option ℕ) → (w.nodes p).state ≡ Up → (w.nodes p).line.origin ≡ p
    → (Fitting w → WriteFits (w.nodes p) x) → Leaves w (Events.written_if admitted w p x fails)
written_if_leaves (Held_by why) w p x fails up own fits = keeps_same w
written_if_leaves (Goes changes) w p x fails up own fits =
    let v : World = Events.links_changed w p x in
    Guards.unless_holds (Keeps w) _ _ w (Events.put_in v p x fails) (keeps_same w)
    (λ _. keeps_trans w v (Events.put_in v p x fails).world (keeps_links w w (keeps_same w) v.links (made_rows w p (λ k. Events.link_after (w.nodes p) x k (w.links p k)) (λ k. refl)))
    (put_leaves v p x up own (fits_links w v.links (WriteFits (w.nodes p) x) fits) fails))

-- the tests of a write say that it fits
pub tested_fits : (n : Node) (x : Write) → IsSized n → (is_wrong_count (blocks_in x.bytes) || is_too_large n.ring (blocks_in x.bytes)) ≡ false
    → is_past n.base x.volume x.start (blocks_in x.bytes) ≡ false → WriteFits n x
tested_fits n x sized few within = record {
  some = some (blocks_in x.bytes) (is_too_large n.ring (blocks_in x.bytes)) few;
  few = most (blocks_in x.bytes) (is_too_large n.ring (blocks_in x.bytes)) few;
  room = room (blocks_in x.bytes) n.ring few;
  within = subst (λ (k : ℕ). x.start + blocks_in x.bytes ≤ k) (sized.base x.volume) (ends (n.base.size x.volume) (x.start + blocks_in x.bytes) within);
}
  where
    or_first : (a b : Bool) → (a || b) ≡ false → a ≡ false
    or_first true b e = e
    or_first false b e = refl

    or_second : (a b : Bool) → (a || b) ≡ false → b ≡ false
    or_second true b e = absurd (cc)
    or_second false b e = e

    some : (k : ℕ) (large : Bool) → (is_wrong_count k || large) ≡ false → 1 ≤ k
    some k large e = let f : eqb k 0 ≡ false = or_first (eqb k 0) (ltb MOST_CALL_BLOCKS k) (or_first (is_wrong_count k) large e) in grind (arith, nat_tests)

    most : (k : ℕ) (large : Bool) → (is_wrong_count k || large) ≡ false → k ≤ MOST_CALL_BLOCKS
    most k large e = let f : ltb 16 k ≡ false = or_second (eqb k 0) (ltb MOST_CALL_BLOCKS k) (or_first (is_wrong_count k) large e) in let g : k ≤ 16 = grind
        (arith, nat_tests) in g

    room : (k ring : ℕ) → (is_wrong_count k || is_too_large ring k) ≡ false → k + 1 ≤ ring
    room k ring e = let f : ltb ring (k + 1) ≡ false = or_second (is_wrong_count k) (is_too_large ring k) e in grind (arith, nat_tests)

    ends : (size end : ℕ) → ltb size end ≡ false → end ≤ size
    ends size end e = grind (arith, nat_tests)

pub write_leaves : (w : World) (p : ℕ) (x : Write) (fails : Option ℕ) → Sound w → Leaves w (write_at w p x fails)
write_leaves w p x fails s =
    let n : Node = w.nodes p in
    let o : Outcome = Events.written_if (Events.admitted w p x) w p x fails in
    Guards.at_site_holds (Keeps w) w p _ (keeps_same w)
    (λ _. Guards.unless_holds (Keeps w) (is_bare n.state) (Unknown (ByNumber x.volume)) w _ (keeps_same w)
    (λ _. Guards.at_work_holds (Keeps w) w p _ (keeps_same w)
    (λ up runs. Guards.unless_holds (Keeps w) (not (is_primary n.role)) WrongRole w _ (keeps_same w)
    (λ r. Guards.unless_holds (Keeps w) (leb (length n.volumes) x.volume) (Unknown (ByNumber x.volume)) w _ (keeps_same w)
    (λ _. Guards.unless_holds (Keeps w) (is_wrong_count (blocks_in x.bytes) || is_too_large n.ring (blocks_in x.bytes)) Size w _ (keeps_same w)
    (λ few. Guards.unless_holds (Keeps w) (is_past n.base x.volume x.start (blocks_in x.bytes)) Range w o (keeps_same w)
    (λ within. written_if_leaves (Events.admitted w p x) w p x fails up
    ((s.good.nodes p).own_line (up_is_made n up) (Guards.primary_origin n.role (not-false (is_primary n.role) r)))
    (λ f. tested_fits n x (f.sized p) few within))))))))

-- ## Packets that are sent

pub updates_parts : (source target : ℕ) (line : Line) (number : ℕ) (xs : List Write) → AllByRecursion IsPart (updates source target line number xs)
updates_parts source target line number [] = tt
updates_parts source target line number (x ∷ xs) =
    each_append IsPart (packets_of source target line (Update number x)) (updates source target line (number + 1) xs)
    (all_parts source target line (Update number x)) (updates_parts source target line (number + 1) xs)

pub sent_parts : (action : Action) (source target : ℕ) (n : Node) → AllByRecursion IsPart (sent_by action source target n)
sent_parts Nothing source target n = tt
sent_parts Ignored source target n = tt
sent_parts Taken source target n = tt
sent_parts (Updates from to) source target n = updates_parts source target n.line from (between from to n.log)

pub moved_leaves : (w : World) (p q : ℕ) (e : SEvent) → Keeps w (Events.link_event w p q e)
moved_leaves w p q e =
    let l : LinkRecord = with_plain (w.links p q) (Events.link_step w p q e).link in
    keeps_sending w (with_link w p q l) (keeps_links w w (keeps_same w) (with_link w p q l).links (made_link w p q l refl))
    (sent_by (Events.link_step w p q e).action p q (w.nodes p)) (sent_parts (Events.link_step w p q e).action p q (w.nodes p))

pub greeting_parts : (w : World) (p q : ℕ) → AllByRecursion IsPart (Events.greeting_back w p q)
greeting_parts w p q =
    let b : Node = w.nodes q in
    by_test (AllByRecursion IsPart) (Events.greets (w.nodes p) b) (greeting q p b) [] (λ _. all_parts q p b.line (Hello b.session (length b.log) b.safe))
    (λ _. tt)

-- ## Records that are applied

pub applied_leaves : (w : World) (q : ℕ) (r : RState) (action : RAction) → Leaves w (Events.applied_by w q r action)
applied_leaves w q r DoesNothing = keeps_same w
applied_leaves w q r Ignores = keeps_same w
applied_leaves w q r (IgnoredAck number) = keeps_same w
applied_leaves w q r (Take number) = keeps_same w
applied_leaves w q r (AcksFromDisk number) =
    let b : Node = w.nodes q in
    let n : Node = Events.applied b number r.mark in
    keeps_sending w (with_node w q n)
    (keeps_node w q n
    (λ f. record {
      volumes = refl;
      ring = refl;
      line = refl;
      made = λ made. made;
      start = λ v. refl;
      base = folded_size b.base
          (drop b.safe (take number b.log));
      log = λ h. h;
    })
    (bare_same w q n refl refl) (λ u. u))
    (packets_of q n.fed_by n.line (DataAck n.safe)) (all_parts q n.fed_by n.line (DataAck n.safe))
