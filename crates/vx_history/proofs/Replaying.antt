-- Each change that a replay makes of a site that receives keeps what is said of it and of the link to it.
use Rattle.std.proofs.Common.{◌≡◌, ◌∙◌, ℕ, ◌≤◌, ◌<◌, List, length, take, drop, refl, ap, sym, subst, arith, Bool, true, false, inl, inr}
use Rattle.std.specs.Prelude.{leb, max, if◌then◌else◌}
use Rattle.std.proofs.lemmas.List.{take-append-drop, length-take}
use Rattle.std.proofs.lemmas.Bool.Decides.{nat_tests}
use Rattle.vx_model.specs.Content.{Write, Content, fold_writes, IsPrefixOf}
use Rattle.vx_model.specs.declared.site.Mark.{Mark}
use Rattle.vx_model.specs.declared.site.Mark.TheVariants.{Consistent, Inconsistent}
use Rattle.vx_model.specs.declared.site.SPhase.{SPhase}
use Rattle.vx_model.specs.declared.site.SPhase.TheVariants.{Quiet, Regions as Copies, Log as Fills, ForkKept}
use Rattle.vx_model.specs.declared.link.Phase.{Phase}
use Rattle.vx_model.specs.declared.link.Phase.TheVariants.{Start, Regions as CopiesRegions, Done, Log as ByLogAgain}
use Rattle.vx_model.specs.declared.link.Mode.{Mode}
use Rattle.vx_model.specs.declared.link.Mode.TheVariants.{Log, Dcm, Replay, Fork, Stale}
use Rattle.vx_history.specs.World.{Node, Regions, Replays, no_regions}
use Rattle.vx_history.specs.CopySteps.{IsBeyond, IsReplayOver, IsOverPhase, closed_at, entered, with_blocks, with_part}
use Rattle.vx_history.specs.Good.{TellsContent}
use Rattle.vx_history.specs.GoodCopies.{GoodCopy, GoodMode, GoodPhase, GoodReplays, certain_of, is_copying}
use Rattle.vx_history.specs.Regions.{AtSome, Fuzzy, IsMapped, joined_maps, marks_of_all}
use Rattle.vx_history.specs.Sound.{HasStored}
use Rattle.vx_history.proofs.Blocks.{marked_blocks, some_blocks, some_front}
use Rattle.vx_history.proofs.Fuzzies.{fuzzy_ends, fuzzy_longer, split}
use Rattle.vx_history.proofs.Marking.{marked_later, within_same}
use Rattle.vx_history.proofs.Updates.{by_test}

-- while it copies, its volumes will have the start of its replay for certain
certain_copies : (t : Replays) (n : Node) → n.phase ≡ Copies → certain_of t n ≡ t.start n.replay
certain_copies t n c = ap (λ (p : SPhase). if is_copying p then t.start n.replay else n.safe) c

-- ## It takes the start of a replay, with nothing that waits

pub stored_entered : (n : Node) (id number : ℕ) → HasStored n number → HasStored (entered n id) number
stored_entered n id number (le, f) = (le, λ e. absurd (cc))

module _ (held : List Write) (t : Replays) (n : Node) (id : ℕ) (table : GoodReplays held t) (fits : n.safe ≤ length n.log) (copy : GoodCopy held t n) (new : n.replay < id) (known : id ≤ t.begun)
    (still : length n.log ≤ n.safe) (here : length n.log ≤ t.start id) where
  pub copy_entered : GoodCopy held t (entered n id)
  copy_entered = record {
    size = copy.size;
    known = known;
    copying = λ _. (refl, still, here);
    filling = λ e. absurd (cc);
  }

  certain_entered : certain_of t n ≤ t.start id
  certain_entered = by_phase n.phase refl
    where
      below : n.safe ≤ t.start id
      below = omega (arith, fits, here)

      by_phase : (p : SPhase) → n.phase ≡ p → (if is_copying p then t.start n.replay else n.safe) ≤ t.start id
      by_phase Quiet e = below
      by_phase Copies e = omega (arith, (table.spans n.replay copy.known).0, table.rise n.replay id new known)
      by_phase Fills e = below
      by_phase ForkKept e = below

  phase_entered : (map : Regions) (stored : ℕ) (phase : Phase) (at left start end : ℕ) → GoodPhase held t n map stored phase at left start end
      → GoodPhase held t (entered n id) map stored phase at left start end
  phase_entered map stored Start at left start end (is, le, ends, own, all, before) = (
    is,
    le,
    ends,
    λ _. refl,
    marked_later held (certain_of t n) (t.start id) n.base n.start (joined_maps map (marks_of_all (drop start held))) certain_entered all,
    λ few. marked_later (take start held) (certain_of t n) (t.start id) n.base n.start map certain_entered (before few),
  )
  phase_entered map stored CopiesRegions at left start end (is, le, same, c, fuzzy) = absurd (omega (arith, is.1, same, new, known))
  phase_entered map stored Done at left start end (is, le, same, e, fuzzy) = absurd (omega (arith, is.1, same, new, known))
  phase_entered map stored ByLogAgain at left start end (is, le, same, e) = absurd (omega (arith, is.1, same, new, known))

  pub mode_entered : (map : Regions) (stored : ℕ) (mode : Mode) → GoodMode held t n map stored mode → GoodMode held t (entered n id) map stored mode
  mode_entered map stored Log (c, takes, latest) = absurd (omega (arith, latest, new, known))
  mode_entered map stored Dcm good = marked_later held (certain_of t n) (t.start id) n.base n.start map certain_entered good
  mode_entered map stored (Replay at phase left start end) good = phase_entered map stored phase at left start end good
  mode_entered map stored (Fork maps) good = good
  mode_entered map stored Stale good = good

-- ## It stores blocks of a region

module _ (held : List Write) (line_start : Content) (t : Replays) (n : Node) (pick : ℕ → ℕ → Bool) (blocks : Content) (table : GoodReplays held t) (copy : GoodCopy held t n) (c : n.phase ≡ Copies)
    (line_size : n.start.size ≡ line_start.size) (inside : (v b : ℕ) → pick v b ≡ true → AtSome blocks line_start held (t.start n.replay) (t.read n.replay) v b) where
  abbrev low : ℕ
  low = t.start n.replay

  abbrev high : ℕ
  high = t.read n.replay

  abbrev o : Node
  o = with_part line_start n pick blocks

  pub copy_part : GoodCopy held t o
  copy_part = record {
    size = copy.size;
    known = copy.known;
    copying = copy.copying;
    filling = λ e. absurd (let f : Copies ≡ Fills = sym c ∙ e in cc);
  }

  -- past the ends it still has what it had at number 0
  pub beyond_part : ((v b : ℕ) → pick v b ≡ true → b < n.start.size v) → IsBeyond n.base n.start → IsBeyond o.base o.start
  beyond_part within beyond v b past = by_pick (pick v b) refl
    where
      by_pick : (p : Bool) → pick v b ≡ p → (with_blocks pick n.base blocks).block v b ≡ (with_blocks pick n.start line_start).block v b
      by_pick true p = absurd (let k : b < n.start.size v = within v b p in omega (arith, k, past))
      by_pick false p = ap (λ z. if z then blocks.block v b else n.base.block v b) p ∙ beyond v b past ∙ sym (ap (λ z. if z then line_start.block v b else n.start.block v b) p)

  spans : low ≤ high
  spans = (table.spans n.replay copy.known).0

  pub stored_part : (number : ℕ) → HasStored n number → HasStored o number
  stored_part number (le, f) = (le, f)

  -- a block that was right at some moment of this replay stays so
  pub some_part : (v b : ℕ) → AtSome n.base n.start held low high v b → AtSome o.base o.start held low high v b
  some_part v b p = some_blocks n.base n.start blocks line_start held low high pick v b line_size (inside v b) (λ _. p)

  fuzzy_part : (from to : ℕ) (map : Regions) → from ≡ low → to ≡ high → Fuzzy n.base n.start held from to map → Fuzzy o.base o.start held from to map
  fuzzy_part from to map e f fuzzy v b m =
      let q = fuzzy v b m in
      let p = some_part v b (q.0, omega (arith, q.1, e), omega (arith, q.2, f), q.3) in
      (p.0, omega (arith, p.1, e), omega (arith, p.2, f), p.3)

  marked_part : (xs : List Write) (map : Regions) → ((v b : ℕ) → pick v b ≡ true → AtSome blocks line_start xs low high v b) → IsMapped xs (certain_of t n) n.base n.start map
      → IsMapped xs (certain_of t o) o.base o.start map
  marked_part xs map f good = marked_blocks xs (certain_of t n) low high pick n.base n.start blocks line_start map line_size (omega (arith, certain_copies t n c)) f good spans

  phase_part : (map : Regions) (stored : ℕ) (phase : Phase) (id left start end : ℕ) → GoodPhase held t n map stored phase id left start end
      → GoodPhase held t o map stored phase id left start end
  phase_part map stored Start id left start end (is, le, ends, own, all, before) = (
    is,
    le,
    ends,
    own,
    marked_part held (joined_maps map (marks_of_all (drop start held))) inside all,
    λ few. marked_part (take start held) map (λ v b p. some_front held low high start blocks line_start v b earlier (inside v b p)) (before few),
  )
    where
      earlier : high ≤ start
      earlier = elim (split n.replay id (omega (arith, copy.known, is.1))) [
        | inl e ↦ omega (arith, ends, is.3, ap t.read e)
        | inr less ↦ omega (arith, table.rise n.replay id less (omega (arith, is.1)), is.2)
      ]
  phase_part map stored CopiesRegions id left start end (is, le, same, e, fuzzy) =
      (is, le, same, e, fuzzy_part start end map (omega (arith, is.2, ap t.start same)) (omega (arith, is.3, ap t.read same)) fuzzy)
  phase_part map stored Done id left start end (is, le, same, e, fuzzy) =
      (is, le, same, e, λ i. fuzzy_part start end no_regions (omega (arith, is.2, ap t.start same)) (omega (arith, is.3, ap t.read same)) (fuzzy i))
  phase_part map stored ByLogAgain id left start end (is, le, same, e) = (is, le, same, e)

  pub mode_part : (map : Regions) (stored : ℕ) (mode : Mode) → GoodMode held t n map stored mode → GoodMode held t o map stored mode
  mode_part map stored Log good = good
  mode_part map stored Dcm good = marked_part held map inside good
  mode_part map stored (Replay id phase left start end) good = phase_part map stored phase id left start end good
  mode_part map stored (Fork maps) good = good
  mode_part map stored Stale good = good

-- ## It takes the end of the copying

module _ (held : List Write) (t : Replays) (n : Node) (start end : ℕ) (table : GoodReplays held t) (fits : n.safe ≤ length n.log) (copy : GoodCopy held t n) (c : n.phase ≡ Copies) (is_start : start ≡ t.start n.replay)
    (is_end : end ≡ t.read n.replay) (fuzzy : Fuzzy n.base n.start held (t.start n.replay) (t.read n.replay) no_regions) where
  abbrev z : Node
  z = closed_at held n start end

  goes : (start ≤ end) × (end ≤ length held)
  goes = let p = table.spans n.replay copy.known in (omega (arith, p.0, is_start, is_end), omega (arith, p.1, is_end))

  long : length (take start held) ≡ start
  long = omega (arith, length-take start held, goes.0, goes.1)

  certain_closed : certain_of t z ≡ certain_of t n
  certain_closed = is_start ∙ sym (certain_copies t n c)

  pub copy_closed : GoodCopy held t z
  copy_closed = record {
    size = copy.size;
    known = copy.known;
    copying = λ e. absurd (cc);
    filling = λ _. (
      omega (arith, is_start),
      is_end,
      fuzzy_longer n.base n.start held (t.start n.replay) (t.read n.replay) start (max end start) no_regions no_regions (omega (arith, is_start)) (omega (arith, is_end)) (within_same no_regions) fuzzy,
    );
  }

  -- its log is a first part of the line, all of it is durable, and where it is consistent its content is told by it
  pub front_closed : IsPrefixOf z.log held
  unfolding IsPrefixOf
  front_closed = (drop start held, take-append-drop start held)

  pub fits_closed : z.safe ≡ length z.log
  fits_closed = sym long

  pub content_closed : TellsContent z → z.base ≡ fold_writes z.start z.log
  content_closed (inl quiet) = absurd (let f : Fills ≡ Quiet = quiet in cc)
  content_closed (inr mark) = by_end (leb end start) refl mark
    where
      by_end : (p : Bool) → leb end start ≡ p → (if p then Consistent else n.mark) ≡ Consistent → n.base ≡ fold_writes n.start (take start held)
      by_end true p e =
          fuzzy_ends n.base n.start held start no_regions copy.size (λ v b. refl)
          (fuzzy_longer n.base n.start held (t.start n.replay) (t.read n.replay) start start no_regions no_regions (omega (arith, is_start)) (grind (arith, nat_tests, is_end)) (within_same no_regions) fuzzy)
      by_end false p e = absurd (let i : Consistent ≡ Inconsistent = sym e ∙ (copy.copying c).0 in cc)

  few : n.safe ≤ start
  few = omega (arith, fits, (copy.copying c).2, is_start)

  marks : (number : ℕ) → start ≤ number → end ≤ start → (if leb end start then Consistent else n.mark) ≡ Consistent
  marks number le ends = by_test (λ (m : Mark). m ≡ Consistent) (leb end start) Consistent n.mark (λ _. refl) (λ g. absurd (grind (arith, nat_tests)))

  pub stored_closed : (number : ℕ) → HasStored n number → HasStored z number
  stored_closed number (le, f) = (omega (arith, le, few), λ _ ends. marks start (omega arith) (omega (arith, ends, le, few)))

  -- the start of the replay is stored there
  pub start_closed : HasStored z (t.start n.replay)
  start_closed = (omega (arith, is_start), λ _ ends. marks start (omega arith) (omega (arith, ends, is_start)))

  -- no record that it had is lost
  pub longer_closed : length n.log ≤ length z.log
  longer_closed = omega (arith, long, (copy.copying c).2, is_start)

  phase_closed : (map : Regions) (stored : ℕ) (phase : Phase) (id left from to : ℕ) → IsOverPhase phase id n.replay → GoodPhase held t n map stored phase id left from to
      → GoodPhase held t z map stored phase id left from to
  phase_closed map stored Start id left from to over (is, le, ends, own, all, before) = (
    is,
    le,
    ends,
    λ e. absurd (omega (arith, over, e)),
    subst (λ k. IsMapped held k n.base n.start (joined_maps map (marks_of_all (drop from held)))) (sym certain_closed) all,
    λ short. subst (λ k. IsMapped (take from held) k n.base n.start map) (sym certain_closed) (before (omega (arith, short, few))),
  )
  phase_closed map stored CopiesRegions id left from to over (is, le, same, e, f) = absurd (omega (arith, over, same))
  phase_closed map stored Done id left from to over (is, le, same, e, f) = (is, le, same, inr refl, λ i. absurd (cc))
  phase_closed map stored ByLogAgain id left from to over (is, le, same, e) = absurd (let f : Copies ≡ Fills = sym c ∙ e in cc)

  pub mode_closed : (map : Regions) (stored : ℕ) (mode : Mode) → IsReplayOver mode n.replay → GoodMode held t n map stored mode → GoodMode held t z map stored mode
  mode_closed map stored Log over (m, takes, latest) = absurd (let f : Consistent ≡ Inconsistent = sym m ∙ (copy.copying c).0 in cc)
  mode_closed map stored Dcm over good = subst (λ k. IsMapped held k n.base n.start map) (sym certain_closed) good
  mode_closed map stored (Replay id phase left from to) over good = phase_closed map stored phase id left from to over good
  mode_closed map stored (Fork maps) over good = good
  mode_closed map stored Stale over good = good
