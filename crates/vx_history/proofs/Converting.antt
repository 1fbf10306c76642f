-- Each change of a link's map keeps what its mode says of its receiver.
use Rattle.std.proofs.Common.{◌≡◌, ◌∙◌, Bool, ℕ, ◌+◌, ◌≤◌, List, length, take, drop, refl, ap, sym, subst, arith, false, true, inl, inr}
use Rattle.std.specs.Prelude.{ltb, max, if◌then◌else◌}
use Rattle.std.specs.List.{AllByRecursion}
use Rattle.vx_model.specs.Content.{Write, fold_writes, IsPrefixOf}
use Rattle.vx_model.specs.declared.site.Mark.TheVariants.{Consistent}
use Rattle.vx_model.specs.declared.site.SPhase.{SPhase}
use Rattle.vx_model.specs.declared.site.SPhase.TheVariants.{Quiet, Regions as Copies, Log as Fills, ForkKept}
use Rattle.vx_model.specs.declared.link.Phase.{Phase}
use Rattle.vx_model.specs.declared.link.Phase.TheVariants.{Start, Regions as CopiesRegions, Done, Log as ByLogAgain}
use Rattle.vx_model.specs.declared.link.Mode.{Mode}
use Rattle.vx_model.specs.declared.link.Mode.TheVariants.{Log, Dcm, Replay, Fork, Stale}
use Rattle.vx_model.specs.declared.link.Link.{Link}
use Rattle.vx_history.specs.Admission.{blocks, change, change_by, full_log_of, is_holding, mode_hold, mode_holds, replay_hold}
use Rattle.vx_history.specs.declared.admission.Change.{Change}
use Rattle.vx_history.specs.declared.admission.Change.TheVariants.{Stays, ToDcm}
use Rattle.vx_history.specs.ChangeMaps.{map_after, map_again, map_kept, map_of_late}
use Rattle.vx_history.specs.GoodCopies.{GoodCopy, GoodMode, GoodPhase, GoodReplays, IsReplay, certain_of, is_copying}
use Rattle.vx_history.specs.Receiving.{phase_takes}
use Rattle.vx_history.specs.Regions.{CoversWrite, Fuzzy, IsMapped, IsWithin, joined_maps, marks_of_all}
use Rattle.vx_history.specs.Sending.{mode_overtaken, mode_restarted}
use Rattle.vx_history.specs.Sound.{HasStored}
use Rattle.vx_history.specs.World.{Node, Regions, Replays, no_regions}
use Rattle.vx_history.proofs.Each.{prefix_each, prefix_front}
use Rattle.vx_history.proofs.Updates.{and_left, and_right}
use Rattle.vx_history.proofs.Marking.{content_marked, each_wider, fuzzy_marked, in_left, in_right, joined_wider, late_cover, late_prefix, marked_wider, marks_all_cover, within_same}

-- ## Writes

-- a change map gets the regions of these writes
pub mode_marked : (held : List Write) (t : Replays) (b : Node) (map : Regions) (xs : List Write) (stored : ℕ) (mode : Mode) → GoodMode held t b map stored mode
    → GoodMode held t b (map_after mode map xs) stored mode
mode_marked held t b map xs stored Log good = good
mode_marked held t b map xs stored Dcm good = marked_wider held (certain_of t b) b.base b.start map (joined_maps map (marks_of_all xs)) (in_left map (marks_of_all xs)) good
mode_marked held t b map xs stored (Replay id phase left start end) good = good
mode_marked held t b map xs stored (Fork maps) good = good
mode_marked held t b map xs stored Stale good = good

-- and covers them
pub covers_after : (map : Regions) (xs : List Write) (mode : Mode) → mode ≡ Dcm → AllByRecursion (CoversWrite (map_after mode map xs)) xs
covers_after map xs Log e = absurd (cc)
covers_after map xs Dcm e = each_wider (marks_of_all xs) (joined_maps map (marks_of_all xs)) xs (in_right map (marks_of_all xs)) (marks_all_cover xs)
covers_after map xs (Replay id phase left start end) e = absurd (cc)
covers_after map xs (Fork maps) e = absurd (cc)
covers_after map xs Stale e = absurd (cc)

-- ## What a receiver has for certain

certain_copies : (t : Replays) (b : Node) → b.phase ≡ Copies → certain_of t b ≡ t.start b.replay
certain_copies t b e = ap (λ (p : SPhase). if is_copying p then t.start b.replay else b.safe) e

certain_fills : (t : Replays) (b : Node) → b.phase ≡ Fills → certain_of t b ≡ b.safe
certain_fills t b e = ap (λ (p : SPhase). if is_copying p then t.start b.replay else b.safe) e

certain_takes : (t : Replays) (b : Node) → phase_takes b.phase ≡ true → certain_of t b ≡ b.safe
certain_takes t b e = by_phase b.phase e
  where
    by_phase : (p : SPhase) → phase_takes p ≡ true → (if is_copying p then t.start b.replay else b.safe) ≡ b.safe
    by_phase Quiet e = refl
    by_phase Copies e = absurd (cc)
    by_phase Fills e = refl
    by_phase ForkKept e = absurd (cc)

-- ## Conversions: the map gets the regions of all numbers of the origin's log above the hold

module _ (held log : List Write) (t : Replays) (b : Node) (map : Regions) (stored : ℕ) (front : IsPrefixOf held log) (table : GoodReplays held t)
    (fits : b.safe ≤ length b.log) (prefix : IsPrefixOf b.log held) (told : b.mark ≡ Consistent → b.base ≡ fold_writes b.start (take b.safe b.log)) (copy : GoodCopy held t b) where
  -- what a consistent receiver has are writes of the line
  known_content : b.base ≡ fold_writes b.start (take b.safe b.log) → b.base ≡ fold_writes b.start (take b.safe held)
  known_content e = e ∙ ap (λ (xs : List Write). fold_writes b.start xs) (prefix_front b.log held b.safe prefix fits)

  -- from mode Log
  pub log_converted : GoodMode held t b map stored Log → HasStored b stored → GoodMode held t b (map_of_late no_regions log stored) stored Dcm
  log_converted (mark, takes, latest) disk =
      let place : certain_of t b ≡ b.safe = certain_takes t b takes in
      let late : Regions = map_of_late no_regions log stored in
      let c : AllByRecursion (CoversWrite late) (drop b.safe log) = late_cover no_regions stored b.safe log disk.0 in
      subst (λ n. IsMapped held n b.base b.start late) (sym place)
      (content_marked held b.safe b.base b.start late (known_content (told mark)) (prefix_each (CoversWrite late) b.safe held log front c))

  -- from a content that was right outside the map at some moment above the hold
  fuzzy_converted : (few : Regions) (low high hold : ℕ) → IsWithin few map → hold ≤ low → certain_of t b ≡ low → Fuzzy b.base b.start held low high few
      → GoodMode held t b (map_of_late map log hold) stored Dcm
  fuzzy_converted few low high hold within le place fuzzy =
      let late : Regions = map_of_late map log hold in
      let c : AllByRecursion (CoversWrite late) (drop low log) = late_cover map hold low log le in
      subst (λ n. IsMapped held n b.base b.start late) (sym place)
      (fuzzy_marked held low high b.base b.start few late (λ v r e. in_left map (marks_of_all (drop hold log)) v r (within v r e))
      (prefix_each (CoversWrite late) low held log front c) fuzzy)

  -- from phase Log: the hold is what is stored
  fills_converted : (hold : ℕ) → hold ≤ b.safe → b.phase ≡ Fills → GoodMode held t b (map_of_late map log hold) stored Dcm
  fills_converted hold le e = fuzzy_converted no_regions b.safe (max b.end b.safe) hold (λ v r e. absurd (cc)) le (certain_fills t b e) (copy.filling e).2

  pub start_converted : (id left start end : ℕ) → GoodPhase held t b map stored Start id left start end → GoodMode held t b (map_of_late map log start) stored Dcm
  start_converted id left start end (is, le, ends, own, all, before) =
      let w : IsWithin (joined_maps map (marks_of_all (drop start held))) (map_of_late map log start) = joined_wider map (marks_of_all (drop start held)) map (marks_of_all (drop start log)) (within_same map)
      (late_prefix start held log front) in
      marked_wider held (certain_of t b) b.base b.start (joined_maps map (marks_of_all (drop start held))) (map_of_late map log start) w all

  regions_converted : (id left start end : ℕ) → GoodPhase held t b map stored CopiesRegions id left start end → GoodMode held t b (map_of_late map log start) stored Dcm
  regions_converted id left start end (is, le, same, e, fuzzy) =
      fuzzy_converted map start end start (within_same map) (omega arith) (certain_copies t b e ∙ ap t.start same ∙ sym is.2) fuzzy

  done_converted : (id left start end : ℕ) → GoodPhase held t b map stored Done id left start end → GoodMode held t b (map_of_late map log start) stored Dcm
  done_converted id left start end (is, le, same, inl e, fuzzy) =
      fuzzy_converted no_regions start end start (λ v r f. absurd (cc)) (omega arith) (certain_copies t b e ∙ ap t.start same ∙ sym is.2) (fuzzy e)
  done_converted id left start end (is, le, same, inr e, fuzzy) =
      fills_converted start (omega (arith, is.2, ap t.start same, (copy.filling e).0)) e

  -- the hold that is kept on disk: the phase is not kept there, and is not wanted
  pub replay_converted : (phase : Phase) (id left start end : ℕ) → HasStored b stored → GoodPhase held t b map stored phase id left start end
      → GoodMode held t b (map_of_late map log (max start stored)) stored Dcm
  replay_converted Start id left start end disk good =
      subst (λ n. GoodMode held t b (map_of_late map log n) stored Dcm) (let e : start ≡ max start stored = omega (arith, good.1) in e) (start_converted id left start end good)
  replay_converted CopiesRegions id left start end disk good =
      subst (λ n. GoodMode held t b (map_of_late map log n) stored Dcm) (let e : start ≡ max start stored = omega (arith, good.1) in e) (regions_converted id left start end good)
  replay_converted Done id left start end disk good =
      subst (λ n. GoodMode held t b (map_of_late map log n) stored Dcm) (let e : start ≡ max start stored = omega (arith, good.1) in e) (done_converted id left start end good)
  replay_converted ByLogAgain id left start end disk (is, le, same, e) =
      subst (λ n. GoodMode held t b (map_of_late map log n) stored Dcm) (let f : stored ≡ max start stored = omega (arith, le) in f) (fills_converted stored disk.0 e)

  -- the hold by which an admission converts is the same number
  same_hold : (phase : Phase) (id left start end : ℕ) → GoodPhase held t b map stored phase id left start end → max start stored ≡ replay_hold phase start stored
  same_hold Start id left start end good = omega (arith, good.1)
  same_hold CopiesRegions id left start end good = omega (arith, good.1)
  same_hold Done id left start end good = omega (arith, good.1)
  same_hold ByLogAgain id left start end good = omega (arith, good.1)

  -- a link that holds the log, and is converted as a write is let in
  pub mode_converted : (mode : Mode) → mode_holds mode ≡ true → HasStored b stored → GoodMode held t b map stored mode
      → GoodMode held t b (map_of_late (map_kept mode map) log (mode_hold mode stored)) stored Dcm
  mode_converted Log holds disk good = log_converted good disk
  mode_converted Dcm holds disk good = absurd (cc)
  mode_converted (Replay id phase left start end) holds disk good =
      subst (λ n. GoodMode held t b (map_of_late map log n) stored Dcm) (same_hold phase id left start end good) (replay_converted phase id left start end disk good)
  mode_converted (Fork maps) holds disk good = absurd (cc)
  mode_converted Stale holds disk good = absurd (cc)

  -- the site of the link comes up again
  pub mode_again : (mode : Mode) → HasStored b stored → GoodMode held t b map stored mode → GoodMode held t b (map_again log map stored mode) stored (mode_restarted mode)
  mode_again Log disk good = good
  mode_again Dcm disk good = good
  mode_again (Replay id phase left start end) disk good = replay_converted phase id left start end disk good
  mode_again (Fork maps) disk good = good
  mode_again Stale disk good = good

-- ## Where no replay was begun

phase_is : (held : List Write) (t : Replays) (b : Node) (map : Regions) (stored : ℕ) (phase : Phase) (id left start end : ℕ)
    → GoodPhase held t b map stored phase id left start end → IsReplay t id start end
phase_is held t b map stored Start id left start end good = good.0
phase_is held t b map stored CopiesRegions id left start end good = good.0
phase_is held t b map stored Done id left start end good = good.0
phase_is held t b map stored ByLogAgain id left start end good = good.0

module _ (held : List Write) (t : Replays) (b : Node) (map : Regions) (stored : ℕ) (none : t.begun ≡ 0) where
  no_replay : (phase : Phase) (id left start end : ℕ) → GoodPhase held t b map stored phase id left start end → ⊥
  no_replay phase id left start end good = let is = phase_is held t b map stored phase id left start end good in omega (arith, is.0, is.1, none)

  -- what is stored is no matter
  pub unbegun_stored : (more : ℕ) (mode : Mode) → GoodMode held t b map stored mode → GoodMode held t b map more mode
  unbegun_stored more Log good = good
  unbegun_stored more Dcm good = good
  unbegun_stored more (Replay id phase left start end) good = absurd (no_replay phase id left start end good)
  unbegun_stored more (Fork maps) good = good
  unbegun_stored more Stale good = good

  -- and none is overtaken, or begins again
  pub unbegun_overtaken : (number : ℕ) (mode : Mode) → GoodMode held t b map stored mode → GoodMode held t b map stored (mode_overtaken mode number)
  unbegun_overtaken number Log good = good
  unbegun_overtaken number Dcm good = good
  unbegun_overtaken number (Replay id phase left start end) good = absurd (no_replay phase id left start end good)
  unbegun_overtaken number (Fork maps) good = good
  unbegun_overtaken number Stale good = good

  pub unbegun_restarted : (mode : Mode) → GoodMode held t b map stored mode → GoodMode held t b map stored (mode_restarted mode)
  unbegun_restarted Log good = good
  unbegun_restarted Dcm good = good
  unbegun_restarted (Replay id phase left start end) good = absurd (no_replay phase id left start end good)
  unbegun_restarted (Fork maps) good = good
  unbegun_restarted Stale good = good

-- ## A link that is converted as a write is let in

converts_if : (c : Bool) (b : Change) → (if c then b else Stays) ≡ ToDcm → c ≡ true
converts_if true b e = refl
converts_if false b e = absurd (cc)

-- it holds the log
pub change_holds : (need room : ℕ) (l : Link) (used : ℕ) → change need room l used ≡ ToDcm → mode_holds l.mode ≡ true
change_holds need room l used e =
    let full : blocks need room l used ≡ true = converts_if (blocks need room l used) (change_by (full_log_of l) l.bunker) e in
    and_right l.attached (mode_holds l.mode) (and_left (is_holding l) (ltb room (need + used)) full)
