-- How the log of a site that is up gets room for a write.
use Rattle.std.proofs.Common.{◌≡◌, ◌∙◌, ◌⊎◌, inl, inr, ⊎_elim, ◌+◌, ◌-◌, ◌<◌, ◌≤◌, ◌^◌, ℕ, zero, suc, Bool, true, false, List, [], ◌∷◌, length, drop, ap, sym, subst, refl, arith, IsTrue, ◌++◌, append-nil}
use Rattle.std.specs.Prelude.{IsFalse, Option, Some, None, Result, Ok, Err, OnOk, IsSome, leb, min, ◌&&◌, ◌||◌, if◌then◌else◌}
use Rattle.std.proofs.lemmas.Bool.Decides.{nat_tests}
use Rattle.std.proofs.lemmas.List.{length-drop}
use Rattle.vx_history.specs.Events.{logged_blocks}
use Rattle.vx_history.specs.World.{Node, Fuse}
use Rattle.vx_history.specs.Steps.{burned, worked}
use Rattle.vx_model.specs.declared.no.No.{No}
use Rattle.vx_model.specs.declared.no.No.TheVariants.{Device, Limit, Down}
use Rattle.vx_srl.specs.Calls.{saved}
use Rattle.vx_srl.specs.Headers.{without}
use Rattle.vx_srl.specs.Views.{Log, most_number, count_to, head_number, free_of, widths, all_of}
use Rattle.vx_srl.specs.declared.kept.Kept.{Kept}
use Rattle.vx_diskset.specs.Holds.{KeptBeside}
use Rattle.vx_disk.specs.Counts.{Rose}
use Rattle.vx_disk.specs.Shelf.{Meaning, Image, Lawful}
use Rattle.vx_disk.specs.Moves.{Moves, Run}
use Rattle.vx_rvg.specs.Groups.{ApplyIs, GroupFails, Ended, halted_or}
use Rattle.vx_rvg.specs.Saves.{SaveIs, reclaim_refusal, reclaimed, log_without}
use Rattle.vx_model.specs.Content.{Write}
use Rattle.vx_model.specs.declared.limits.TheConstants.{MOST_CALL_BLOCKS}
use Rattle.vx_diskset.specs.Holds.{most_header}
use Rattle.vx_model.specs.declared.state.State.{State}
use Rattle.vx_diskset.specs.Needs.{HasRoom, NoneNeeds}
use Rattle.vx_diskset.proofs.NeedLemmas.{needs_less, taken_less, taken_to, takes_last}
use Rattle.vx_rvg.specs.Holdings.{blocks_taken}
use Rattle.vx_rvg.specs.Stands.{Retains, Saving}
use Rattle.vx_rvg.proofs.FetchGives.{free_beside}
use Rattle.vx_rvg.specs.Views.{Core, IsSound}
use Rattle.vx_diskset.specs.DiskSets.{no_number, halted_at}
use Rattle.vx_diskset.specs.Holds.{HasSite, HasWrites}
use Rattle.vx_diskset.specs.Rooms.{AppliedAs, IsRoomy, RoomIs}
use Rattle.vx_diskset.specs.Fuses.{FuseOn}
use Rattle.vx_history.specs.Stops.{IsFused}
use Rattle.vx_history.proofs.Fuses.{burned_twice, fused_before}
use Rattle.vx_diskset.specs.Stands.{IsUpAt, IsHeldAt}
use Rattle.vx_diskset.proofs.ApplyGroup.{ended_log}
use Rattle.vx_diskset.proofs.BesideLemmas.{site_map}
use Rattle.vx_diskset.proofs.Laying.{lies_moved}
use Rattle.vx_diskset.proofs.LastWrites.{retains_with, saving_with}
use Rattle.vx_diskset.proofs.StaysUp.{told_now, never_both, left_moved, kept_whole, up_found, writes_found, up_with, up_worked, held_moved, fused_by, fuse_moved, fuse_burned}

-- a log that uses no stamp
pub roomy_now : {beside : KeptBeside} (n : Node) (c : Core) (m : Meaning) → IsUpAt beside n c m → n.halted ≡ None → IsRoomy beside n c m
roomy_now n c m up none = record {
  up = up.up;
  lies = up.lies;
  fuse = fuse_burned n.fuse m up.fuse;
  units = up.units;
  ring = up.ring;
  found = up.found;
  kept = up.kept;
  linked = up.linked;
  session = up.session;
  first = up.first;
  head = up.head;
  running = up.halted ∙ none;
  stamp = λ told. let t = up.stamp told none in omega (arith, t);
  takes = up.takes none;
  content = up.content none;
}

-- ---- a log that gives up its records up to a number

pub record GivenUp (l l' : Log) (to : ℕ) : Type 0 where
  pub ring : l'.ring ≡ l.ring
  pub state : l'.header.state ≡ l.header.state
  pub incarnation : l'.header.incarnation ≡ l.header.incarnation
  pub first : 0 < l'.header.low
  pub least : l.header.low ≤ l'.header.low
  pub past : to < l'.header.low
  pub low : (l'.header.low ≡ l.header.low) ⊎ (l'.header.low ≡ to + 1)
  pub head : head_number l' ≡ head_number l
  pub few : length l'.held ≤ length l.held
  pub held : l'.held ≡ drop (l'.header.low - l.header.low) l.held
  pub stamp : (l'.header.stamp ≡ l.header.stamp) ⊎ (l'.header.stamp ≡ l.header.stamp + 1)

given_by : (l : Log) (to : ℕ) (b : Bool) → leb l.header.low to ≡ b → 0 < l.header.low → to ≤ head_number l → GivenUp l (if b then saved l (without l to) (count_to l to) else l) to
given_by l to true is first below =
    let low : l.header.low ≤ to = grind (arith, nat_tests) in
    let less = length-drop (count_to l to) l.held in
    record {
      ring = refl;
      state = refl;
      incarnation = refl;
      first = omega arith;
      least = omega (arith, low);
      past = omega arith;
      low = inr refl;
      head = omega (arith, less, below, first, low);
      few = omega (arith, less);
      held = refl;
      stamp = inr refl;
    }
given_by l to false is first below =
    let high : to < l.header.low = grind (arith, nat_tests) in
    record {
      ring = refl;
      state = refl;
      incarnation = refl;
      first = first;
      least = omega arith;
      past = high;
      low = inl refl;
      head = refl;
      few = omega arith;
      held = ap (λ (k : ℕ). drop k l.held) (let none : 0 ≡ l.header.low - l.header.low = omega arith in none);
      stamp = inl refl;
    }

pub given_up : (l : Log) (to : ℕ) → 0 < l.header.low → to ≤ head_number l → GivenUp l (log_without l to) to
given_up l to first below = given_by l to (leb l.header.low to) refl first below

-- why it is refused
abbrev reclaim_no : ℕ → ℕ → ℕ → Option No
reclaim_no low stamp to = if leb low to && (leb most_number stamp || leb most_number to) then Some no_number else None

abbrev IsLimit : ℕ → ℕ → Option No → Type 0
IsLimit stamp to None = Unit {0}
IsLimit stamp to (Some why) = (why ≡ no_number) × ((most_number ≤ stamp) ⊎ (most_number ≤ to))

limit_by : (b s t : Bool) (stamp to : ℕ) → leb most_number stamp ≡ s → leb most_number to ≡ t → IsLimit stamp to (if b && (s || t) then Some no_number else None)
limit_by false s t stamp to es et = tt
limit_by true false false stamp to es et = tt
limit_by true true t stamp to es et = (refl, inl (let le : most_number ≤ stamp = grind (arith, nat_tests) in le))
limit_by true false true stamp to es et = (refl, inr (let le : most_number ≤ to = grind (arith, nat_tests) in le))

limits : (low stamp to : ℕ) → IsLimit stamp to (reclaim_no low stamp to)
limits low stamp to = limit_by (leb low to) (leb most_number stamp) (leb most_number to) stamp to refl refl

-- ---- a log without room for the largest write

taken_drop : (k : ℕ) (xs : List Write) → blocks_taken (drop k xs) ≤ logged_blocks xs
taken_drop zero [] = omega arith
taken_drop zero (x ∷ xs) = let rest = taken_drop zero xs in omega (arith, rest)
taken_drop (suc k) [] = omega arith
taken_drop (suc k) (x ∷ xs) = let rest = taken_drop k xs in omega (arith, rest)

-- gave writes up that the site has
pub full_here : {beside : KeptBeside} (n : Node) (c : Core) (m : Meaning) → IsUpAt beside n c m → n.halted ≡ None → free_of c.log ≤ MOST_CALL_BLOCKS → IsTrue m.tells → logged_blocks n.log + (MOST_CALL_BLOCKS + 1) ≤ n.ring → ⊥
full_here n c m up none less told room =
    let stood = up.content none told in
    let free = free_beside c stood.held m stood.stands in
    let some = taken_drop (stood.held.low - 1) n.log in
    omega (arith, less, free, ap (λ (xs : List Write). blocks_taken xs) stood.has.writes, some, room, up.ring)

module _ {beside : KeptBeside} (n : Node) (c : Core) (m : Meaning) (to : ℕ) (up : IsUpAt beside n c m) (below : to ≤ n.safe) (unneeded : NoneNeeds beside.links to) where
  log : GivenUp c.log (log_without c.log to) to
  log = given_up c.log to up.first (omega (arith, below, up.head))

  many : n.halted ≡ None → length n.log ≡ n.safe
  many none = omega (arith, up.logged, up.durable none)

  -- its last write is the site's last one
  pub last_here : n.halted ≡ None → (log_without c.log to).header.low + length (log_without c.log to).held ≡ length n.log + 1
  last_here none = omega (arith, log.first, log.head, up.head, many none)

  -- one header more at most
  stamp_here : n.halted ≡ None → IsTrue m.tells → (log_without c.log to).header.stamp ≤ most_header beside n
  stamp_here none told =
      let t = up.stamp told none in
      ⊎_elim (λ (same : (log_without c.log to).header.stamp ≡ c.log.header.stamp). omega (arith, t, same)) (λ (more : (log_without c.log to).header.stamp ≡ c.log.header.stamp + 1). omega (arith, t, more)) log.stamp

  -- its links need none of what it gave up
  needs_here : n.halted ≡ None → IsTrue m.tells → NoneNeeds (log_without c.log to).header.state.links ((log_without c.log to).header.low - 1)
  needs_here none told =
      let stood = up.content none told in
      subst (λ (s : State). NoneNeeds s.links ((log_without c.log to).header.low - 1)) (sym log.state)
      (⊎_elim
      (λ (same : (log_without c.log to).header.low ≡ c.log.header.low). needs_less c.log.header.state.links (stood.held.low - 1) ((log_without c.log to).header.low - 1) (omega (arith, same, stood.stands.low)) stood.needs)
      (λ (next : (log_without c.log to).header.low ≡ to + 1). subst (λ (s : State). NoneNeeds s.links ((log_without c.log to).header.low - 1)) (sym (kept_whole n c m up told))
      (needs_less beside.links to ((log_without c.log to).header.low - 1) (omega (arith, next)) unneeded))
      log.low)

  -- an image in it has the site's writes
  pub saving_found : n.halted ≡ None → free_of c.log ≤ MOST_CALL_BLOCKS → (i : Image) → IsTrue m.tells → Saving c (reclaimed c to) m i → HasWrites beside n i
  saving_found none less i told saving = ⊎_elim
      (λ old. up_found n c m i up none told old)
      (λ next. writes_found n (reclaimed c to) i up.units (log.ring ∙ up.ring) (log.state ∙ kept_whole n c m up told) (log.incarnation ∙ up.session) (stamp_here none told) (many none) next)
      (saving_with c (reclaimed c to) n.log n.base m log.first (last_here none) log.few log.ring
      (λ room. full_here n c m up none less told (omega (arith, room, up.ring))) (needs_here none told) i saving (up.content none told))

module _ {beside : KeptBeside} (n : Node) (c c' : Core) (m new : Meaning) (to : ℕ) (up : IsUpAt beside n c m) (below : to ≤ n.safe) (unneeded : NoneNeeds beside.links to) (none : n.halted ≡ None) (less : free_of c.log ≤ MOST_CALL_BLOCKS) (lawful : Lawful m) (after : Lawful new)
    (moves : Moves (Run c.units.srl 0 (c.log.ring + 2)) (Saving c (reclaimed c to) m) m new) (still : IsFalse new.down) where
  fuse_here : FuseOn (burned n.fuse) new
  fuse_here = fuse_moved n.fuse (Run c.units.srl 0 (c.log.ring + 2)) (Saving c (reclaimed c to) m) m new moves up.fuse

  abbrev given : GivenUp c.log (log_without c.log to) to
  given = log n c m to up below unneeded

  -- the log gave up what it held up to the number
  pub roomy_reclaimed : c' ≡ reclaimed c to → Retains c c' m new → IsRoomy beside n c' new
  roomy_reclaimed is retains = subst (λ (k : Core). IsRoomy beside n k new) (sym is) (record {
    up = still;
    lies = lies_moved n (Run c.units.srl 0 (c.log.ring + 2)) (Saving c (reclaimed c to) m) m new moves up.lies;
    fuse = fuse_here;
    units = up.units;
    ring = given.ring ∙ up.ring;
    found = up.found;
    kept = given.state ∙ up.kept;
    linked = λ told. up.linked (sym moves.tells ∙ told);
    session = given.incarnation ∙ up.session;
    first = given.first;
    head = given.head ∙ up.head;
    running = up.halted ∙ none;
    stamp = λ told. stamp_here n c m to up below unneeded none (sym moves.tells ∙ told);
    takes = takes_last c.log (log_without c.log to) n.log given.least given.held (up.takes none);
    content = λ told.
        retains_with c (reclaimed c to) n.log n.base m given.first (last_here n c m to up below unneeded none) given.few given.ring
        (λ room. full_here n c m up none less (sym moves.tells ∙ told) (omega (arith, room, up.ring))) (needs_here n c m to up below unneeded none (sym moves.tells ∙ told)) new
        (subst (λ (k : Core). Retains c k m new) is retains) (up.content none (sym moves.tells ∙ told));
  })

  -- and the blocks of the numbers above it alone are taken
  pub free_reclaimed : (count : ℕ) → c' ≡ reclaimed c to → IsSound c' new → count + 1 + logged_blocks (drop to n.log) ≤ n.ring → count < free_of c'.log
  free_reclaimed count is sound room =
      let running : c'.halted ≡ None = ap (λ (k : Core). k.halted) is ∙ up.halted ∙ none in
      let ring : c'.log.ring ≡ n.ring = ap (λ (k : Core). k.log.ring) is ∙ given.ring ∙ up.ring in
      let takes = takes_last c.log (log_without c.log to) n.log given.least given.held (up.takes none) in
      let whole : widths (drop ((log_without c.log to).header.low - 1 + 1 - (log_without c.log to).header.low) (log_without c.log to).held) ≡ logged_blocks (drop ((log_without c.log to).header.low - 1) n.log)
      = takes.each ((log_without c.log to).header.low - 1) (omega arith) in
      let none_gone : (log_without c.log to).header.low - 1 + 1 - (log_without c.log to).header.low ≡ 0 = omega (arith, given.first) in
      let all : widths (log_without c.log to).held ≡ logged_blocks (drop ((log_without c.log to).header.low - 1) n.log) = sym (ap (λ (k : ℕ). widths (drop k (log_without c.log to).held)) none_gone) ∙ whole in
      let less = taken_less to ((log_without c.log to).header.low - 1) n.log (omega (arith, given.past)) in
      let held : widths (all_of c'.log) ≡ widths (log_without c.log to).held = ap (λ (ks : List Kept). widths (c'.log.held ++ ks)) (sound.idle running still) ∙ ap (λ (ks : List Kept). widths ks) (append-nil c'.log.held) ∙ ap (λ (k : Core). widths k.log.held) is in
      omega (arith, held, all, less, room, ring)

  saved_left : (i : Image) → new.now i → HasSite beside n i
  saved_left i now = ⊎_elim (λ was. up.left i was) (λ saving. inl (saving_found n c m to up below unneeded none less i (sym moves.tells ∙ told_now new i after now) saving))
      (left_moved (Run c.units.srl 0 (c.log.ring + 2)) (Saving c (reclaimed c to) m) m new i lawful after moves now)

  -- or a disk failed
  pub reclaim_halted : (disk : ℕ) → Ended c (Some disk) c' → IsUpAt beside (halted_at n disk) c' new
  reclaim_halted disk ended =
      up_with n c c' m new (Some disk) (burned n.fuse) (Run c.units.srl 0 (c.log.ring + 2)) (Saving c (reclaimed c to) m) moves still fuse_here up (ended_log c (Some disk) c' ended) ended.halted_is (λ e. absurd (never e)) (λ e. absurd (never e))
      saved_left
    where
      never : {k : ℕ} → Some k ≡ None → ⊥
      never e = cc

  by_answer : (r : Option No) (result : Result (Unit {0}) No) → reclaim_no c.log.header.low c.log.header.stamp to ≡ r → SaveIs r c (reclaimed c to) m new c' result
      → (IsSome r → new ≡ m) → OnOk result (Retains c c' m new) → RoomIs beside n m c' new result
  by_answer (Some why) (Ok done) r_is is unchanged rests = absurd (let e : Ok done ≡ Err why = is.0 in cc)
  by_answer (Some why) (Err answer) r_is is unchanged rests =
      let same : answer ≡ why = (let e : Err answer ≡ Err why = is.0 in cc) in
      let limit : IsLimit c.log.header.stamp to (Some why) = subst (λ (o : Option No). IsLimit c.log.header.stamp to o) r_is (limits c.log.header.low c.log.header.stamp to) in
      let stays : new ≡ m = unchanged refl in
      subst (λ (k : No). RoomIs beside n m c' new (Err k)) (sym (same ∙ limit.0)) (
        refl,
        (λ told. let t = up.stamp (sym moves.tells ∙ told) none in ⊎_elim (λ (a : most_number ≤ c.log.header.stamp). omega (arith, t, a)) (λ (b : most_number ≤ to). omega (arith, b, below)) limit.1),
        subst (λ (k : Core). IsUpAt beside (worked n) k new) (sym is.1) (subst (λ (k : Meaning). IsUpAt beside (worked n) c k) (sym stays) (up_worked n c m up)),
      )
  by_answer None (Ok done) r_is is unchanged rests = roomy_reclaimed is rests
  by_answer None (Err (Device disk)) r_is is unchanged rests = (reclaim_halted disk is.0, is.1)
  by_answer None (Err Down) r_is is unchanged rests = absurd (never_both new.down is.1 still)
  by_answer None (Err (Limit what most)) r_is is unchanged rests = absurd is
  by_answer None (Err other) r_is is unchanged rests = is

  -- what a reclaim up to the number answers
  pub reclaimed_as : (result : Result (Unit {0}) No) → SaveIs (reclaim_refusal c to) c (reclaimed c to) m new c' result → (IsSome (reclaim_refusal c to) → new ≡ m)
      → OnOk result (Retains c c' m new) → RoomIs beside n m c' new result
  reclaimed_as result is unchanged rests =
      let runs : c.halted ≡ None = up.halted ∙ none in
      by_answer (reclaim_no c.log.header.low c.log.header.stamp to) result refl
      (subst (λ (h : Option ℕ). SaveIs (halted_or h (reclaim_no c.log.header.low c.log.header.stamp to)) c (reclaimed c to) m new c' result) runs is)
      (subst (λ (h : Option ℕ). IsSome (halted_or h (reclaim_no c.log.header.low c.log.header.stamp to)) → new ≡ m) runs unchanged) rests

-- a reclaim whose fuse ran out
pub reclaim_cut : {beside : KeptBeside} (n : Node) (c : Core) (m new : Meaning) (to : ℕ) → IsUpAt beside n c m → to ≤ n.safe → NoneNeeds beside.links to → n.halted ≡ None → free_of c.log ≤ MOST_CALL_BLOCKS → Lawful m → Lawful new
    → Moves (Run c.units.srl 0 (c.log.ring + 2)) (Saving c (reclaimed c to) m) m new → IsTrue new.down → IsFused n.fuse × IsHeldAt beside n new
reclaim_cut n c m new to up below unneeded none less lawful after moves down = (
  fused_by n.fuse (Run c.units.srl 0 (c.log.ring + 2)) (Saving c (reclaimed c to) m) m new moves up.fuse up.up down,
  held_moved n c m new (Run c.units.srl 0 (c.log.ring + 2)) (Saving c (reclaimed c to) m) moves up
      (λ i now. ⊎_elim (λ was. up.left i was) (λ saving. inl (saving_found n c m to up below unneeded none less i (sym moves.tells ∙ told_now new i after now) saving))
      (left_moved (Run c.units.srl 0 (c.log.ring + 2)) (Saving c (reclaimed c to) m) m new i lawful after moves now)),
)

-- ---- the whole of it

pub rose_later : (old mid new : ℕ) → old ≤ mid → Rose mid new → Rose old new
rose_later old mid new le rose = record {
  fell_not = omega (arith, le, rose.fell_not);
  rose = ⊎_elim (λ (less : mid < new). let f : (old < new) ⊎ (2 ^ 64 - 1 ≤ new) = inl (omega (arith, le, less)) in f) (λ (most : 2 ^ 64 - 1 ≤ new). inr most) rose.rose;
}

-- an apply that was refused
pub room_unapplied : (beside : KeptBeside) (n : Node) (to : ℕ) (c' : Core) (m new : Meaning) (no : No) → AppliedAs beside n to c' m new (Err no) → RoomIs beside n m c' new (Err no)
room_unapplied beside n to c' m new (Device disk) is = is
room_unapplied beside n to c' m new (Limit what most) is = absurd is
room_unapplied beside n to c' m new Down is = is
room_unapplied beside n to c' m new other is = is

-- a site without room at hand has room beside the numbers above the one that an apply of it came to
pub room_after : (beside : KeptBeside) (n : Node) (hold count number applied to : ℕ) (c' : Core) (m new : Meaning) → length n.log ≡ n.safe → applied ≡ number → to ≡ min hold applied → AppliedAs beside n hold c' m new (Ok number) → HasRoom beside.links n hold count
    → NoneNeeds beside.links to × (count + 1 + logged_blocks (drop to n.log) ≤ n.ring)
room_after beside n hold count number applied to c' m new many came is done has =
    let less = taken_to hold to n.log (omega (arith, many, came, is, done.0)) in (
      needs_less beside.links hold to (omega (arith, is)) has.unneeded,
      omega (arith, less, has.room),
    )

-- a call that moved the shelf, and then a reclaim
pub room_later : (beside : KeptBeside) (n : Node) (c' : Core) (m mid new : Meaning) (result : Result (Unit {0}) No) → ((d : ℕ) → m.disk_faults d ≤ mid.disk_faults d) → RoomIs beside n mid c' new result → RoomIs beside n m c' new result
room_later beside n c' m mid new (Ok done) later is = is
room_later beside n c' m mid new (Err (Device disk)) later is = (is.0, rose_later (m.disk_faults disk) (mid.disk_faults disk) (new.disk_faults disk) (later disk) is.1)
room_later beside n c' m mid new (Err (Limit what most)) later is = is
room_later beside n c' m mid new (Err Down) later is = is
room_later beside n c' m mid new (Err other) later is = is

saved_by : (r : Option No) (c after : Core) (m new : Meaning) (c' : Core) (done : Unit {0}) → SaveIs r c after m new c' (Ok done) → c' ≡ after
saved_by None c after m new c' done is = is
saved_by (Some why) c after m new c' done is = absurd (let e : Ok done ≡ Err why = is.0 in cc)

-- and leaves room
pub roomed_at : {beside : KeptBeside} (n : Node) (c c' : Core) (m new : Meaning) (to count : ℕ) → IsUpAt beside n c m → to ≤ n.safe → NoneNeeds beside.links to → n.halted ≡ None → free_of c.log ≤ MOST_CALL_BLOCKS → Lawful m → Lawful new
    → Moves (Run c.units.srl 0 (c.log.ring + 2)) (Saving c (reclaimed c to) m) m new → IsFalse new.down → (result : Result (Unit {0}) No) → SaveIs (reclaim_refusal c to) c (reclaimed c to) m new c' result
    → IsSound c' new → count + 1 + logged_blocks (drop to n.log) ≤ n.ring → OnOk result (count < free_of c'.log)
roomed_at n c c' m new to count up below unneeded none less lawful after moves still (Ok done) saves sound room =
    free_reclaimed n c c' m new to up below unneeded none less lawful after moves still count (saved_by (reclaim_refusal c to) c (reclaimed c to) m new c' done saves) sound room
roomed_at n c c' m new to count up below unneeded none less lawful after moves still (Err why) saves sound room = tt

-- ---- a site whose fuse burns twice

held_again : {beside : KeptBeside} (n : Node) (m : Meaning) → IsHeldAt beside (worked n) m → IsHeldAt beside n m
held_again n m held = record {
  lies = held.lies;
  logged = held.logged;
  low = held.low;
  begun = held.begun;
  left = λ i now. site_map (worked n) n i (λ has. record { count = has.count; least = has.least; most = has.most; found = has.found }) (held.left i now);
  may = held.may;
}

roomy_again : {beside : KeptBeside} (n : Node) (c : Core) (m : Meaning) → IsRoomy beside (worked n) c m → IsRoomy beside n c m
roomy_again n c m roomy = record {
  up = roomy.up;
  lies = roomy.lies;
  fuse = subst (λ (f : Fuse). FuseOn f m) (burned_twice n.fuse) roomy.fuse;
  units = roomy.units;
  ring = roomy.ring;
  found = roomy.found;
  kept = roomy.kept;
  linked = roomy.linked;
  session = roomy.session;
  first = roomy.first;
  head = roomy.head;
  running = roomy.running;
  stamp = roomy.stamp;
  takes = roomy.takes;
  content = roomy.content;
}

pub room_again : (beside : KeptBeside) (n : Node) (c' : Core) (m new : Meaning) (result : Result (Unit {0}) No) → RoomIs beside (worked n) m c' new result → RoomIs beside n m c' new result
room_again beside n c' m new (Ok done) is = roomy_again n c' new is
room_again beside n c' m new (Err (Device disk)) is = (subst (λ (f : Fuse). IsUpAt beside (record n { halted = Some disk; fuse = f }) c' new) (burned_twice n.fuse) is.0, is.1)
room_again beside n c' m new (Err (Limit what most)) is = (is.0, is.1, subst (λ (f : Fuse). IsUpAt beside (record n { fuse = f }) c' new) (burned_twice n.fuse) is.2)
room_again beside n c' m new (Err Down) is = (fused_before n.fuse is.0, held_again n new is.1)
room_again beside n c' m new (Err other) is = is

-- an apply leaves the log as it is
pub apply_log : (r : Option No) (c : Core) (count : ℕ) (m new : Meaning) (c' : Core) (result : Result ℕ No) → ApplyIs r c count m new c' result → OnOk result (c'.log ≡ c.log)
apply_log (Some why) c count m new c' (Ok number) is = absurd (let e : Ok number ≡ Err why = is.0 in cc)
apply_log None c count m new c' (Ok number) is = ap (λ (k : Core). k.log) is.1.1
apply_log r c count m new c' (Err why) is = tt

-- the units stay
pub fails_units : (c c' : Core) (m new : Meaning) (why : No) → GroupFails c m new c' why → c'.units ≡ c.units
fails_units c c' m new (Device disk) is = is.0.units
fails_units c c' m new Down is = is.0.units
fails_units c c' m new (Limit what most) is = absurd is
fails_units c c' m new other is = absurd is

pub apply_units : (r : Option No) (c : Core) (count : ℕ) (m new : Meaning) (c' : Core) (result : Result ℕ No) → ApplyIs r c count m new c' result → c'.units ≡ c.units
apply_units (Some why) c count m new c' result is = ap (λ (k : Core). k.units) is.1
apply_units None c count m new c' (Ok number) is = ap (λ (k : Core). k.units) is.1.1
apply_units None c count m new c' (Err why) is = fails_units c c' m new why is

pub save_units : (r : Option No) (c after : Core) (m new : Meaning) (c' : Core) (result : Result (Unit {0}) No) → after.units ≡ c.units → SaveIs r c after m new c' result → c'.units ≡ c.units
save_units (Some why) c after m new c' result same is = ap (λ (k : Core). k.units) is.1
save_units None c after m new c' (Ok done) same is = ap (λ (k : Core). k.units) is ∙ same
save_units None c after m new c' (Err why) same is = fails_units c c' m new why is
