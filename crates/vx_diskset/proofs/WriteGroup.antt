-- What a write of a site whose log has room answers.
use Rattle.std.proofs.Common.{◌≡◌, ◌∙◌, inl, ⊎_elim, ◌+◌, ◌-◌, ◌<◌, ◌≤◌, ℕ, Bool, true, false, List, [], ◌∷◌, ◌++◌, length, ap, sym, subst, refl, arith, IsTrue, length-append}
use Rattle.std.specs.Prelude.{IsFalse, Option, Some, None, Result, Ok, Err, OnOk, IsSome, leb, ltb, if◌then◌else◌}
use Rattle.std.proofs.lemmas.Bool.Decides.{nat_tests}
use Rattle.vx_model.specs.Answer.{is_too_large}
use Rattle.vx_model.specs.Sites.{is_origin}
use Rattle.vx_model.specs.Content.{Write, blocks_in}
use Rattle.vx_history.specs.Events.{logged_blocks}
use Rattle.vx_history.specs.Steps.{logged, half_begun, burned, worked}
use Rattle.vx_history.specs.World.{Node, Fuse}
use Rattle.vx_model.specs.declared.no.No.{No}
use Rattle.vx_model.specs.declared.no.No.TheVariants.{Device, Limit, Down, Size, Range}
use Rattle.vx_model.specs.declared.units.Units.{Units}
use Rattle.vx_srl.specs.Views.{most_number, kept_record}
use Rattle.vx_srl.specs.declared.kept.Kept.{Kept}
use Rattle.vx_disk.specs.Racks.{IsRack}
use Rattle.vx_diskset.specs.Holds.{KeptBeside}
use Rattle.vx_disk.specs.Counts.{Rose}
use Rattle.vx_disk.specs.Shelf.{Meaning, Image, Lawful}
use Rattle.vx_disk.specs.Moves.{Moves, Run}
use Rattle.vx_disk.specs.declared.shelf.Shelf.{Ghosts}
use Rattle.vx_rvg.specs.declared.group.Rvg.{Rvg}
use Rattle.vx_diskset.specs.declared.disk_set.DiskSet.{DiskSet}
use Rattle.vx_diskset.specs.declared.disk_set.DiskSet.TheVariants.{Up}
use Rattle.vx_rvg.specs.Groups.{halted_or, write_refusal, WriteIs, Writes, core_with_write}
use Rattle.vx_rvg.specs.Holdings.{Holding, with_writes}
use Rattle.vx_rvg.specs.Stands.{Writing, Stands}
use Rattle.vx_rvg.specs.Views.{Core, IsSound, last_of, unit_of}
use Rattle.vx_diskset.specs.DiskSets.{CanLog, halted_with, LoggedUp, no_number, WroteUp}
use Rattle.vx_diskset.specs.Holds.{HasWrites}
use Rattle.vx_diskset.specs.Layouts.{LiesOn}
use Rattle.vx_diskset.specs.Holds.{most_header}
use Rattle.vx_diskset.specs.Needs.{TakesAs}
use Rattle.vx_diskset.specs.Rooms.{IsRoomy, RoomIs}
use Rattle.vx_diskset.specs.Fuses.{IsFirstLog}
use Rattle.vx_diskset.specs.Fuses.{FuseOn}
use Rattle.vx_history.specs.Stops.{IsFused}
use Rattle.vx_events.specs.Fuses.{IsExact}
use Rattle.vx_diskset.specs.Stands.{IsUpAt, IsHeldAt, IsUngrouped}
use Rattle.vx_diskset.specs.Shelves.{IsRackOf, LoggedAs}
use Rattle.vx_diskset.proofs.Blamed.{disks_are}
use Rattle.vx_history.proofs.Fuses.{burned_twice, fused_before}
use Rattle.vx_diskset.proofs.ApplyGroup.{ended_log}
use Rattle.vx_diskset.proofs.BesideLemmas.{never_besides, site_map}
use Rattle.vx_diskset.proofs.ExactWrite.{first_pushed, taken_push}
use Rattle.vx_diskset.proofs.WriteLeaves.{has_begun, half_begins, has_half, has_whole, has_safe, half_of, up_half, up_logged}
use Rattle.vx_diskset.proofs.Laying.{laid_in, lies_moved}
use Rattle.vx_diskset.proofs.LastWrites.{stands_with, write_with, writing_found}
use Rattle.vx_diskset.proofs.MakeRoom.{rose_later}
use Rattle.vx_diskset.proofs.NeedLemmas.{takes_push}
use Rattle.vx_diskset.proofs.StaysUp.{told_now, up_worked, never_both, left_moved, fused_by, fuse_moved}

-- what a write answers of a site
abbrev pub WroteAs : KeptBeside → Node → Write → Meaning → Core → Meaning → Result ℕ No → Type 0
WroteAs beside n x m c' new (Ok number) = (number ≡ n.safe + 1) × (n.safe < most_number) × IsUpAt beside (logged n x) c' new × (is_origin n.role ≡ true → (calls : ℕ) → IsTrue new.tells → IsRackOf n new → IsExact n x calls → 4 ≤ calls)
WroteAs beside n x m c' new (Err (Device disk)) = IsUpAt beside (halted_with n x disk) c' new × Rose (m.disk_faults disk) (new.disk_faults disk)
WroteAs beside n x m c' new (Err (Limit what most)) = (Limit what most ≡ no_number) × (IsTrue new.tells → most_number ≤ most_header beside n) × IsUpAt beside (worked n) c' new
WroteAs beside n x m c' new (Err Down) = IsFused n.fuse × IsHeldAt beside (half_begun n x) new × (is_origin n.role ≡ true → (calls : ℕ) → IsTrue new.tells → IsRackOf n new → IsExact n x calls → calls < 4)
WroteAs beside n x m c' new (Err other) = ⊥

-- the tests of a write of which only the number is not known to pass
abbrev tests : ℕ → ℕ → ℕ → ℕ → ℕ → Option No
tests ring size start count last =
    if is_too_large ring count then Some Size else if ltb size (start + count) then Some Range else if leb most_number last then Some no_number else None

abbrev number_test : ℕ → Option No
number_test last = if leb most_number last then Some no_number else None

tests_by : (a b : Bool) (rest : Option No) → a ≡ false → b ≡ false → (if a then Some Size else if b then Some Range else rest) ≡ rest
tests_by false false rest ea eb = refl
tests_by true b rest ea eb = absurd (cc)
tests_by false true rest ea eb = absurd (cc)

tests_pass : (ring size start count last : ℕ) → count + 1 ≤ ring → start + count ≤ size → tests ring size start count last ≡ number_test last
tests_pass ring size start count last fits within = tests_by (ltb ring (count + 1)) (ltb size (start + count)) (number_test last) (grind (arith, nat_tests)) (grind (arith, nat_tests))

data Number (last : ℕ) (o : Option No) : Type 0 where
  NoneLeft : most_number ≤ last → o ≡ Some no_number → Number last o
  SomeLeft : last < most_number → o ≡ None → Number last o

number_by : (last : ℕ) (b : Bool) → leb most_number last ≡ b → Number last (if b then Some no_number else None)
number_by last true is = NoneLeft (grind (arith, nat_tests)) refl
number_by last false is = SomeLeft (grind (arith, nat_tests)) refl

-- the number of the last record, with one more
pub pushed : (low : ℕ) (held staged : List Kept) (k : Kept) → 0 < low → length staged ≡ 0 → low + length (held ++ (staged ++ k ∷ [])) - 1 ≡ low + length held - 1 + 1
pushed low held staged k first idle = omega (arith, first, idle, length-append held (staged ++ k ∷ []), length-append staged (k ∷ []))

module _ {beside : KeptBeside} (n : Node) (volume start : ℕ) (bytes : List ℕ) (c0 c c' : Core) (m0 m new : Meaning) (up : IsUpAt beside n c0 m0) (can : CanLog n volume start (blocks_in bytes)) (roomy : IsRoomy beside n c m)
    (before : IsTrue m.tells → IsTrue m0.tells) (lawful : Lawful m) (after : Lawful new) (sound : IsSound c m) (sound' : IsSound c' new)
    (moves : Moves (Run c.units.srl 0 (c.log.ring + 2)) (Writing c (record { volume = volume; start = start; bytes = bytes } ∷ []) m) m new) where
  abbrev x : Write
  x = record { volume = volume; start = start; bytes = bytes }

  many : length n.log ≡ n.safe
  many = omega (arith, up.logged, up.durable can.running)

  -- the unit of the volume has the volume's blocks
  size : m.size (unit_of c.units.vols volume) ≡ n.base.size volume
  size = ap (λ (u : Units). m.size (unit_of u.vols volume)) roomy.units ∙ sym ((laid_in n m roomy.lies).each volume can.volume_exists)

  fuse_new : FuseOn (burned n.fuse) new
  fuse_new = subst (λ (f : Fuse). FuseOn f new) (burned_twice n.fuse) (fuse_moved (burned n.fuse) (Run c.units.srl 0 (c.log.ring + 2)) (Writing c (x ∷ []) m) m new moves roomy.fuse)

  -- what a crash leaves of a write that a disk ended
  half_left : (disk : ℕ) (i : Image) → new.now i → HasWrites beside (halted_with n x disk) i
  half_left disk i now =
      let told : IsTrue m.tells = sym moves.tells ∙ told_now new i after now in
      ⊎_elim
      (λ was. has_half n x disk i (has_safe n c m i roomy told many (stands_with c n.log n.base m i sound.log_unit lawful (roomy.content told) was)))
      (λ writing. ⊎_elim
      (λ old. has_half n x disk i (has_safe n c m i roomy told many old))
      (λ whole. has_whole n c m x disk i roomy told many whole)
      (writing_found c n.log x n.base m i writing (roomy.content told)))
      (left_moved (Run c.units.srl 0 (c.log.ring + 2)) (Writing c (x ∷ []) m) m new i lawful after moves now)

  begun_new : IsTrue new.tells → 0 < n.session
  begun_new told = up.begun (before (sym moves.tells ∙ told))

  -- its fuse ran out
  pub write_cut : IsTrue new.down → IsFused n.fuse × IsHeldAt beside (half_begun n x) new
  write_cut down = (
    fused_before n.fuse (fused_by (burned n.fuse) (Run c.units.srl 0 (c.log.ring + 2)) (Writing c (x ∷ []) m) m new moves roomy.fuse roomy.up down),
    record {
      lies = lies_moved n (Run c.units.srl 0 (c.log.ring + 2)) (Writing c (x ∷ []) m) m new moves roomy.lies;
      logged = omega (arith, up.logged, length-append n.log (x ∷ []));
      low = up.low;
      begun = begun_new;
      left = λ i now. inl (half_begins n x 0 i (half_left 0 i now));
      may = never_besides beside.doubt new (up.sure can.running);
    },
  )

  head_more : c' ≡ core_with_write c volume start bytes → last_of c' ≡ last_of c + 1
  head_more is =
      ap (λ (k : Core). last_of k) is
      ∙ pushed c.log.header.low c.log.held c.log.staged (kept_record c.log volume start bytes) roomy.first (ap (λ (ks : List Kept). length ks) (sound.idle roomy.running roomy.up))

  takes_more : c' ≡ core_with_write c volume start bytes → TakesAs c'.log (n.log ++ x ∷ [])
  takes_more is =
      takes_push c.log c'.log (kept_record c.log volume start bytes) n.log x roomy.first (omega (arith, roomy.first, roomy.head, many)) (ap (λ (k : Core). k.log.header.low) is)
      (ap (λ (k : Core). k.log.held) is ∙ ap (λ (ks : List Kept). c.log.held ++ (ks ++ kept_record c.log volume start bytes ∷ [])) (sound.idle roomy.running roomy.up)) refl roomy.takes

  -- the shelf is up behind it
  module _ (below_most : n.safe < most_number) (still : IsFalse new.down) (first : is_origin n.role ≡ true → IsTrue m.tells → n.session ≡ 1 → logged_blocks n.log + (blocks_in bytes + 1) ≤ n.ring → IsFirstLog c.log n.log) where
    lies_new : LiesOn n new
    lies_new = lies_moved n (Run c.units.srl 0 (c.log.ring + 2)) (Writing c (x ∷ []) m) m new moves roomy.lies

    by_writes : (result : Result ℕ No) → last_of c < most_number → Writes c volume start bytes m new c' result → OnOk result ((h : Holding) → Stands c h m → Stands c' (with_writes (x ∷ []) h) new)
        → (is_origin n.role ≡ true → (calls : ℕ) → IsTrue new.tells → IsRackOf n new → IsExact n x calls → OnOk result (4 ≤ calls)) → WroteAs beside n x m c' new result
    by_writes (Ok number) below is stands exact = (
      is.0 ∙ ap (λ (k : ℕ). k + 1) roomy.head,
      omega (arith, below, roomy.head),
      up_logged n x c0 c c' m0 m new up can.running roomy after sound'.log_unit moves.tells still lies_new fuse_new begun_new
          (λ origin told one room. first_pushed c c' n.log volume start bytes is.1 (sound.idle roomy.running roomy.up) (first origin (sym moves.tells ∙ told) one (let more = taken_push n.log x in omega (arith, room, more))))
          (takes_more is.1)
          (ap (λ (k : Core). k.units) is.1) (ap (λ (k : Core). k.log.ring) is.1)
          (ap (λ (k : Core). k.log.header) is.1) (ap (λ (k : Core). k.halted) is.1) (head_more is.1) (λ told. write_with c c' n.log x n.base m new (ap (λ (k : Core). k.log.ring) is.1) (ap (λ (k : Core). k.log.header) is.1) stands (roomy.content (sym moves.tells ∙ told))),
      exact,
    )
    by_writes (Err (Device disk)) below is stands exact = (up_half n x disk c0 c c' m0 m new up roomy moves.tells still lies_new fuse_new begun_new (ended_log c (Some disk) c' is.0) is.0.halted_is (up.sure can.running) (half_left disk), is.1)
    by_writes (Err Down) below is stands exact = absurd (never_both new.down is.1 still)
    by_writes (Err (Limit what most)) below is stands exact = absurd is
    by_writes (Err other) below is stands exact = is

    by_number : (o : Option No) (result : Result ℕ No) → Number (last_of c) o → WriteIs o c volume start bytes m new c' result → (IsSome o → new ≡ m)
        → OnOk result ((h : Holding) → Stands c h m → Stands c' (with_writes (x ∷ []) h) new) → (is_origin n.role ≡ true → (calls : ℕ) → IsTrue new.tells → IsRackOf n new → IsExact n x calls → OnOk result (4 ≤ calls)) → WroteAs beside n x m c' new result
    by_number o result (SomeLeft below is_none) is unchanged stands exact = by_writes result below (subst (λ (k : Option No). WriteIs k c volume start bytes m new c' result) is_none is) stands exact
    by_number o result (NoneLeft past is_some) is unchanged stands exact = absurd (omega (arith, past, below_most, roomy.head))

    -- what a write answers
    pub written_as : (result : Result ℕ No) → WriteIs (write_refusal c (m.size (unit_of c.units.vols volume)) start (blocks_in bytes)) c volume start bytes m new c' result
        → (IsSome (write_refusal c (m.size (unit_of c.units.vols volume)) start (blocks_in bytes)) → new ≡ m)
        → OnOk result ((h : Holding) → Stands c h m → Stands c' (with_writes (x ∷ []) h) new) → (is_origin n.role ≡ true → (calls : ℕ) → IsTrue new.tells → IsRackOf n new → IsExact n x calls → OnOk result (4 ≤ calls)) → WroteAs beside n x m c' new result
    written_as result is unchanged stands exact =
        let refusal : write_refusal c (m.size (unit_of c.units.vols volume)) start (blocks_in bytes) ≡ number_test (last_of c)
        = ap (λ (h : Option ℕ). halted_or h (tests c.log.ring (m.size (unit_of c.units.vols volume)) start (blocks_in bytes) (last_of c))) roomy.running
        ∙ tests_pass c.log.ring (m.size (unit_of c.units.vols volume)) start (blocks_in bytes) (last_of c) (omega (arith, can.fits, roomy.ring)) (omega (arith, can.within, size)) in
        by_number (number_test (last_of c)) result (number_by (last_of c) (leb most_number (last_of c)) refl)
        (subst (λ (o : Option No). WriteIs o c volume start bytes m new c' result) refusal is)
        (subst (λ (o : Option No). IsSome o → new ≡ m) refusal unchanged) stands exact

held_begun : {beside : KeptBeside} (n : Node) (x : Write) (m : Meaning) → IsHeldAt beside n m → IsHeldAt beside (half_begun n x) m
held_begun n x m held = record {
  lies = held.lies;
  logged = omega (arith, held.logged, length-append n.log (x ∷ []));
  low = held.low;
  begun = held.begun;
  left = λ i now. site_map n (half_begun n x) i (λ has. has_begun n x i has) (held.left i now);
  may = held.may;
}

-- room that was not made refuses the write
pub unroomed : (beside : KeptBeside) (n : Node) (x : Write) (c' : Core) (m new : Meaning) (no : No) → (is_origin n.role ≡ true → (calls : ℕ) → IsTrue new.tells → IsRackOf n new → IsExact n x calls → ⊥) → RoomIs beside n m c' new (Err no) → WroteAs beside n x m c' new (Err no)
unroomed beside n x c' m new (Device disk) never is = (half_of n x disk c' new is.0, is.1)
unroomed beside n x c' m new (Limit what most) never is = is
unroomed beside n x c' m new Down never is = (is.0, held_begun n x new is.1, λ origin calls told rack exact. absurd (never origin calls told rack exact))
unroomed beside n x c' m new other never is = is

-- a call that moved the shelf, and then the write
pub wrote_later : (beside : KeptBeside) (n : Node) (x : Write) (c' : Core) (m mid new : Meaning) (result : Result ℕ No) → ((d : ℕ) → m.disk_faults d ≤ mid.disk_faults d) → WroteAs beside n x mid c' new result → WroteAs beside n x m c' new result
wrote_later beside n x c' m mid new (Ok number) later is = is
wrote_later beside n x c' m mid new (Err (Device disk)) later is = (is.0, rose_later (m.disk_faults disk) (mid.disk_faults disk) (new.disk_faults disk) (later disk) is.1)
wrote_later beside n x c' m mid new (Err (Limit what most)) later is = is
wrote_later beside n x c' m mid new (Err Down) later is = is
wrote_later beside n x c' m mid new (Err other) later is = is

-- what a write answers, below the greatest number
pub wrote_at : (beside : KeptBeside) (n : Node) (x : Write) (c' : Core) (m new : Meaning) (result : Result ℕ No) → n.safe < most_number → WroteAs beside n x m c' new result → LoggedAs beside n x m c' new result
wrote_at beside n x c' m new (Ok number) below is = is
wrote_at beside n x c' m new (Err (Device disk)) below is = (is.0, is.1, below)
wrote_at beside n x c' m new (Err (Limit what most)) below is = is
wrote_at beside n x c' m new (Err Down) below is = (is.0, is.1, is.2, below)
wrote_at beside n x c' m new (Err other) below is = is

-- no number is left
pub wrote_none : {beside : KeptBeside} (n : Node) (x : Write) (c : Core) (m : Meaning) → IsUpAt beside n c m → most_number ≤ last_of c → LoggedAs beside n x m c m (Err no_number)
wrote_none n x c m up full = (refl, (λ told. omega (arith, full, up.head)), up_worked n c m up)

-- ---- the same of disk sets

module _ {R : Type 0} {g : Ghosts R} where
  -- a write over a rack
  pub logged_at : (beside : KeptBeside) (n : Node) (x : Write) (old new : Rvg R g) (result : Result ℕ No) → IsUngrouped beside n → IsRack (g.meaning new.shelf) → LoggedAs beside n x (g.meaning old.shelf) new.core (g.meaning new.shelf) result → LoggedUp beside n x (Up old) (Up new) result
  logged_at beside n x old new (Ok number) raw rack is = (is.0, is.1, (raw, is.2), λ origin calls told exact. is.3 origin calls told (λ none. disks_are (g.meaning new.shelf) rack) exact)
  logged_at beside n x old new (Err (Device disk)) raw rack is = ((raw, is.0), is.1, is.2)
  logged_at beside n x old new (Err (Limit what most)) raw rack is = (is.0, is.1, (raw, is.2))
  logged_at beside n x old new (Err Down) raw rack is = (is.0, (raw, is.1), (λ origin calls told exact. is.2 origin calls told (λ none. disks_are (g.meaning new.shelf) rack) exact), is.3)
  logged_at beside n x old new (Err other) raw rack is = is

  -- a write of an origin
  pub logged_wrote : (beside : KeptBeside) (n : Node) (x : Write) (old new : DiskSet R g) (result : Result ℕ No) → is_origin n.role ≡ true → LoggedUp beside n x old new result → WroteUp beside n x old new result
  logged_wrote beside n x old new (Ok number) origin h = (h.0, h.1, h.2, λ calls told exact. h.3 origin calls told exact)
  logged_wrote beside n x old new (Err (Device disk)) origin h = h
  logged_wrote beside n x old new (Err (Limit what most)) origin h = h
  logged_wrote beside n x old new (Err Down) origin h = (h.0, h.1, (λ calls told exact. h.2 origin calls told exact), h.3)
  logged_wrote beside n x old new (Err other) origin h = h
