-- What an apply leaves of a site that is up.
use Rattle.std.proofs.Common.{◌≡◌, inl, ⊎_elim, ℕ, ◌≤◌, length, Option, Some, None, IsTrue, sym, ◌∙◌, ap, subst, arith}
use Rattle.std.specs.Prelude.{min, max, Result, Ok, Err, OnOk, IsFalse}
use Rattle.vx_history.specs.Steps.{burned, worked}
use Rattle.vx_history.specs.World.{Node}
use Rattle.vx_model.specs.declared.no.No.{No}
use Rattle.vx_model.specs.declared.no.No.TheVariants.{Device, Down}
use Rattle.vx_diskset.specs.Holds.{KeptBeside}
use Rattle.vx_disk.specs.Shelf.{Meaning, Image, Lawful}
use Rattle.vx_disk.specs.Moves.{Moves}
use Rattle.vx_rvg.specs.Groups.{ApplyIs, Applies, Ended, halted_or, core_applied}
use Rattle.vx_rvg.specs.Stands.{Resting, Rests}
use Rattle.vx_rvg.specs.Views.{Core, IsSound, Waits, last_of}
use Rattle.vx_diskset.specs.DiskSets.{CanApply, halted_at, AppliedUp}
use Rattle.vx_diskset.specs.Holds.{HasSite}
use Rattle.vx_diskset.specs.Rooms.{AppliedAs}
use Rattle.vx_diskset.specs.Fuses.{FuseOn}
use Rattle.vx_history.specs.Stops.{IsFused}
use Rattle.vx_diskset.specs.Stands.{IsUpAt, IsHeldAt, IsUngrouped}
use Rattle.vx_diskset.proofs.LastWrites.{rests_with, resting_found}
use Rattle.vx_diskset.proofs.StaysUp.{whole_held, told_now, never_both, left_moved, up_found, SameLog, up_with, held_moved, fused_by, fuse_moved}
use Rattle.vx_diskset.specs.declared.disk_set.DiskSet.{DiskSet}
use Rattle.vx_diskset.specs.declared.disk_set.DiskSet.TheVariants.{Up}
use Rattle.vx_disk.specs.declared.shelf.Shelf.{Ghosts}
use Rattle.vx_rvg.specs.declared.group.Rvg.{Rvg}

-- a log with nothing changed beside
pub applied_log : (c : Core) (number k : ℕ) (c' : Core) → c' ≡ core_applied c number k → SameLog c c'
applied_log c number k c' is = record {
  units = ap (λ (x : Core). x.units) is;
  ring = ap (λ (x : Core). x.log.ring) is;
  header = ap (λ (x : Core). x.log.header) is;
  held = ap (λ (x : Core). x.log.held) is;
}

pub ended_log : (c : Core) (h : Option ℕ) (c' : Core) → Ended c h c' → SameLog c c'
ended_log c h c' ended = record { units = ended.units; ring = ended.ring; header = ended.header; held = ended.held }

module _ {beside : KeptBeside} (n : Node) (c c' : Core) (m new : Meaning) (up : IsUpAt beside n c m) (can : CanApply n) (lawful : Lawful m) (after : Lawful new)
    (moves : Moves (Waits c m) (Resting c m) m new) where
  -- whatever a crash leaves behind it
  rested : (i : Image) → new.now i → HasSite beside n i
  rested i now =
      let told : IsTrue m.tells = sym moves.tells ∙ told_now new i after now in
      ⊎_elim (λ was. up.left i was) (λ resting. inl (up_found n c m i up can.running told (resting_found c n.log n.base m i resting (up.content can.running told))))
      (left_moved (Waits c m) (Resting c m) m new i lawful after moves now)

  fuse : FuseOn (burned n.fuse) new
  fuse = fuse_moved n.fuse (Waits c m) (Resting c m) m new moves up.fuse

  -- it is up as before
  pub applied_up : IsFalse new.down → Rests c c' m new → (number k : ℕ) → c' ≡ core_applied c number k → IsUpAt beside (worked n) c' new
  applied_up still rests number k is =
      up_with n c c' m new n.halted (burned n.fuse) (Waits c m) (Resting c m) moves still fuse up (applied_log c number k c' is) (ap (λ (x : Core). x.halted) is ∙ up.halted) (λ none. none)
      (λ none told. rests_with c c' n.log n.base m new (applied_log c number k c' is).ring (applied_log c number k c' is).header rests (up.content none (sym moves.tells ∙ told))) rested

  -- or halted
  pub applied_halted : IsFalse new.down → (disk : ℕ) → Ended c (Some disk) c' → IsUpAt beside (halted_at n disk) c' new
  applied_halted still disk ended =
      up_with n c c' m new (Some disk) (burned n.fuse) (Waits c m) (Resting c m) moves still fuse up (ended_log c (Some disk) c' ended) ended.halted_is (λ none. cc)
      (λ none. absurd (never none)) rested
    where
      never : {k : ℕ} → Some k ≡ None → ⊥
      never e = cc

-- an apply whose fuse ran out
pub applied_cut : {beside : KeptBeside} (n : Node) (c : Core) (m new : Meaning) → IsUpAt beside n c m → CanApply n → Lawful m → Lawful new → Moves (Waits c m) (Resting c m) m new → IsTrue new.down → IsFused n.fuse × IsHeldAt beside n new
applied_cut n c m new up can lawful after moves down = (
  fused_by n.fuse (Waits c m) (Resting c m) m new moves up.fuse up.up down,
  held_moved n c m new (Waits c m) (Resting c m) moves up (rested n c c m new up can lawful after moves),
)

-- the number that it answers is how far it came
pub applied_reached : (r : Option No) (c : Core) (to : ℕ) (m new : Meaning) (c' : Core) (number : ℕ) → ApplyIs r c to m new c' (Ok number) → c'.applied ≡ number
applied_reached None c to m new c' number is = ap (λ (x : Core). x.applied) is.1.1
applied_reached (Some why) c to m new c' number is = absurd (let e : Ok number ≡ Err why = is.0 in cc)

-- the number that an apply answers
reached : (applied to last safe number : ℕ) → applied ≤ last → last ≡ safe → number ≡ max applied (min to last) → (min to safe ≤ number) × (number ≤ safe)
reached applied to last safe number known head is = (omega arith, omega arith)

by_result : {beside : KeptBeside} (n : Node) (to : ℕ) (c c' : Core) (m new : Meaning) (result : Result ℕ No) → IsUpAt beside n c m → CanApply n → IsSound c m → Lawful m → Lawful new → IsFalse new.down
    → Applies c to m new c' result → OnOk result (Rests c c' m new) → Moves (Waits c m) (Resting c m) m new → AppliedAs beside n to c' m new result
by_result n to c c' m new (Ok number) up can sound lawful after still applies rests moves =
    let number_is = reached c.applied to (last_of c) n.safe number sound.known up.head applies.0 in
    (number_is.0, number_is.1, applied_up n c c' m new up can lawful after moves still rests number applies.1.0 applies.1.1)
by_result n to c c' m new (Err (Device disk)) up can sound lawful after still fails rests moves = (applied_halted n c c' m new up can lawful after moves still disk fails.0, fails.1)
by_result n to c c' m new (Err Down) up can sound lawful after still fails rests moves = absurd (never_both new.down fails.1 still)
by_result n to c c' m new (Err other) up can sound lawful after still fails rests moves = fails

-- an apply after which the shelf is up
pub applied_as : {beside : KeptBeside} (n : Node) (to : ℕ) (c c' : Core) (m new : Meaning) (result : Result ℕ No) → IsUpAt beside n c m → CanApply n → IsSound c m → Lawful m → Lawful new → IsFalse new.down
    → ApplyIs (halted_or c.halted None) c to m new c' result → OnOk result (Rests c c' m new) → Moves (Waits c m) (Resting c m) m new → AppliedAs beside n to c' m new result
applied_as n to c c' m new result up can sound lawful after still is rests moves =
    by_result n to c c' m new result up can sound lawful after still
    (subst (λ (o : Option ℕ). ApplyIs (halted_or o None) c to m new c' result) (up.halted ∙ can.running) is) rests moves

module _ {R : Type 0} {g : Ghosts R} where
  -- an apply over a rack
  pub applied_at : (beside : KeptBeside) (n : Node) (to : ℕ) (old : DiskSet R g) (rvg new : Rvg R g) (result : Result ℕ No) → old ≡ Up rvg → IsUngrouped beside n → length n.log ≤ n.safe → AppliedAs beside n to new.core (g.meaning rvg.shelf) (g.meaning new.shelf) result → AppliedUp beside n to old (Up new) result
  applied_at beside n to old rvg new result is raw whole it = subst (λ (e : DiskSet R g). AppliedUp beside n to e (Up new) result) (sym is) (by result it)
    where
      by : (r : Result ℕ No) → AppliedAs beside n to new.core (g.meaning rvg.shelf) (g.meaning new.shelf) r → AppliedUp beside n to (Up rvg) (Up new) r
      by (Ok number) h = (h.0, h.1, (raw, h.2))
      by (Err (Device disk)) h = ((raw, h.0), h.1)
      by (Err Down) h = (h.0, (raw, whole_held n (g.meaning new.shelf) whole h.1))
      by (Err other) h = h
