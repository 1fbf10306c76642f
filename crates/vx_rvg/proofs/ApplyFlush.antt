-- Data volumes that are flushed, one after another.
use Rattle.std.proofs.Common.{◌≡◌, inl, inr, ⊎_elim, ℕ, ◌+◌, ◌<◌, ◌≤◌, List, Err, IsTrue, sym, ◌∙◌, ap, subst, arith}
use Rattle.std.proofs.lemmas.Bool.{cases_lt}
use Rattle.vx_disk.specs.Causes.{Cause, StaysUp, Works}
use Rattle.vx_disk.specs.Moves.{Anything, Blocks, Moves, Nowhere}
use Rattle.vx_disk.specs.Shelf.{Flushed, Goes, Meaning, Nothing}
use Rattle.vx_disk.specs.declared.shelf.ShelfError.{ShelfError}
use Rattle.vx_disk.specs.declared.shelf.ShelfError.TheVariants.{Fault, Down}
use Rattle.vx_disk.proofs.Causing.{Rose_before}
use Rattle.vx_disk.proofs.Moving.{still, then_goes}
use Rattle.vx_disk.proofs.Runs.{at_rest}
use Rattle.vx_disk.specs.Spends.{Spends}
use Rattle.vx_disk.proofs.Spending.{works_since}
use Rattle.vx_disk.specs.Causes.{DeviceCause, refusal_of}
use Rattle.vx_rvg.specs.Views.{unit_of}
use Rattle.vx_rvg.proofs.WriteLog.{cause_from}

-- ---- what stops several calls

module _ (T : Type 0) (mine : Blocks) (old mid new : Meaning) (moves : Moves mine Anything old mid) where
  -- a call on the shelf failed behind others
  pub cause_stops : (unit : ℕ) (e : ShelfError) → Cause {T = T} mid new unit (Err e) → DeviceCause old new (refusal_of e)
  cause_stops unit (Fault disk) cause = Rose_before (old.disk_faults disk) (mid.disk_faults disk) (new.disk_faults disk) (moves.disk_faults disk) cause.0.disk_count
  cause_stops unit Down cause = cause

  pub later_stops : (e : ShelfError) → DeviceCause mid new (refusal_of e) → DeviceCause old new (refusal_of e)
  later_stops e cause = cause_from old mid new (refusal_of e) moves.disk_faults cause

-- a call that writes nothing behind others
pub then_still : (mine : Blocks) (old mid new : Meaning) → Moves mine Anything old mid → Goes Nothing mid new → Moves mine Anything old new
then_still mine old mid new moves goes = then_goes mine Anything Nothing old mid new moves goes (λ u b v none. absurd none) (λ i each. tt)

-- ---- flushes

-- the volumes before number k are flushed
pub record FlushedTo (vols : List ℕ) (k : ℕ) (old new : Meaning) : Type 0 where
  pub each : (v b : ℕ) (bytes : List ℕ) → v < k → new.leaves (unit_of vols v) b bytes → old.reads (unit_of vols v) b bytes
  pub moves : Moves Nowhere Anything old new
  pub up : (IsTrue old.down → ⊥) → IsTrue new.down → ⊥

pub none_flushed : (vols : List ℕ) (m : Meaning) → FlushedTo vols 0 m m
none_flushed vols m = record { each = λ v b bytes low. absurd (omega (arith, low)); moves = still Nowhere Anything m; up = λ was. was }

-- one volume more
pub flush_more : (vols : List ℕ) (k k' unit : ℕ) (old mid new : Meaning) → k' ≡ k + 1 → unit ≡ unit_of vols k → FlushedTo vols k old mid → Goes Nothing mid new → Flushed unit mid new → StaysUp mid new
    → FlushedTo vols k' old new
flush_more vols k k' unit old mid new next is to goes flushed up = record {
  each = λ v b bytes low left. ⊎_elim
      (λ (below : v < k). to.each v b bytes below (at_rest mid (unit_of vols v) b bytes (goes.leaves (unit_of vols v) b bytes left)))
      (λ (past : k ≤ v).
      let same : v ≡ k = omega (arith, low, past, next) in
      let here : unit_of vols v ≡ unit = ap (λ (n : ℕ). unit_of vols n) same ∙ sym is in
      subst (λ (u : ℕ). old.reads u b bytes) (sym here) (read_before b bytes (flushed.each b bytes (subst (λ (u : ℕ). new.leaves u b bytes) here left))))
      (cases_lt v k);
  moves = then_still Nowhere old mid new to.moves goes;
  up = λ was down. up.after down;
}
  where
    read_before : (b : ℕ) (bytes : List ℕ) → mid.reads unit b bytes → old.reads unit b bytes
    read_before b bytes is = elim (to.moves.reads unit b bytes is) [ inl was ↦ was | inr (inl none) ↦ absurd none | inr (inr down) ↦ absurd (up.before down) ]

-- each of their disks works
pub works_more : (vols : List ℕ) (k k' unit : ℕ) (old mid : Meaning) → k' ≡ k + 1 → unit ≡ unit_of vols k → Spends old mid → Works mid.disks unit → ((v : ℕ) → v < k → Works old.disks (unit_of vols v))
    → (v : ℕ) → v < k' → Works old.disks (unit_of vols v)
works_more vols k k' unit old mid next is spends works each v low = ⊎_elim
    (λ (below : v < k). each v below)
    (λ (past : k ≤ v).
    let same : v ≡ k = omega (arith, low, past, next) in
    subst (λ (u : ℕ). Works old.disks u) (is ∙ ap (λ (n : ℕ). unit_of vols n) (sym same)) (works_since old mid unit spends works))
    (cases_lt v k)
