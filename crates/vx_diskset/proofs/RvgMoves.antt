-- Calls on a replicated volume group change no blocks but its own.
use Rattle.std.proofs.Common.{◌≡◌, inl, inr, ℕ, subst}
use Rattle.vx_model.specs.declared.units.Units.{Units}
use Rattle.vx_disk.specs.Moves.{Anything, Moves, Run, Says}
use Rattle.vx_disk.specs.Shelf.{Meaning}
use Rattle.vx_disk.proofs.Moving.{goes_on, still, wider}
use Rattle.vx_rvg.specs.Views.{Core, Waits}
use Rattle.vx_diskset.specs.Shelves.{MovesOn, OfRvg}

-- a call of the log
pub log_moves : (c : Core) (base count : ℕ) (P : Says) (old new : Meaning) → Moves (Run c.units.srl base count) P old new → MovesOn c old new
log_moves c base count P old new moves = wider (Run c.units.srl base count) (OfRvg c.units) P Anything old new moves (λ u b run. inl run.there) (λ i beside is. tt)

-- an apply
pub waits_moves : (c : Core) (m : Meaning) (P : Says) (old new : Meaning) → Moves (Waits c m) P old new → MovesOn c old new
waits_moves c m P old new moves = wider (Waits c m) (OfRvg c.units) P Anything old new moves (λ u b w. inr (w.kept.head.vol, (w.exists, w.there))) (λ i beside is. tt)

-- no call
pub no_moves : (c : Core) (m : Meaning) → MovesOn c m m
no_moves c m = still (OfRvg c.units) Anything m

-- two calls
pub then_moves : (c d : Core) (old mid new : Meaning) → d.units ≡ c.units → MovesOn c old mid → MovesOn d mid new → MovesOn c old new
then_moves c d old mid new same one two =
    goes_on (OfRvg c.units) (OfRvg c.units) Anything Anything old mid new one (subst (λ (u : Units). Moves (OfRvg u) Anything mid new) same two) (λ u b is. is) (λ i beside is. tt)
