-- Worlds with the same sites and nodes are the same to a yard.
use Rattle.std.proofs.Common.{◌≡◌, ℕ, refl}
use Rattle.std.specs.Prelude.{eqb}
use Rattle.vx_history.proofs.Fuses.{burned_twice}
use Rattle.vx_history.proofs.Updates.{by_test, eqb_equal}
use Rattle.vx_history.specs.Steps.{burned}
use Rattle.vx_history.specs.World.{Fuse, updated}

pub apart_place : {A : Type 0} (f : ℕ → A) (s : ℕ) (x : A) (k : ℕ) → (k ≡ s → ⊥) → updated f s x k ≡ f k
apart_place f s x k apart = by_test (λ r. r ≡ f k) (eqb k s) x (f k) (λ e. absurd (apart (eqb_equal k s e))) (λ _. refl)

pub burnt : (f : Fuse) → burned (burned f) ≡ burned f
burnt f = burned_twice f
