-- Volumes that are unsure stay so.
use Rattle.std.proofs.Common.{◌≡◌, ◌∙◌, ◌⊎◌, inl, inr, ℕ, Bool, true, false, List, ap, sym}
use Rattle.std.specs.Prelude.{Err, Ok, Result}
use Rattle.std.proofs.lemmas.Bool.{both_ways, cases_eq}
use Rattle.vx_disk.specs.declared.shelf.ShelfError.{ShelfError}
use Rattle.vx_disk.specs.declared.shelf.ShelfError.TheVariants.{Fault, Down}
use Rattle.vx_kept.specs.Cleans.{is_unsure}
use Rattle.vx_group.specs.Blames.{MarkedUnsure, MarksOn, MarksUnsure}
use Rattle.vx_group.specs.Finds.{MoreUnsure}

pub same_unsure : (old new : List Bool) → new ≡ old → MoreUnsure old new
same_unsure old new same v is = ap (λ (xs : List Bool). is_unsure xs v) (sym same) ∙ is

pub then_unsure : (a b c : List Bool) → MoreUnsure a b → MoreUnsure b c → MoreUnsure a c
then_unsure a b c one two v is = one v (two v is)

pub marked_unsure : (v : ℕ) (old new : List Bool) → MarkedUnsure v old new → MoreUnsure old new
marked_unsure v old new it w is = elim (cases_eq w v) [
  | inl same ↦ absurd (both_ways (is_unsure new w) is (ap (λ (k : ℕ). is_unsure new k) same ∙ it.here))
  | inr apart ↦ sym (it.others w apart) ∙ is
]

pub error_unsure : (error : ShelfError) (v : ℕ) (old new : List Bool) → MarksUnsure error v old new → MoreUnsure old new
error_unsure (Fault disk) v old new it = marked_unsure v old new it
error_unsure Down v old new it = same_unsure old new it

pub done_unsure : {T : Type 0} (v : ℕ) (old new : List Bool) (r : Result T ShelfError) → MarksOn v old new r → MoreUnsure old new
done_unsure v old new (Ok x) it = same_unsure old new it
done_unsure v old new (Err error) it = error_unsure error v old new it
