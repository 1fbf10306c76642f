-- Earlier moments of disks in memory, after one more was noted.
use Rattle.std.proofs.Common.{◌≡◌, ◌⊎◌, inl, inr, ⊎_elim, ℕ, zero, suc, ◌≤◌, List, [], ◌∷◌, ◌++◌, length, drop, Vec, refl, sym, ◌∙◌, ap, subst, arith}
use Rattle.std.specs.declared.alloc.Global.{Global}
use Rattle.vx_disk.specs.declared.unit.MemUnit.{MemUnit}
use Rattle.vx_disk.specs.Shelf.{Image, Each}
use Rattle.vx_disk.specs.Memory.{may_keep, Was, Since}

abbrev pub States : Type 0
States = List (Vec MemUnit Global)

more : (past : States) (state : Vec MemUnit Global) (i : Image) → Was past i → Was (past ++ state ∷ []) i
more [] state i was = absurd was
more (s ∷ past) state i (inl here) = inl here
more (s ∷ past) state i (inr there) = inr (more past state i there)

newest : (past : States) (state : Vec MemUnit Global) (i : Image) → Each (may_keep state.items) i → Was (past ++ state ∷ []) i
newest [] state i each = inl each
newest (s ∷ past) state i each = inr (newest past state i each)

which : (past : States) (state : Vec MemUnit Global) (i : Image) → Was (past ++ state ∷ []) i → Was past i ⊎ Each (may_keep state.items) i
which [] state i (inl here) = inr here
which [] state i (inr none) = absurd none
which (s ∷ past) state i (inl here) = inl (inl here)
which (s ∷ past) state i (inr there) = ⊎_elim (λ was. inl (inr was)) (λ now. inr now) (which past state i there)

drop_push : (t : ℕ) (past : States) (state : Vec MemUnit Global) → t ≤ length past → drop t (past ++ state ∷ []) ≡ drop t past ++ state ∷ []
drop_push zero past state le = refl
drop_push (suc t) [] state le = absurd (omega arith)
drop_push (suc t) (s ∷ past) state le = drop_push t past state (omega arith)

-- the state before has joined the past
module _ (state : Vec MemUnit Global) (past past' : States) (pushed : past' ≡ past ++ state ∷ []) (t : ℕ) (i : Image) (le : t ≤ length past) where
  at : drop t past' ≡ drop t past ++ state ∷ []
  at = ap (drop t) pushed ∙ drop_push t past state le

  pub was-since : Was (drop t past') i → Since state.items past t i
  was-since was = ⊎_elim (λ old. inr old) (λ now. inl now) (which (drop t past) state i (subst (λ (l : States). Was l i) at was))

  pub since-was : Since state.items past t i → Was (drop t past') i
  since-was left = subst (λ (l : States). Was l i) (sym at) (⊎_elim (λ now. newest (drop t past) state i now) (λ was. more (drop t past) state i was) left)
