-- One member more.
use Rattle.std.proofs.Common.{◌≡◌, List, [], ◌∷◌, ◌++◌, length, subst, ⊎_elim, Some, slice_get}
use Rattle.vx_turn.proofs.Dealing.{get-snoc}
use Rattle.vx_burst_threads.specs.declared.plan.Planned.{Planned}
use Rattle.vx_burst_threads.specs.Planning.{AllCalls, IsCall}

pub calls-none : (xs : List Planned) → xs ≡ [] → AllCalls xs
calls-none xs is k x at = absurd (cc (subst (λ l. slice_get l k ≡ Some x) is at))

pub calls-more : (xs ys : List Planned) (pl : Planned) → ys ≡ xs ++ pl ∷ [] → IsCall pl → AllCalls xs → AllCalls ys
calls-more xs ys pl is one all k x at = ⊎_elim (λ (o : slice_get xs k ≡ Some x). all k x o) (λ (o : (k ≡ length xs) × (pl ≡ x)). subst IsCall o.1 one)
    (get-snoc xs pl x k (subst (λ l. slice_get l k ≡ Some x) is at))
