-- A write that is put into the log whole, once the maps of links have its regions.
use Rattle.std.proofs.Common.{◌≡◌, ◌∙◌, ℕ, ◌+◌, Bool, [], ◌∷◌, ap}
use Rattle.std.specs.Prelude.{None, if◌then◌else◌}
use Rattle.vx_model.specs.Content.{Write}
use Rattle.vx_history.specs.World.{World}
use Rattle.vx_history.specs.Steps.{written}
use Rattle.vx_history.specs.Events.{links_marked, put_in}
use Rattle.vx_history.specs.Refusals.{says, some_below, is_waited_for}
use Rattle.vx_history.specs.declared.event.Said.{Said}
use Rattle.vx_history.specs.declared.event.Said.TheVariants.{Logged, DoneAt}

-- what is said of it goes by whether a link waits for it, as the links were before it
pub put_says : (w marked new : World) (s number : ℕ) (x : Write) (is : Bool) → number ≡ (w.nodes s).safe → is ≡ some_below w.sites (λ k. is_waited_for k (w.links s k)) → marked ≡ links_marked w s (x ∷ []) → new ≡ written marked s x → says new (if is then Logged (number + 1) else DoneAt (number + 1)) ≡ put_in w s x None
put_says w marked new s number x is same waits marks logs =
    let behind : new ≡ written (links_marked w s (x ∷ [])) s x = logs ∙ ap (λ (v : World). written v s x) marks in
    let answered : Bool → ℕ → Said = λ b n. if b then Logged (n + 1) else DoneAt (n + 1) in
    ap (λ (v : World). says v (answered is number)) behind
    ∙ ap (λ (n : ℕ). says (written (links_marked w s (x ∷ [])) s x) (answered is n)) same
    ∙ ap (λ (b : Bool). says (written (links_marked w s (x ∷ [])) s x) (answered b (w.nodes s).safe)) waits
