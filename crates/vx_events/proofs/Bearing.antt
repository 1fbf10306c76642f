-- The failed calls in spite of which a line is done.
use Rattle.std.proofs.Common.{◌≡◌, ◌∷◌, [], false, true, refl, subst, sym}
use Rattle.std.specs.Prelude.{IsSome, None, Option, ℕ}
use Rattle.vx_history.specs.Groups.{GroupNode}
use Rattle.vx_history.specs.World.{World}
use Rattle.vx_events.specs.Fails.{AreBorne, Fails}

-- none are borne by any site
pub borne_none : (w : World) (site : ℕ) (fails : Fails) → fails ≡ [] → AreBorne w site fails
borne_none w site fails none = subst (λ (f : Fails). AreBorne w site f) (sym none) tt

-- at a raw set there are none
pub none_borne : (w : World) (site : ℕ) (fails : Fails) → (w.nodes site).group ≡ None → AreBorne w site fails → fails ≡ []
none_borne w site [] raw borne = refl
none_borne w site (f ∷ fs) raw borne = absurd (let e : false ≡ true = subst (λ (o : Option GroupNode). IsSome o) raw borne.0.1 in cc)
