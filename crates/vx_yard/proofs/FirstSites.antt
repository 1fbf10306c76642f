-- A site that is made and has no volumes stays on its first line, and in its first session.
use Rattle.std.proofs.Common.{◌≡◌, ◌∙◌, ℕ, [], sym}
use Rattle.vx_model.specs.declared.site.SiteState.TheVariants.{Bare as IsBare, Up as IsUp}
use Rattle.vx_history.specs.World.{Node}
use Rattle.vx_diskset.specs.Holds.{state_with}
use Rattle.vx_diskset.specs.Makings.{IsFirstSite}
use Rattle.vx_yard.specs.Standing.{BeginsFirst}

pub begins_like : (site : ℕ) (n m : Node) → (n.state ≡ IsBare → m.state ≡ IsBare) → m.volumes ≡ n.volumes → state_with m [] ≡ state_with n [] → m.session ≡ n.session → m.low ≡ n.low → BeginsFirst site n → BeginsFirst site m
begins_like site n m bare volumes state session low was = λ made none.
    let it : IsFirstSite site n = was (λ is. made (bare is)) (sym volumes ∙ none) in
    record { state = state ∙ it.state; session = session ∙ it.session; low = low ∙ it.low }

pub never_bare : {A : Type 0} (n : Node) → n.state ≡ IsUp → n.state ≡ IsBare → A
never_bare n up bare = absurd (let e : IsUp ≡ IsBare = sym up ∙ bare in cc)
