-- What the tests of a state and of a role tell.
use Rattle.std.proofs.Common.{◌≡◌, refl, true, ℕ}
use Rattle.std.specs.Prelude.{None, Option, Some}
use Rattle.vx_model.specs.Sites.{is_bare, is_origin, is_up}
use Rattle.vx_model.specs.declared.site.Role.{Role}
use Rattle.vx_model.specs.declared.site.Role.TheVariants.{Bunker, Handing, Primary, Secondary}
use Rattle.vx_model.specs.declared.site.SiteState.{SiteState}
use Rattle.vx_model.specs.declared.site.SiteState.TheVariants.{Bare, Deported, Down, Up}
use Rattle.vx_history.specs.Refusals.{is_primary, is_running, keeps_links}

pub bare_is : (s : SiteState) → is_bare s ≡ true → s ≡ Bare
bare_is Bare e = refl
bare_is Up e = absurd (cc)
bare_is Deported e = absurd (cc)
bare_is Down e = absurd (cc)

pub up_is : (s : SiteState) → is_up s ≡ true → s ≡ Up
up_is Bare e = absurd (cc)
up_is Up e = refl
up_is Deported e = absurd (cc)
up_is Down e = absurd (cc)

pub origin_keeps : (r : Role) → is_origin r ≡ true → keeps_links r ≡ true
origin_keeps Primary e = refl
origin_keeps Secondary e = absurd (cc)
origin_keeps (Handing to) e = refl
origin_keeps Bunker e = absurd (cc)

pub primary_leads : (r : Role) → is_primary r ≡ true → is_origin r ≡ true
primary_leads Primary e = refl
primary_leads Secondary e = absurd (cc)
primary_leads (Handing to) e = absurd (cc)
primary_leads Bunker e = absurd (cc)

pub runs_is : (halted : Option ℕ) → is_running halted ≡ true → halted ≡ None
runs_is None e = refl
runs_is (Some disk) e = absurd (cc)
