-- What a site is, by its state, its role and the line on which it stands.
use Rattle.std.specs.Prelude.{ℕ, Bool, true, false, eqb, ◌&&◌}
use Rattle.vx_model.specs.declared.history.Line.{Line}
use Rattle.vx_model.specs.declared.site.Role.{Role}
use Rattle.vx_model.specs.declared.site.Role.TheVariants.{Primary, Secondary, Handing, Bunker}
use Rattle.vx_model.specs.declared.site.SiteState.{SiteState}
use Rattle.vx_model.specs.declared.site.SiteState.TheVariants.{Bare, Up, Deported, Down}

abbrev pub is_up : SiteState → Bool
is_up Bare = false
is_up Up = true
is_up Deported = false
is_up Down = false

abbrev pub is_bare : SiteState → Bool
is_bare Bare = true
is_bare Up = false
is_bare Deported = false
is_bare Down = false

-- whether writes arise at a site of this role
abbrev pub is_origin : Role → Bool
is_origin Primary = true
is_origin (Handing to) = true
is_origin Secondary = false
is_origin Bunker = false

abbrev pub same_line : Line → Line → Bool
same_line a b = eqb a.generation b.generation && eqb a.origin b.origin

abbrev pub no_line : Line
no_line = record { generation = 0; origin = 0 }

-- the first line of a site
abbrev pub first_line : ℕ → Line
first_line site = record { generation = 1; origin = site }
