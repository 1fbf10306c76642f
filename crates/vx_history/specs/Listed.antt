-- Links that stand among those of their site, each in a place of its own.
use Rattle.std.specs.Prelude.{◌≡◌, ◌⊎◌, ℕ, ◌<◌, true, List, [], ◌∷◌, length, Some}
use Rattle.vx_history.specs.Events.{linked_sites}
use Rattle.vx_history.specs.Refusals.{how_many_below, count_links_of}
use Rattle.vx_history.specs.Sends.{is_linked}
use Rattle.vx_history.specs.World.{Link, World}

abbrev pub IsAmong : ℕ → List ℕ → Type 0
IsAmong s [] = ⊥
IsAmong s (t ∷ ts) = (s ≡ t) ⊎ IsAmong s ts

-- Each link has a place of its own among those of its site: so all of them stand in the list by places, and once.
pub record AreListed (w : World) : Type 0 where
  pub each : (p s : ℕ) → s < w.sites → is_linked (w.links p s) ≡ true → IsAmong s (linked_sites (w.links p) w.sites 0 w.sites)
  pub count : (p : ℕ) → count_links_of w p ≡ length (linked_sites (w.links p) w.sites 0 w.sites)

-- how many links a row has to the sites below a number
abbrev pub links_in : ℕ → (ℕ → Link) → ℕ
links_in sites row = how_many_below sites (λ k. is_linked (row k))

-- Fact 21. The links of a site go to sites that are made, and their places are those below their count: each has one of its own, and none is free.
pub record HasPlaces (sites : ℕ) (row : ℕ → Link) : Type 0 where
  pub within : (s : ℕ) → is_linked (row s) ≡ true → s < sites
  pub below : (s place : ℕ) → (row s).made ≡ Some place → place < links_in sites row
  pub apart : (s t place : ℕ) → (row s).made ≡ Some place → (row t).made ≡ Some place → s ≡ t
  pub filled : (place : ℕ) → place < links_in sites row → (s : ℕ) × ((row s).made ≡ Some place)
