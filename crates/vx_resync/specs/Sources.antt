-- Which plex a copy is read from, and to which ones it goes: to each that is ACTIVE, or to one alone.
use Rattle.std.specs.Prelude.{◌≡◌, ℕ, ◌<◌, Bool, true, false, ◌&&◌, ◌==◌, not, IsTrue, Option, Some, None}
use Rattle.vx_config.specs.declared.config.Config.{Config}
use Rattle.vx_volume.specs.Plexes.{active}

-- whether this plex alone is copied to
abbrev pub is_it : Option ℕ → ℕ → Bool
is_it None p = false
is_it (Some q) p = q == p

-- a plex that is copied to
abbrev pub Target : Config → ℕ → Option ℕ → ℕ → Type 0
Target c v None p = IsTrue (active c v p)
Target c v (Some q) p = p ≡ q

-- whether a plex is ACTIVE and is not the one that alone is copied to
abbrev pub can_give : Config → ℕ → Option ℕ → ℕ → Bool
can_give c v to p = active c v p && not (is_it to p)

-- there is such a plex
pub record HasSource (c : Config) (v : ℕ) (to : Option ℕ) : Type 0 where
  pub plex : ℕ
  pub can : can_give c v to plex ≡ true

-- the first such plex
pub record IsSource (c : Config) (v : ℕ) (to : Option ℕ) (p : ℕ) : Type 0 where
  pub can : can_give c v to p ≡ true
  pub first : (q : ℕ) → q < p → can_give c v to q ≡ false
