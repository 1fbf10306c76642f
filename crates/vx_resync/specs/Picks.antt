-- Which regions are copied.
use Rattle.std.specs.Prelude.{◌≡◌, ℕ, zero, suc, ◌+◌, ◌/◌, ◌<◌, ◌≤◌, Bool, true, IsTrue, Option, Some, None}
use Rattle.vx_model.specs.declared.limits.TheConstants.{REGION}
use Rattle.vx_model.specs.Numbers.{one_if}
use Rattle.vx_drl.specs.Dirty.{Dirty, is_dirty}
use Rattle.vx_fmr.specs.Missed.{Missed, has_missed}

-- whether a region is marked; where there is no log, each is
abbrev pub marked_or : Option Dirty → ℕ → Bool
marked_or None r = true
marked_or (Some d) r = is_dirty d r

-- whether a plex has missed a region; where there is no map, it has missed each
abbrev pub missed_or : ℕ → Option Missed → ℕ → Bool
missed_or p None r = true
missed_or p (Some f) r = has_missed f p r

-- the log has so many regions, where there is one
abbrev pub DrlReaches : ℕ → Option Dirty → Type 0
DrlReaches n None = Unit {0}
DrlReaches n (Some d) = n ≤ d.regions

-- the map has this plex and so many regions, where there is one
abbrev pub FmrReaches : ℕ → ℕ → Option Missed → Type 0
FmrReaches n p None = Unit {0}
FmrReaches n p (Some f) = (p < f.plexes) × (n ≤ f.regions)

-- by which of the two a copy goes: to all plexes by the log, and to one alone by its map
abbrev pub is_picked : Option ℕ → Option Dirty → Option Missed → ℕ → Bool
is_picked None d f r = marked_or d r
is_picked (Some p) d f r = missed_or p f r

abbrev pub MapsReach : ℕ → Option ℕ → Option Dirty → Option Missed → Type 0
MapsReach n None d f = DrlReaches n d
MapsReach n (Some p) d f = FmrReaches n p f

-- how many of the first regions are copied
abbrev pub picked_below : (ℕ → Bool) → ℕ → ℕ
picked_below f zero = 0
picked_below f (suc n) = picked_below f n + one_if (f n)

-- a block of a region that is copied
abbrev pub InPicked : (ℕ → Bool) → ℕ → Type 0
InPicked f k = IsTrue (f (k / REGION))

-- one of this region
abbrev pub LiesInRegion : ℕ → ℕ → Type 0
LiesInRegion r k = k / REGION ≡ r

-- one of a picked region below this one
pub record InPickedBelow (f : ℕ → Bool) (n k : ℕ) : Type 0 where
  pub below : k / REGION < n
  pub picked : IsTrue (f (k / REGION))
