-- Maps of all plexes of a volume that note a run, as behind a write that was refused.
use Rattle.std.specs.Prelude.{ℕ, ◌≤◌, Option, Some, None}
use Rattle.vx_disk.specs.Shelf.{Meaning, Values}
use Rattle.vx_fmr.specs.Missed.{Missed}
use Rattle.vx_logs.specs.Held.{FmrRun}
use Rattle.vx_logs.specs.Noting.{IsMissedMap, below}
use Rattle.std.specs.Prelude.{Bool}

-- the set of all plexes
abbrev pub all_plexes : ℕ
all_plexes = 255

-- the first plexes
abbrev pub first_plexes : ℕ → ℕ → Bool
first_plexes n = below n all_plexes

-- the maps of the first plexes are there, with this region
abbrev pub AreMissedMaps : ℕ → ℕ → Option Missed → Meaning → Type 0
AreMissedMaps n last None m = Unit {0}
AreMissedMaps n last (Some f) m = IsMissedMap last f m × (n ≤ f.plexes)

-- a block of the maps in memory, whatever it has
abbrev pub MapBlocks : Option Missed → Values
MapBlocks o = λ u b x. FmrRun o u b
