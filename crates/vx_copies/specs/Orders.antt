-- In which order the copies of a try come to their disks.
use Rattle.std.specs.Prelude.{◌⊎◌, ℕ}
use Rattle.vx_disk.specs.Moves.{Along}
use Rattle.vx_disk.specs.Shelf.{Each, Image, Meaning}
use Rattle.vx_copyfmt.specs.Commits.{Among, FromNew, Lower}
use Rattle.vx_config.specs.declared.config.Config.{Config}
use Rattle.vx_copies.specs.Looking.{on_shelf}
use Rattle.vx_copies.specs.Tries.{IsThis}

-- each of the second disks is as one of before, or each of the first has the new copy
abbrev pub InOrderThis : (ℕ → Type 0) → (ℕ → Type 0) → Config → Meaning → Image → Type 0
InOrderThis first second c m i =
    ((u : ℕ) → second u → Among (m.leaves u) (i u)) ⊎ ((u : ℕ) → first u → Lower c.serial (m.leaves u) → FromNew (on_shelf m) (IsThis c) (m.leaves u) (i u))

-- so it is at each moment of a try, and now
pub record OrderedThis (first second : ℕ → Type 0) (c : Config) (old new : Meaning) : Type 0 where
  pub along : Along old new (InOrderThis first second c old)
  pub now : (i : Image) → Each new.leaves i → InOrderThis first second c old i
