-- Which disk a failed call on the group of a site names.
use Rattle.std.specs.Prelude.{◌≡◌, ◌⊎◌, ◌<◌, ℕ, length}
use Rattle.vx_model.specs.declared.no.No.{No}
use Rattle.vx_model.specs.declared.no.No.TheVariants.{Device}
use Rattle.vx_model.specs.declared.units.Units.{Units}
use Rattle.vx_history.specs.World.{Node}
use Rattle.vx_rvg.specs.Views.{unit_of}
use Rattle.vx_events.specs.Fails.{IsSiteDisk}

-- the disk of the log of a group, or that of one of its volumes
abbrev pub IsGroupDisk : Units → (disk : ℕ) → Type 0
IsGroupDisk units disk = (disk ≡ units.srl) ⊎ ((v : ℕ) × ((v < length units.vols) × (disk ≡ unit_of units.vols v)))

-- a refusal 7 names such a disk
abbrev pub BlamesGroup : Units → No → Type 0
BlamesGroup units (Device disk) = IsGroupDisk units disk
BlamesGroup units other = Unit {0}

-- and so of a site
abbrev pub BlamesSite : Node → No → Type 0
BlamesSite n (Device disk) = IsSiteDisk n disk
BlamesSite n other = Unit {0}
