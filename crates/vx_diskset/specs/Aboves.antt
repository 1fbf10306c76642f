-- What stands over the volumes of a group of disks.
use Rattle.std.specs.Prelude.{◌≡◌, ℕ, Bool, ◌<◌, Option, Some, None, true, false, length}
use Rattle.vx_disk.specs.Shelf.{Meaning}
use Rattle.vx_disk.specs.declared.shelf.Shelf.{Ghosts}
use Rattle.vx_ground.specs.Lifted.{laid_volumes}
use Rattle.vx_grouped.specs.declared.group_site.GroupSite.{GroupSite}
use Rattle.vx_grouped.specs.declared.group_site.GroupSite.TheVariants.{Up, Deported as GroupAway, Down as GroupFell, Marked, Gone as NoGroup}
use Rattle.vx_history.specs.Groups.{GroupNode}
use Rattle.vx_model.specs.declared.units.Units.{Units}
use Rattle.vx_rvg.specs.Views.{Core, IsSound, unit_of}
use Rattle.vx_secondary.specs.Receivers.{Wait}
use Rattle.vx_diskset.specs.Blames.{IsGroupDisk}
use Rattle.vx_diskset.specs.declared.above.Above.{Above}
use Rattle.vx_diskset.specs.declared.above.Above.TheVariants.{Nothing, Origin, Receiver}
use Rattle.vx_diskset.specs.declared.over_set.OverSet.{OverSet}
use Rattle.vx_diskset.specs.declared.over_set.OverSite.{OverSite}
use Rattle.vx_diskset.specs.declared.over_set.OverSite.TheVariants.{Origin as OriginSite, Receiver as ReceiverSite, Deported, Down, Gone}

-- a replicated volume group is sound over these volumes, and what waits behind it fits them; nothing stands over none
abbrev pub IsAboveOn : Above → Meaning → Type 0
IsAboveOn Nothing m = ⊥
IsAboveOn (Origin core) m = IsSound core m
IsAboveOn (Receiver core waiting) m = IsSound core m × Wait core m.size waiting

-- the replicated volume group but for its shelf
abbrev pub core_of : Above → Option Core
core_of Nothing = None
core_of (Origin core) = Some core
core_of (Receiver core waiting) = Some core

-- whether it receives, with room for the updates that wait
abbrev pub is_receiver : Above → Bool
is_receiver Nothing = false
is_receiver (Origin core) = false
is_receiver (Receiver core waiting) = true

-- this volume is none of these units
pub record IsOutsideOf (units : Units) (volume : ℕ) : Type 0 where
  pub log : volume ≡ units.srl → ⊥
  pub maps : volume ≡ units.maps → ⊥
  pub vols : (v : ℕ) → v < length units.vols → volume ≡ unit_of units.vols v → ⊥

abbrev pub IsOutside : ℕ → Above → Type 0
IsOutside volume Nothing = Unit {0}
IsOutside volume (Origin core) = IsOutsideOf core.units volume
IsOutside volume (Receiver core waiting) = IsOutsideOf core.units volume

-- nothing is noted of the blocks of these units
abbrev pub InsideOf : Units → GroupNode → Type 0
InsideOf units note = (u : ℕ) → IsGroupDisk units u → note.inside u ≡ true

-- so it is of what stands over a group
abbrev pub IsInside : GroupNode → Above → Type 0
IsInside note Nothing = Unit {0}
IsInside note (Origin core) = InsideOf core.units note
IsInside note (Receiver core waiting) = InsideOf core.units note

module _ {R : Type 0} {g : Ghosts R} where
  -- so it is over a group that is up; on disks on which a group was begun nothing ever stood
  abbrev pub AboveStays : Above → GroupSite R g → Type 0
  AboveStays above (Up laid) = IsAboveOn above (laid_volumes laid)
  AboveStays above (Marked rack) = ⊥
  AboveStays above other = Unit {0}

  -- the group below
  abbrev pub below_site : OverSite R g → GroupSite R g
  below_site (OriginSite founded) = Up founded.laid
  below_site (ReceiverSite founded) = Up founded.laid
  below_site (Deported idle) = GroupAway idle
  below_site (Down idle) = GroupFell idle
  below_site Gone = NoGroup

  abbrev pub site_in : OverSet R g → GroupSite R g
  site_in s = below_site s.site

  -- and what stands over it
  abbrev pub above_site : OverSite R g → Above
  above_site (OriginSite founded) = Origin founded.core
  above_site (ReceiverSite founded) = Receiver founded.core founded.waiting
  above_site (Deported idle) = Nothing
  above_site (Down idle) = Nothing
  above_site Gone = Nothing

  abbrev pub above_in : OverSet R g → Above
  above_in s = above_site s.site
