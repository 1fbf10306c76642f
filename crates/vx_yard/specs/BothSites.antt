-- What a line makes of the disk sets of two sites, and that it changes no third.
use Rattle.std.specs.Prelude.{◌≡◌, ◌⊎◌, ℕ, Some, slice_get, slice_set}
use Rattle.vx_disk.specs.declared.shelf.Shelf.{Ghosts}
use Rattle.vx_diskset.specs.Asked.{HeadUnder, LeavesFuse}
use Rattle.vx_diskset.specs.Burning.{NoMore}
use Rattle.vx_diskset.specs.declared.disk_set.DiskSet.{DiskSet}
use Rattle.vx_events.specs.declared.said.Said.{Said}
use Rattle.vx_events.specs.declared.said.Said.TheVariants.{Done, Refused}
use Rattle.vx_yard.specs.declared.yard.Yard.{Yard}

module _ {R : Type 0} {g : Ghosts R} where
  -- the disk sets of two sites, as each was and is, did so, and no other changed
  pub record BothSites (Did : (first first' second second' : DiskSet R g) → Type 0) (p s : ℕ) (old new : Yard R g) : Type 0 where
    pub first : DiskSet R g
    pub first_new : DiskSet R g
    pub second : DiskSet R g
    pub second_new : DiskSet R g
    pub there : slice_get old.disk_sets.items p ≡ Some first
    pub there_too : slice_get old.disk_sets.items s ≡ Some second
    pub disk_sets : new.disk_sets.items ≡ slice_set (slice_set old.disk_sets.items p first_new) s second_new
    pub did : Did first first_new second second_new

  -- A line that makes a link was refused so in one of its four parts, each of which writes one header: the second site joins, the first one has the
  -- link, the second one is marked, the first one opens the link. A header is two writes and flushes.
  pub data LinkBreaks (said : Said) (first first' second second' : DiskSet R g) : Type 0 where
    AtJoined : first' ≡ first → HeadUnder 2 said second second' → LinkBreaks said first first' second second'
    AtMade : HeadUnder 2 said first first' → HeadUnder 2 Done second second' → LinkBreaks said first first' second second'
    AtMarked : HeadUnder 2 Done first first' → HeadUnder 4 said second second' → LinkBreaks said first first' second second'
    AtOpened : HeadUnder 4 said first first' → HeadUnder 4 Done second second' → LinkBreaks said first first' second second'

  -- what the calls of a line that makes a link leave of the fuses of its sites
  abbrev pub LinkBurns : Said → (first first' second second' : DiskSet R g) → Type 0
  LinkBurns Done first first' second second' = HeadUnder 4 Done first first' × HeadUnder 4 Done second second'
  LinkBurns (Refused why) first first' second second' = LinkBreaks (Refused why) first first' second second'
  LinkBurns other first first' second second' = ⊥

  -- What the calls of a line that settles a link leave of the fuses of its sites: they passed, or it was refused so by a call at one of them.
  abbrev pub SettleBurns : Said → (first first' second second' : DiskSet R g) → Type 0
  SettleBurns (Refused why) first first' second second' =
      (LeavesFuse NoMore (Refused why) first first' × LeavesFuse NoMore Done second second') ⊎ (LeavesFuse NoMore Done first first' × LeavesFuse NoMore (Refused why) second second')
  SettleBurns other first first' second second' = LeavesFuse NoMore Done first first' × LeavesFuse NoMore Done second second'
