-- The steps in which a replicated volume group is made over a group that is up: its data volumes are written as they read, its log is begun, and a commit names it.
use Rattle.std.specs.Prelude.{◌≡◌, ◌⊎◌, ℕ, ◌<◌, List, [], Contains, IsFalse, IsTrue}
use Rattle.vx_disk.specs.Counts.{Rose}
use Rattle.vx_disk.specs.Racks.{Stopped}
use Rattle.vx_disk.specs.Shelf.{Goes, Meaning, Nothing}
use Rattle.vx_disk.specs.declared.shelf.Shelf.{Ghosts}
use Rattle.vx_config.specs.Table.{greatest}
use Rattle.vx_ground.specs.Accounts.{GroundSince, GroundState, ground_state}
use Rattle.vx_ground.specs.Lifted.{laid_volumes}
use Rattle.vx_ground.specs.Named.{named_state}
use Rattle.vx_ground.specs.Rewrites.{OneRests}
use Rattle.vx_grouped.specs.Away.{IsAwayAt}
use Rattle.vx_grouped.specs.GroupNotes.{GroupLies, is_sure}
use Rattle.vx_grouped.specs.GroupSites.{idle_below, idle_disks, laid_below, laid_disks}
use Rattle.vx_grouped.specs.SiteMaps.{RestsNot}
use Rattle.vx_grouped.specs.declared.group_site.GroupSite.{GroupSite}
use Rattle.vx_grouped.specs.declared.group_site.GroupSite.TheVariants.{Up, Down}
use Rattle.vx_grouped.specs.declared.idle.Idle.{Idle}
use Rattle.vx_grouped.specs.declared.laid.Laid.{Laid}
use Rattle.vx_history.specs.Groups.{GroupNode}
use Rattle.vx_history.specs.World.{Node}
use Rattle.vx_model.specs.Content.{Content}
use Rattle.vx_model.specs.Sizes.{ring_of}
use Rattle.vx_model.specs.declared.errors.Stop.{Stop}
use Rattle.vx_model.specs.declared.errors.Stop.TheVariants.{No as Refused, OutOfMemory}
use Rattle.vx_model.specs.declared.no.Counted.TheVariants.{Number as Numbers}
use Rattle.vx_model.specs.declared.no.No.TheVariants.{Device, Down as IsOff, Limit}
use Rattle.vx_model.specs.declared.site.SiteState.TheVariants.{Down as IsDown}
use Rattle.vx_model.specs.declared.state.State.{State}
use Rattle.vx_model.specs.declared.units.Units.{Units}
use Rattle.vx_rvg.specs.Contents.{HasSizes}
use Rattle.vx_rvg.specs.Groups.{new_core}
use Rattle.vx_rvg.specs.Holdings.{nothing_logged}
use Rattle.vx_rvg.specs.Stands.{HoldsContent, Stands}
use Rattle.vx_rvg.specs.Views.{Core, unit_of}
use Rattle.vx_watched.specs.Since.{CalledSince}
use Rattle.vx_watched.specs.Traces.{TellsLess}

-- no block has a value that it might not have, but one of the volume of the log
pub record LogAlone (rvg : Units) (old new : Meaning) : Type 0 where
  pub units : new.units ≡ old.units
  pub size : (v : ℕ) → new.size v ≡ old.size v
  pub tells : new.tells ≡ old.tells
  pub leaves : (v b : ℕ) (x : List ℕ) → new.leaves v b x → old.leaves v b x ⊎ (v ≡ rvg.srl)

-- why the line stops, over these disks: a call on one of them failed, they are down, no serial is left, or memory is wanted
abbrev pub LineStops : Meaning → Meaning → Stop → Type 0
LineStops old new (Refused (Device disk)) = Rose (old.disk_faults disk) (new.disk_faults disk)
LineStops old new (Refused IsOff) = IsTrue new.down
LineStops old new (Refused (Limit what most)) = (what ≡ Numbers) × (most ≡ greatest)
LineStops old new OutOfMemory = Unit {0}
LineStops old new (Refused other) = ⊥

module _ {R : Type 0} {g : Ghosts R} where
  -- what calls on a group that is up made of it and of its disks, by an account that begins with this
  pub record GroupWent (first : GroundState) (old new : Laid R g) : Type 0 where
    pub ground : GroundSince first (laid_disks old) (ground_state new.core) (laid_disks new)
    pub since : CalledSince (laid_disks old) (laid_disks new)
    pub told : TellsLess (laid_below old) (laid_below new)

  -- disks that were down under a group, behind the crash
  pub record FellUnder (laid : Laid R g) (idle : Idle R g) : Type 0 where
    pub down : IsTrue (laid_disks laid).down
    pub stopped : Stopped (laid_disks laid) (idle_disks idle)
    pub away : (n : Node) (note : GroupNode) → GroupLies n note laid.core (laid_disks laid) → IsAwayAt (record n { state = IsDown }) note laid.core.inner.config (idle_disks idle)
    pub agreed : idle.agreed ≡ is_sure laid.core
    pub told : TellsLess (laid_below laid) (idle_below idle)
    pub rests : RestsNot idle.rested

  -- a group whose disks are up stays so with this answer; one whose disks are down crashes, and says so
  abbrev pub StaysWith : Laid R g → Stop → GroupSite R g → Stop → Type 0
  StaysWith laid why (Up same) stop = (same ≡ laid) × (stop ≡ why) × IsFalse (laid_disks laid).down
  StaysWith laid why (Down idle) stop = FellUnder laid idle × (stop ≡ Refused IsOff)
  StaysWith laid why other stop = ⊥

  -- The line stopped, and the group has no replicated volume group.
  pub record RefusedOn (units : Units) (old : Laid R g) (below : GroupSite R g) (stop : Stop) : Type 0 where
    pub last : Laid R g
    pub why : Stop
    pub went : GroupWent (ground_state old.core) old last
    pub alone : LogAlone units (laid_volumes old) (laid_volumes last)
    pub stops : LineStops (laid_disks old) (laid_disks last) why
    pub stays : StaysWith last why below stop

  -- the commit that names it was done
  pub record NamedOn (units : Units) (old : Laid R g) (below : GroupSite R g) : Type 0 where
    pub last : Laid R g
    pub is : below ≡ Up last
    pub went : GroupWent (named_state units (ground_state old.core)) old last
    pub goes : Goes Nothing (laid_volumes old) (laid_volumes last)
    pub up : IsFalse (laid_disks last).down

  -- a log was begun before it: the group has whatever content its data volumes hold
  pub record LoggedOn (units : Units) (state : State) (old : Laid R g) (below : GroupSite R g) (core : Core) : Type 0 where
    pub last : Laid R g
    pub is : below ≡ Up last
    pub went : GroupWent (named_state units (ground_state old.core)) old last
    pub alone : LogAlone units (laid_volumes old) (laid_volumes last)
    pub up : IsFalse (laid_disks last).down
    pub core_is : core ≡ new_core units state (ring_of ((laid_volumes old).size units.srl)) core.maps
    pub stands : IsTrue (laid_volumes old).tells → (c : Content) → HoldsContent units c [] (laid_volumes old) → Stands core (nothing_logged c []) (laid_volumes last)

  -- And its data volumes were written as they read before that: each block of them has one value, which is the content.
  pub record MadeOn (units : Units) (state : State) (old : Laid R g) (below : GroupSite R g) (core : Core) : Type 0 where
    pub last : Laid R g
    pub is : below ≡ Up last
    pub went : GroupWent (named_state units (ground_state old.core)) old last
    pub alone : LogAlone units (laid_volumes old) (laid_volumes last)
    pub up : IsFalse (laid_disks last).down
    pub core_is : core ≡ new_core units state (ring_of ((laid_volumes old).size units.srl)) core.maps
    pub one : (u : ℕ) → Contains units.vols u → OneRests u (laid_volumes last)
    pub stands : IsTrue (laid_volumes last).tells → (c : Content) → HasSizes units.vols c (laid_volumes last)
        → ((v b : ℕ) → b < c.size v → (laid_volumes last).leaves (unit_of units.vols v) b (c.block v b)) → Stands core (nothing_logged c []) (laid_volumes last)
