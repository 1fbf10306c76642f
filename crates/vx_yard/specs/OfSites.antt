-- What a line asks of the rack of its site, and of no other.
use Rattle.std.specs.Prelude.{◌≡◌, ◌⊎◌, ℕ, ◌*◌, ◌<◌, ◌≤◌, Bool, true, false, List, replicate, Option, None, Some, slice_get, slice_set}
use Rattle.vx_model.specs.declared.limits.TheConstants.{BLOCK}
use Rattle.vx_model.specs.declared.site.SiteState.{SiteState}
use Rattle.vx_model.specs.declared.site.SiteState.TheVariants.{Up as UpState}
use Rattle.vx_history.specs.Events.{delivered, packet_at}
use Rattle.vx_history.specs.World.{Message, Packet, Update, World}
use Rattle.vx_disk.specs.declared.shelf.Shelf.{Ghosts}
use Rattle.vx_script.specs.declared.line.ScriptLine.{ScriptLine}
use Rattle.vx_script.specs.declared.line.ScriptLine.TheVariants.{Site, Raw, Disk, Crash, Fuse, Recover, GroupInit, GroupDeport, GroupImport, Volume, PlexDetach, PlexAttach, Write, Put, Read, Show, Apply, Status, Link, Set, Connect, Cut, Pause, Resume, Pump, Tick, Wait, Deliver, Settle}
use Rattle.vx_events.specs.declared.said.Said.{Said}
use Rattle.vx_events.specs.Facts.{site_number}
use Rattle.vx_events.specs.Failing.{is_failing}
use Rattle.vx_events.specs.GroupLines.{is_over_group}
use Rattle.vx_diskset.specs.declared.disk_set.DiskSet.{DiskSet}
use Rattle.vx_yard.specs.declared.yard.Yard.{Yard}
use Rattle.vx_yard.specs.BothSites.{BothSites, LinkBurns, SettleBurns}
use Rattle.vx_diskset.specs.Asked.{SetsDisk, SetsFuse, CrashesBy, FuseGoesOn, SameFailing, HeadUnder, LeavesAlone, LeavesFuse, WritesUnder, stored_calls}
use Rattle.vx_diskset.specs.Burning.{NoMore}

-- the calls of a packet that a site hears of another one: those of a header where its link comes to count more as stored
abbrev pub heard_calls : World → (number site source : ℕ) → ℕ
heard_calls w number site source = stored_calls (w.links site source).stored ((delivered w number (packet_at w.packets number)).world.links site source).stored

module _ {R : Type 0} {g : Ghosts R} where
  -- What a read leaves of the disks of its site. One of a group is a read of some plex, or of several where disks fail: it is known that it makes none
  -- fail.
  abbrev pub ReadsBy : Bool → DiskSet R g → DiskSet R g → Type 0
  ReadsBy true old new = SameFailing old new
  ReadsBy false old new = LeavesAlone old new

  -- What a write of these bytes leaves of the fuse of its site. How many calls it makes over a group is not said.
  abbrev pub WritesBy : Bool → List ℕ → Said → DiskSet R g → DiskSet R g → Type 0
  WritesBy true bytes said old new = FuseGoesOn old new
  WritesBy false bytes said old new = WritesUnder bytes said old new

  -- the disk set of this site did so, and no other changed
  pub record OfSite (Did : DiskSet R g → DiskSet R g → Type 0) (site : ℕ) (old new : Yard R g) : Type 0 where
    pub before : DiskSet R g
    pub after : DiskSet R g
    pub there : slice_get old.disk_sets.items site ≡ Some before
    pub disk_sets : new.disk_sets.items ≡ slice_set old.disk_sets.items site after
    pub did : Did before after

  -- the disks of this site crashed first, with every bit of the pick set, and then no disk was made to fail
  pub record FallsFirst (site : ℕ) (old new : Yard R g) : Type 0 where
    pub middle : Yard R g
    pub crashed : OfSite (CrashesBy 0xffff_ffff_ffff_ffff) site old middle
    pub goes : OfSite SameFailing site middle new

  -- What a recovery asks of the rack of a site in this state: of one that is up nothing, or that its disks crash first.
  pub record RecoversAs (state : SiteState) (site : ℕ) (old new : Yard R g) : Type 0 where
    pub failing : OfSite SameFailing site old new
    pub first : state ≡ UpState → (new.disk_sets.items ≡ old.disk_sets.items) ⊎ FallsFirst site old new

  -- each disk of each site is made to fail or not as it was before
  pub record AllSameFailing (old new : Yard R g) : Type 0 where
    pub each : (s : ℕ) (after : DiskSet R g) → slice_get new.disk_sets.items s ≡ Some after → (before : DiskSet R g) × (slice_get old.disk_sets.items s ≡ Some before) × SameFailing before after

  -- what a line asks of the rack of its site, and of the others that they ask nothing of the kind
  abbrev pub AsAsked : World → ScriptLine → Yard R g → Yard R g → Type 0
  AsAsked w (Site name disks blocks) old new = OfSite SameFailing w.sites old new
  AsAsked w (Raw site) old new = OfSite SameFailing (site_number w site) old new
  AsAsked w (Disk site disk state) old new = OfSite (SetsDisk disk (is_failing state)) (site_number w site) old new
  AsAsked w (Fuse site calls pick) old new = OfSite (SetsFuse calls pick) (site_number w site) old new
  AsAsked w (Crash site pick) old new = OfSite (CrashesBy pick) (site_number w site) old new
  AsAsked w (Recover site) old new = RecoversAs (w.nodes (site_number w site)).state (site_number w site) old new
  AsAsked w (Write site volume block count fill) old new = OfSite SameFailing (site_number w site) old new
  AsAsked w (Put site volume block bytes) old new = OfSite SameFailing (site_number w site) old new
  AsAsked w (GroupInit site) old new = OfSite SameFailing (site_number w site) old new
  AsAsked w (GroupDeport site) old new = OfSite SameFailing (site_number w site) old new
  AsAsked w (GroupImport site) old new = OfSite SameFailing (site_number w site) old new
  AsAsked w (Volume site volume blocks mirrors layout log map policy) old new = OfSite SameFailing (site_number w site) old new
  AsAsked w (PlexDetach site volume plex) old new = OfSite SameFailing (site_number w site) old new
  AsAsked w (PlexAttach site volume plex) old new = OfSite SameFailing (site_number w site) old new
  AsAsked w (Read site volume block count) old new = OfSite (ReadsBy (is_over_group (w.nodes (site_number w site)))) (site_number w site) old new
  AsAsked w (Show site volume block count) old new = OfSite (ReadsBy (is_over_group (w.nodes (site_number w site)))) (site_number w site) old new
  AsAsked w (Apply site count) old new = OfSite SameFailing (site_number w site) old new
  AsAsked w (Status site) old new = new.disk_sets.items ≡ old.disk_sets.items
  AsAsked w (Link p s sync prot) old new = AllSameFailing old new
  AsAsked w (Set p s sync prot) old new = OfSite SameFailing (site_number w p) old new
  AsAsked w (Connect p s) old new = new.disk_sets.items ≡ old.disk_sets.items
  AsAsked w (Cut p s) old new = new.disk_sets.items ≡ old.disk_sets.items
  AsAsked w (Pause p s) old new = new.disk_sets.items ≡ old.disk_sets.items
  AsAsked w (Resume p s) old new = new.disk_sets.items ≡ old.disk_sets.items
  AsAsked w (Pump p s) old new = OfSite LeavesAlone (site_number w p) old new
  AsAsked w (Tick p s) old new = new.disk_sets.items ≡ old.disk_sets.items
  AsAsked w (Wait p number) old new = new.disk_sets.items ≡ old.disk_sets.items
  AsAsked w (Deliver number) old new = AllSameFailing old new
  AsAsked w other old new = Unit {0}

  -- what a line that settles a link asks of the racks of all sites
  abbrev pub AsSettled : ScriptLine → Yard R g → Yard R g → Type 0
  AsSettled (Settle p s) old new = AllSameFailing old new
  AsSettled other old new = Unit {0}

  -- no block, no fuse and no disk that is made to fail changed, and so the answer is not 6
  abbrev pub TouchesNone : Said → DiskSet R g → DiskSet R g → Type 0
  TouchesNone said old new = LeavesAlone old new × LeavesFuse NoMore said old new

  -- what the calls on the disks of its target make of them, by its message: an update waits in memory
  abbrev pub HandedCalls : World → (number : ℕ) → Packet → Message → Said → Yard R g → Yard R g → Type 0
  HandedCalls w number p (Update k x) said old new = OfSite (TouchesNone said) p.target old new
  HandedCalls w number p other said old new = OfSite (HeadUnder (heard_calls w number p.target p.source) said) p.target old new

  -- a packet that goes to no site touches no disk
  pub record PacketCalls (w : World) (number : ℕ) (p : Packet) (said : Said) (old new : Yard R g) : Type 0 where
    pub none : w.sites ≤ p.target → new.disk_sets.items ≡ old.disk_sets.items
    pub some : p.target < w.sites → HandedCalls w number p p.message said old new

  abbrev pub DeliverCalls : World → (number : ℕ) → Option Packet → Said → Yard R g → Yard R g → Type 0
  DeliverCalls w number None said old new = new.disk_sets.items ≡ old.disk_sets.items
  DeliverCalls w number (Some p) said old new = PacketCalls w number p said old new

  -- What the calls of a line that was answered so leave of the fuse of its site.
  abbrev pub HasCalled : World → ScriptLine → Said → Yard R g → Yard R g → Type 0
  HasCalled w (Write site volume block count fill) said old new = OfSite (WritesBy (is_over_group (w.nodes (site_number w site))) (replicate (BLOCK * count) fill) said) (site_number w site) old new
  HasCalled w (Put site volume block bytes) said old new = OfSite (WritesBy (is_over_group (w.nodes (site_number w site))) bytes said) (site_number w site) old new
  HasCalled w (GroupDeport site) said old new = OfSite FuseGoesOn (site_number w site) old new
  HasCalled w (GroupImport site) said old new = OfSite FuseGoesOn (site_number w site) old new
  HasCalled w (Volume site volume blocks mirrors layout log map policy) said old new = OfSite FuseGoesOn (site_number w site) old new
  HasCalled w (PlexDetach site volume plex) said old new = OfSite FuseGoesOn (site_number w site) old new
  HasCalled w (PlexAttach site volume plex) said old new = OfSite FuseGoesOn (site_number w site) old new
  HasCalled w (Apply site count) said old new = OfSite (LeavesFuse NoMore said) (site_number w site) old new
  HasCalled w (Link p s sync prot) said old new = BothSites (LinkBurns said) (site_number w p) (site_number w s) old new
  HasCalled w (Set p s sync prot) said old new = OfSite (HeadUnder 2 said) (site_number w p) old new
  HasCalled w (Pump p s) said old new = OfSite (LeavesFuse NoMore said) (site_number w p) old new
  HasCalled w (Deliver number) said old new = DeliverCalls w number (packet_at w.packets number) said old new
  HasCalled w (Settle p s) said old new = BothSites (SettleBurns said) (site_number w p) (site_number w s) old new
  HasCalled w other said old new = Unit {0}
