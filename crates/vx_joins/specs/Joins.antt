-- What the disks of a site promise as it comes to the line of another one.
use Rattle.std.specs.Prelude.{◌≡◌, ℕ, ◌+◌, ◌≤◌, [], true, IsTrue, Some, None, Result, Ok, Err}
use Rattle.vx_model.specs.Sites.{is_origin}
use Rattle.vx_model.specs.declared.no.No.{No}
use Rattle.vx_model.specs.declared.no.No.TheVariants.{Device, Limit, Down as IsOff}
use Rattle.vx_model.specs.declared.site.SiteState.TheVariants.{Up as IsUp}
use Rattle.vx_history.specs.Events.{joined}
use Rattle.vx_history.specs.Steps.{worked}
use Rattle.vx_history.specs.Stops.{IsFused}
use Rattle.vx_history.specs.World.{Node}
use Rattle.vx_disk.specs.Counts.{Rose}
use Rattle.vx_disk.specs.Shelf.{Meaning}
use Rattle.vx_disk.specs.declared.shelf.Shelf.{Ghosts}
use Rattle.vx_rvg.specs.Views.{Core}
use Rattle.vx_srl.specs.Views.{most_number}
use Rattle.vx_events.specs.Fails.{IsLogDisk}
use Rattle.vx_diskset.specs.declared.disk_set.DiskSet.{DiskSet}
use Rattle.vx_diskset.specs.DiskSets.{CrashedAt, RoseAt, halted_at, no_number}
use Rattle.vx_diskset.specs.Holds.{KeptBeside, KeptSite, most_header, sure_of}
use Rattle.vx_diskset.specs.Stands.{IsHeldAt, IsReceiverAt, IsToldAt, IsUpAt, RoleIs, SiteStands}

-- an origin that is up and runs, with nothing logged and no links: nothing but a failing disk or want of a number keeps it from another line
pub record CanJoin (beside : KeptBeside) (n : Node) : Type 0 where
  pub up : n.state ≡ IsUp
  pub running : n.halted ≡ None
  pub apart : n.group ≡ None
  pub origin : is_origin n.role ≡ true
  pub empty : n.log ≡ []
  pub unlinked : beside.links ≡ []

-- the site as a secondary of the primary a at number p, with one header more
abbrev pub joined_anew : KeptBeside → (a : Node) → ℕ → Node → KeptSite
joined_anew beside a p n = record { node = joined a p n; links = beside.links; headers = beside.headers + 1 }

-- a halted site that may have come to that line on its disks
abbrev pub joins_in_doubt : KeptBeside → (a : Node) → ℕ → Node → (disk : ℕ) → KeptBeside
joins_in_doubt beside a p n disk = record {
  links = beside.links;
  headers = beside.headers + 1;
  doubt = Some (record { node = halted_at (joined a p n) disk; links = beside.links; headers = beside.headers + 1 });
}

-- what a change of its line makes of the group of a site
abbrev pub JoinedAs : KeptBeside → (a : Node) → ℕ → Node → Meaning → Core → Meaning → Result (Unit {0}) No → Type 0
JoinedAs beside a p n m c' new (Ok done) = IsReceiverAt (sure_of (joined_anew beside a p n)) (worked (joined a p n)) c' [] new
JoinedAs beside a p n m c' new (Err (Device disk)) = IsUpAt (joins_in_doubt beside a p n disk) (halted_at n disk) c' new × Rose (m.disk_faults disk) (new.disk_faults disk) × IsLogDisk n disk
JoinedAs beside a p n m c' new (Err (Limit what most)) = (Limit what most ≡ no_number) × (IsTrue new.tells → most_number ≤ most_header beside n) × IsUpAt beside n c' new
JoinedAs beside a p n m c' new (Err IsOff) = IsFused n.fuse × IsHeldAt (joins_in_doubt beside a p n 0) (halted_at n 0) new
JoinedAs beside a p n m c' new (Err other) = ⊥

module _ {R : Type 0} {g : Ghosts R} where
  -- it stands on the line, and receives; or the disk of its log failed, and it may or not; or no number is left; or its fuse ran out, and then this holds of the site that
  -- may have come to it or not
  abbrev pub JoinedWith : (KeptBeside → Node → DiskSet R g → Type 0) → KeptBeside → (a : Node) → ℕ → Node → DiskSet R g → DiskSet R g → Result (Unit {0}) No → Type 0
  JoinedWith Off beside a p n old new (Ok done) = SiteStands (sure_of (joined_anew beside a p n)) (worked (joined a p n)) new × RoleIs (joined a p n) new
  JoinedWith Off beside a p n old new (Err (Device disk)) = SiteStands (joins_in_doubt beside a p n disk) (halted_at n disk) new × RoseAt old new disk × IsLogDisk n disk
  JoinedWith Off beside a p n old new (Err (Limit what most)) = (Limit what most ≡ no_number) × (IsToldAt new → most_number ≤ most_header beside n) × SiteStands beside n new
  JoinedWith Off beside a p n old new (Err IsOff) = IsFused n.fuse × Off (joins_in_doubt beside a p n 0) (halted_at n 0) new
  JoinedWith Off beside a p n old new (Err other) = ⊥

  -- a call behind which the site of a fuse that ran out crashed
  abbrev pub JoinedAt : KeptBeside → (a : Node) → ℕ → Node → DiskSet R g → DiskSet R g → Result (Unit {0}) No → Type 0
  JoinedAt beside a p n old new result = JoinedWith CrashedAt beside a p n old new result
