-- What the disks of a site promise of a state that is made durable in the header of its log.
use Rattle.std.specs.Prelude.{◌≡◌, ◌⊎◌, ℕ, ◌+◌, ◌≤◌, List, true, false, Some, None, slice_get, Result, Ok, Err}
use Rattle.vx_model.specs.declared.no.No.{No}
use Rattle.vx_model.specs.declared.no.No.TheVariants.{Device, Limit, Down as IsDown}
use Rattle.vx_model.specs.declared.site.SiteState.TheVariants.{Up as IsUp}
use Rattle.vx_model.specs.declared.state.KeptLink.{KeptLink}
use Rattle.vx_model.specs.declared.state.State.{State}
use Rattle.vx_model.specs.Sites.{is_origin}
use Rattle.vx_history.specs.Steps.{worked}
use Rattle.vx_history.specs.Stops.{IsFused}
use Rattle.vx_history.specs.World.{Node}
use Rattle.vx_disk.specs.declared.shelf.Shelf.{Ghosts}
use Rattle.vx_srl.specs.Views.{most_number}
use Rattle.vx_events.specs.Fails.{IsLogDisk}
use Rattle.vx_events.specs.GroupLines.{is_over_group}
use Rattle.vx_events.specs.declared.said.Said.{Said}
use Rattle.vx_events.specs.declared.said.Said.TheVariants.{Done, Refused}
use Rattle.vx_diskset.specs.declared.disk_set.DiskSet.{DiskSet}
use Rattle.vx_diskset.specs.DiskSets.{CrashedAt, RoseAt, halted_at, no_number}
use Rattle.vx_diskset.specs.Holds.{KeptBeside, KeptSite, most_header, sure_of}
use Rattle.vx_diskset.specs.Needs.{hold_of, is_needing}
use Rattle.vx_diskset.specs.Stands.{CutAt, IsToldAt, SiteStands}

-- a site of whose log the header keeps this state
abbrev pub restated : Node → State → Node
restated n s = record n {
  line = s.line;
  top = s.top;
  role = s.role;
  mark = s.mark;
  phase = s.phase;
  replay = s.replay;
  end = s.end;
  other = s.other;
  parent = s.parent;
  fork = s.fork;
}

-- with one header more
abbrev pub kept_anew : KeptBeside → Node → State → KeptSite
kept_anew beside n s = record { node = restated n s; links = s.links; headers = beside.headers + 1 }

-- a halted site that may have that header on its disks
abbrev pub doubting : KeptBeside → Node → State → (disk : ℕ) → KeptBeside
doubting beside n s disk = record {
  links = beside.links;
  headers = beside.headers + 1;
  doubt = Some (record { node = halted_at (restated n s) disk; links = s.links; headers = beside.headers + 1 });
}

-- a link needs no number that the log may have given up: none that is durable, or none that one of these links lets go
abbrev pub Suffices : List KeptLink → Node → KeptLink → Type 0
Suffices links n l = (n.safe ≤ hold_of l) ⊎ ((j : ℕ) × ((o : KeptLink) × ((slice_get links j ≡ Some o) × ((is_needing o ≡ true) × (hold_of o ≤ hold_of l)))))

-- a state of the site's line that nothing but a failing disk or want of a number keeps from its log
pub record CanKeep (beside : KeptBeside) (n : Node) (s : State) : Type 0 where
  pub up : n.state ≡ IsUp
  pub running : n.halted ≡ None
  pub apart : is_over_group n ≡ false
  pub line : s.line ≡ n.line
  pub role : is_origin s.role ≡ is_origin n.role
  pub needs : (k : ℕ) (l : KeptLink) → slice_get s.links k ≡ Some l → is_needing l ≡ true → Suffices beside.links n l

-- the reply of a call that answers nothing
abbrev pub done_by : Result (Unit {0}) No → Said
done_by (Ok done) = Done
done_by (Err why) = Refused why

module _ {R : Type 0} {g : Ghosts R} where
  -- the state is durable; or the disk of the log failed, and the site may have it or not; or no number is left; or its fuse ran out, and then this holds of
  -- the site that may have it or not
  abbrev pub KeptWith : (KeptBeside → Node → DiskSet R g → Type 0) → KeptBeside → Node → State → DiskSet R g → DiskSet R g → Result (Unit {0}) No → Type 0
  KeptWith Off beside n s old new (Ok done) = SiteStands (sure_of (kept_anew beside n s)) (worked (restated n s)) new
  KeptWith Off beside n s old new (Err (Device disk)) = SiteStands (doubting beside n s disk) (halted_at n disk) new × RoseAt old new disk × IsLogDisk n disk
  KeptWith Off beside n s old new (Err (Limit what most)) = (Limit what most ≡ no_number) × (IsToldAt new → most_number ≤ most_header beside n) × SiteStands beside n new
  KeptWith Off beside n s old new (Err IsDown) = IsFused n.fuse × Off (doubting beside n s 0) (halted_at n 0) new
  KeptWith Off beside n s old new (Err other) = ⊥

  abbrev pub KeptAt : KeptBeside → Node → State → DiskSet R g → DiskSet R g → Result (Unit {0}) No → Type 0
  KeptAt beside n s old new result = KeptWith CrashedAt beside n s old new result

  abbrev pub KeptUp : KeptBeside → Node → State → DiskSet R g → DiskSet R g → Result (Unit {0}) No → Type 0
  KeptUp beside n s old new result = KeptWith CutAt beside n s old new result
