-- How a recovery leaves a site that is down, whose group of disks has a replicated volume group, or is found to have one.
use Rattle.std.specs.Prelude.{◌≡◌, ◌⊎◌, ℕ, ◌+◌, ◌<◌, ◌≤◌, ◌||◌, Bool, false, true, length, Option, Some, None, IsTrue, Result, Ok, Err}
use Rattle.vx_config.specs.declared.config.Config.{Config}
use Rattle.vx_disk.specs.Counts.{Rose}
use Rattle.vx_disk.specs.declared.shelf.Shelf.{Ghosts}
use Rattle.vx_events.specs.Found.{SameDisks}
use Rattle.vx_events.specs.GroupViews.{config_of}
use Rattle.vx_events.specs.RvgFits.{FitsRvg, HasUnits}
use Rattle.vx_grouped.specs.ConfigMoves.{LosesSome}
use Rattle.vx_grouped.specs.GroupNotes.{note_dimmed}
use Rattle.vx_grouped.specs.GroupSites.{UpNoted, laid_disks, site_below, site_disks, with_note}
use Rattle.vx_grouped.specs.SiteEnds.{ConfigGoes}
use Rattle.vx_grouped.specs.SiteMaps.{CameMapped}
use Rattle.vx_grouped.specs.SiteReturns.{ConfigReturns, ImportWhy, KnownAway, NoteReturns, as_imported, is_dimmed, returned_with, stops_early}
use Rattle.vx_grouped.specs.declared.group_site.GroupSite.{GroupSite}
use Rattle.vx_grouped.specs.declared.group_site.GroupSite.TheVariants.{Up}
use Rattle.vx_grouped.specs.declared.laid.Laid.{Laid}
use Rattle.vx_history.specs.Groups.{GroupNode, NoteWorks}
use Rattle.vx_history.specs.Steps.{burned, crashed, recovered, worked}
use Rattle.vx_history.specs.World.{Fuse, Node}
use Rattle.vx_model.specs.Sites.{is_origin}
use Rattle.vx_model.specs.declared.errors.Stop.{Stop}
use Rattle.vx_model.specs.declared.errors.Stop.TheVariants.{No as Refused, OutOfMemory}
use Rattle.vx_model.specs.declared.no.No.TheVariants.{Device, Limit}
use Rattle.vx_model.specs.declared.site.SPhase.TheVariants.{Quiet}
use Rattle.vx_model.specs.declared.site.SiteState.TheVariants.{Down as IsDown, Up as IsUp}
use Rattle.vx_model.specs.declared.units.Units.{Units}
use Rattle.vx_srl.specs.Views.{most_number}
use Rattle.vx_diskset.specs.Aboves.{site_in}
use Rattle.vx_diskset.specs.DiskSets.{CrashedAt, no_number}
use Rattle.vx_diskset.specs.Holds.{KeptBeside, most_header}
use Rattle.vx_diskset.specs.Layouts.{units_of}
use Rattle.vx_diskset.specs.Noted.{AgreesStill, SiteNoted, below_rvg}
use Rattle.vx_diskset.specs.GroupCalls.{cut_above}
use Rattle.vx_diskset.specs.OverStarts.{HandsOut}
use Rattle.vx_diskset.specs.Recovers.{CutFits, KeptIs, still_cut}
use Rattle.vx_diskset.specs.Stands.{SiteStands}
use Rattle.vx_diskset.specs.declared.disk_set.DiskSet.{DiskSet}
use Rattle.vx_diskset.specs.declared.disk_set.DiskSet.TheVariants.{OfGroup, Over}
use Rattle.vx_diskset.specs.declared.group_set.CutWrite.{CutWrite}
use Rattle.vx_diskset.specs.declared.group_set.GroupSet.{GroupSet}
use Rattle.vx_diskset.specs.declared.group_set.KeptWrite.{KeptWrite}
use Rattle.vx_diskset.specs.declared.over_set.OverSet.{OverSet}

-- the site in its next session, with this note of its group and this fuse
abbrev pub came_with : Fuse → GroupNode → Node → Node
came_with fuse note n = record (recovered n) { fuse = fuse; group = Some note }

-- a site that is down still, with this note of its group, in this session of its log
abbrev pub rest_in : (session : ℕ) → GroupNode → Node → Node
rest_in session next n = record n { session = session; group = Some next }

-- the note behind a refusal: imports may disagree, or it is not known any more what the disks hold
abbrev pub note_held : (loosens dims : Bool) → GroupNode → GroupNode
note_held loosens dims note = record note { loose = loosens || note.loose; dark = dims || note.dark }

-- in the session that the log had, or the next one has begun
abbrev pub SessionFrom : Node → ℕ → Type 0
SessionFrom n session = (session ≡ n.session) ⊎ ((session ≡ n.session + 1) × (n.session < most_number))

module _ {R : Type 0} {g : Ghosts R} where
  -- what an import notes of disks that may not agree
  abbrev pub note_ready : GroupSite R g → GroupNode → GroupNode
  note_ready old note = note_dimmed (is_dimmed old) note

  -- the group as the import brought it
  pub record CameGroup (n : Node) (note : GroupNode) (old : GroupSite R g) (laid : Laid R g) : Type 0 where
    pub middle : GroupNode
    pub returns : NoteReturns (IsTrue (laid_disks laid).tells) (note_ready old note) middle
    pub config : ConfigReturns (note_ready old note) middle (as_imported old) (Up laid)
    pub up : UpNoted (returned_with middle (record (below_rvg n) { group = Some (note_ready old note) })) middle (Up laid)
    pub from : (k : ℕ) → (site_disks old).disk_faults k ≤ (laid_disks laid).disk_faults k

  -- what came up over a group that an import brought with the note `middle`
  pub record CameOver (beside : KeptBeside) (n : Node) (middle : GroupNode) (lit : Fuse) (laid : Laid R g) (s : OverSet R g) : Type 0 where
    pub next : GroupNode
    pub works : NoteWorks middle next
    pub goes : ConfigGoes (LosesSome (laid_disks laid) (site_disks (site_in s))) middle next (Up laid) (site_in s)
    pub agrees : AgreesStill middle next (laid_disks laid) (site_disks (site_in s))
    pub noted : SiteNoted (came_with lit next n) next (Over s)
    pub stands : SiteStands beside (came_with lit next n) (Over s)
    pub session : n.session < most_number

  -- why nothing is known of what they hold, where the rack below tells its contents; and so it is noted
  pub record KnowsLess (note next : GroupNode) (new : GroupSite R g) : Type 0 where
    pub was : IsTrue (site_below new).tells → (note.dark ≡ true) ⊎ (note.loose ≡ true)
    pub dark : IsTrue (site_below new).tells → next.dark ≡ true

  -- a replicated volume group that was found over a group of disks, where nothing is told: it stands by itself
  pub record FoundOver (beside : KeptBeside) (n : Node) (lit : Fuse) (s : OverSet R g) : Type 0 where
    pub next : GroupNode
    pub now : Config
    pub units : Units
    pub node : Node
    pub same : SameDisks (record n { volumes = node.volumes; group = Some next; fuse = lit }) node
    pub whole : length node.log ≡ node.safe
    pub quiet : node.phase ≡ Quiet
    pub origin : is_origin node.role ≡ true
    pub rests : node.fed_by ≡ node.other
    pub clear : next.cut ≡ None
    pub is : config_of next.config ≡ Some now
    pub fits : FitsRvg node now units
    pub has : HasUnits now.volumes units
    pub noted : SiteNoted node next (Over s)
    pub stands : SiteStands beside node (Over s)

  -- ---- a site whose group has one

  -- it is known what the disks hold: the group has the replicated volume group that the site has, and that came up in its next session
  pub record RoseAgain (beside : KeptBeside) (n : Node) (note : GroupNode) (old : GroupSite R g) (s : OverSet R g) : Type 0 where
    pub laid : Laid R g
    pub group : CameGroup n note old laid
    pub told : IsTrue (laid_disks laid).tells
    pub bright : is_dimmed old ≡ false
    pub named : group.config.now.rvg ≡ Some (units_of n)
    pub over : CameOver beside n group.middle (burned n.fuse) laid s
    pub to : (k : ℕ) → (laid_disks laid).disk_faults k ≤ (site_disks (site_in s)).disk_faults k

  -- nothing is known of it, and the group has some replicated volume group
  pub record FoundAgain (beside : KeptBeside) (n : Node) (note : GroupNode) (old : GroupSite R g) (s : OverSet R g) : Type 0 where
    pub laid : Laid R g
    pub group : CameGroup n note old laid
    pub over : FoundOver beside n (burned n.fuse) s
    pub less : KnowsLess note over.next (site_in s)
    pub to : (k : ℕ) → (laid_disks laid).disk_faults k ≤ (site_disks (site_in s)).disk_faults k

  -- nothing is known of it, and the group has none
  pub record PlainAgain (n : Node) (note : GroupNode) (old : GroupSite R g) (s : GroupSet R g) : Type 0 where
    pub laid : Laid R g
    pub group : CameGroup n note old laid
    pub less : KnowsLess note group.middle (Up laid)
    pub maps : CameMapped old (Up laid) (Ok tt)
    pub none : laid.core.inner.config.rvg ≡ None
    pub is : s ≡ record { site = Up laid; cut = None }

  -- why a start is refused where it is known what the disks hold
  abbrev pub StartLost : KeptBeside → Node → (session : ℕ) → (middle worked : GroupNode) → (old new : GroupSite R g) → Stop → Type 0
  StartLost beside n session middle worked old new (Refused (Device disk)) = SessionFrom n session × Rose ((site_disks old).disk_faults disk) ((site_disks new).disk_faults disk)
  StartLost beside n session middle worked old new (Refused (Limit what most)) = (session ≡ n.session) × (Limit what most ≡ no_number) × (most_number ≤ most_header beside n + 2)
  StartLost beside n session middle worked old new (Refused other) = ⊥
  StartLost beside n session middle worked old new OutOfMemory = (session ≡ n.session) × (worked ≡ middle)

  -- the group came up with the replicated volume group that the site has, and that was refused: the disks crashed, and the write that was cut is so still
  pub record LostAgain (beside : KeptBeside) (n : Node) (note : GroupNode) (old : GroupSite R g) (s : OverSet R g) (stop : Stop) : Type 0 where
    pub laid : Laid R g
    pub group : CameGroup n note old laid
    pub told : IsTrue (laid_disks laid).tells
    pub bright : is_dimmed old ≡ false
    pub named : group.config.now.rvg ≡ Some (units_of n)
    -- no further volume was found
    pub seen : (note.loose ≡ false) ⊎ (length group.config.now.volumes ≡ length group.config.was.volumes)
    pub worked : GroupNode
    pub works : NoteWorks group.middle worked
    pub goes : ConfigGoes (LosesSome (laid_disks laid) (site_disks (site_in s))) group.middle worked (Up laid) (site_in s)
    pub agrees : AgreesStill group.middle worked (laid_disks laid) (site_disks (site_in s))
    pub session : ℕ
    pub why : StartLost beside n session group.middle worked old (site_in s) stop
    pub noted : SiteNoted (rest_in session (record worked { cut = note.cut }) n) (record worked { cut = note.cut }) (Over s)
    pub stands : SiteStands beside (rest_in session (record worked { cut = note.cut }) n) (Over s)
    pub to : (k : ℕ) → (laid_disks laid).disk_faults k ≤ (site_disks (site_in s)).disk_faults k

  -- the import was refused; or it is not known what the disks hold, and what was found was refused. The site is down as it was.
  pub record HeldStill (beside : KeptBeside) (n : Node) (note : GroupNode) (old : GroupSite R g) (s : OverSet R g) (stop : Stop) : Type 0 where
    pub loosens : Bool
    pub dims : Bool
    -- imports disagree from then on, or it is not known from then on what the disks hold, only where nothing was known; or where the import had begun to write
    pub loose : loosens ≡ true → IsTrue (site_below (site_in s)).tells → (note.dark ≡ true) ⊎ (note.loose ≡ true)
    -- where nothing was written, only of disks that may not agree
    pub dimmed : dims ≡ true → stops_early stop ≡ true → IsTrue (site_below (site_in s)).tells → (note.dark ≡ true) ⊎ (note.loose ≡ true)
    pub short : stop ≡ OutOfMemory → (loosens ≡ false) × (dims ≡ true → (note.loose ≡ true) ⊎ (note.dark ≡ true))
    pub why : ImportWhy (IsTrue (site_disks (site_in s)).tells) (KnownAway (IsTrue (site_disks (site_in s)).tells) (note_ready old note)) (as_imported old) (site_disks (site_in s)) stop
    pub noted : SiteNoted (rest_in n.session (note_held loosens dims note) n) (note_held loosens dims note) (Over s)
    pub stands : SiteStands beside (rest_in n.session (note_held loosens dims note) n) (Over s)

  -- what a recovery comes to
  pub data OverRises (beside : KeptBeside) (n : Node) (note : GroupNode) (old : GroupSite R g) (new : DiskSet R g) (r : Result (Unit {0}) Stop) : Type 0 where
    RisesAgain : (s : OverSet R g) → new ≡ Over s → r ≡ Ok tt → RoseAgain beside n note old s → OverRises beside n note old new r
    RisesFound : (s : OverSet R g) → new ≡ Over s → r ≡ Ok tt → FoundAgain beside n note old s → OverRises beside n note old new r
    RisesPlain : (s : GroupSet R g) → new ≡ OfGroup s → r ≡ Ok tt → PlainAgain n note old s → OverRises beside n note old new r
    RisesLost : (s : OverSet R g) (stop : Stop) → new ≡ Over s → r ≡ Err stop → LostAgain beside n note old s stop → OverRises beside n note old new r
    RisesHeld : (s : OverSet R g) (stop : Stop) → new ≡ Over s → r ≡ Err stop → HeldStill beside n note old s stop → OverRises beside n note old new r

  -- ---- the write that was cut

  -- What is read of it at a site whose replicated volume group came up with its group. Where a disk fails in that the disks crash, and the write is cut still.
  abbrev pub LookedOver : KeptBeside → Node → GroupNode → Option CutWrite → (old new : OverSet R g) → Result (Option KeptWrite) Stop → Type 0
  LookedOver beside n note cut old new (Ok kept) = SiteStands beside (worked n) (Over new) × SiteNoted (worked n) note (Over new) × KeptIs note (site_disks (site_in old)) cut kept
  LookedOver beside n note cut old new (Err (Refused (Device disk))) =
      CrashedAt beside (worked n) (Over new) × SiteNoted (crashed (with_note (still_cut cut note) n) 0) (still_cut cut note) (Over new) × CutFits note cut
      × Rose ((site_disks (site_in old)).disk_faults disk) ((site_disks (site_in new)).disk_faults disk)
  LookedOver beside n note cut old new (Err other) = ⊥

  -- so it is of the disks of a site; of those without one more is said elsewhere
  abbrev pub LooksOver : Option CutWrite → DiskSet R g → DiskSet R g → Result (Option KeptWrite) Stop → Type 0
  LooksOver cut (Over old) (Over new) r =
      (beside : KeptBeside) (n : Node) (note : GroupNode) → SiteStands beside n (Over old) → n.state ≡ IsUp → n.halted ≡ None → SiteNoted n note (Over old) → note.cut ≡ None → LookedOver beside n note cut old new r
  LooksOver cut (Over old) other r = ⊥
  LooksOver cut old new r = Unit {0}

  -- ---- a recovery of the disks of a site that is down, whose group has a replicated volume group

  pub record RaisedOver (beside : KeptBeside) (n : Node) (note : GroupNode) (o : OverSet R g) (new : DiskSet R g) (r : Result (Option CutWrite) Stop) : Type 0 where
    pub answer : Result (Unit {0}) Stop
    pub hands : HandsOut (cut_above new o.cut) answer r
    pub rises : OverRises beside n note (site_in o) new answer

  -- of others nothing is said here
  abbrev pub RaisesAbove : DiskSet R g → DiskSet R g → Result (Option CutWrite) Stop → Type 0
  RaisesAbove (Over o) new r =
      (beside : KeptBeside) (n : Node) (note : GroupNode) → n.group ≡ Some note → n.state ≡ IsDown → n.phase ≡ Quiet → SiteStands beside n (Over o) → SiteNoted n note (Over o) → RaisedOver beside n note o new r
  RaisesAbove old new r = Unit {0}

  -- ---- a site whose group had none, or whose disks were none

  -- what was found of one over its group, of which nothing was known
  pub record PlainFound (beside : KeptBeside) (n : Node) (note : GroupNode) (p : OverSet R g) : Type 0 where
    pub over : FoundOver beside n (burned n.fuse) p
    pub less : KnowsLess note over.next (site_in p)

  -- so it is where a group without one came up with one; of other disks nothing is said here
  abbrev pub FindsOver : KeptBeside → Node → GroupNode → (old new : DiskSet R g) → Type 0
  FindsOver beside n note (OfGroup s) (Over p) = PlainFound beside n note p
  FindsOver beside n note old new = Unit {0}
