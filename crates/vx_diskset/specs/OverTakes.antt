-- How an import leaves a site that was deported, whose group of disks has a replicated volume group: as a recovery leaves one that crashed, but that the disks keep
-- their fuse; and where it is refused the site is deported still, unless the fuse ran out.
use Rattle.std.specs.Prelude.{◌≡◌, ◌⊎◌, ℕ, ◌≤◌, Bool, false, true, length, Some, IsTrue, Result, Ok, Err}
use Rattle.vx_disk.specs.declared.shelf.Shelf.{Ghosts}
use Rattle.vx_grouped.specs.ConfigMoves.{LosesSome}
use Rattle.vx_grouped.specs.GroupSites.{laid_disks, site_below, site_disks}
use Rattle.vx_grouped.specs.SiteEnds.{ConfigGoes}
use Rattle.vx_grouped.specs.SiteReturns.{ImportWhy, KeepsFuse, KnownAway, as_imported, is_dimmed, stops_early}
use Rattle.vx_grouped.specs.declared.group_site.GroupSite.{GroupSite}
use Rattle.vx_grouped.specs.declared.group_site.GroupSite.TheVariants.{Up}
use Rattle.vx_grouped.specs.declared.laid.Laid.{Laid}
use Rattle.vx_history.specs.Groups.{GroupNode, NoteWorks}
use Rattle.vx_history.specs.Steps.{burned}
use Rattle.vx_history.specs.Stops.{IsFused}
use Rattle.vx_history.specs.World.{Fuse, NoFuse, Node}
use Rattle.vx_model.specs.declared.errors.Stop.{Stop}
use Rattle.vx_model.specs.declared.errors.Stop.TheVariants.{No as Refused, OutOfMemory}
use Rattle.vx_model.specs.declared.no.No.TheVariants.{Down as IsOff}
use Rattle.vx_model.specs.declared.site.SPhase.TheVariants.{Quiet}
use Rattle.vx_model.specs.declared.site.SiteState.TheVariants.{Deported as IsAway, Down as IsDown}
use Rattle.vx_diskset.specs.Aboves.{site_in}
use Rattle.vx_diskset.specs.Holds.{KeptBeside}
use Rattle.vx_diskset.specs.Layouts.{units_of}
use Rattle.vx_diskset.specs.Noted.{AgreesStill, SiteNoted}
use Rattle.vx_diskset.specs.OverRises.{CameGroup, FoundAgain, PlainAgain, RoseAgain, SessionFrom, StartLost, note_held, note_ready}
use Rattle.vx_diskset.specs.Stands.{SiteStands}
use Rattle.vx_diskset.specs.declared.disk_set.DiskSet.{DiskSet}
use Rattle.vx_diskset.specs.declared.disk_set.DiskSet.TheVariants.{OfGroup, Over}
use Rattle.vx_diskset.specs.declared.group_set.GroupSet.{GroupSet}
use Rattle.vx_diskset.specs.declared.over_set.OverSet.{OverSet}

-- a site that is deported still, with this note of its group and this fuse, in this session of its log
abbrev pub gone_in : Fuse → (session : ℕ) → GroupNode → Node → Node
gone_in fuse session next n = record n { session = session; fuse = fuse; group = Some next }

-- the fuse behind an import that was refused: it may be lost
abbrev pub fuse_gone : (lost : Bool) → Fuse → Fuse
fuse_gone true f = NoFuse
fuse_gone false f = burned f

-- one that is down then; who fed it is forgotten
abbrev pub fallen_in : (session : ℕ) → GroupNode → Node → Node
fallen_in session next n = record n { state = IsDown; fed_by = n.other; session = session; fuse = NoFuse; group = Some next }

module _ {R : Type 0} {g : Ghosts R} where
  -- the group came up with the replicated volume group that the site has, and that was not started
  pub record LostOver (n : Node) (note : GroupNode) (old : GroupSite R g) (s : OverSet R g) : Type 0 where
    pub laid : Laid R g
    pub group : CameGroup n note old laid
    pub told : IsTrue (laid_disks laid).tells
    pub bright : is_dimmed old ≡ false
    pub named : group.config.now.rvg ≡ Some (units_of n)
    -- no further volume was found
    pub seen : length group.config.now.volumes ≡ length group.config.was.volumes
    pub worked : GroupNode
    pub works : NoteWorks group.middle worked
    pub goes : ConfigGoes (LosesSome (laid_disks laid) (site_disks (site_in s))) group.middle worked (Up laid) (site_in s)
    pub to : (k : ℕ) → (laid_disks laid).disk_faults k ≤ (site_disks (site_in s)).disk_faults k

  -- it was refused: the disks crashed, and are by themselves; the write that was cut is so still
  pub record LostAway (beside : KeptBeside) (n : Node) (note : GroupNode) (old : GroupSite R g) (s : OverSet R g) (stop : Stop) : Type 0 where
    pub over : LostOver n note old s
    pub agrees : AgreesStill over.group.middle over.worked (laid_disks over.laid) (site_disks (site_in s))
    pub session : ℕ
    pub why : StartLost beside n session over.group.middle over.worked old (site_in s) stop
    pub noted : SiteNoted (gone_in NoFuse session (record over.worked { cut = note.cut }) n) (record over.worked { cut = note.cut }) (Over s)
    pub stands : SiteStands beside (gone_in NoFuse session (record over.worked { cut = note.cut }) n) (Over s)

  -- or the fuse ran out in it: the site is down
  pub record LostOff (beside : KeptBeside) (n : Node) (note : GroupNode) (old : GroupSite R g) (s : OverSet R g) : Type 0 where
    pub over : LostOver n note old s
    pub fused : IsFused n.fuse
    pub session : ℕ
    pub from : SessionFrom n session
    pub noted : SiteNoted (fallen_in session (record over.worked { cut = note.cut }) n) (record over.worked { cut = note.cut }) (Over s)
    pub stands : SiteStands beside (fallen_in session (record over.worked { cut = note.cut }) n) (Over s)

  -- the import was refused; or it is not known what the disks hold, and what was found was refused. The site is deported still.
  pub record HeldAway (beside : KeptBeside) (n : Node) (note : GroupNode) (old : GroupSite R g) (s : OverSet R g) (stop : Stop) : Type 0 where
    pub loosens : Bool
    pub dims : Bool
    -- imports disagree from then on, or it is not known from then on what the disks hold, only where nothing was known; or where the import had begun to write
    pub loose : loosens ≡ true → IsTrue (site_below (site_in s)).tells → (note.dark ≡ true) ⊎ (note.loose ≡ true)
    -- where nothing was written, only of disks that may not agree
    pub dimmed : dims ≡ true → stops_early stop ≡ true → IsTrue (site_below (site_in s)).tells → (note.dark ≡ true) ⊎ (note.loose ≡ true)
    pub short : stop ≡ OutOfMemory → (loosens ≡ false) × (dims ≡ true → (note.loose ≡ true) ⊎ (note.dark ≡ true))
    pub why : ImportWhy (IsTrue (site_disks (site_in s)).tells) (KnownAway (IsTrue (site_disks (site_in s)).tells) (note_ready old note)) (as_imported old) (site_disks (site_in s)) stop
    -- the fuse is lost, or no call that passed was not let pass
    pub lost : Bool
    pub fuse : lost ≡ false → KeepsFuse (as_imported old) (site_disks (site_in s))
    pub noted : SiteNoted (gone_in (fuse_gone lost n.fuse) n.session (note_held loosens dims note) n) (note_held loosens dims note) (Over s)
    pub stands : SiteStands beside (gone_in (fuse_gone lost n.fuse) n.session (note_held loosens dims note) n) (Over s)

  -- The fuse ran out in the import; or it is not known what the disks hold, and it ran out behind that. The site is down.
  pub record HeldOff (beside : KeptBeside) (n : Node) (note : GroupNode) (old : GroupSite R g) (s : OverSet R g) : Type 0 where
    pub loosens : Bool
    pub loose : loosens ≡ true → IsTrue (site_below (site_in s)).tells → (note.dark ≡ true) ⊎ (note.loose ≡ true)
    pub fused : IsFused n.fuse
    pub noted : SiteNoted (fallen_in n.session (note_held loosens true note) n) (note_held loosens true note) (Over s)
    pub stands : SiteStands beside (fallen_in n.session (note_held loosens true note) n) (Over s)

  -- what an import comes to
  pub data OverTakes (beside : KeptBeside) (n : Node) (note : GroupNode) (old : GroupSite R g) (new : DiskSet R g) (r : Result (Unit {0}) Stop) : Type 0 where
    TakesAgain : (s : OverSet R g) → new ≡ Over s → r ≡ Ok tt → KeepsFuse (as_imported old) (site_disks (site_in s)) → RoseAgain beside n note old s → OverTakes beside n note old new r
    TakesFound : (s : OverSet R g) → new ≡ Over s → r ≡ Ok tt → KeepsFuse (as_imported old) (site_disks (site_in s)) → FoundAgain beside n note old s → OverTakes beside n note old new r
    TakesPlain : (s : GroupSet R g) → new ≡ OfGroup s → r ≡ Ok tt → KeepsFuse (as_imported old) (site_disks s.site) → PlainAgain n note old s → OverTakes beside n note old new r
    TakesLost : (s : OverSet R g) (stop : Stop) → new ≡ Over s → r ≡ Err stop → LostAway beside n note old s stop → OverTakes beside n note old new r
    TakesLostOff : (s : OverSet R g) → new ≡ Over s → r ≡ Err (Refused IsOff) → LostOff beside n note old s → OverTakes beside n note old new r
    TakesHeld : (s : OverSet R g) (stop : Stop) → new ≡ Over s → r ≡ Err stop → HeldAway beside n note old s stop → OverTakes beside n note old new r
    TakesHeldOff : (s : OverSet R g) → new ≡ Over s → r ≡ Err (Refused IsOff) → HeldOff beside n note old s → OverTakes beside n note old new r

  -- an import of the disks of a site that was deported, whose group has a replicated volume group: of others nothing is said here
  abbrev pub TakesAbove : DiskSet R g → DiskSet R g → Result (Unit {0}) Stop → Type 0
  TakesAbove (Over o) new r =
      (beside : KeptBeside) (n : Node) (note : GroupNode) → n.group ≡ Some note → n.state ≡ IsAway → n.phase ≡ Quiet → SiteStands beside n (Over o) → SiteNoted n note (Over o) → OverTakes beside n note (site_in o) new r
  TakesAbove old new r = Unit {0}
