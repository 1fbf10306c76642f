-- How the replicated volume group of a group of disks that came up is started, and what is left where it is not.
use Rattle.std.specs.Prelude.{◌≡◌, ◌⊎◌, ℕ, ◌&&◌, not, Bool, true, false, IsFalse, IsTrue, List, [], ◌∷◌, None, Option, Some, Result, Ok, Err}
use Rattle.vx_disk.specs.Racks.{Alike}
use Rattle.vx_disk.specs.declared.shelf.Shelf.{Ghosts}
use Rattle.vx_ground.specs.Accounts.{GroundSince, ground_state}
use Rattle.vx_ground.specs.Lifted.{laid_volumes}
use Rattle.vx_grouped.specs.Brings.{BringsAtSite, CameKnown}
use Rattle.vx_grouped.specs.GroupSites.{AwayNoted, DownNoted, idle_below, idle_disks, laid_below, laid_disks, site_below, site_disks}
use Rattle.vx_grouped.specs.SiteEnds.{stops_down}
use Rattle.vx_grouped.specs.SiteMaps.{CameMapped}
use Rattle.vx_grouped.specs.SiteReturns.{LateDark, LessLeft, ReturnSince, SiteImports, SiteRecovers, as_imported, site_rested}
use Rattle.vx_grouped.specs.declared.group_site.GroupSite.{GroupSite}
use Rattle.vx_grouped.specs.declared.group_site.GroupSite.TheVariants.{Up, Deported, Down}
use Rattle.vx_grouped.specs.declared.idle.Idle.{Idle}
use Rattle.vx_grouped.specs.declared.laid.Laid.{Laid}
use Rattle.vx_history.specs.Groups.{GroupNode}
use Rattle.vx_logimport.specs.declared.rested.Rested.{Rested}
use Rattle.vx_history.specs.World.{Node}
use Rattle.vx_model.specs.Sites.{is_origin}
use Rattle.vx_model.specs.declared.errors.Stop.{Stop}
use Rattle.vx_model.specs.declared.errors.Stop.TheVariants.{No as Refused}
use Rattle.vx_model.specs.declared.no.No.{No}
use Rattle.vx_model.specs.declared.limits.TheConstants.{MOST_NUMBER}
use Rattle.vx_model.specs.declared.no.Counted.TheVariants.{Number as Numbers}
use Rattle.vx_model.specs.declared.no.No.TheVariants.{Limit, NoConfig, Role as NoRole}
use Rattle.vx_model.specs.declared.site.SPhase.{SPhase}
use Rattle.vx_model.specs.declared.site.SPhase.TheVariants.{Quiet}
use Rattle.vx_model.specs.declared.state.KeptLink.{KeptLink}
use Rattle.vx_model.specs.declared.state.State.{State}
use Rattle.vx_model.specs.declared.units.Units.{Units}
use Rattle.vx_rvg.specs.Views.{Core}
use Rattle.vx_untold.specs.Shades.{rack_of}
use Rattle.vx_untold.specs.declared.shade.Shade.{Shade}
use Rattle.vx_untold.specs.declared.shade.Shade.TheVariants.{Bright, Dark}
use Rattle.vx_watched.specs.Since.{CalledSince}
use Rattle.vx_watched.specs.Traces.{TellsLess}
use Rattle.vx_diskset.specs.Aboves.{above_in, site_in}
use Rattle.vx_diskset.specs.Founded.{LaidFell}
use Rattle.vx_diskset.specs.GroupCalls.{AtOver, cut_above, cut_behind, cut_in}
use Rattle.vx_diskset.specs.GroupSets.{cut_value}
use Rattle.vx_diskset.specs.Works.{DoesStart}
use Rattle.vx_diskset.specs.declared.above.Above.TheVariants.{Origin}
use Rattle.vx_diskset.specs.declared.disk_set.DiskSet.{DiskSet}
use Rattle.vx_diskset.specs.declared.disk_set.DiskSet.TheVariants.{OfGroup, Over}
use Rattle.vx_diskset.specs.declared.group_set.CutWrite.{CutWrite}
use Rattle.vx_diskset.specs.declared.group_set.GroupSet.{GroupSet}
use Rattle.vx_diskset.specs.declared.over_set.OverSet.{OverSet}

-- ---- what a log says of its site

abbrev pub is_idle_phase : SPhase → Bool
is_idle_phase Quiet = true
is_idle_phase other = false

abbrev pub has_no_links : List KeptLink → Bool
has_no_links [] = true
has_no_links (l ∷ ls) = false

-- it stands by itself: an origin without links, in no replay
abbrev pub is_alone : State → Bool
is_alone s = is_origin s.role && (has_no_links s.links && is_idle_phase s.phase)

-- every loose block takes its latest value
abbrev pub all_latest : ℕ
all_latest = 0xffff_ffff_ffff_ffff

-- the write is handed out where the group came up
abbrev pub HandsOut : Option CutWrite → Result (Unit {0}) Stop → Result (Option CutWrite) Stop → Type 0
HandsOut cut (Ok done) r = r ≡ Ok cut
HandsOut cut (Err stop) r = r ≡ Err stop

-- disks that tell nothing of their contents
abbrev pub is_dark : {R : Type 0} → Shade R → Bool
is_dark (Bright rack) = false
is_dark (Dark rack) = true

module _ {R : Type 0} {g : Ghosts R} where
  -- ---- a start over the volumes of a group

  pub record StartsOn (units : Units) (old new : Laid R g) (r : Result Core No) : Type 0 where
    pub does : DoesStart units (laid_volumes old) (laid_volumes new) r
    pub ground : GroundSince (ground_state old.core) (laid_disks old) (ground_state new.core) (laid_disks new)
    pub since : CalledSince (laid_disks old) (laid_disks new)
    pub told : TellsLess (laid_below old) (laid_below new)

  -- it does not stand by itself
  pub record StandsOff (units : Units) (old new : Laid R g) : Type 0 where
    pub core : Core
    pub starts : StartsOn units old new (Ok core)
    pub linked : is_alone core.log.header.state ≡ false

  -- why it does not stand there: memory was wanted, it was refused, or what was found does not stand by itself
  abbrev pub TriedOn : Units → Laid R g → Laid R g → Stop → Type 0
  TriedOn units old new (Refused why) = StartsOn units old new (Err why) ⊎ ((why ≡ NoConfig) × StandsOff units old new)
  TriedOn units old new other = new ≡ old

  -- where the fuse did not run out the group is up
  abbrev pub UpUnless : Stop → Laid R g → Type 0
  UpUnless stop mid = (why : No) → stop ≡ Refused why → stops_down stop ≡ false → IsTrue (laid_disks mid).down → ⊥

  -- the group behind it, with what stands over it where it was done
  abbrev pub StartsIn : Units → Laid R g → Laid R g → Result Core Stop → Type 0
  StartsIn units old new (Ok core) = StartsOn units old new (Ok core) × (is_alone core.log.header.state ≡ true)
  StartsIn units old new (Err stop) = TriedOn units old new stop × UpUnless stop new

  -- it stands over the group, and no write is cut any more
  pub record Started (units : Units) (old : Laid R g) (s : OverSet R g) : Type 0 where
    pub laid : Laid R g
    pub core : Core
    pub starts : StartsOn units old laid (Ok core)
    pub alone : is_alone core.log.header.state ≡ true
    pub site : site_in s ≡ Up laid
    pub above : above_in s ≡ Origin core
    pub cut : s.cut ≡ None

  -- ---- it does not stand

  -- The disks crash. Where they tell nothing, imports of them are held to agree, which is void of them.
  pub record FellBack (mid : Laid R g) (idle : Idle R g) : Type 0 where
    pub fell : Idle R g
    pub is : LaidFell all_latest mid fell
    pub rack : idle.rack ≡ fell.rack
    pub rested : idle.rested ≡ fell.rested
    pub agreed : is_dark fell.rack ≡ false → idle.agreed ≡ fell.agreed
    pub void : is_dark fell.rack ≡ true → idle.agreed ≡ true

  -- disks that crashed, and were brought up by themselves
  pub record Revived (fell idle : Idle R g) : Type 0 where
    pub agreed : idle.agreed ≡ fell.agreed
    pub rested : idle.rested ≡ fell.rested
    pub alike : Alike (idle_disks fell) (idle_disks idle)
    pub up : IsFalse (idle_disks idle).down
    pub armed : (idle_disks idle).armed ≡ (idle_disks fell).armed
    pub since : ReturnSince (idle_disks fell) (idle_disks idle)
    pub told : TellsLess (idle_below fell) (idle_below idle)

  -- those of a site that was deported are by themselves then
  abbrev pub BackAt : (away : Bool) → Idle R g → GroupSite R g → Type 0
  BackAt false idle e = e ≡ Down idle
  BackAt true idle e = (x : Idle R g) × (e ≡ Deported x) × Revived idle x

  abbrev pub FellAt : (away : Bool) → Laid R g → GroupSite R g → Type 0
  FellAt away mid e = (idle : Idle R g) × FellBack mid idle × BackAt away idle e

  -- So they are, unless the fuse ran out, where the start is refused; and the write is cut still.
  pub record StartFails (away : Bool) (units : Units) (old : Laid R g) (cut : Option CutWrite) (s : OverSet R g) (stop : Stop) : Type 0 where
    pub mid : Laid R g
    pub idle : Idle R g
    pub tried : TriedOn units old mid stop
    pub up : UpUnless stop mid
    pub fell : FellBack mid idle
    pub site : BackAt (away && not (stops_down stop)) idle (site_in s)
    pub cut_is : s.cut ≡ cut

  abbrev pub StartsOver : (away : Bool) → Units → Laid R g → Option CutWrite → DiskSet R g → Result (Unit {0}) Stop → Type 0
  StartsOver away units old cut (Over s) (Ok done) = Started units old s
  StartsOver away units old cut (Over s) (Err stop) = StartFails away units old cut s stop
  StartsOver away units old cut other r = ⊥

  -- A group that came up, of a site that was deported or not, with its replicated volume group where its configuration has one.
  abbrev pub WithUnits : (away : Bool) → Option Units → Laid R g → Option CutWrite → DiskSet R g → Result (Unit {0}) Stop → Type 0
  WithUnits away None laid cut new r = (new ≡ (let s : GroupSet R g = record { site = Up laid; cut = None } in OfGroup s)) × (r ≡ Ok tt)
  WithUnits away (Some units) laid cut new r = StartsOver away units laid cut new r

  abbrev pub WithRvg : (away : Bool) → GroupSite R g → Option CutWrite → DiskSet R g → Result (Unit {0}) Stop → Type 0
  WithRvg away (Up laid) cut new r = WithUnits away laid.core.inner.config.rvg laid cut new r
  WithRvg away other cut new r = (new ≡ (let s : GroupSet R g = record { site = other; cut = cut } in OfGroup s)) × (r ≡ Err (Refused NoRole))

  -- ---- a group of a site that had no replicated volume group

  -- The disks crash, and tell nothing from then on: of which volumes they told what a clean stop left is void of them, and is what it was before the import.
  pub record FellDark (rested : Option Rested) (mid : Laid R g) (idle : Idle R g) : Type 0 where
    pub fell : Idle R g
    pub is : LaidFell all_latest mid fell
    pub rack : idle.rack ≡ Dark (rack_of fell.rack)
    pub agreed : idle.agreed ≡ true
    pub stays : idle.rested ≡ rested

  -- those of a site that was deported are by themselves then
  abbrev pub DarkBack : (away : Bool) → Option Rested → Laid R g → GroupSite R g → Type 0
  DarkBack false rested mid (Down idle) = FellDark rested mid idle
  DarkBack true rested mid (Deported idle) = (fell : Idle R g) × FellDark rested mid fell × Revived fell idle
  DarkBack away rested mid other = ⊥

  -- What was found of a replicated volume group is taken up only of disks that tell nothing. Else the import is refused, as one for which no serial is left.
  abbrev pub PlainTried : Units → Laid R g → Laid R g → Stop → Type 0
  PlainTried units old mid stop = ((is_dark old.shelf ≡ true) × TriedOn units old mid stop) ⊎ ((mid ≡ old) × (stop ≡ Refused (Limit Numbers MOST_NUMBER)))

  -- then the group is as behind an import that was refused, and the write is cut still
  pub record PlainFails (away : Bool) (rested : Option Rested) (units : Units) (old : Laid R g) (cut : Option CutWrite) (s : GroupSet R g) (stop : Stop) : Type 0 where
    pub mid : Laid R g
    pub tried : PlainTried units old mid stop
    pub fell : DarkBack (away && not (stops_down stop)) rested mid s.site
    pub cut_is : s.cut ≡ cut

  -- so it is behind an import that is refused so
  abbrev pub PlainBack : (away : Bool) → Option Rested → Laid R g → Option CutWrite → Stop → DiskSet R g → Result (Unit {0}) Stop → Type 0
  PlainBack away rested mid cut stop (OfGroup s) r = DarkBack (away && not (stops_down stop)) rested mid s.site × (s.cut ≡ cut) × (r ≡ Err stop)
  PlainBack away rested mid cut stop other r = ⊥

  abbrev pub PlainStarts : (away : Bool) → Option Rested → Units → Laid R g → Option CutWrite → DiskSet R g → Result (Unit {0}) Stop → Type 0
  PlainStarts away rested units old cut (Over s) (Ok done) = (is_dark old.shelf ≡ true) × Started units old s
  PlainStarts away rested units old cut (OfGroup s) (Err stop) = PlainFails away rested units old cut s stop
  PlainStarts away rested units old cut other r = ⊥

  abbrev pub PlainUnits : (away : Bool) → Option Rested → Option Units → Laid R g → Option CutWrite → DiskSet R g → Result (Unit {0}) Stop → Type 0
  PlainUnits away rested None laid cut new r = (new ≡ (let s : GroupSet R g = record { site = Up laid; cut = None } in OfGroup s)) × (r ≡ Ok tt)
  PlainUnits away rested (Some units) laid cut new r = PlainStarts away rested units laid cut new r

  abbrev pub WithPlain : (away : Bool) → Option Rested → GroupSite R g → Option CutWrite → DiskSet R g → Result (Unit {0}) Stop → Type 0
  WithPlain away rested (Up laid) cut new r = PlainUnits away rested laid.core.inner.config.rvg laid cut new r
  WithPlain away rested other cut new r = (new ≡ (let s : GroupSet R g = record { site = other; cut = cut } in OfGroup s)) × (r ≡ Err (Refused NoRole))

  -- ---- behind an import of the group

  -- its replicated volume group, or what the refused import left
  abbrev pub BehindImport : (away : Bool) → GroupSite R g → Option CutWrite → DiskSet R g → Result (Unit {0}) Stop → Result (Unit {0}) Stop → Type 0
  BehindImport away mid cut new (Ok done) r = WithRvg away mid cut new r
  BehindImport away mid cut new (Err stop) r = AtOver (λ e. e ≡ mid) new × (cut_in new ≡ cut_value cut) × (r ≡ Err stop)

  abbrev pub BehindPlain : (away : Bool) → Option Rested → GroupSite R g → Option CutWrite → DiskSet R g → Result (Unit {0}) Stop → Result (Unit {0}) Stop → Type 0
  BehindPlain away rested mid cut new (Ok done) r = WithPlain away rested mid cut new r
  BehindPlain away rested mid cut new (Err stop) r = (new ≡ (let s : GroupSet R g = record { site = mid; cut = cut } in OfGroup s)) × (r ≡ Err stop)

  -- the import itself
  pub record BroughtBy (old mid : GroupSite R g) (answer : Result (Unit {0}) Stop) : Type 0 where
    pub imported : (n : Node) (note : GroupNode) → AwayNoted n note old → SiteImports n note old mid answer
    pub recovered : (n : Node) (note : GroupNode) → DownNoted n note old → SiteRecovers n note old mid answer
    pub brings : BringsAtSite (as_imported old) mid answer
    pub since : ReturnSince (site_disks old) (site_disks mid)
    pub told : TellsLess (site_below old) (site_below mid)
    pub maps : CameMapped old mid answer
    pub known : CameKnown old answer
    pub less : LessLeft (as_imported old) mid answer
    pub dark : LateDark mid answer

  pub record ImportsBy (away : Bool) (old : GroupSite R g) (cut : Option CutWrite) (new : DiskSet R g) (r : Result (Unit {0}) Stop) : Type 0 where
    pub mid : GroupSite R g
    pub answer : Result (Unit {0}) Stop
    pub by : BroughtBy old mid answer
    pub behind : BehindPlain away (site_rested old) mid cut new answer r

  -- the same of a site that crashed, which hands out the write that its crash cut
  pub record RaisesBy (old : GroupSite R g) (cut : Option CutWrite) (new : DiskSet R g) (r : Result (Option CutWrite) Stop) : Type 0 where
    pub answer : Result (Unit {0}) Stop
    pub by : ImportsBy false old cut new answer
    pub is : HandsOut (cut_behind new cut) answer r

  -- and of one whose group has a replicated volume group
  pub record RaisesOver (old : GroupSite R g) (cut : Option CutWrite) (new : DiskSet R g) (r : Result (Option CutWrite) Stop) : Type 0 where
    pub mid : GroupSite R g
    pub answer : Result (Unit {0}) Stop
    pub by : BroughtBy old mid answer
    pub started : Result (Unit {0}) Stop
    pub behind : BehindImport false mid cut new answer started
    pub is : HandsOut (cut_above new cut) started r

  -- an import of one that was deported
  pub record TakesOver (old : GroupSite R g) (cut : Option CutWrite) (new : DiskSet R g) (r : Result (Unit {0}) Stop) : Type 0 where
    pub mid : GroupSite R g
    pub answer : Result (Unit {0}) Stop
    pub by : BroughtBy old mid answer
    pub behind : BehindImport true mid cut new answer r

  -- what an import of the group of a site comes to, and one of a site that crashed
  abbrev pub ImportsIn : DiskSet R g → DiskSet R g → Result (Unit {0}) Stop → Type 0
  ImportsIn (OfGroup s) new r = ImportsBy true s.site s.cut new r
  ImportsIn (Over s) new r = TakesOver (site_in s) s.cut new r
  ImportsIn old new r = Unit {0}

  abbrev pub RaisesIn : DiskSet R g → DiskSet R g → Result (Option CutWrite) Stop → Type 0
  RaisesIn (OfGroup s) new r = RaisesBy s.site s.cut new r
  RaisesIn (Over s) new r = RaisesOver (site_in s) s.cut new r
  RaisesIn old new r = Unit {0}
