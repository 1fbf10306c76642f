-- What a yard stands for, where sites may keep links and be in doubt, and what a line leads it to. One record serves all lines: a line that
-- looks at packets, or at what every world keeps, has a promise for those worlds alone that the yard carries (`Carries`), or that are good
-- where contents are told (`GoodFor`).
use Rattle.std.specs.Prelude.{◌≡◌, ◌≢◌, ◌⊎◌, ℕ, Bool, true, false, ◌≤◌, ◌<◌, List, [], ◌++◌, length, Option, Some, slice_get, Result, Ok, Err}
use Rattle.std.specs.Vec.{vec_capacity}
use Rattle.vx_model.specs.declared.errors.OutOfMemory.{OutOfMemory}
use Rattle.vx_model.specs.declared.limits.TheConstants.{MOST_SITES}
use Rattle.vx_history.specs.Doubts.{After, Doubted, happened}
use Rattle.vx_history.specs.Step.{step}
use Rattle.vx_history.specs.World.{NoFuse, Node}
use Rattle.vx_history.specs.declared.event.Event.TheVariants.{Crash as CrashAt}
use Rattle.vx_history.specs.declared.event.Said.TheVariants.{Done as IsDone}
use Rattle.vx_model.specs.declared.site.SiteState.TheVariants.{Bare as IsBare, Down as IsDown}
use Rattle.vx_events.specs.Doubts.{doubt_chosen, with_disks}
use Rattle.vx_events.specs.GroupLines.{is_over_group}
use Rattle.vx_disk.specs.declared.shelf.Shelf.{Ghosts}
use Rattle.std.specs.Io.KnownBytes.{Appends}
use Rattle.vx_script.specs.declared.line.ScriptLine.{ScriptLine}
use Rattle.vx_diskset.specs.Asked.{FailsAs, FusedAs}
use Rattle.vx_diskset.specs.Holds.{beside_of}
use Rattle.vx_diskset.specs.Makings.{IsFirstSite}
use Rattle.vx_diskset.specs.Stands.{IsUnused, RoleIs, SiteStands}
use Rattle.vx_diskset.specs.Noted.{NotedOver}
use Rattle.vx_diskset.specs.declared.disk_set.DiskSet.{DiskSet}
use Rattle.vx_events.specs.Fails.{Fails}
use Rattle.vx_events.specs.GroupEnds.{GroupEnds}
use Rattle.vx_events.specs.Lines.{IsDone as IsDoneLine}
use Rattle.vx_events.specs.Parts.{StopsShort}
use Rattle.vx_events.specs.StepsOver.{FindsKept, facts_over, group_place}
use Rattle.vx_world.specs.Lines.{GoodDoubted}
use Rattle.vx_yard.specs.Carries.{Carries}
use Rattle.vx_yard.specs.OfSites.{HasCalled}
use Rattle.vx_yard.specs.Steps.{Prints}
use Rattle.vx_yard.specs.Working.{IsFree}
use Rattle.vx_yard.specs.declared.errors.LineStop.{LineStop}
use Rattle.vx_yard.specs.declared.errors.LineStop.TheVariants.{WriteFault, Open as AtOpen, OutOfMemory as NoMemory}
use Rattle.vx_events.specs.LinksFit.{LinksFit}
use Rattle.vx_events.specs.Lists.{crash_count}
use Rattle.vx_events.specs.OpenLines.{EndsRun}
use Rattle.vx_events.specs.declared.said.Said.{Said}
use Rattle.vx_yard.specs.Stands.{RoseAll}
use Rattle.vx_yard.specs.Yards.{IsTold, count_of, in_files}
use Rattle.vx_yard.specs.declared.yard.Yard.{Yard}
use Rattle.vx_events.specs.RvgParts.{ShortFull}
use Rattle.vx_events.specs.RvgSteps.{StepFull, is_for_rvg}

-- a site that may be another: it has the same name, disks and volumes
pub record IsSameSite (n k : Node) : Type 0 where
  pub name : k.name ≡ n.name
  pub disks : k.disks ≡ n.disks
  pub blocks : k.blocks ≡ n.blocks
  pub volumes : k.volumes ≡ n.volumes

-- a site that is made and has no volumes, as a group of disks, is on its first line and in its first session
abbrev pub BeginsFirst : (site : ℕ) → Node → Type 0
BeginsFirst site n = (n.state ≡ IsBare → ⊥) → n.volumes ≡ [] → IsFirstSite site n

-- what a crash of a site leaves, which keeps so many writes of what it is or of what it may be, with the disks that are made to fail
abbrev pub crash_of : Doubted → (s count : ℕ) → (taken : Bool) → Doubted
crash_of d s count taken = let h = happened d (CrashAt s count) taken in record h { world = with_disks taken s d.world h.world }

module _ {R : Type 0} {g : Ghosts R} where
  -- each site of the world has its disk set, with what the world has of it beside its node, and the disk sets of other numbers are not used
  pub record SitesAgree (d : Doubted) (disk_sets : List (DiskSet R g)) : Type 0 where
    pub eight : length disk_sets ≡ MOST_SITES
    pub few : d.world.sites ≤ MOST_SITES
    pub sites : (s : ℕ) (e : DiskSet R g) → s < d.world.sites → slice_get disk_sets s ≡ Some e → SiteStands (beside_of d s) (d.world.nodes s) e
    pub others : (s : ℕ) (e : DiskSet R g) → d.world.sites ≤ s → slice_get disk_sets s ≡ Some e → IsUnused e

  -- the group of each site has the room in which updates wait, or not, as the role of the site has it
  pub record RolesAre (d : Doubted) (y : Yard R g) : Type 0 where
    pub each : (s : ℕ) (e : DiskSet R g) → s < d.world.sites → slice_get y.disk_sets.items s ≡ Some e → RoleIs (d.world.nodes s) e

  -- The yard stands for this world, in which sites may be in doubt: it has what the tests of a line see of it, and disk sets that agree with it. Each
  -- site has the group that its role asks for, and one in doubt is the same site either way. The disks that the world makes fail are made to fail, and a
  -- fuse that it knows of has no more calls left than it knows.
  pub record StandsFor (d : Doubted) (y : Yard R g) : Type 0 where
    pub facts : y.facts.items ≡ facts_over d.world
    pub disk_sets : SitesAgree d y.disk_sets.items
    pub links : LinksFit d
    pub roles : RolesAre d y
    pub first : (s : ℕ) → s < d.world.sites → BeginsFirst s (d.world.nodes s)
    pub noted : (s : ℕ) (e : DiskSet R g) → s < d.world.sites → slice_get y.disk_sets.items s ≡ Some e → NotedOver (d.world.nodes s) e
    pub doubts : (s : ℕ) (a : After) → d.after s ≡ Some a → IsSameSite (d.world.nodes s) a.node
    pub failing : (s : ℕ) (e : DiskSet R g) → s < d.world.sites → slice_get y.disk_sets.items s ≡ Some e → FailsAs (d.world.nodes s) e
    pub fuses : (s : ℕ) (e : DiskSet R g) → s < d.world.sites → slice_get y.disk_sets.items s ≡ Some e → FusedAs (d.world.nodes s) e
    -- room for the racks as they come back
    pub none : y.racks.items ≡ []
    pub room : MOST_SITES ≤ vec_capacity y.racks

  -- what the laws of all worlds say of this one, where contents are told and it has not strayed
  abbrev pub GoodFor : Doubted → Yard R g → Type 0
  GoodFor d y = IsTold y → d.strayed ≡ false → GoodDoubted d

  -- The yard stands for this world and carries it, and the world is good where contents are told, as long as it has not strayed.
  pub record Serves (d : Doubted) (y : Yard R g) : Type 0 where
    pub stands : StandsFor d y
    pub carries : Carries d y
    pub good : GoodFor d y

  -- The line was done and answered so, and the yard stands for what it made of the world. It carries that, if it did so before.
  pub record Leads (d : Doubted) (line : ScriptLine) (said : Said) (old new : Yard R g) : Type 0 where
    pub next : Doubted
    pub fails : Fails
    pub done : IsDoneLine (IsTold new) d line fails said next
    pub stands : StandsFor next new
    pub carries : Carries d old → Carries next new
    pub rose : RoseAll fails (count_of old) (count_of new)

  -- the same of a line that works on the group of a site
  pub record LeadsOver (d : Doubted) (line : ScriptLine) (said : Said) (old new : Yard R g) : Type 0 where
    pub next : Doubted
    pub fails : Fails
    pub done : GroupEnds (IsTold new) d line (group_place d.world line) fails said next
    pub stands : StandsFor next new
    pub carries : Carries d old → Carries next new
    pub rose : RoseAll fails (count_of old) (count_of new)

  -- the same of a recovery of a bare site that looked for a group on disks of which nothing is told: it came up, or the site is bare still
  pub record LeadsFound (d : Doubted) (line : ScriptLine) (said : Said) (old new : Yard R g) : Type 0 where
    pub next : Doubted
    pub fails : Fails
    pub done : IsDoneLine (IsTold new) d line fails said next ⊎ FindsKept (IsTold new) d line (group_place d.world line) fails said next
    pub stands : StandsFor next new
    pub carries : Carries d old → Carries next new
    pub rose : RoseAll fails (count_of old) (count_of new)

  -- nothing of a line was done
  pub record StaysFor (d : Doubted) (old new : Yard R g) : Type 0 where
    pub stands : StandsFor d new
    pub carries : Carries d old → Carries d new
    pub rose : RoseAll [] (count_of old) (count_of new)

  -- memory ran out within the line, which left this of it, and no call failed
  pub record StopsFor (d : Doubted) (line : ScriptLine) (old new : Yard R g) : Type 0 where
    pub next : Doubted
    pub part : StopsShort (IsTold new) d line next
    pub stands : StandsFor next new
    pub carries : Carries d old → Carries next new
    pub rose : RoseAll [] (count_of old) (count_of new)

  -- the line was done, or memory ran out, and nothing was
  abbrev pub LeadsIs : Doubted → ScriptLine → Yard R g → Yard R g → Result Said OutOfMemory → Type 0
  LeadsIs d line old new (Ok said) = Leads d line said old new
  LeadsIs d line old new (Err e) = StaysFor d old new

  abbrev pub LeadsOverIs : Doubted → ScriptLine → Yard R g → Yard R g → Result Said OutOfMemory → Type 0
  LeadsOverIs d line old new (Ok said) = LeadsOver d line said old new
  LeadsOverIs d line old new (Err e) = StaysFor d old new

  abbrev pub LeadsFoundIs : Doubted → ScriptLine → Yard R g → Yard R g → Result Said OutOfMemory → Type 0
  LeadsFoundIs d line old new (Ok said) = LeadsFound d line said old new
  LeadsFoundIs d line old new (Err e) = StaysFor d old new

  -- the line was done, or memory ran out within it
  abbrev pub LeadsOrStops : Doubted → ScriptLine → Yard R g → Yard R g → Result Said OutOfMemory → Type 0
  LeadsOrStops d line old new (Ok said) = Leads d line said old new
  LeadsOrStops d line old new (Err e) = StopsFor d line old new

  abbrev pub LeadsOverOrStops : Doubted → ScriptLine → Yard R g → Yard R g → Result Said OutOfMemory → Type 0
  LeadsOverOrStops d line old new (Ok said) = LeadsOver d line said old new
  LeadsOverOrStops d line old new (Err e) = StopsFor d line old new

  -- the site crashed, as it was or as it might be; one that ran keeps nothing that waited
  pub record Falls (d : Doubted) (s : ℕ) (old new : Yard R g) : Type 0 where
    pub count : ℕ
    pub taken : Bool
    pub keeps : crash_count (d.world.nodes s) count ≡ count
    pub said : (step (doubt_chosen taken d (CrashAt s count)).world (CrashAt s count)).said ≡ IsDone
    pub down : ((crash_of d s count taken).world.nodes s).state ≡ IsDown
    pub disks : ((crash_of d s count taken).world.nodes s).disks ≡ (d.world.nodes s).disks
    pub blocks : ((crash_of d s count taken).world.nodes s).blocks ≡ (d.world.nodes s).blocks
    pub volumes : ((crash_of d s count taken).world.nodes s).volumes ≡ (d.world.nodes s).volumes
    pub group : ((crash_of d s count taken).world.nodes s).group ≡ (d.world.nodes s).group
    pub fuse : ((crash_of d s count taken).world.nodes s).fuse ≡ NoFuse
    -- a site over a group has no write that a crash could keep, and is never in doubt
    pub plain : is_over_group (d.world.nodes s) ≡ true → (count ≡ 0) × (taken ≡ false)
    pub sites : (crash_of d s count taken).world.sites ≡ d.world.sites
    pub stands : StandsFor (crash_of d s count taken) new
    pub carries : Carries d old → Carries (crash_of d s count taken) new
    pub rose : RoseAll [] (count_of old) (count_of new)

  -- memory ran out within the line, which left this of it
  pub record StopsAbove (d : Doubted) (line : ScriptLine) (old new : Yard R g) : Type 0 where
    pub next : Doubted
    pub part : ShortFull (IsTold new) d line next
    pub stands : StandsFor next new
    pub carries : Carries d old → Carries next new
    pub rose : RoseAll [] (count_of old) (count_of new)

  -- the same of a line that may also be refused
  pub record AnswersFor (d : Doubted) (line : ScriptLine) (said : Said) (old new : Yard R g) : Type 0 where
    pub next : Doubted
    pub fails : Fails
    pub step : StepFull (IsTold new) (in_files old) d line fails said next
    pub stands : StandsFor next new
    pub carries : Carries d old → Carries next new
    pub rose : RoseAll fails (count_of old) (count_of new)

  abbrev pub AnswersIs : Doubted → ScriptLine → Yard R g → Yard R g → Result Said OutOfMemory → Type 0
  AnswersIs d line old new (Ok said) = AnswersFor d line said old new
  AnswersIs d line old new (Err e) = StopsAbove d line old new

  -- the line made a step, by which the yard stands for a new world; its text is `text`
  pub record StepsFor (d : Doubted) (line : ScriptLine) (old new : Yard R g) (text : List ℕ) : Type 0 where
    pub next : Doubted
    pub fails : Fails
    pub prints : Prints (IsTold new) (in_files old) d line fails text next
    pub stands : StandsFor next new
    pub carries : Carries d old → Carries next new
    pub rose : RoseAll fails (count_of old) (count_of new)
    -- where no test refuses the line, and no replicated volume group is over a group of its site, the fuse of that is as its calls leave it
    pub called : IsFree old line → is_for_rvg d.world line ≡ false → HasCalled d.world line prints.said old new

  -- The whole text was written. Or the sink failed, and a part of it is missing. Or memory ran out, and nothing was written. Or the run ends at the line, and
  -- nothing was done.
  abbrev pub LineFor : Doubted → ScriptLine → Yard R g → Yard R g → Option (List ℕ) → Option (List ℕ) → Result (Unit {0}) LineStop → Type 0
  LineFor d line old new written now (Ok done) = (text : List ℕ) × StepsFor d line old new text × Appends written now text
  LineFor d line old new written now (Err WriteFault) =
      (text : List ℕ) × (sent : List ℕ) × (unsent : List ℕ) × StepsFor d line old new text × (text ≡ sent ++ unsent) × (unsent ≢ []) × Appends written now sent
  LineFor d line old new written now (Err AtOpen) = EndsRun (in_files old) d.world line × StaysFor d old new × Appends written now []
  LineFor d line old new written now (Err NoMemory) = (StopsAbove d line old new ⊎ ((text : List ℕ) × StepsFor d line old new text)) × Appends written now []
