-- How the group of a site comes up in a recovery.
use Rattle.std.specs.Prelude.{◌≡◌, ◌⊎◌, ◌<◌, ℕ, true, ◌/◌, List, length, map, Option, Some, None, slice_get, slice_set, false, Result, Ok, Err, []}
use Rattle.vx_model.specs.declared.limits.TheConstants.{BLOCK}
use Rattle.vx_model.specs.declared.errors.OutOfMemory.{OutOfMemory}
use Rattle.vx_model.specs.declared.errors.Stop.{Stop}
use Rattle.vx_model.specs.declared.site.SiteState.TheVariants.{Down, Up}
use Rattle.vx_history.specs.Doubts.{Doubted, happened}
use Rattle.vx_history.specs.Groups.{GroupNode}
use Rattle.vx_history.specs.World.{Node}
use Rattle.vx_history.specs.declared.event.Event.TheVariants.{Crash as CrashAt}
use Rattle.vx_disk.specs.declared.shelf.Shelf.{Ghosts}
use Rattle.vx_config.specs.declared.config.Config.{Config}
use Rattle.vx_config.specs.declared.entry.VolumeEntry.{VolumeEntry}
use Rattle.vx_grouped.specs.GroupSites.{UpNoted, site_config}
use Rattle.vx_grouped.specs.SiteMaps.{StaysMapped}
use Rattle.vx_diskset.specs.Asked.{SameFailing}
use Rattle.vx_diskset.specs.DiskSets.{Later}
use Rattle.vx_diskset.specs.GroupCalls.{AtSite, OnSites, config_in, core_in}
use Rattle.vx_diskset.specs.OverRises.{LooksOver}
use Rattle.vx_diskset.specs.Recovers.{LooksAt}
use Rattle.vx_diskset.specs.declared.disk_set.DiskSet.{DiskSet}
use Rattle.vx_diskset.specs.declared.group_set.CutWrite.{CutWrite}
use Rattle.vx_diskset.specs.declared.group_set.KeptWrite.{KeptWrite}
use Rattle.vx_order.specs.declared.facts.SiteFacts.{SiteFacts}
use Rattle.vx_report.specs.declared.view.Kept.{Kept}
use Rattle.vx_script.specs.declared.line.ScriptLine.TheVariants.{Recover}
use Rattle.vx_events.specs.Fails.{Fails}
use Rattle.vx_events.specs.GroupEnds.{GroupEnds}
use Rattle.vx_events.specs.GroupLines.{noting}
use Rattle.vx_events.specs.GroupNotes.{NotesShort, note_at}
use Rattle.vx_events.specs.GroupViews.{plain_fact, volumes_of}
use Rattle.vx_events.specs.LinkViews.{linked_view}
use Rattle.vx_events.specs.RvgBack.{RvgFinds}
use Rattle.vx_events.specs.RvgViews.{is_over_rvg, over_disks}
use Rattle.vx_events.specs.declared.said.Said.{Said}
use Rattle.vx_events.specs.declared.said.Said.TheVariants.{Resumed}
use Rattle.vx_yard.specs.Carries.{Carries}
use Rattle.vx_effects.specs.Facts.{down_fact}
use Rattle.vx_yard.specs.GroupFacts.{group_up_facts}
use Rattle.vx_yard.specs.Loads.{LetGo}
use Rattle.vx_yard.specs.Replies.{reply_to}
use Rattle.vx_yard.specs.Standing.{StandsFor}
use Rattle.vx_yard.specs.Stands.{RoseAll}
use Rattle.vx_yard.specs.Yards.{IsTold, count_of}
use Rattle.vx_yard.specs.declared.yard.Yard.{Yard}
use Rattle.vx_rvg.specs.Views.{Core}
use Rattle.vx_group_lines.specs.Noting.{made_facts}
use Rattle.vx_group_lines.specs.Views.{view_with}

-- ---- what is shown of a write that was cut

-- with the name of its volume; nothing of a volume that is not there
abbrev pub kept_of_volume : Option VolumeEntry → KeptWrite → Option Kept
kept_of_volume None kept = None
kept_of_volume (Some volume) kept = Some (record { volume = volume.name; block = kept.write.block; count = length kept.write.bytes / BLOCK; bits = kept.bits })

abbrev pub kept_shown : List VolumeEntry → Option KeptWrite → Option Kept
kept_shown volumes None = None
kept_shown volumes (Some kept) = kept_of_volume (slice_get volumes kept.write.volume) kept

-- ---- the site

-- The world e is d, in which site s is down, or what its crash left of it.
pub record ComesDown (d e : Doubted) (s : ℕ) : Type 0 where
  pub how : (((d.world.nodes s).state ≡ Down) × (e ≡ d)) ⊎ (((d.world.nodes s).state ≡ Up) × (e ≡ happened d (CrashAt s 0) false))
  pub name : (e.world.nodes s).name ≡ (d.world.nodes s).name
  pub disks : (e.world.nodes s).disks ≡ (d.world.nodes s).disks
  pub blocks : (e.world.nodes s).blocks ≡ (d.world.nodes s).blocks
  pub note : note_at (e.world.nodes s) ≡ note_at (d.world.nodes s)

module _ {R : Type 0} {g : Ghosts R} where
  -- ---- what is read of a write that was cut

  -- What the tests see of a site that came up with this configuration, and the reply, by what was read.
  abbrev pub StandsSo : (s : ℕ) → SiteFacts → Config → (after : DiskSet R g) → Result (Option KeptWrite) Stop → (old new : Yard R g) → Result Said OutOfMemory → Type 0
  StandsSo s f c after (Ok kept) old new result =
      (new.facts.items ≡ slice_set old.facts.items s (group_up_facts (map plain_fact c.volumes) f)) × (new.assemblies ≡ old.assemblies)
      × ((k : Config) → AtSite (λ x. site_config x ≡ Some k) after
      → result ≡ Ok (Resumed (view_with (group_up_facts (map plain_fact c.volumes) f) (Some k)) (kept_shown k.volumes kept)))
  StandsSo s f c after (Err stop) old new result =
      (new.facts.items ≡ slice_set old.facts.items s (down_fact (group_up_facts (map plain_fact c.volumes) f))) × LetGo s old.assemblies.items new.assemblies.items
      × (result ≡ reply_to stop)

  -- The same where a replicated volume group came up over it: how it stands is what the yard stands for.
  abbrev pub StandsOver : (s : ℕ) → SiteFacts → Config → Core → (after : DiskSet R g) → Result (Option KeptWrite) Stop → (old new : Yard R g) → Result Said OutOfMemory → Type 0
  StandsOver s f c core after (Ok kept) old new result =
      (new.facts.items ≡ slice_set old.facts.items s (made_facts core c f)) × (new.assemblies ≡ old.assemblies)
      × ((d : Doubted) → StandsFor d new → s < d.world.sites → is_over_rvg (d.world.nodes s) ≡ true → f.links ≡ []
      → result ≡ Ok (Resumed (over_disks (d.world.nodes s) (note_at (d.world.nodes s)) (linked_view d.world s)) (kept_shown (volumes_of (config_in after)) kept)))
  StandsOver s f c core after (Err stop) old new result =
      (new.facts.items ≡ slice_set old.facts.items s (down_fact (made_facts core c f))) × LetGo s old.assemblies.items new.assemblies.items × (result ≡ reply_to stop)

  -- a look at the write that was cut, at a site that came up
  pub record StoodUp (s : ℕ) (cut : Option CutWrite) (old new : Yard R g) (result : Result Said OutOfMemory) : Type 0 where
    pub before : DiskSet R g
    pub after : DiskSet R g
    pub answer : Result (Option KeptWrite) Stop
    pub there : slice_get old.disk_sets.items s ≡ Some before
    pub disk_sets : new.disk_sets.items ≡ slice_set old.disk_sets.items s after
    pub looks : (n : Node) (note : GroupNode) → AtSite (UpNoted n note) before → LooksAt n note cut before after answer
    pub maps : (n : Node) (note : GroupNode) → AtSite (UpNoted n note) before → OnSites StaysMapped before after
    pub failing : SameFailing before after
    pub later : Later before after
    pub racks : new.racks ≡ old.racks
    pub flight : new.flight ≡ old.flight
    pub feeders : new.feeders ≡ old.feeders
    pub dir : new.dir ≡ old.dir
    pub over : LooksOver cut before after answer
    pub so : (f : SiteFacts) (c : Config) → slice_get old.facts.items s ≡ Some f → AtSite (λ x. site_config x ≡ Some c) before → c.rvg ≡ None → core_in before ≡ None → StandsSo s f c after answer old new result
    pub above : (f : SiteFacts) (c : Config) (core : Core) → slice_get old.facts.items s ≡ Some f → AtSite (λ x. site_config x ≡ Some c) before → core_in before ≡ Some core → StandsOver s f c core after answer old new result

  -- ---- the recovery

  -- A recovery of a site that is down in world e, whether it crashed in the same line or not, and whatever its name: it was answered so.
  pub record RisesFor (e : Doubted) (s : ℕ) (said : Said) (old new : Yard R g) : Type 0 where
    pub next : Doubted
    pub fails : Fails
    pub done : (d : Doubted) (name : List ℕ) → ComesDown d e s → GroupEnds (IsTold new) d (Recover name) s fails said next
    pub stands : StandsFor next new
    pub carries : Carries e old → Carries next new
    pub rose : RoseAll fails (count_of old) (count_of new)

  -- memory ran out in it: the site is down as it was, but that it may not be known any more what its disks hold
  pub record StaysLow (e : Doubted) (s : ℕ) (old new : Yard R g) : Type 0 where
    pub note : GroupNode
    pub notes : NotesShort (note_at (e.world.nodes s)) note
    pub stands : StandsFor (record e { world = noting e.world s note }) new
    pub carries : Carries e old → Carries (record e { world = noting e.world s note }) new
    pub rose : RoseAll [] (count_of old) (count_of new)

  abbrev pub RisesIs : Doubted → ℕ → Yard R g → Yard R g → Result Said OutOfMemory → Type 0
  RisesIs e s old new (Ok said) = RisesFor e s said old new
  RisesIs e s old new (Err x) = StaysLow e s old new

  -- The same where a replicated volume group was found over the group, of which nothing was known.
  pub record FindsFor (e : Doubted) (s : ℕ) (said : Said) (old new : Yard R g) : Type 0 where
    pub next : Doubted
    pub fails : Fails
    pub finds : (d : Doubted) (name : List ℕ) → ComesDown d e s → RvgFinds (IsTold new) d (Recover name) s fails said next
    pub stands : StandsFor next new
    pub carries : Carries e old → Carries next new
    pub rose : RoseAll fails (count_of old) (count_of new)

  abbrev pub FindsAbove : Doubted → ℕ → Yard R g → Yard R g → Result Said OutOfMemory → Type 0
  FindsAbove e s old new (Ok said) = FindsFor e s said old new
  FindsAbove e s old new (Err x) = ⊥

  -- a site whose group had none comes up without one, or one is found
  abbrev pub RisesBeside : Doubted → ℕ → Yard R g → Yard R g → Result Said OutOfMemory → Type 0
  RisesBeside e s old new result = RisesIs e s old new result ⊎ FindsAbove e s old new result
