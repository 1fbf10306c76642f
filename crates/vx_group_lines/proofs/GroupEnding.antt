-- How a line ends that called the group of a site that is up, and wrote to no volume of it.
use Rattle.std.proofs.Common.{◌≡◌, ◌∙◌, ◌⊎◌, ◌≤◌, ℕ, Bool, false, List, length, ap, sym, subst, refl, inl, inr}
use Rattle.std.specs.Prelude.{Some, None, slice_set, Err}
use Rattle.vx_model.specs.declared.errors.Stop.TheVariants.{No as StopsBy}
use Rattle.vx_model.specs.declared.no.No.{No}
use Rattle.vx_model.specs.declared.no.No.TheVariants.{Unknown, Exists, Range, Size, Role, Down as IsOff, Device, Missing, NoConfig, LastPlex, Space, LogFull, Stalled, LinkDown, Unconfirmed, Inconsistent, Behind, Replaying, Limit, Halted, Gap, Damaged, Paused, Unsettled, Format}
use Rattle.vx_model.specs.declared.site.SiteState.TheVariants.{Up as IsUp}
use Rattle.vx_disk.specs.Counts.{Rose}
use Rattle.vx_disk.specs.Shelf.{Meaning}
use Rattle.vx_disk.specs.declared.shelf.Shelf.{Ghosts}
use Rattle.vx_config.specs.declared.config.Config.{Config}
use Rattle.vx_history.specs.Doubts.{Doubted, happened}
use Rattle.vx_history.specs.Groups.{GroupNode, NoteUnsettles, MissedNote}
use Rattle.vx_history.specs.Steps.{crashed, worked, worked_on}
use Rattle.vx_history.specs.Stops.{IsFused}
use Rattle.vx_history.specs.World.{Node}
use Rattle.vx_history.specs.declared.event.Event.TheVariants.{Crash as CrashAt}
use Rattle.vx_order.specs.declared.facts.SiteFacts.{SiteFacts}
use Rattle.vx_script.specs.declared.line.ScriptLine.{ScriptLine}
use Rattle.vx_script.specs.declared.line.ScriptLine.TheVariants.{GroupDeport}
use Rattle.vx_packet.specs.Assemblies.{Assembled}
use Rattle.vx_watched.specs.Since.{CalledSince}
use Rattle.vx_grouped.specs.GroupNotes.{NotesConfig}
use Rattle.vx_grouped.specs.GroupSites.{DownNoted, UpNoted, site_disks, with_note}
use Rattle.vx_grouped.specs.SiteEnds.{ConfigGoes, SiteCalled}
use Rattle.vx_grouped.specs.declared.group_site.GroupSite.{GroupSite}
use Rattle.vx_diskset.specs.Asked.{FusedAs}
use Rattle.vx_diskset.specs.GroupCalls.{CalledOn, cut_in}
use Rattle.vx_diskset.specs.GroupSets.{cut_value}
use Rattle.vx_diskset.specs.declared.disk_set.DiskSet.{DiskSet}
use Rattle.vx_diskset.specs.declared.disk_set.DiskSet.TheVariants.{OfGroup}
use Rattle.vx_diskset.specs.declared.group_set.GroupSet.{GroupSet}
use Rattle.vx_events.specs.Doubts.{run_as}
use Rattle.vx_events.specs.Fails.{Fails}
use Rattle.vx_events.specs.GroupEnds.{GroupEnds, IsLeftOver}
use Rattle.vx_events.specs.GroupLines.{cut_events, group_events, noting, refused_events}
use Rattle.vx_events.specs.GroupNotes.{note_at}
use Rattle.vx_events.specs.GroupViews.{noted_table}
use Rattle.vx_events.specs.RvgFits.{rvg_noted}
use Rattle.vx_events.specs.StepsOver.{fact_of_group, group_place}
use Rattle.vx_events.specs.declared.said.Said.{Said}
use Rattle.vx_yard.proofs.Carrying.{LetsGo, SameLoad}
use Rattle.vx_yard.proofs.Lists.{set_same}
use Rattle.vx_yard.specs.Loads.{LetGoBy}
use Rattle.vx_yard.specs.Standing.{LeadsOver, StandsFor}
use Rattle.vx_yard.specs.Stands.{RoseAll}
use Rattle.vx_yard.specs.Writes.{below_facts}
use Rattle.vx_yard.specs.Yards.{IsTold, count_of}
use Rattle.vx_yard.specs.declared.yard.Yard.{Yard}
use Rattle.vx_group_lines.proofs.GroupAt.{no_value}
use Rattle.vx_group_lines.proofs.GroupCalls.{Called, down_seen, fused_since, off_follows, seen_as, set_uncut, site_up, up_follows}
use Rattle.vx_group_lines.proofs.GroupLeads.{leads_by}
use Rattle.vx_group_lines.proofs.GroupMarks.{none_at}
use Rattle.vx_above.proofs.Losing.{Names}
use Rattle.vx_grouped.specs.SiteMaps.{MapsQuiet, StandMaps, StaysMapped}
use Rattle.vx_history.specs.Missing.{with_maps}
use Rattle.vx_group_lines.proofs.MapGoing.{Goes}
use Rattle.vx_group_lines.proofs.MapLines.{logs_bound}
use Rattle.vx_group_lines.specs.Noting.{KeepsRest}

-- a refusal of which the tests see nothing, and at which no site lets anything go
pub record IsQuiet (why : No) : Type 0 where
  pub facts : (f : SiteFacts) → below_facts why f ≡ f
  pub loads : (s : ℕ) (a b : List Assembled) → LetGoBy why s a b → b ≡ a

-- the worlds behind a call: with this note at a site that is up, and at one whose fuse ran out
abbrev pub world_up : Doubted → ℕ → GroupNode → Doubted
world_up d s k = record d { world = worked_on (noting d.world s k) s }

abbrev pub world_off : Doubted → ℕ → GroupNode → Doubted
world_off d s k = let e : Doubted = happened d (CrashAt s 0) false in record e { world = worked_on (noting e.world s k) s }

-- what a line leaves that has no event of its own; a deport has one
abbrev pub LeftDone : Doubted → ℕ → ScriptLine → GroupNode → Type 0
LeftDone d s (GroupDeport site) k = Unit {0}
LeftDone d s line k = IsLeftOver s line k (run_as false d (group_events (d.world.nodes s) s line)) (world_up d s k)

-- a line whose refusals have no event of their own, which notes that it may have written
pub record IsCalling (d : Doubted) (s : ℕ) (line : ScriptLine) : Type 0 where
  pub place : group_place d.world line ≡ s
  pub done : (k : GroupNode) → LeftDone d s line k
  pub broke : (k : GroupNode) → IsLeftOver s line k (run_as false d (refused_events (d.world.nodes s) s line)) (world_up d s k)
  pub lacks : (k : GroupNode) → IsLeftOver s line k d (world_up d s k)
  pub off : (k : GroupNode) → IsLeftOver s line k (run_as false d (cut_events s line)) (world_off d s k)

-- what a change of a configuration means for a line
pub record Means (s : ℕ) (note : GroupNode) (Keeps : GroupNode → GroupNode → Type 0) (Change : Meaning → Meaning → Config → Config → Type 0) (By : Goes) (Ends : Fails → GroupNode → Type 0) : Type 1 where
  pub ends : (many : ℕ) (fails : Fails) (o e : Meaning) (next : GroupNode) (was now : Config) → Names s many fails o e → NotesConfig note was → NotesConfig next now → length was.disks ≤ many → logs_bound was.volumes ≤ many → Change o e was now → Keeps note next
      → (w : MissedNote) → By o e was now note.maps w → Ends fails (with_maps w next)

-- and that the tests see the same volumes behind it, and the same replicated volume group
pub record SameTable (note : GroupNode) (Change : Meaning → Meaning → Config → Config → Type 0) : Type 1 where
  pub same : (many : ℕ) (o e : Meaning) (s : ℕ) (fails : Fails) (next : GroupNode) (was now : Config) → Names s many fails o e → NotesConfig note was → NotesConfig next now → Change o e was now → noted_table next ≡ noted_table note
  pub rvg : (o e : Meaning) (next : GroupNode) (was now : Config) → NotesConfig note was → NotesConfig next now → Change o e was now → rvg_noted next ≡ rvg_noted note

module _ {R : Type 0} {g : Ghosts R} where
  pub record Broke (twice : Bool) (Fails : Config → Config → Type 0) (n : Node) (note : GroupNode) (old new : GroupSite R g) (disk : ℕ) : Type 0 where
    pub next : GroupNode
    pub keeps : NoteUnsettles twice note next
    pub noted : UpNoted (with_note next n) next new
    pub rose : Rose ((site_disks old).disk_faults disk) ((site_disks new).disk_faults disk)
    pub goes : ConfigGoes Fails note next old new

  pub record FellOff (twice : Bool) (Fails : Config → Config → Type 0) (n : Node) (note : GroupNode) (old new : GroupSite R g) : Type 0 where
    pub next : GroupNode
    pub keeps : NoteUnsettles twice note next
    pub noted : DownNoted (crashed (with_note next n) 0) next new
    pub fused : IsFused n.fuse
    pub goes : ConfigGoes Fails note next old new

  pub record Wanted (Lacks : No → Type 0) (n : Node) (note : GroupNode) (old new : GroupSite R g) (why : No) : Type 0 where
    pub quiet : IsQuiet why
    pub noted : UpNoted (worked n) note new
    pub maps : StaysMapped old new
    pub lacks : Lacks why

  abbrev pub Whys : (twice : Bool) (Fails Cuts : Config → Config → Type 0) → (No → Type 0) → Node → GroupNode → GroupSite R g → GroupSite R g → No → Type 0
  Whys twice Fails Cuts Lacks n note old new why =
      ((disk : ℕ) × (why ≡ Device disk) × Broke twice Fails n note old new disk) ⊎ ((why ≡ IsOff) × FellOff twice Cuts n note old new) ⊎ Wanted Lacks n note old new why

  module _ (T : Type 0) (twice : Bool) (Done Fails Cuts : Config → Config → Type 0) (Lacks : No → Type 0) (n : Node) (note : GroupNode) (old new : GroupSite R g) where
    wanted : (why : No) → IsQuiet why → UpNoted (worked n) note new × Lacks why → StaysMapped old new → Whys twice Fails Cuts Lacks n note old new why
    wanted why quiet it maps = inr (inr (record { quiet = quiet; noted = it.0; maps = maps; lacks = it.1 }))

    pub called_why : (why : No) → SiteCalled {T = T} twice Done Fails Cuts Lacks n note old new (Err (StopsBy why)) → MapsQuiet (StopsBy why) (StaysMapped old new) → Whys twice Fails Cuts Lacks n note old new why
    called_why (Device disk) it maps = inl (disk, refl, record { next = it.0; keeps = it.1; noted = it.2; rose = it.3; goes = it.4 })
    called_why IsOff it maps = inr (inl (refl, record { next = it.0; keeps = it.1; noted = it.2; fused = it.3; goes = it.4 }))
    called_why (Unknown what) it maps = wanted (Unknown what) (record { facts = λ f. refl; loads = λ s a b h. h }) it maps
    called_why (Exists name) it maps = wanted (Exists name) (record { facts = λ f. refl; loads = λ s a b h. h }) it maps
    called_why Range it maps = wanted Range (record { facts = λ f. refl; loads = λ s a b h. h }) it maps
    called_why Size it maps = wanted Size (record { facts = λ f. refl; loads = λ s a b h. h }) it maps
    called_why Role it maps = wanted Role (record { facts = λ f. refl; loads = λ s a b h. h }) it maps
    called_why (Missing disk) it maps = wanted (Missing disk) (record { facts = λ f. refl; loads = λ s a b h. h }) it maps
    called_why NoConfig it maps = wanted NoConfig (record { facts = λ f. refl; loads = λ s a b h. h }) it maps
    called_why LastPlex it maps = wanted LastPlex (record { facts = λ f. refl; loads = λ s a b h. h }) it maps
    called_why (Space need have) it maps = wanted (Space need have) (record { facts = λ f. refl; loads = λ s a b h. h }) it maps
    called_why (LogFull link) it maps = wanted (LogFull link) (record { facts = λ f. refl; loads = λ s a b h. h }) it maps
    called_why (Stalled link) it maps = wanted (Stalled link) (record { facts = λ f. refl; loads = λ s a b h. h }) it maps
    called_why (LinkDown link) it maps = wanted (LinkDown link) (record { facts = λ f. refl; loads = λ s a b h. h }) it maps
    called_why (Unconfirmed number) it maps = wanted (Unconfirmed number) (record { facts = λ f. refl; loads = λ s a b h. h }) it maps
    called_why Inconsistent it maps = wanted Inconsistent (record { facts = λ f. refl; loads = λ s a b h. h }) it maps
    called_why (Behind stored head) it maps = wanted (Behind stored head) (record { facts = λ f. refl; loads = λ s a b h. h }) it maps
    called_why (Replaying link) it maps = wanted (Replaying link) (record { facts = λ f. refl; loads = λ s a b h. h }) it maps
    called_why (Limit what most) it maps = wanted (Limit what most) (record { facts = λ f. refl; loads = λ s a b h. h }) it maps
    called_why (Halted disk) it maps = wanted (Halted disk) (record { facts = λ f. refl; loads = λ s a b h. h }) it maps
    called_why (Gap low need) it maps = wanted (Gap low need) (record { facts = λ f. refl; loads = λ s a b h. h }) it maps
    called_why (Damaged unit block stored computed) it maps = wanted (Damaged unit block stored computed) (record { facts = λ f. refl; loads = λ s a b h. h }) it maps
    called_why Paused it maps = wanted Paused (record { facts = λ f. refl; loads = λ s a b h. h }) it maps
    called_why (Unsettled stored head) it maps = wanted (Unsettled stored head) (record { facts = λ f. refl; loads = λ s a b h. h }) it maps
    called_why (Format version) it maps = wanted (Format version) (record { facts = λ f. refl; loads = λ s a b h. h }) it maps

  -- ---- the yard between the call and the reply

  pub record Midway (old mid : Yard R g) : Type 0 where
    pub facts : mid.facts.items ≡ old.facts.items
    pub load : SameLoad old mid

  pub behind : (d : Doubted) (old mid new : Yard R g) (name : List ℕ) (s : ℕ) (before after : DiskSet R g) → Called d old mid name s before after → KeepsRest mid new → Called d old new name s before after
  behind d old mid new name s before after call rest = record {
    at = call.at;
    changed = record {
      there = call.changed.there;
      later = call.changed.later;
      disk_sets = ap (λ es. es.items) rest.disk_sets ∙ call.changed.disk_sets;
      racks = rest.racks ∙ call.changed.racks;
    };
    failing = call.failing;
  }

  -- a call on the group, and the line that made it
  pub record Calling (d : Doubted) (line : ScriptLine) (old new : Yard R g) (name : List ℕ) (s : ℕ) (before after : DiskSet R g) : Type 0 where
    pub call : Called d old new name s before after
    pub is_line : IsCalling d s line
    pub up : (d.world.nodes s).state ≡ IsUp
    pub cut : cut_in after ≡ cut_in before
    pub since : CalledOn before after

  pub since_at : (before after : DiskSet R g) (set next : GroupSet R g) → before ≡ OfGroup set → after ≡ OfGroup next → CalledOn before after → CalledSince (site_disks set.site) (site_disks next.site)
  since_at before after set next was is since =
      subst (λ (x : DiskSet R g). CalledOn (OfGroup set) x) is (subst (λ (x : DiskSet R g). CalledOn x after) was since)

  module _ (d : Doubted) (line : ScriptLine) (old new : Yard R g) (name : List ℕ) (s : ℕ) (before after : DiskSet R g) (stands : StandsFor d old) (it : Calling d line old new name s before after) where
    abbrev n : Node
    n = d.world.nodes s

    abbrev note : GroupNode
    note = note_at (d.world.nodes s)

    fused_to : (k : GroupNode) (next : GroupSet R g) → after ≡ OfGroup next → UpNoted (with_note k n) k next.site → FusedAs (with_note k n) (OfGroup next)
    fused_to k next is noted =
        fused_since n (with_note k n) it.call.at.set next refl (since_at before after it.call.at.set next it.call.at.is_set is it.since) (site_up (with_note k n) k next.site noted)
        (subst (λ (x : DiskSet R g). FusedAs n x) it.call.at.is_set (stands.fuses s before it.call.at.below it.call.changed.there))

    -- it is up still, with the same volumes
    pub up_leads : (said : Said) (fails : Fails) (k : GroupNode) (next : GroupSet R g) → after ≡ OfGroup next → UpNoted (with_note k n) k next.site → StandMaps k next.site → rvg_noted k ≡ None → k.cut ≡ note.cut → noted_table k ≡ noted_table note
        → new.facts.items ≡ old.facts.items → SameLoad old new → GroupEnds (IsTold new) d line s fails said (world_up d s k) → RoseAll fails (count_of old) (count_of new) → LeadsOver d line said old new
    up_leads said fails k next is noted maps plain cut table facts load ends rose =
        leads_by d (world_up d s k) line s fails said old new it.is_line.place ends
        (up_follows d old new name s before after stands it.call k next it.up is noted maps plain cut it.cut (fused_to k next is noted) (fact_of_group n note)
        (seen_as n (with_note k n) note k refl refl refl refl table) (facts ∙ sym (set_same old.facts.items s (fact_of_group n note) it.call.at.fact)) load) rose

    -- it is up still, and the tests see other volumes
    pub turned_leads : (said : Said) (fails : Fails) (k : GroupNode) (next : GroupSet R g) → after ≡ OfGroup next → UpNoted (with_note k n) k next.site → StandMaps k next.site → rvg_noted k ≡ None → k.cut ≡ note.cut
        → (f : SiteFacts) → f ≡ fact_of_group (with_note k n) k → new.facts.items ≡ slice_set old.facts.items s f → SameLoad old new → GroupEnds (IsTold new) d line s fails said (world_up d s k)
        → RoseAll fails (count_of old) (count_of new) → LeadsOver d line said old new
    turned_leads said fails k next is noted maps plain cut f fact facts load ends rose =
        leads_by d (world_up d s k) line s fails said old new it.is_line.place ends
        (up_follows d old new name s before after stands it.call k next it.up is noted maps plain cut it.cut (fused_to k next is noted) f fact facts load) rose

    -- its fuse ran out in no write
    pub off_leads : (said : Said) (fails : Fails) (k : GroupNode) (next : GroupSet R g) → after ≡ OfGroup next → DownNoted (crashed (with_note k n) 0) k next.site → StandMaps k next.site → rvg_noted k ≡ None → k.cut ≡ note.cut → note.cut ≡ None → noted_table k ≡ noted_table note
        → (f : SiteFacts) → f ≡ below_facts IsOff (fact_of_group n note) → new.facts.items ≡ slice_set old.facts.items s f → LetsGo old new s → GroupEnds (IsTold new) d line s fails said (world_off d s k)
        → RoseAll fails (count_of old) (count_of new) → LeadsOver d line said old new
    off_leads said fails k next is noted maps plain cut uncut table f fact facts lets ends rose =
        let none : cut_in after ≡ None = it.cut ∙ ap (λ (x : DiskSet R g). cut_in x) it.call.at.is_set ∙ set_uncut d old new name s before after stands it.call it.up in
        let clear : cut_value next.cut ≡ None = ap (λ (x : DiskSet R g). cut_in x) (sym is) ∙ none in
        leads_by d (world_off d s k) line s fails said old new it.is_line.place ends
        (off_follows d old new name s before after stands it.call k next it.up is noted maps plain (none ∙ sym (cut ∙ uncut))
        (λ x at. let no : Some x ≡ None = sym at ∙ no_value next.cut clear in absurd (cc))
        f (fact ∙ down_seen n note k (none_at d old name s before it.call.at).volumes table) facts lets) rose

  -- a load that a yard keeps behind a reply
  pub load_on : (old mid new : Yard R g) → Midway old mid → KeepsRest mid new → new.assemblies.items ≡ mid.assemblies.items → SameLoad old new
  load_on old mid new half rest same = record {
    flight = rest.flight ∙ half.load.flight;
    assemblies = same ∙ half.load.assemblies;
    feeders = ap (λ xs. xs.items) rest.feeders ∙ half.load.feeders;
  }

  pub lets_on : (old mid new : Yard R g) (s : ℕ) → Midway old mid → KeepsRest mid new → LetGoBy IsOff s mid.assemblies.items new.assemblies.items → LetsGo old new s
  lets_on old mid new s half rest lets = record {
    flight = rest.flight ∙ half.load.flight;
    assemblies = record { assembly = lets.assembly; none = lets.none; is = lets.is ∙ ap (λ (xs : List Assembled). slice_set xs s lets.assembly) half.load.assemblies };
    feeders = ap (λ xs. xs.items) rest.feeders ∙ half.load.feeders;
  }
