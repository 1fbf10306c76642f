-- What lines lead to that called the group, below a replicated volume group, of a site that is up and runs: done, or refused.
use Rattle.std.proofs.Common.{◌≡◌, ◌∙◌, ◌⊎◌, ◌≤◌, ◌+◌, ◌++◌, ℕ, Bool, true, false, List, [], ◌∷◌, length, map, ap, sym, subst, refl, arith, inl, inr}
use Rattle.std.proofs.lemmas.Option.{slice_get-map}
use Rattle.std.specs.Prelude.{◌&&◌, ◌||◌, eqb, not, if◌then◌else◌, Option, Some, None, option_map, slice_get, slice_set, Result, Ok, Err}
use Rattle.vx_model.specs.declared.errors.OutOfMemory.{OutOfMemory}
use Rattle.vx_model.specs.declared.errors.Stop.TheVariants.{No as StopsBy}
use Rattle.vx_model.specs.declared.no.No.{No}
use Rattle.vx_model.specs.declared.no.No.TheVariants.{Unknown, Exists, Range, Size, Role, Down as IsOff, Device, Missing, NoConfig, LastPlex, Space, LogFull, Stalled, LinkDown, Unconfirmed, Inconsistent, Behind, Replaying, Limit, Halted, Gap, Damaged, Paused, Unsettled, Format}
use Rattle.vx_model.specs.declared.units.Units.{Units}
use Rattle.vx_disk.specs.Counts.{Rose}
use Rattle.vx_disk.specs.Shelf.{Meaning}
use Rattle.vx_disk.specs.declared.shelf.Shelf.{Ghosts}
use Rattle.vx_config.specs.declared.config.Config.{Config}
use Rattle.vx_config.specs.declared.entry.VolumeEntry.{VolumeEntry}
use Rattle.vx_kept.specs.Cleans.{at_serial}
use Rattle.vx_history.proofs.Updates.{at_place}
use Rattle.vx_history.specs.Doubts.{Doubted}
use Rattle.vx_history.specs.Groups.{GroupNode, MissedNote, NoteSettles, NoteUnsettles}
use Rattle.vx_history.specs.Missing.{no_maps, with_maps}
use Rattle.vx_history.specs.Steps.{burned, crashed, worked, worked_on}
use Rattle.vx_history.specs.Stops.{IsFused}
use Rattle.vx_history.specs.World.{Node, World, updated, with_node}
use Rattle.vx_history.specs.declared.event.Event.TheVariants.{Crash as CrashAt}
use Rattle.vx_order.specs.declared.facts.SiteFacts.{SiteFacts}
use Rattle.vx_order.specs.declared.facts.VolumeFacts.{VolumeFacts}
use Rattle.vx_script.specs.declared.line.ScriptLine.{ScriptLine}
use Rattle.vx_effects.specs.Facts.{down_fact}
use Rattle.vx_grouped.proofs.MapNoteLemmas.{down_with_maps, up_with_maps}
use Rattle.vx_grouped.specs.GroupNotes.{NotesConfig}
use Rattle.vx_grouped.specs.GroupSites.{DownNoted, UpNoted, site_disks, with_note}
use Rattle.vx_grouped.specs.SiteEnds.{ConfigGoes}
use Rattle.vx_grouped.specs.SiteMaps.{StandMaps, UpMaps}
use Rattle.vx_grouped.specs.declared.group_site.GroupSite.{GroupSite}
use Rattle.vx_diskset.proofs.Tidied.{note_tidy}
use Rattle.vx_diskset.specs.Aboves.{site_in}
use Rattle.vx_diskset.specs.Noted.{IsNoteTidy, RestsNamed, below_rvg}
use Rattle.vx_diskset.specs.OverPlains.{CalledBelow, any_begun, note_tidied}
use Rattle.vx_diskset.specs.Stands.{faults_at}
use Rattle.vx_diskset.specs.declared.disk_set.DiskSet.{DiskSet}
use Rattle.vx_diskset.specs.declared.over_set.OverSet.{OverSet}
use Rattle.vx_events.proofs.Places.{some_same}
use Rattle.vx_events.proofs.RvgMissed.{missed_node}
use Rattle.vx_events.proofs.RvgStays.{same_config, then_same}
use Rattle.vx_events.specs.Doubts.{IsAs, run_as}
use Rattle.vx_events.specs.Fails.{Fails}
use Rattle.vx_events.specs.GroupEnds.{AreOf, GroupCuts, GroupDoes, GroupDone, GroupEnds, GroupFails, GroupLacks, GroupSpoils, GroupWants, IsLeftOver}
use Rattle.vx_events.specs.GroupLines.{group_events, noting, refused_events}
use Rattle.vx_events.specs.GroupMaps.{MapsLost}
use Rattle.vx_events.specs.GroupNotes.{note_at}
use Rattle.vx_events.specs.GroupViews.{noted_table, plain_fact, volumes_of}
use Rattle.vx_events.specs.LinkedFacts.{linked_fact}
use Rattle.vx_events.specs.Lists.{crash_count}
use Rattle.vx_events.specs.RvgFits.{KeptVolume, NoteKeepsRvg, config_rvg, entries_noted, rvg_noted}
use Rattle.vx_events.specs.RvgOver.{AsGroup, BelowEnds, CutBelow, EndsBelow, OverRvg, loosened_at, missed_world, note_loosened}
use Rattle.vx_events.specs.RvgSteps.{rvg_place}
use Rattle.vx_events.specs.RvgViews.{over_table}
use Rattle.vx_events.specs.RvgWorks.{FuseRanOut, NoneFailed}
use Rattle.vx_events.specs.declared.said.Said.{Said}
use Rattle.vx_events.specs.declared.said.Said.TheVariants.{Refused}
use Rattle.vx_yard.proofs.Carrying.{LetsGo, SameLoad}
use Rattle.vx_yard.proofs.CrashLine.{rose_still}
use Rattle.vx_yard.proofs.Lists.{set_same}
use Rattle.vx_yard.proofs.Rows.{fact_from, fact_like}
use Rattle.vx_yard.specs.AboveLines.{LeadsAbove}
use Rattle.vx_yard.specs.Carries.{Carries}
use Rattle.vx_yard.specs.Standing.{StandsFor}
use Rattle.vx_yard.specs.Stands.{RoseAll}
use Rattle.vx_yard.specs.Writes.{below_facts}
use Rattle.vx_yard.specs.Yards.{IsTold, count_of}
use Rattle.vx_yard.specs.declared.yard.Yard.{Yard}
use Rattle.vx_above.proofs.Changing.{notes_config, notes_table}
use Rattle.vx_above.proofs.Fails.{calls_of}
use Rattle.vx_above.proofs.Losing.{Names}
use Rattle.vx_above.proofs.OverSeen.{seen_like}
use Rattle.vx_above.proofs.OverSites.{note_is, over_again}
use Rattle.vx_above.proofs.SiteCalls.{calls, names_below, rose_below}
use Rattle.vx_above.proofs.Tables.{table_like}
use Rattle.vx_group_lines.proofs.BelowOff.{FollowsOff, below_fell, crash_kept, world_kept}
use Rattle.vx_group_lines.proofs.BelowUp.{BelowCalled, NotesBelow, below_follows}
use Rattle.vx_group_lines.proofs.GroupDone.{Turns, burned_noted}
use Rattle.vx_group_lines.proofs.GroupEnding.{IsQuiet, LeftDone, Means, Midway, SameTable, lets_on, load_on, world_up}
use Rattle.vx_group_lines.proofs.GroupLeads.{Follows}
use Rattle.vx_group_lines.proofs.MapGoing.{Goes, MapsOn, goes_up}
use Rattle.vx_group_lines.proofs.MapLines.{logs_bound}
use Rattle.vx_group_lines.specs.Noting.{IsNotedRefusal}

-- ---- imports of the group may disagree behind a call that began a configuration

abbrev pub loosens_of : GroupNode → Bool
loosens_of k = not k.loose && any_begun k.begun

or_apart : (a l : Bool) → ((not l && a) || l) ≡ (a || l)
or_apart true true = refl
or_apart true false = refl
or_apart false true = refl
or_apart false false = refl

loosened_tidied : (k : GroupNode) → note_loosened (loosens_of k) k ≡ note_tidied k
loosened_tidied k = ap (λ (b : Bool). let x : GroupNode = record k { loose = b } in x) (or_apart (any_begun k.begun) k.loose)

-- a site that changed twice is what it last became
last_of : {A : Type 0} (b : Bool) (x y z : A) → (if b then y else (if b then x else z)) ≡ (if b then y else z)
last_of true x y z = refl
last_of false x y z = refl

node_twice : (w : World) (s : ℕ) (n m : Node) → with_node (with_node w s n) s m ≡ with_node w s m
node_twice w s n m = ap (λ (ns : ℕ → Node). let x : World = record w { nodes = ns } in x) (let same : updated (updated w.nodes s n) s m ≡ updated w.nodes s m = λ t. λ i. last_of (eqb i s) n m (w.nodes i) t in same)

noted_world : (w : World) (s : ℕ) (k : GroupNode) → worked_on (noting w s k) s ≡ with_node w s (with_note k (w.nodes s))
noted_world w s k =
    let first : Node = record (w.nodes s) { group = Some k } in
    ap (λ (n : Node). with_node (noting w s k) s (worked n)) (at_place w.nodes s first) ∙ node_twice w s first (with_note k (w.nodes s))

pub loosened_world : (b : Bool) (w : World) (s : ℕ) (k : GroupNode) → loosened_at b (worked_on (noting w s k) s) s ≡ worked_on (noting w s (note_loosened b k)) s
loosened_world b w s k =
    let m : Node = with_note k (w.nodes s) in
    ap (λ (v : World). loosened_at b v s) (noted_world w s k)
    ∙ ap (λ (n : Node). let x : Node = record n { group = Some (note_loosened b (note_at n)) } in with_node (with_node w s m) s x) (at_place w.nodes s m)
    ∙ node_twice w s m (with_note (note_loosened b k) (w.nodes s)) ∙ sym (noted_world w s (note_loosened b k))

pub tidied_as : (d : Doubted) (s : ℕ) (k : GroupNode) → IsAs (world_up d s k) (loosened_at (loosens_of k) (world_up d s k).world s) (world_up d s (note_tidied k))
tidied_as d s k = record {
  world = sym (loosened_world (loosens_of k) d.world s k ∙ ap (λ (x : GroupNode). worked_on (noting d.world s x) s) (loosened_tidied k));
  after = λ i. refl;
  strayed = refl;
}

-- no call that is done begins one and leaves it
off_by : (xs : List (List ℕ)) (b : Bool) → xs ≡ [] → (not b && any_begun xs) ≡ false
off_by xs true is = refl
off_by xs false is = ap (λ (ys : List (List ℕ)). any_begun ys) is

pub tight_then : (note next : GroupNode) → IsNoteTidy note → NoteSettles note next → next.loose ≡ false → next.begun ≡ []
tight_then note next tidy settles tight = by settles.begun
  where
    by_old : (b : Bool) → note.loose ≡ b → (note.loose ≡ true → next.loose ≡ true) → next.begun ≡ []
    by_old true is keeps = absurd (let clash : true ≡ false = sym (keeps is) ∙ tight in cc)
    by_old false is keeps = (settles.tight is (tidy is)).0

    by : ((next.begun ≡ []) × (next.loose ≡ false)) ⊎ ((nexts : List (List ℕ)) × (next.begun ≡ nexts ++ note.begun) × (note.loose ≡ true → next.loose ≡ true)) → next.begun ≡ []
    by (inl both) = both.0
    by (inr it) = by_old note.loose refl it.2

pub settles_tight : (note next : GroupNode) → IsNoteTidy note → NoteSettles note next → loosens_of next ≡ false
settles_tight note next tidy settles = by next.loose refl
  where
    by : (b : Bool) → next.loose ≡ b → loosens_of next ≡ false
    by true is = ap (λ (b : Bool). not b && any_begun next.begun) is
    by false is = off_by next.begun next.loose (tight_then note next tidy settles is)

pub never_on : {A : Type 0} {b : Bool} → b ≡ false → b ≡ true → A
never_on off on = absurd (let clash : false ≡ true = sym off ∙ on in cc)

-- ---- configurations of which the tests see the same

kept_seen : (e : VolumeEntry) (o : Option VolumeEntry) → option_map plain_fact o ≡ Some (plain_fact e) → KeptVolume e o
kept_seen e None is = absurd (let clash : None ≡ Some (plain_fact e) = is in cc)
kept_seen e (Some now) is = record {
  now = now;
  is = refl;
  name = ap (λ (f : VolumeFacts). f.name) (some_same is);
  blocks = ap (λ (f : VolumeFacts). f.blocks) (some_same is);
}

pub seen_keeps : (note next : GroupNode) (was now : Config) → NotesConfig note was → NotesConfig next now → noted_table next ≡ noted_table note → rvg_noted next ≡ rvg_noted note → NoteKeepsRvg note next
seen_keeps note next was now noted noted_now table rvg c is = record {
  now = at_serial 0 now;
  is = notes_config next now noted_now;
  keeps = record {
    rvg = sym (ap (λ (o : Option Config). config_rvg o) (notes_config next now noted_now)) ∙ rvg ∙ ap (λ (o : Option Config). config_rvg o) is;
    volumes = λ v e at. kept_seen e (slice_get now.volumes v)
        (sym (slice_get-map plain_fact now.volumes v)
        ∙ ap (λ (fs : List VolumeFacts). slice_get fs v) (sym (notes_table next now noted_now) ∙ table ∙ ap (λ (o : Option Config). map plain_fact (volumes_of o)) is)
        ∙ slice_get-map plain_fact c.volumes v ∙ ap (λ (o : Option VolumeEntry). option_map plain_fact o) at);
  };
}

-- a line whose refusals have no event of their own, which notes that it may have written
pub record IsBelowLine (d : Doubted) (s : ℕ) (line : ScriptLine) : Type 0 where
  pub done : (k : GroupNode) → LeftDone d s line k
  pub broke : (k : GroupNode) → IsLeftOver s line k (run_as false d (refused_events (d.world.nodes s) s line)) (world_up d s k)
  pub lacks : (k : GroupNode) → IsLeftOver s line k d (world_up d s k)
  pub off : (count : ℕ) (k : GroupNode) → IsLeftOver s line k (run_as false d (CrashAt s (crash_count (d.world.nodes s) count) ∷ [])) (world_kept d s count k)

module _ {R : Type 0} {g : Ghosts R} where
  -- what the line leads a yard to, by the regions that are noted as missed as it begins
  pub record LeadsBelow (d : Doubted) (line : ScriptLine) (s : ℕ) (said : Said) (old new : Yard R g) : Type 0 where
    pub next : Doubted
    pub middle : Doubted
    pub fails : Fails
    pub ends : EndsBelow (IsTold new) d line s fails said middle
    pub loosens : Bool
    pub why : loosens ≡ true → NoneFailed s fails → (FuseRanOut (d.world.nodes s) said → ⊥) → ⊥
    pub left : IsAs middle (loosened_at loosens middle.world s) next
    pub stands : StandsFor next new
    pub carries : Carries d old → Carries next new
    pub rose : RoseAll fails (count_of old) (count_of new)

  -- whatever is noted of them
  pub leads_above : (w : MissedNote) (d : Doubted) (line : ScriptLine) (s : ℕ) (said : Said) (old new : Yard R g) → (Carries d old → Carries (missed_world w d s) old) → rvg_place d.world line ≡ s
      → ((fails : Fails) (next : Doubted) → BelowEnds (IsTold new) d line s fails said next → OverRvg (IsTold new) d line s fails said next)
      → LeadsBelow (missed_world w d s) line s said old new → LeadsAbove d line said old new
  leads_above w d line s said old new carried place turn it = record {
    next = it.next;
    fails = it.fails;
    works = subst (λ (i : ℕ). OverRvg (IsTold new) d line i it.fails said it.next) (sym place)
        (turn it.fails it.next (record {
          missed = w;
          middle = it.middle;
          ends = it.ends;
          loosens = it.loosens;
          why = λ on none never. it.why on none (λ ran. never (subst (λ (m : Node). IsFused m.fuse) (missed_node w d s) ran.0, ran.1));
          left = it.left;
        }));
    stands = it.stands;
    carries = λ carries. it.carries (carried carries);
    rose = it.rose;
  }

  -- ---- why a call was refused

  pub record BrokeBelow (twice : Bool) (Fails : Config → Config → Type 0) (n : Node) (note : GroupNode) (old new : GroupSite R g) (disk : ℕ) : Type 0 where
    pub next : GroupNode
    pub keeps : NoteUnsettles twice note next
    pub noted : UpNoted (with_note (note_tidied next) n) (note_tidied next) new
    pub rose : Rose ((site_disks old).disk_faults disk) ((site_disks new).disk_faults disk)
    pub goes : ConfigGoes Fails note next old new

  pub record OffBelow (twice : Bool) (Cuts : Config → Config → Type 0) (n : Node) (note : GroupNode) (old new : GroupSite R g) : Type 0 where
    pub next : GroupNode
    pub keeps : NoteUnsettles twice note next
    pub noted : DownNoted (crashed (with_note (note_tidied next) n) 0) (note_tidied next) new
    pub fused : IsFused n.fuse
    pub goes : ConfigGoes Cuts note next old new
    pub rests : (units : Units) → rvg_noted next ≡ Some units → RestsNamed units (length (entries_noted next)) new

  pub record WantsBelow (Lacks : No → Type 0) (n : Node) (note : GroupNode) (new : GroupSite R g) (why : No) : Type 0 where
    pub quiet : IsQuiet why
    pub noted : UpNoted (worked n) note new
    pub lacks : Lacks why

  abbrev pub WhysBelow : (twice : Bool) (Fails Cuts : Config → Config → Type 0) → (No → Type 0) → Node → GroupNode → GroupSite R g → GroupSite R g → No → Type 0
  WhysBelow twice Fails Cuts Lacks n note old new why =
      ((disk : ℕ) × (why ≡ Device disk) × BrokeBelow twice Fails n note old new disk) ⊎ ((why ≡ IsOff) × OffBelow twice Cuts n note old new) ⊎ WantsBelow Lacks n note new why

  module _ (T : Type 0) (twice : Bool) (Done Fails Cuts : Config → Config → Type 0) (Lacks : No → Type 0) (n : Node) (note : GroupNode) (old new : GroupSite R g) where
    lacking : (why : No) → IsQuiet why → UpNoted (worked n) note new × Lacks why → WhysBelow twice Fails Cuts Lacks n note old new why
    lacking why quiet it = inr (inr (record { quiet = quiet; noted = it.0; lacks = it.1 }))

    why_below : (why : No) → CalledBelow {T = T} twice Done Fails Cuts Lacks n note old new (Err (StopsBy why)) → WhysBelow twice Fails Cuts Lacks n note old new why
    why_below (Device disk) it = inl (disk, refl, record { next = it.0; keeps = it.1; noted = it.2; rose = it.3; goes = it.4 })
    why_below IsOff it = inr (inl (refl, record { next = it.0; keeps = it.1; noted = it.2; fused = it.3; goes = it.4; rests = it.5 }))
    why_below (Unknown what) it = lacking (Unknown what) (record { facts = λ f. refl; loads = λ s a b h. h }) it
    why_below (Exists name) it = lacking (Exists name) (record { facts = λ f. refl; loads = λ s a b h. h }) it
    why_below Range it = lacking Range (record { facts = λ f. refl; loads = λ s a b h. h }) it
    why_below Size it = lacking Size (record { facts = λ f. refl; loads = λ s a b h. h }) it
    why_below Role it = lacking Role (record { facts = λ f. refl; loads = λ s a b h. h }) it
    why_below (Missing disk) it = lacking (Missing disk) (record { facts = λ f. refl; loads = λ s a b h. h }) it
    why_below NoConfig it = lacking NoConfig (record { facts = λ f. refl; loads = λ s a b h. h }) it
    why_below LastPlex it = lacking LastPlex (record { facts = λ f. refl; loads = λ s a b h. h }) it
    why_below (Space need have) it = lacking (Space need have) (record { facts = λ f. refl; loads = λ s a b h. h }) it
    why_below (LogFull link) it = lacking (LogFull link) (record { facts = λ f. refl; loads = λ s a b h. h }) it
    why_below (Stalled link) it = lacking (Stalled link) (record { facts = λ f. refl; loads = λ s a b h. h }) it
    why_below (LinkDown link) it = lacking (LinkDown link) (record { facts = λ f. refl; loads = λ s a b h. h }) it
    why_below (Unconfirmed number) it = lacking (Unconfirmed number) (record { facts = λ f. refl; loads = λ s a b h. h }) it
    why_below Inconsistent it = lacking Inconsistent (record { facts = λ f. refl; loads = λ s a b h. h }) it
    why_below (Behind stored head) it = lacking (Behind stored head) (record { facts = λ f. refl; loads = λ s a b h. h }) it
    why_below (Replaying link) it = lacking (Replaying link) (record { facts = λ f. refl; loads = λ s a b h. h }) it
    why_below (Limit what most) it = lacking (Limit what most) (record { facts = λ f. refl; loads = λ s a b h. h }) it
    why_below (Halted disk) it = lacking (Halted disk) (record { facts = λ f. refl; loads = λ s a b h. h }) it
    why_below (Gap low need) it = lacking (Gap low need) (record { facts = λ f. refl; loads = λ s a b h. h }) it
    why_below (Damaged unit block stored computed) it = lacking (Damaged unit block stored computed) (record { facts = λ f. refl; loads = λ s a b h. h }) it
    why_below Paused it = lacking Paused (record { facts = λ f. refl; loads = λ s a b h. h }) it
    why_below (Unsettled stored head) it = lacking (Unsettled stored head) (record { facts = λ f. refl; loads = λ s a b h. h }) it
    why_below (Format version) it = lacking (Format version) (record { facts = λ f. refl; loads = λ s a b h. h }) it

  -- ---- a call on the group, and the line that made it

  pub record BelowLine (d : Doubted) (line : ScriptLine) (old new : Yard R g) (name : List ℕ) (s : ℕ) (before after : DiskSet R g) (p : OverSet R g) : Type 0 where
    pub call : BelowCalled d old new name s before after p
    pub is_line : IsBelowLine d s line
    pub maps : StandMaps (note_at (d.world.nodes s)) (site_in call.at.set)

  module _ (d : Doubted) (line : ScriptLine) (old new : Yard R g) (name : List ℕ) (s : ℕ) (before after : DiskSet R g) (p : OverSet R g) (stands : StandsFor d old) (it : BelowLine d line old new name s before after p) where
    abbrev n : Node
    n = d.world.nodes s

    abbrev note : GroupNode
    note = note_at (d.world.nodes s)

    abbrev was_site : GroupSite R g
    was_site = site_in it.call.at.set

    abbrev o : Meaning
    o = site_disks (site_in it.call.at.set)

    abbrev e : Meaning
    e = site_disks (site_in p)

    abbrev f : SiteFacts
    f = linked_fact d.world s

    abbrev many_of : Config → ℕ → ℕ
    many_of was disk = (site_disks (site_in it.call.at.set)).units + length was.disks + logs_bound was.volumes + disk + 1

    pub names : (many : ℕ) → o.units ≤ many → Names s many (calls s old new many) o e
    names many enough = names_below old new s before after it.call.changed o e (λ j. ap (λ (x : DiskSet R g). faults_at x j) it.call.at.is_set) (λ j. ap (λ (x : DiskSet R g). faults_at x j) it.call.is) many enough

    pub are : (many : ℕ) → AreOf s (calls s old new many)
    are many = calls_of s (count_of old s) (count_of new s) many

    pub rose : (many : ℕ) → RoseAll (calls s old new many) (count_of old) (count_of new)
    rose many = rose_below old new s before after it.call.changed many

    module _ (k : GroupNode) (keeps : NoteKeepsRvg (note_at (d.world.nodes s)) k) (cut : k.cut ≡ (note_at (d.world.nodes s)).cut) (inside : k.inside ≡ (note_at (d.world.nodes s)).inside)
        (table : noted_table k ≡ noted_table (note_at (d.world.nodes s))) (rvg : rvg_noted k ≡ rvg_noted (note_at (d.world.nodes s))) where
      abbrev tidied : GroupNode
      tidied = note_tidied k

      notes : NotesBelow note (note_tidied k)
      notes = record { keeps = then_same note k (note_tidied k) keeps refl; tidy = note_tidy k; cut = cut; inside = inside }

      over : over_table (with_note (note_tidied k) (d.world.nodes s)) (note_tidied k) ≡ over_table (d.world.nodes s) (note_at (d.world.nodes s))
      over = table_like n (with_note tidied n) note tidied refl rvg table

      -- what the tests see of the site is the same
      seen : linked_fact d.world s ≡ fact_from (with_note (note_tidied k) (d.world.nodes s)) (d.world.links s) d.world.sites
      seen = sym (fact_like n (with_note tidied n) (d.world.links s) d.world.sites (seen_like n tidied (burned n.fuse) it.call.at.over (over_again n (with_note tidied n) tidied it.call.at.over refl refl) over) (λ j l. refl))

      -- it is up still
      up_below : (said : Said) (fails : Fails) → UpNoted (below_rvg (with_note (note_tidied k) (d.world.nodes s))) (note_tidied k) (site_in p) → new.facts.items ≡ slice_set old.facts.items s (linked_fact d.world s) → SameLoad old new
          → GroupEnds (IsTold new) d line s fails said (world_up d s k) → (loosens_of k ≡ true → NoneFailed s fails → (FuseRanOut (d.world.nodes s) said → ⊥) → ⊥) → RoseAll fails (count_of old) (count_of new) → LeadsBelow d line s said old new
      up_below said fails noted facts load ends why rises =
          let follows : Follows d (world_up d s (note_tidied k)) old new = below_follows d old new name s before after p stands it.call tidied noted notes f seen facts load in
          record {
            next = world_up d s (note_tidied k);
            middle = world_up d s k;
            fails = fails;
            ends = AsGroup ends;
            loosens = loosens_of k;
            why = why;
            left = tidied_as d s k;
            stands = follows.stands;
            carries = follows.carries;
            rose = rises;
          }

      -- its fuse ran out
      off_below : (said : Said) (fails : Fails) → DownNoted (crashed (with_note (note_tidied k) (below_rvg (d.world.nodes s))) 0) (note_tidied k) (site_in p) → ((units : Units) → rvg_noted k ≡ Some units → RestsNamed units (length (entries_noted k)) (site_in p))
          → new.facts.items ≡ slice_set old.facts.items s (down_fact (linked_fact d.world s)) → LetsGo old new s → ((count : ℕ) → EndsBelow (IsTold new) d line s fails said (world_kept d s count k))
          → (loosens_of k ≡ true → NoneFailed s fails → (FuseRanOut (d.world.nodes s) said → ⊥) → ⊥) → RoseAll fails (count_of old) (count_of new) → LeadsBelow d line s said old new
      off_below said fails noted rests facts lets ends why rises =
          let fell : FollowsOff d s (note_tidied k) old new = below_fell d old new name s before after p stands it.call tidied noted notes rests over facts lets in
          record {
            next = world_kept d s fell.count (note_tidied k);
            middle = world_kept d s fell.count k;
            fails = fails;
            ends = ends fell.count;
            loosens = loosens_of k;
            why = why;
            left = tidied_as (crash_kept d s fell.count) s k;
            stands = fell.follows.stands;
            carries = fell.follows.carries;
            rose = rises;
          }

    -- ---- done

    pub below_done : {T : Type 0} (twice : Bool) (Done Lost Cut : Turns) (By : Goes) (Lacks : No → Type 0) (said : Said) (value : T) → ((k : GroupNode) → LeftDone d s line k → IsLeftOver s line k (run_as false d (group_events (d.world.nodes s) s line)) (world_up d s k))
        → Means s note NoteSettles Done By (λ fails next. GroupDoes (IsTold new) s n note line fails said next) → SameTable note Done
        → CalledBelow {T = T} twice (Done o e) (Lost o e) (Cut o e) Lacks (below_rvg (d.world.nodes s)) note was_site (site_in p) (Ok value) → UpMaps By was_site (site_in p)
        → new.facts.items ≡ old.facts.items → SameLoad old new → LeadsBelow d line s said old new
    below_done {T} twice Done Lost Cut By Lacks said value leaves means table called maps facts load =
        let next : GroupNode = called.0 in
        let goes : ConfigGoes (Done o e) note next was_site (site_in p) = called.3 in
        let many : ℕ = many_of goes.was 0 in
        let named : Names s many (calls s old new many) o e = names many (omega arith) in
        let go : MapsOn (By o e goes.was goes.now) note next (site_in p) = goes_up By (with_note (note_tidied next) (below_rvg n)) note next (note_tidied next) was_site (site_in p) (Done o e) it.maps goes called.2 maps in
        let k : GroupNode = with_maps go.maps next in
        let rvg : rvg_noted next ≡ rvg_noted note = table.rvg o e next goes.was goes.now goes.noted goes.noted_now goes.change in
        let shows : noted_table next ≡ noted_table note = table.same many o e s (calls s old new many) next goes.was goes.now named goes.noted goes.noted_now goes.change in
        up_below k (then_same note next k (seen_keeps note next goes.was goes.now goes.noted goes.noted_now shows rvg) refl) called.1.same.cut called.1.same.inside shows rvg said (calls s old new many)
        (up_with_maps go.maps (with_note (note_tidied next) (below_rvg n)) (note_tidied next) (site_in p) called.2)
        (facts ∙ sym (set_same old.facts.items s f it.call.at.seat.fact)) load
        (GroupDone k (are many) (means.ends many (calls s old new many) o e next goes.was goes.now named goes.noted goes.noted_now (omega arith) (omega arith) goes.change called.1 go.maps go.by) (leaves k (it.is_line.done k)))
        (λ on none never. never_on (settles_tight note next it.call.at.noted.3.tidy called.1) on) (rose many)

    -- ---- refused

    module _ (mid : Yard R g) (half : Midway old mid) (result : Result Said OutOfMemory) where
      abbrev LeadsSo : Type 0
      LeadsSo = (said : Said) × (result ≡ Ok said) × LeadsBelow d line s said old new

      facts_same : (x : SiteFacts) → x ≡ linked_fact d.world s → new.facts.items ≡ slice_set mid.facts.items s x → new.facts.items ≡ slice_set old.facts.items s (linked_fact d.world s)
      facts_same x is facts = facts ∙ ap (λ (fs : List SiteFacts). slice_set fs s x) half.facts ∙ ap (λ (y : SiteFacts). slice_set old.facts.items s y) is

      broke_below : (twice : Bool) (Lost : Turns) (By : Goes) (why : No) (disk : ℕ) → BrokeBelow twice (Lost o e) (below_rvg (d.world.nodes s)) note was_site (site_in p) disk → UpMaps By was_site (site_in p)
          → Means s note (NoteUnsettles twice) Lost By (λ fails k. GroupSpoils s note line fails k) → SameTable note Lost → why ≡ Device disk → IsNotedRefusal s (linked_fact d.world s) why mid new result → LeadsSo
      broke_below twice Lost By why disk b maps spoils table is refusal =
          let r : IsNotedRefusal s f (Device disk) mid new result = subst (λ (w : No). IsNotedRefusal s f w mid new result) is refusal in
          let next : GroupNode = b.next in
          let many : ℕ = many_of b.goes.was disk in
          let named : Names s many (calls s old new many) o e = names many (omega arith) in
          let go : MapsOn (By o e b.goes.was b.goes.now) note next (site_in p) = goes_up By (with_note (note_tidied next) (below_rvg n)) note next (note_tidied next) was_site (site_in p) (Lost o e) it.maps b.goes b.noted maps in
          let k : GroupNode = with_maps go.maps next in
          let rvg : rvg_noted next ≡ rvg_noted note = table.rvg o e next b.goes.was b.goes.now b.goes.noted b.goes.noted_now b.goes.change in
          let shows : noted_table next ≡ noted_table note = table.same many o e s (calls s old new many) next b.goes.was b.goes.now named b.goes.noted b.goes.noted_now b.goes.change in (
            Refused (Device disk),
            r.said,
            up_below k (then_same note next k (seen_keeps note next b.goes.was b.goes.now b.goes.noted b.goes.noted_now shows rvg) refl) b.keeps.same.cut b.keeps.same.inside shows rvg (Refused (Device disk)) (calls s old new many)
                (up_with_maps go.maps (with_note (note_tidied next) (below_rvg n)) (note_tidied next) (site_in p) b.noted)
                (facts_same (below_facts (Device disk) f) refl r.facts) (load_on old mid new half r.same r.assemblies)
                (GroupFails disk k (are many) (named.each disk (omega arith) b.rose)
                (spoils.ends many (calls s old new many) o e next b.goes.was b.goes.now named b.goes.noted b.goes.noted_now (omega arith) (omega arith) b.goes.change b.keeps go.maps go.by) refl (it.is_line.broke k))
                (λ on none never. none disk (named.each disk (omega arith) b.rose)) (rose many),
          )

      off_then : (twice : Bool) (Cut : Turns) (why : No) → OffBelow twice (Cut o e) (below_rvg (d.world.nodes s)) note was_site (site_in p) → Means s note (NoteUnsettles twice) Cut (λ o e. MapsLost) (λ fails k. GroupCuts s note line fails k)
          → SameTable note Cut → why ≡ IsOff → IsNotedRefusal s (linked_fact d.world s) why mid new result → LeadsSo
      off_then twice Cut why b cuts table is refusal =
          let r : IsNotedRefusal s f IsOff mid new result = subst (λ (w : No). IsNotedRefusal s f w mid new result) is refusal in
          let next : GroupNode = b.next in
          let many : ℕ = many_of b.goes.was 0 in
          let named : Names s many (calls s old new many) o e = names many (omega arith) in
          let k : GroupNode = with_maps no_maps next in
          let rvg : rvg_noted next ≡ rvg_noted note = table.rvg o e next b.goes.was b.goes.now b.goes.noted b.goes.noted_now b.goes.change in
          let shows : noted_table next ≡ noted_table note = table.same many o e s (calls s old new many) next b.goes.was b.goes.now named b.goes.noted b.goes.noted_now b.goes.change in (
            Refused IsOff,
            r.said,
            off_below k (then_same note next k (seen_keeps note next b.goes.was b.goes.now b.goes.noted b.goes.noted_now shows rvg) refl) b.keeps.same.cut b.keeps.same.inside shows rvg (Refused IsOff) (calls s old new many)
                (down_with_maps no_maps (crashed (with_note (note_tidied next) (below_rvg n)) 0) (note_tidied next) (site_in p) b.noted) b.rests
                (r.facts ∙ ap (λ (fs : List SiteFacts). slice_set fs s (below_facts IsOff f)) half.facts) (lets_on old mid new s half r.same r.assemblies)
                (λ count. CutBelow count k (are many) b.fused
                (cuts.ends many (calls s old new many) o e next b.goes.was b.goes.now named b.goes.noted b.goes.noted_now (omega arith) (omega arith) b.goes.change b.keeps no_maps (record { none = λ v. refl })) refl (it.is_line.off count k))
                (λ on none never. never (b.fused, refl)) (rose many),
          )

      wants_below : (Lacks : No → Type 0) (why : No) → WantsBelow Lacks (below_rvg (d.world.nodes s)) note (site_in p) why → (Lacks why → GroupWants note line why) → IsNotedRefusal s (linked_fact d.world s) why mid new result → LeadsSo
      wants_below Lacks why w wants refusal =
          let up : UpNoted (with_note note (below_rvg n)) note (site_in p) = burned_noted (below_rvg n) note (site_in p) (note_is n it.call.at.over) w.noted in
          let same : NotesBelow note note = record { keeps = same_config note note refl; tidy = it.call.at.noted.3.tidy; cut = refl; inside = refl } in
          let shown : f ≡ fact_from (with_note note n) (d.world.links s) d.world.sites
          = sym (fact_like n (with_note note n) (d.world.links s) d.world.sites (seen_like n note (burned n.fuse) it.call.at.over (over_again n (with_note note n) note it.call.at.over refl refl) refl) (λ j l. refl)) in
          let follows : Follows d (world_up d s note) old new
          = below_follows d old new name s before after p stands it.call note up same f shown
          (facts_same (below_facts why f) (w.quiet.facts f) refusal.facts) (load_on old mid new half refusal.same (w.quiet.loads s mid.assemblies.items new.assemblies.items refusal.assemblies)) in (
            Refused why,
            refusal.said,
            record {
              next = world_up d s note;
              middle = world_up d s note;
              fails = [];
              ends = AsGroup (GroupLacks why (wants w.lacks) refl refl (it.is_line.lacks note));
              loosens = false;
              why = λ on none never. never_on refl on;
              left = record { world = sym (loosened_world false d.world s note); after = λ i. refl; strayed = refl };
              stands = follows.stands;
              carries = follows.carries;
              rose = rose_still old new s before after it.call.changed.there it.call.changed.later it.call.changed.disk_sets;
            },
          )

      pub below_refused : (T : Type 0) (twice : Bool) (Done Lost Cut : Turns) (By : Goes) (Lacks : No → Type 0) → Means s note (NoteUnsettles twice) Lost By (λ fails k. GroupSpoils s note line fails k)
          → Means s note (NoteUnsettles twice) Cut (λ o e. MapsLost) (λ fails k. GroupCuts s note line fails k) → SameTable note Lost → SameTable note Cut → ((why : No) → Lacks why → GroupWants note line why) → (why : No)
          → CalledBelow {T = T} twice (Done o e) (Lost o e) (Cut o e) Lacks (below_rvg (d.world.nodes s)) note was_site (site_in p) (Err (StopsBy why)) → UpMaps By was_site (site_in p)
          → IsNotedRefusal s (linked_fact d.world s) why mid new result → LeadsSo
      below_refused T twice Done Lost Cut By Lacks spoils cuts table cut_table wants why called maps refusal =
          by_why (why_below T twice (Done o e) (Lost o e) (Cut o e) Lacks (below_rvg n) note was_site (site_in p) why called)
        where
          by_why : WhysBelow twice (Lost o e) (Cut o e) Lacks (below_rvg (d.world.nodes s)) note was_site (site_in p) why → LeadsSo
          by_why (inl (disk, is, b)) = broke_below twice Lost By why disk b maps spoils table is refusal
          by_why (inr (inl (is, b))) = off_then twice Cut why b cuts cut_table is refusal
          by_why (inr (inr w)) = wants_below Lacks why w (wants why) refusal
