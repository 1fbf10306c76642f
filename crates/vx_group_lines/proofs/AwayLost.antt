-- What an import of a site whose group has a replicated volume group leads its yard to, where the group came up and the replicated volume group did not.
use Rattle.std.proofs.Common.{◌≡◌, ◌∙◌, ◌++◌, ◌+◌, ◌<◌, ◌≤◌, ℕ, true, false, List, [], ◌∷◌, length, map, ap, sym, subst, refl, arith, inl, inr, ⊎_elim}
use Rattle.std.specs.Prelude.{Contains, Option, Some, slice_set}
use Rattle.vx_model.specs.Content.{Content}
use Rattle.vx_model.specs.declared.errors.Stop.{Stop}
use Rattle.vx_model.specs.declared.limits.TheConstants.{MOST_NUMBER}
use Rattle.vx_model.specs.declared.no.Counted.{Counted}
use Rattle.vx_model.specs.declared.no.Counted.TheVariants.{Number}
use Rattle.vx_model.specs.declared.no.No.{No}
use Rattle.vx_model.specs.declared.no.No.TheVariants.{Device, Down as IsOff, Limit}
use Rattle.vx_model.specs.declared.site.SiteState.TheVariants.{Deported as IsAway, Down as IsDown, Up as IsUp}
use Rattle.vx_disk.specs.Counts.{Rose}
use Rattle.vx_disk.specs.declared.shelf.Shelf.{Ghosts}
use Rattle.vx_config.specs.declared.config.Config.{Config}
use Rattle.vx_effects.specs.Facts.{down_fact}
use Rattle.vx_history.specs.Doubts.{Doubted, happened}
use Rattle.vx_history.specs.Groups.{GroupNode}
use Rattle.vx_history.specs.Steps.{burned, fallen_site, worked_on}
use Rattle.vx_history.specs.Stops.{IsFused}
use Rattle.vx_history.specs.World.{Node, NoFuse}
use Rattle.vx_history.specs.declared.event.Event.{Event}
use Rattle.vx_history.specs.declared.event.Event.TheVariants.{Fall as FallAt, Recover as RecoverAt}
use Rattle.vx_script.specs.declared.line.ScriptLine.TheVariants.{GroupImport}
use Rattle.vx_grouped.specs.GroupSites.{site_disks}
use Rattle.vx_diskset.proofs.NotedLikes.{cut_stays}
use Rattle.vx_diskset.specs.Aboves.{site_in}
use Rattle.vx_diskset.specs.DiskSets.{no_number}
use Rattle.vx_diskset.specs.Holds.{beside_of, most_header}
use Rattle.vx_diskset.specs.Layouts.{units_of}
use Rattle.vx_diskset.specs.Noted.{IsNamed}
use Rattle.vx_diskset.specs.OverRises.{SessionFrom}
use Rattle.vx_diskset.specs.OverTakes.{LostAway, LostOff, LostOver, fallen_in, gone_in}
use Rattle.vx_diskset.specs.declared.disk_set.DiskSet.TheVariants.{Over}
use Rattle.vx_diskset.specs.declared.over_set.OverSet.{OverSet}
use Rattle.vx_events.proofs.RvgStays.{loses, then_keeps}
use Rattle.vx_events.specs.Doubts.{run_as}
use Rattle.vx_events.specs.Facts.{site_number}
use Rattle.vx_events.specs.Fails.{Fails}
use Rattle.vx_events.specs.GroupLines.{fuse_lost, noting}
use Rattle.vx_events.specs.GroupNotes.{NotesBack, note_at}
use Rattle.vx_events.specs.GroupViews.{plain_fact}
use Rattle.vx_events.specs.LinkedFacts.{linked_fact}
use Rattle.vx_events.specs.RvgBack.{IsLeftBack, IsLeftBut, SessionLeft}
use Rattle.vx_events.specs.RvgFits.{KeptConfig, NoteKeepsRvg, config_rvg, entries_noted, rvg_noted}
use Rattle.vx_events.specs.RvgParts.{RvgShort, ShortLog}
use Rattle.vx_events.specs.RvgTakes.{RvgTakes, TakeCut, TakeFails, TakeLacks}
use Rattle.vx_events.specs.RvgViews.{over_table}
use Rattle.vx_events.specs.RvgWorks.{NotesWork, WorksCut}
use Rattle.vx_events.specs.declared.said.Said.{Said}
use Rattle.vx_events.specs.declared.said.Said.TheVariants.{Refused}
use Rattle.vx_yard.proofs.Carrying.{SameLoad}
use Rattle.vx_yard.proofs.CrashLine.{rose_still}
use Rattle.vx_yard.proofs.FuseStays.{fused_none}
use Rattle.vx_yard.specs.AboveLines.{LeadsAbove}
use Rattle.vx_yard.specs.Standing.{StopsAbove}
use Rattle.vx_yard.specs.Yards.{IsTold}
use Rattle.vx_yard.specs.declared.yard.Yard.{Yard}
use Rattle.vx_above.proofs.Tables.{table_like}
use Rattle.vx_group_lines.proofs.Arriving.{Arrives, arrives_lost, arrives_worked}
use Rattle.vx_group_lines.proofs.AwayCalls.{AwayCall, away_begins, away_call, away_named, away_noted, away_rest, away_some, fell_goes, fell_stands, gone_carries, gone_stands}
use Rattle.vx_group_lines.proofs.AwayEvents.{arrives_begun, arrives_fallen, begun_headers, fallen_headers}
use Rattle.vx_group_lines.proofs.RvgComing.{RestCall}
use Rattle.vx_group_lines.proofs.RvgReturns.{call_named, calls_are_of, calls_at, calls_rose, extra_at, group_back, group_fused, group_keeps, group_works, many_at, named_again}
use Rattle.vx_group_lines.proofs.RvgShown.{shown_same}

module _ {R : Type 0} {g : Ghosts R} (d : Doubted) (old new : Yard R g) (name : List ℕ) (s : ℕ) (number : site_number d.world name ≡ s) (o p : OverSet R g) (call : AwayCall d old new s o (Over p)) where
  abbrev n : Node
  n = d.world.nodes s

  abbrev note : GroupNode
  note = note_at (d.world.nodes s)

  abbrev resting : RestCall d old new s o (Over p)
  resting = away_call d old new s o (Over p) call

  begins : Arrives d d s (d.world.nodes s) (d.world.gathering s)
  begins = away_begins d old new s o (Over p) call

  some : (d.world.nodes s).volumes ≡ [] → ⊥
  some none = away_some d old new s o (Over p) call none

  -- ---- the note of a group that came up

  module _ (r : LostOver (d.world.nodes s) (note_at (d.world.nodes s)) (site_in o) p) where
    abbrev lost_note : GroupNode
    lost_note = record r.worked { cut = (note_at (d.world.nodes s)).cut }

    last : (k : ℕ) → (site_disks (site_in p)).disk_faults k ≤ (site_disks (site_in p)).disk_faults k
    last k = omega arith

    abbrev many : ℕ → ℕ
    many extra = many_at d old new s o p resting r.laid r.group p r.to last extra

    abbrev fails : ℕ → Fails
    fails extra = calls_at d old new s o p resting (many extra)

    back : (extra : ℕ) → NotesBack (IsTold new) s (d.world.nodes s) (fails extra) (note_at (d.world.nodes s)) r.group.middle
    back extra = group_back d old new s o p resting r.laid r.group p r.to last n extra refl refl (λ _. r.told)

    keeps : NoteKeepsRvg (note_at (d.world.nodes s)) r.group.middle
    keeps = group_keeps d old new s o p resting r.laid r.group p r.to last r.told r.named

    module _ (keeps_worked : NoteKeepsRvg r.group.middle r.worked) where
      keeps_lost : NoteKeepsRvg (note_at (d.world.nodes s)) lost_note
      keeps_lost c at =
          let k : KeptConfig c r.worked = then_keeps note r.group.middle r.worked keeps keeps_worked c at in
          record { now = k.now; is = k.is; keeps = k.keeps }

      rvg_same : rvg_noted lost_note ≡ rvg_noted note
      rvg_same =
          let named = away_named d old new s o (Over p) call in
          let k : KeptConfig named.0 lost_note = keeps_lost named.0 named.2 in
          ap (λ (x : Option Config). config_rvg x) k.is ∙ k.keeps.rvg ∙ sym (ap (λ (x : Option Config). config_rvg x) named.2)

      table_same : map plain_fact (entries_noted lost_note) ≡ map plain_fact (entries_noted note)
      table_same = shown_same n note (site_in o) (site_in p) r.laid r.group r.told (units_of n) (away_noted d old new s o (Over p) call).3 (inr r.seen) r.worked r.goes

      table_of : (m : Node) → m.volumes ≡ n.volumes → over_table m lost_note ≡ over_table n note
      table_of m volumes = table_like n m note lost_note volumes rvg_same table_same

      -- the volumes are as large as they were
      sizes_lost : (v : ℕ) → 0 < note.bytes.size v → lost_note.bytes.size v ≡ note.bytes.size v
      sizes_lost v low = ap (λ (k : Content). k.size v) r.works.same.bytes ∙ r.group.returns.size r.told v low

      named_of : (m : Node) → m.volumes ≡ n.volumes → m.group ≡ Some lost_note → (m.state ≡ IsUp → ⊥) → IsNamed m
      named_of m volumes group off =
          let was : IsNamed n = away_named d old new s o (Over p) call in
          named_again n m lost_note volumes group keeps_lost (cut_stays n m lost_note group refl sizes_lost (λ up. absurd (off up)) was.6) was

  -- ---- the disks crashed, and are by themselves

  module _ (stop : Stop) (r : LostAway (beside_of d s) (d.world.nodes s) (note_at (d.world.nodes s)) (site_in o) p stop) (facts : new.facts.items ≡ slice_set old.facts.items s (linked_fact d.world s)) (load : SameLoad old new) where
    abbrev next : GroupNode
    next = lost_note r.over

    abbrev m : Node
    m = gone_in NoFuse r.session next n

    away_still : (gone_in NoFuse r.session next n).state ≡ IsUp → ⊥
    away_still up = let clash : IsAway ≡ IsUp = sym call.away ∙ up in cc

    abbrev extra : ℕ → ℕ
    extra more = extra_at d old new s o p resting r.over.laid r.over.group p r.over.to (last r.over) r.over.worked r.over.works r.over.goes r.agrees + more

    works : (more : ℕ) → NotesWork ⊥ s (fails r.over (extra more)) r.over.group.middle r.over.worked
    works more = group_works d old new s o p resting r.over.laid r.over.group p r.over.to (last r.over) r.over.worked r.over.works r.over.goes r.agrees (extra more) (omega arith)

    works_cut : (more : ℕ) → WorksCut ⊥ s (fails r.over (extra more)) (note_at (d.world.nodes s)).cut r.over.group.middle next
    works_cut more = record { worked = r.over.worked; works = works more; is = refl }

    keeps_worked_here : NoteKeepsRvg r.over.group.middle r.over.worked
    keeps_worked_here = loses s (fails r.over (extra 0)) r.over.group.middle r.over.worked (works 0)

    -- the worlds that the line leaves
    abbrev left : Doubted
    left = record d { world = fuse_lost (worked_on (noting d.world s next) s) s }

    abbrev begun : ℕ → Doubted
    begun disk = let e : Doubted = happened d (RecoverAt s (Some disk)) false in record e { world = fuse_lost (worked_on (noting e.world s next) s) s }

    left_arrives : Arrives d left s (gone_in NoFuse n.session next n) (d.world.gathering s)
    left_arrives =
        arrives_lost d (record d { world = worked_on (noting d.world s next) s }) s (gone_in (burned n.fuse) n.session next n) (d.world.gathering s)
        (arrives_worked d d s n next (d.world.gathering s) begins)

    begun_arrives : (disk : ℕ) → n.session < MOST_NUMBER → Arrives d (begun disk) s (gone_in NoFuse (n.session + 1) next n) (d.world.gathering s)
    begun_arrives disk less =
        let e : Doubted = happened d (RecoverAt s (Some disk)) false in
        arrives_lost d (record e { world = worked_on (noting e.world s next) s }) s (gone_in (burned n.fuse) (n.session + 1) next n) (d.world.gathering s)
        (arrives_worked d e s (let x : Node = record n { session = n.session + 1 } in x) next (d.world.gathering s) (arrives_begun d d s n (d.world.gathering s) begins call.below call.away some less disk))

    left_is : IsLeftBut true s (GroupImport name) false next d d left
    left_is = record { world = refl; after = λ i. refl; strayed = refl }

    -- the line ends in a world in which the site is so
    ends_in : (e : Doubted) → Arrives d e s (gone_in NoFuse r.session next n) (d.world.gathering s) → e.world.headers s ≡ d.world.headers s → (more : ℕ) (said : Said) → RvgTakes (IsTold new) d (GroupImport name) s (fails r.over (extra more)) said e
        → LeadsAbove d (GroupImport name) said old new
    ends_in e arrives headers more said ends = record {
      next = e;
      fails = fails r.over (extra more);
      works = inl (subst (λ (k : ℕ). RvgTakes (IsTold new) d (GroupImport name) k (fails r.over (extra more)) said e) (sym number) ends);
      stands = gone_stands d old new s o p call NoFuse r.session next (table_of r.over keeps_worked_here m refl) (named_of r.over keeps_worked_here m refl refl away_still) r.noted r.stands (fused_none m (Over p) refl) e arrives headers facts;
      carries = λ was. gone_carries d old new s o p call NoFuse r.session next (table_of r.over keeps_worked_here m refl) (named_of r.over keeps_worked_here m refl refl away_still) r.noted r.stands (fused_none m (Over p) refl) e arrives headers load was;
      rose = calls_rose d old new s o p resting (many r.over (extra more));
    }

    -- in the session that the log had
    here : r.session ≡ n.session → Arrives d left s (gone_in NoFuse r.session next n) (d.world.gathering s)
    here same = subst (λ (k : ℕ). Arrives d left s (gone_in NoFuse k next n) (d.world.gathering s)) (sym same) left_arrives

    -- a disk failed
    module _ (disk : ℕ) (rose : Rose ((site_disks (site_in o)).disk_faults disk) ((site_disks (site_in p)).disk_faults disk)) where
      failed : Contains (fails r.over (extra (disk + 1))) (s, disk)
      failed = call_named d old new s o p resting (many r.over (extra (disk + 1))) disk ((site_disks (site_in o)).disk_faults disk) ((site_disks (site_in p)).disk_faults disk) (omega arith) (omega arith) rose (omega arith)

      fails_end : (es : List Event) (e : Doubted) → SessionLeft s disk es → IsLeftBut true s (GroupImport name) false next d (run_as false d es) e → RvgTakes (IsTold new) d (GroupImport name) s (fails r.over (extra (disk + 1))) (Refused (Device disk)) e
      fails_end es e session leaves =
          TakeFails name disk r.over.group.middle next es call.over refl (calls_are_of d old new s o p resting (many r.over (extra (disk + 1)))) failed (back r.over (extra (disk + 1))) (keeps r.over) (works_cut (disk + 1)) session refl leaves

      pub lost_disk : SessionFrom n r.session → LeadsAbove d (GroupImport name) (Refused (Device disk)) old new
      lost_disk session = ⊎_elim
          (λ (same : r.session ≡ n.session). ends_in left (here same) refl (disk + 1) (Refused (Device disk)) (fails_end [] left (inl refl) left_is))
          (λ (next_one : (r.session ≡ n.session + 1) × (n.session < MOST_NUMBER)).
          ends_in (begun disk) (subst (λ (k : ℕ). Arrives d (begun disk) s (gone_in NoFuse k next n) (d.world.gathering s)) (sym next_one.0) (begun_arrives disk next_one.1))
          (begun_headers d d s n (d.world.gathering s) begins call.below call.away some next_one.1 disk) (disk + 1) (Refused (Device disk))
          (fails_end (RecoverAt s (Some disk) ∷ []) (begun disk) (inr refl) (record { world = refl; after = λ i. refl; strayed = refl })))
          session

    -- no number is left
    pub lost_number : (what : Counted) (most : ℕ) → r.session ≡ n.session → Limit what most ≡ no_number → MOST_NUMBER ≤ most_header (beside_of d s) n + 2 → LeadsAbove d (GroupImport name) (Refused (Limit what most)) old new
    lost_number what most same is lacks =
        subst (λ (why : No). LeadsAbove d (GroupImport name) (Refused why) old new) (sym is)
        (ends_in left (here same) refl 0 (Refused (Limit Number MOST_NUMBER))
        (TakeLacks name r.over.group.middle next call.over refl (calls_are_of d old new s o p resting (many r.over (extra 0))) (back r.over (extra 0)) (keeps r.over) (works_cut 0) (λ _. omega (arith, lacks)) refl left_is))

    -- memory was wanted
    pub lost_room : r.session ≡ n.session → r.over.worked ≡ r.over.group.middle → StopsAbove d (GroupImport name) old new
    lost_room same unbegun = record {
      next = left;
      part = inr (subst (λ (k : ℕ). RvgShort (IsTold new) d (GroupImport name) k left) (sym number)
          (ShortLog 0 false (fails r.over (extra 0)) r.over.group.middle next call.over tt (calls_are_of d old new s o p resting (many r.over (extra 0))) (back r.over (extra 0)) (keeps r.over)
          (ap (λ (x : GroupNode). let k : GroupNode = record x { cut = (note_at (d.world.nodes s)).cut } in k) unbegun)
          (subst (λ (e : Doubted). IsLeftBut true s (GroupImport name) false next d e left) (sym (away_rest d s call.away)) left_is)));
      stands = gone_stands d old new s o p call NoFuse r.session next (table_of r.over keeps_worked_here m refl) (named_of r.over keeps_worked_here m refl refl away_still) r.noted r.stands (fused_none m (Over p) refl) left (here same) refl facts;
      carries = λ was. gone_carries d old new s o p call NoFuse r.session next (table_of r.over keeps_worked_here m refl) (named_of r.over keeps_worked_here m refl refl away_still) r.noted r.stands (fused_none m (Over p) refl) left (here same) refl load was;
      rose = rose_still old new s (Over o) (Over p) call.changed.there call.changed.later call.changed.disk_sets;
    }

  -- ---- the fuse ran out: the site is down

  module _ (r : LostOff (beside_of d s) (d.world.nodes s) (note_at (d.world.nodes s)) (site_in o) p) (facts : new.facts.items ≡ slice_set old.facts.items s (down_fact (linked_fact d.world s))) (load : SameLoad old new) where
    abbrev off_note : GroupNode
    off_note = lost_note r.over

    abbrev q : Node
    q = fallen_in r.session off_note n

    off_still : (fallen_in r.session off_note n).state ≡ IsUp → ⊥
    off_still up = let clash : IsDown ≡ IsUp = up in cc

    abbrev enough : ℕ
    enough = length r.over.goes.was.disks

    works_off : NotesWork (IsFused n.fuse) s (fails r.over enough) r.over.group.middle r.over.worked
    works_off = group_fused d old new s o p resting r.over.laid r.over.group p r.over.to (last r.over) (IsFused n.fuse) r.fused r.over.worked r.over.works r.over.goes enough (omega arith)

    keeps_off : NoteKeepsRvg r.over.group.middle r.over.worked
    keeps_off = loses s (fails r.over enough) r.over.group.middle r.over.worked works_off

    -- behind a world at which the line arrived
    abbrev down_from : Doubted → Doubted
    down_from e = let f : Doubted = happened e (FallAt s) false in record f { world = worked_on (noting f.world s off_note) s }

    cut_for : (es : List Event) (e : Doubted) → SessionLeft s 0 es → IsLeftBack s (GroupImport name) false off_note d (run_as false d (es ++ FallAt s ∷ [])) e → RvgTakes (IsTold new) d (GroupImport name) s (fails r.over enough) (Refused IsOff) e
    cut_for es e session leaves =
        TakeCut name r.over.group.middle off_note es call.over refl (calls_are_of d old new s o p resting (many r.over enough)) r.fused (back r.over enough) (keeps r.over) (record { worked = r.over.worked; works = works_off; is = refl }) session refl leaves

    off_in : (e : Doubted) → Arrives d e s (fallen_in r.session off_note n) (d.world.gathering s) → e.world.headers s ≡ d.world.headers s → RvgTakes (IsTold new) d (GroupImport name) s (fails r.over enough) (Refused IsOff) e
        → LeadsAbove d (GroupImport name) (Refused IsOff) old new
    off_in e arrives headers ends = record {
      next = e;
      fails = fails r.over enough;
      works = inl (subst (λ (k : ℕ). RvgTakes (IsTold new) d (GroupImport name) k (fails r.over enough) (Refused IsOff) e) (sym number) ends);
      stands = fell_stands d old new s o p call r.session off_note (table_of r.over keeps_off q refl) (named_of r.over keeps_off q refl refl off_still) r.noted r.stands e arrives headers facts;
      carries = λ was. fell_goes d old new s o p call r.session off_note (table_of r.over keeps_off q refl) (named_of r.over keeps_off q refl refl off_still) r.noted r.stands e arrives headers load was;
      rose = calls_rose d old new s o p resting (many r.over enough);
    }

    -- before the next session, or in it
    still_down : Arrives d (down_from d) s (fallen_in n.session off_note n) (d.world.gathering s)
    still_down = arrives_worked d (happened d (FallAt s) false) s (fallen_site n) off_note (d.world.gathering s) (arrives_fallen d d s n (d.world.gathering s) begins call.below call.away some)

    module _ (less : n.session < MOST_NUMBER) where
      abbrev first : Doubted
      first = happened d (RecoverAt s (Some 0)) false

      abbrev first_node : Node
      first_node = record n { session = n.session + 1 }

      first_arrives : Arrives d first s first_node (d.world.gathering s)
      first_arrives = arrives_begun d d s n (d.world.gathering s) begins call.below call.away some less 0

      first_below : s < first.world.sites
      first_below = omega (arith, call.below, first_arrives.site.sites)

      begun_down : Arrives d (down_from first) s (fallen_in (n.session + 1) off_note n) (d.world.gathering s)
      begun_down = arrives_worked d (happened first (FallAt s) false) s (fallen_site first_node) off_note (d.world.gathering s) (arrives_fallen d first s first_node (d.world.gathering s) first_arrives first_below call.away some)

      down_headers : (down_from first).world.headers s ≡ d.world.headers s
      down_headers = fallen_headers d first s first_node (d.world.gathering s) first_arrives first_below call.away some ∙ begun_headers d d s n (d.world.gathering s) begins call.below call.away some less 0

    pub lost_fuse : LeadsAbove d (GroupImport name) (Refused IsOff) old new
    lost_fuse = ⊎_elim
        (λ (same : r.session ≡ n.session).
        off_in (down_from d) (subst (λ (k : ℕ). Arrives d (down_from d) s (fallen_in k off_note n) (d.world.gathering s)) (sym same) still_down)
        (fallen_headers d d s n (d.world.gathering s) begins call.below call.away some) (cut_for [] (down_from d) (inl refl) (record { world = refl; after = λ i. refl; strayed = refl })))
        (λ (next_one : (r.session ≡ n.session + 1) × (n.session < MOST_NUMBER)).
        off_in (down_from (first next_one.1)) (subst (λ (k : ℕ). Arrives d (down_from (first next_one.1)) s (fallen_in k off_note n) (d.world.gathering s)) (sym next_one.0) (begun_down next_one.1))
        (down_headers next_one.1) (cut_for (RecoverAt s (Some 0) ∷ []) (down_from (first next_one.1)) (inr refl) (record { world = refl; after = λ i. refl; strayed = refl })))
        r.from
