-- What an import of a site whose group has a replicated volume group leads its yard to, where the group did not come up, or nothing was known of what did.
use Rattle.std.proofs.Common.{◌≡◌, ◌∙◌, ◌⊎◌, ◌+◌, ◌<◌, ℕ, Bool, true, false, List, [], ap, sym, subst, refl, arith, inl, inr, ⊎_elim, IsTrue}
use Rattle.std.proofs.lemmas.Option.{slice_get_within}
use Rattle.std.specs.Prelude.{Contains, slice_get, slice_set}
use Rattle.vx_model.specs.declared.errors.Stop.{Stop}
use Rattle.vx_model.specs.declared.errors.Stop.TheVariants.{No as StopsBy, OutOfMemory as MemoryStop}
use Rattle.vx_model.specs.declared.limits.TheConstants.{MOST_NUMBER}
use Rattle.vx_model.specs.declared.no.Counted.{Counted}
use Rattle.vx_model.specs.declared.no.Counted.TheVariants.{Number as Numbers}
use Rattle.vx_model.specs.declared.no.No.{No}
use Rattle.vx_model.specs.declared.no.No.TheVariants.{Device, Down as IsOff, Limit, Missing as Lacks, NoConfig}
use Rattle.vx_model.specs.declared.site.SiteState.TheVariants.{Down as IsDown, Up as IsUp}
use Rattle.vx_disk.specs.Counts.{Rose}
use Rattle.vx_disk.specs.declared.shelf.Shelf.{Ghosts}
use Rattle.vx_effects.specs.Facts.{down_fact}
use Rattle.vx_history.specs.Doubts.{Doubted, happened}
use Rattle.vx_history.specs.Groups.{GroupNode}
use Rattle.vx_history.specs.Steps.{burned, fallen_site, worked_on}
use Rattle.vx_history.specs.World.{Node, NoFuse}
use Rattle.vx_history.specs.declared.event.Event.TheVariants.{Fall as FallAt}
use Rattle.vx_script.specs.declared.line.ScriptLine.TheVariants.{GroupImport}
use Rattle.vx_grouped.proofs.ReadyLemmas.{imported_same}
use Rattle.vx_grouped.specs.GroupSites.{AwayNoted, site_below, site_disks}
use Rattle.vx_grouped.specs.SiteReturns.{KeepsFuse, KnownAway, SomeRose, as_imported, stops_early}
use Rattle.vx_diskset.proofs.NotedLikes.{cut_stays}
use Rattle.vx_diskset.specs.Aboves.{site_in}
use Rattle.vx_diskset.specs.Asked.{FusedAs}
use Rattle.vx_diskset.specs.Holds.{beside_of}
use Rattle.vx_diskset.specs.Noted.{IsNamed, below_rvg}
use Rattle.vx_diskset.specs.OverRises.{note_held, note_ready}
use Rattle.vx_diskset.specs.OverTakes.{HeldAway, HeldOff, fallen_in, fuse_gone, gone_in}
use Rattle.vx_diskset.specs.declared.disk_set.DiskSet.{DiskSet}
use Rattle.vx_diskset.specs.declared.disk_set.DiskSet.TheVariants.{Over}
use Rattle.vx_diskset.specs.declared.over_set.OverSet.{OverSet}
use Rattle.vx_events.specs.Doubts.{run_as}
use Rattle.vx_events.specs.Facts.{site_number}
use Rattle.vx_events.specs.Fails.{Fails}
use Rattle.vx_events.specs.GroupEnds.{KnowsNothing, NotFound, NotFoundLeaves}
use Rattle.vx_events.specs.GroupLines.{noting}
use Rattle.vx_events.specs.GroupNotes.{NotesRefused, NotesShort, note_at}
use Rattle.vx_events.specs.LinkedFacts.{linked_fact}
use Rattle.vx_events.specs.RvgBack.{FailsOrNone, FindsNoRvg, IsLeftBut, RvgFinds, fall_first, fuse_left}
use Rattle.vx_events.specs.RvgParts.{RvgShort, ShortGroup}
use Rattle.vx_events.specs.RvgTakes.{NotesOff, RvgTakes, TakeHeld, TakeOff, TakeUnfound}
use Rattle.vx_events.specs.RvgViews.{over_table}
use Rattle.vx_events.specs.declared.said.Said.TheVariants.{Refused}
use Rattle.vx_yard.proofs.Carrying.{SameLoad}
use Rattle.vx_yard.proofs.CrashLine.{rose_still}
use Rattle.vx_yard.proofs.FuseStays.{fused_none}
use Rattle.vx_yard.proofs.Lists.{get-set_same}
use Rattle.vx_yard.specs.AboveLines.{LeadsAbove}
use Rattle.vx_yard.specs.Standing.{StopsAbove}
use Rattle.vx_yard.specs.Yards.{IsTold}
use Rattle.vx_yard.specs.declared.yard.Yard.{Yard}
use Rattle.vx_group_lines.proofs.Arriving.{Arrives, arrives_lost, arrives_worked}
use Rattle.vx_group_lines.proofs.AwayCalls.{AwayCall, away_begins, away_call, away_fused, away_named, away_on, away_rest, away_some, fell_goes, fell_stands, gone_carries, gone_stands}
use Rattle.vx_group_lines.proofs.AwayEvents.{arrives_fallen, fallen_headers}
use Rattle.vx_group_lines.proofs.Dimming.{knows_none, no_call, none_found}
use Rattle.vx_group_lines.proofs.GroupAt.{lit_away}
use Rattle.vx_group_lines.proofs.RvgComing.{RestCall}
use Rattle.vx_group_lines.proofs.RvgFound.{knows_nothing}
use Rattle.vx_group_lines.proofs.RvgHeld.{AsNoted, held_refused, held_same, held_short, held_unfound}
use Rattle.vx_group_lines.proofs.RvgReturns.{call_named, calls_are_of, calls_at, calls_rose}

module _ {R : Type 0} {g : Ghosts R} (d : Doubted) (old new : Yard R g) (name : List ℕ) (s : ℕ) (number : site_number d.world name ≡ s) (o p : OverSet R g) (call : AwayCall d old new s o (Over p)) where
  abbrev n : Node
  n = d.world.nodes s

  abbrev note : GroupNode
  note = note_at (d.world.nodes s)

  abbrev resting : RestCall d old new s o (Over p)
  resting = away_call d old new s o (Over p) call

  abbrev fails : ℕ → Fails
  fails many = calls_at d old new s o p resting many

  fails_in : (many disk : ℕ) → disk < many → Rose ((as_imported (site_in o)).disk_faults disk) ((site_disks (site_in p)).disk_faults disk) → Contains (fails many) (s, disk)
  fails_in many disk low rose =
      call_named d old new s o p resting many disk ((as_imported (site_in o)).disk_faults disk) ((site_disks (site_in p)).disk_faults disk) low (omega (arith, (imported_same {R = R} {g = g} (site_in o)).counts disk)) rose (omega arith)

  -- contents that the rack tells
  rack_told : IsTold new → IsTrue (site_below (site_in p)).tells
  rack_told told =
      told.each s (Over p)
      (ap (λ (es : List (DiskSet R g)). slice_get es s) call.changed.disk_sets ∙ get-set_same old.disk_sets.items s (Over p) (slice_get_within old.disk_sets.items s (Over o) call.changed.there))

  -- nothing is known where it is not known what the disks hold, or they may not agree
  nothing_by : (IsTrue (site_below (site_in p)).tells → (note.dark ≡ true) ⊎ (note.loose ≡ true)) → KnowsNothing (IsTold new) (note_at (d.world.nodes s))
  nothing_by why = knows_nothing (IsTold new) (site_below (site_in p)).tells note rack_told why

  -- ---- the site is deported still

  module _ (stop : Stop) (h : HeldAway (beside_of d s) (d.world.nodes s) (note_at (d.world.nodes s)) (site_in o) p stop) (facts : new.facts.items ≡ slice_set old.facts.items s (linked_fact d.world s)) (load : SameLoad old new) where
    abbrev next : GroupNode
    next = note_held h.loosens h.dims note

    abbrev m : Node
    m = gone_in (fuse_gone h.lost n.fuse) n.session next n

    abbrev left_at : Bool → Doubted
    left_at lost = record d { world = fuse_left lost (worked_on (noting d.world s next) s) s }

    abbrev left : Doubted
    left = left_at h.lost

    named : IsNamed m
    named = let w = away_named d old new s o (Over p) call in (w.0, w.1, w.2, w.3, w.4, w.5, cut_stays n m next refl refl (λ v low. refl) (λ up. up) w.6)

    table : over_table m next ≡ over_table n note
    table = refl

    worked_there : Arrives d (left_at false) s (gone_in (burned n.fuse) n.session next n) (d.world.gathering s)
    worked_there = arrives_worked d d s n next (d.world.gathering s) (away_begins d old new s o (Over p) call)

    arrives_by : (lost : Bool) → Arrives d (left_at lost) s (gone_in (fuse_gone lost n.fuse) n.session next n) (d.world.gathering s)
    arrives_by true = arrives_lost d (left_at false) s (gone_in (burned n.fuse) n.session next n) (d.world.gathering s) worked_there
    arrives_by false = worked_there

    headers_by : (lost : Bool) → (left_at lost).world.headers s ≡ d.world.headers s
    headers_by true = refl
    headers_by false = refl

    fused_by : (lost : Bool) → (lost ≡ false → KeepsFuse (as_imported (site_in o)) (site_disks (site_in p))) → FusedAs (gone_in (fuse_gone lost n.fuse) n.session next n) (Over p)
    fused_by true keeps = fused_none (gone_in NoFuse n.session next n) (Over p) refl
    fused_by false keeps = away_fused d old new s o (Over p) call (gone_in (burned n.fuse) n.session next n) (site_disks (site_in p)) refl refl (keeps refl)

    -- contents that the rack tells are told of the disks, where nothing more is noted of them
    tells_lit : AsNoted h.loosens h.dims → IsTold new → note.dark ≡ false → IsTrue (site_disks (site_in p)).tells
    tells_lit as_noted told bright =
        let there : AwayNoted (below_rvg m) next (site_in p) = away_on m (below_rvg m) next (beside_of d s) p.site h.stands.1 call.away h.noted.0 in
        lit_away (below_rvg m) next (site_in p) there (ap (λ (k : GroupNode). k.dark) (held_same h.loosens h.dims note as_noted) ∙ bright) (rack_told told)

    held_for : (many : ℕ) (why : No) → RvgTakes (IsTold new) d (GroupImport name) s (fails many) (Refused why) left ⊎ RvgFinds (IsTold new) d (GroupImport name) s (fails many) (Refused why) left → LeadsAbove d (GroupImport name) (Refused why) old new
    held_for many why ends = record {
      next = left;
      fails = fails many;
      works = subst (λ (k : ℕ). RvgTakes (IsTold new) d (GroupImport name) k (fails many) (Refused why) left ⊎ RvgFinds (IsTold new) d (GroupImport name) k (fails many) (Refused why) left) (sym number) ends;
      stands = gone_stands d old new s o p call (fuse_gone h.lost n.fuse) n.session next table named h.noted h.stands (fused_by h.lost h.fuse) left (arrives_by h.lost) (headers_by h.lost) facts;
      carries = λ was. gone_carries d old new s o p call (fuse_gone h.lost n.fuse) n.session next table named h.noted h.stands (fused_by h.lost h.fuse) left (arrives_by h.lost) (headers_by h.lost) load was;
      rose = calls_rose d old new s o p resting many;
    }

    left_is : IsLeftBut h.lost s (GroupImport name) false next d d left
    left_is = record { world = refl; after = λ i. refl; strayed = refl }

    left_from : IsLeftBut h.lost s (GroupImport name) false next d (run_as false d (fall_first (d.world.nodes s).state s 0)) left
    left_from = subst (λ (e : Doubted). IsLeftBut h.lost s (GroupImport name) false next d e left) (sym (away_rest d s call.away)) left_is

    -- what was found, of which nothing was known, was refused
    held_unknown : (many : ℕ) (why : No) → FailsOrNone (fails many) s why → KnowsNothing (IsTold new) note → LeadsAbove d (GroupImport name) (Refused why) old new
    held_unknown many why because nothing =
        held_for many why
        (inr (FindsNoRvg 0 false h.lost next why call.over (calls_are_of d old new s o p resting many) tt nothing because (held_unfound h.loosens h.dims note) refl left_from))

    -- none was found
    held_unfound_for : (many : ℕ) (why : No) → NotFound s note (fails many) why → NotFoundLeaves why note next → LeadsAbove d (GroupImport name) (Refused why) old new
    held_unfound_for many why not leaves =
        held_for many why (inl (TakeUnfound name h.lost why next call.over refl (calls_are_of d old new s o p resting many) not leaves refl left_is))

    -- the note is as it was, or nothing was known
    noted_or : stops_early stop ≡ true → AsNoted h.loosens h.dims ⊎ KnowsNothing (IsTold new) note
    noted_or early = by h.loosens h.dims refl refl
      where
        by : (loosens dims : Bool) → h.loosens ≡ loosens → h.dims ≡ dims → AsNoted h.loosens h.dims ⊎ KnowsNothing (IsTold new) note
        by true dims is too = inr (nothing_by (h.loose is))
        by false true is too = inr (nothing_by (h.dimmed too early))
        by false false is too = inl (record { tight = is; lit = too })

    -- a disk failed
    pub away_device : (disk : ℕ) → Rose ((as_imported (site_in o)).disk_faults disk) ((site_disks (site_in p)).disk_faults disk) → LeadsAbove d (GroupImport name) (Refused (Device disk)) old new
    away_device disk rose = by h.loosens refl
      where
        failed : Contains (fails (disk + 1)) (s, disk)
        failed = fails_in (disk + 1) disk (omega arith) rose

        by : (loosens : Bool) → h.loosens ≡ loosens → LeadsAbove d (GroupImport name) (Refused (Device disk)) old new
        by true is = held_unknown (disk + 1) (Device disk) failed (nothing_by (h.loose is))
        by false is =
            held_for (disk + 1) (Device disk)
            (inl (TakeHeld name h.lost disk next call.over refl (calls_are_of d old new s o p resting (disk + 1)) failed
            (subst (λ (l : Bool). NotesRefused note (note_held l h.dims note)) (sym is) (held_refused h.dims note)) refl left_is))

    -- no serial is left
    pub away_limit : (what : Counted) (most : ℕ) → what ≡ Numbers → most ≡ MOST_NUMBER → LeadsAbove d (GroupImport name) (Refused (Limit what most)) old new
    away_limit what most is most_is = subst (λ (w : Counted). LeadsAbove d (GroupImport name) (Refused (Limit w most)) old new) (sym is) (by h.loosens refl)
      where
        by : (loosens : Bool) → h.loosens ≡ loosens → LeadsAbove d (GroupImport name) (Refused (Limit Numbers most)) old new
        by true so = held_unknown 0 (Limit Numbers most) tt (nothing_by (h.loose so))
        by false so = held_unfound_for 0 (Limit Numbers most) most_is (subst (λ (l : Bool). NotesRefused note (note_held l h.dims note)) (sym so) (held_refused h.dims note))

    -- a disk that is held as good could not be read
    pub away_missing : (disk : ℕ) → stop ≡ StopsBy (Lacks disk) → Rose ((as_imported (site_in o)).disk_faults disk) ((site_disks (site_in p)).disk_faults disk) → LeadsAbove d (GroupImport name) (Refused (Lacks disk)) old new
    away_missing disk is rose = ⊎_elim
        (λ as_noted. held_unfound_for (disk + 1) (Lacks disk) (fails_in (disk + 1) disk (omega arith) rose) (held_same h.loosens h.dims note as_noted))
        (λ nothing. held_unknown (disk + 1) (Lacks disk) tt nothing)
        (noted_or (ap (λ (x : Stop). stops_early x) is))

    abbrev import_units : ℕ
    import_units = (as_imported (site_in o)).units

    -- none has a configuration
    pub away_none : stop ≡ StopsBy NoConfig → (KnownAway (IsTrue (site_disks (site_in p)).tells) (note_ready (site_in o) note) → SomeRose (as_imported (site_in o)) (site_disks (site_in p))) → LeadsAbove d (GroupImport name) (Refused NoConfig) old new
    away_none is rose = ⊎_elim
        (λ as_noted. ⊎_elim
        (λ found. held_unfound_for import_units NoConfig found (held_same h.loosens h.dims note as_noted))
        (λ nothing. held_unknown import_units NoConfig tt nothing)
        (none_found (IsTold new) (IsTrue (site_disks (site_in p)).tells) false s note (fails import_units) (λ off. let e : false ≡ true = off in absurd (cc)) (tells_lit as_noted) never))
        (λ nothing. held_unknown import_units NoConfig tt nothing)
        (noted_or (ap (λ (x : Stop). stops_early x) is))
      where
        never : IsTrue (site_disks (site_in p)).tells × (note.loose ≡ false) × (note.begun ≡ []) → fails import_units ≡ [] → ⊥
        never sure none = let some = rose sure in no_call (fails import_units) (s, some.disk) none (fails_in import_units some.disk some.below some.rose)

    -- what no disk that tells its contents has
    pub away_strange : (why : No) → stop ≡ StopsBy why → stops_early (StopsBy why) ≡ true → FailsOrNone (fails 0) s why → (IsTrue (site_disks (site_in p)).tells → ⊥) → LeadsAbove d (GroupImport name) (Refused why) old new
    away_strange why is early because never = ⊎_elim
        (λ as_noted. held_unknown 0 why because (knows_none (IsTold new) false note (λ off. let e : false ≡ true = off in absurd (cc)) (λ told bright. never (tells_lit as_noted told bright))))
        (λ nothing. held_unknown 0 why because nothing)
        (noted_or (ap (λ (x : Stop). stops_early x) is ∙ early))

    -- memory was wanted
    pub away_memory : stop ≡ MemoryStop → StopsAbove d (GroupImport name) old new
    away_memory is = record {
      next = left;
      part = inr (subst (λ (k : ℕ). RvgShort (IsTold new) d (GroupImport name) k left) (sym number)
          (ShortGroup 0 false h.lost next call.over tt
          (subst (λ (l : Bool). NotesShort note (note_held l h.dims note)) (sym (h.short is).0) (held_short h.dims note (h.short is).1)) left_from));
      stands = gone_stands d old new s o p call (fuse_gone h.lost n.fuse) n.session next table named h.noted h.stands (fused_by h.lost h.fuse) left (arrives_by h.lost) (headers_by h.lost) facts;
      carries = λ was. gone_carries d old new s o p call (fuse_gone h.lost n.fuse) n.session next table named h.noted h.stands (fused_by h.lost h.fuse) left (arrives_by h.lost) (headers_by h.lost) load was;
      rose = rose_still old new s (Over o) (Over p) call.changed.there call.changed.later call.changed.disk_sets;
    }

  -- ---- the fuse ran out in it: the site is down

  module _ (h : HeldOff (beside_of d s) (d.world.nodes s) (note_at (d.world.nodes s)) (site_in o) p) (facts : new.facts.items ≡ slice_set old.facts.items s (down_fact (linked_fact d.world s))) (load : SameLoad old new) where
    abbrev dark : GroupNode
    dark = note_held h.loosens true note

    abbrev q : Node
    q = fallen_in n.session dark n

    abbrev fell : Doubted
    fell = happened d (FallAt s) false

    abbrev down : Doubted
    down = let e : Doubted = happened d (FallAt s) false in record e { world = worked_on (noting e.world s dark) s }

    named_down : IsNamed q
    named_down =
        let w = away_named d old new s o (Over p) call in
        (w.0, w.1, w.2, w.3, w.4, w.5, cut_stays n q dark refl refl (λ v low. refl) (λ up. absurd (let clash : IsDown ≡ IsUp = up in cc)) w.6)

    table_down : over_table q dark ≡ over_table n note
    table_down = refl

    arrives_down : Arrives d down s q (d.world.gathering s)
    arrives_down =
        arrives_worked d fell s (fallen_site n) dark (d.world.gathering s)
        (arrives_fallen d d s n (d.world.gathering s) (away_begins d old new s o (Over p) call) call.below call.away (λ none. away_some d old new s o (Over p) call none))

    headers_down : down.world.headers s ≡ d.world.headers s
    headers_down = fallen_headers d d s n (d.world.gathering s) (away_begins d old new s o (Over p) call) call.below call.away (λ none. away_some d old new s o (Over p) call none)

    notes_off : NotesOff (IsTold new) note dark
    notes_off = by h.loosens refl
      where
        by : (loosens : Bool) → h.loosens ≡ loosens → NotesOff (IsTold new) note dark
        by true is = inr (nothing_by (h.loose is), held_unfound h.loosens true note)
        by false is = inl (subst (λ (l : Bool). NotesRefused note (note_held l true note)) (sym is) (held_refused true note))

    pub away_off : LeadsAbove d (GroupImport name) (Refused IsOff) old new
    away_off = record {
      next = down;
      fails = fails 0;
      works = inl (subst (λ (k : ℕ). RvgTakes (IsTold new) d (GroupImport name) k (fails 0) (Refused IsOff) down) (sym number)
          (TakeOff name dark call.over refl (calls_are_of d old new s o p resting 0) h.fused notes_off refl (record { world = refl; after = λ i. refl; strayed = refl })));
      stands = fell_stands d old new s o p call n.session dark table_down named_down h.noted h.stands down arrives_down headers_down facts;
      carries = λ was. fell_goes d old new s o p call n.session dark table_down named_down h.noted h.stands down arrives_down headers_down load was;
      rose = calls_rose d old new s o p resting 0;
    }
