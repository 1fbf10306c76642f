-- What a recovery of a site whose group has a replicated volume group leads its yard to, where the group did not come up, or nothing was known of what did.
use Rattle.std.proofs.Common.{◌≡◌, ◌∙◌, ◌⊎◌, ◌+◌, ◌<◌, ℕ, Bool, true, false, List, [], ap, sym, subst, refl, arith, inl, inr, ⊎_elim, IsTrue}
use Rattle.std.proofs.lemmas.Option.{slice_get_within}
use Rattle.std.specs.Prelude.{Contains, Some, slice_get, slice_set}
use Rattle.vx_model.specs.declared.errors.Stop.{Stop}
use Rattle.vx_model.specs.declared.errors.Stop.TheVariants.{No as StopsBy, OutOfMemory as MemoryStop}
use Rattle.vx_model.specs.declared.limits.TheConstants.{MOST_NUMBER}
use Rattle.vx_model.specs.declared.no.Counted.{Counted}
use Rattle.vx_model.specs.declared.no.Counted.TheVariants.{Number as Numbers}
use Rattle.vx_model.specs.declared.no.No.{No}
use Rattle.vx_model.specs.declared.no.No.TheVariants.{Device, Limit, Missing as Lacks, NoConfig}
use Rattle.vx_disk.specs.Counts.{Rose}
use Rattle.vx_disk.specs.declared.shelf.Shelf.{Ghosts}
use Rattle.vx_history.specs.Doubts.{Doubted}
use Rattle.vx_history.specs.Groups.{GroupNode}
use Rattle.vx_history.specs.World.{Node}
use Rattle.vx_script.specs.declared.line.ScriptLine.TheVariants.{Recover}
use Rattle.vx_grouped.proofs.ReadyLemmas.{imported_same}
use Rattle.vx_grouped.specs.GroupSites.{DownNoted, site_below, site_disks}
use Rattle.vx_grouped.specs.SiteReturns.{KnownAway, SomeRose, as_imported, stops_early}
use Rattle.vx_diskset.proofs.NotedLikes.{cut_stays}
use Rattle.vx_diskset.specs.Aboves.{site_in}
use Rattle.vx_diskset.specs.Holds.{beside_of}
use Rattle.vx_diskset.specs.Noted.{IsNamed, below_rvg}
use Rattle.vx_diskset.specs.OverRises.{HeldStill, note_held, note_ready, rest_in}
use Rattle.vx_diskset.specs.declared.disk_set.DiskSet.{DiskSet}
use Rattle.vx_diskset.specs.declared.disk_set.DiskSet.TheVariants.{Over}
use Rattle.vx_diskset.specs.declared.over_set.OverSet.{OverSet}
use Rattle.vx_events.specs.Fails.{Fails}
use Rattle.vx_events.specs.GroupEnds.{KnowsNothing, NotFound, NotFoundLeaves}
use Rattle.vx_events.specs.GroupNotes.{NotesRefused, NotesShort, NotesUnfound, note_at}
use Rattle.vx_events.specs.LinkedFacts.{linked_fact}
use Rattle.vx_events.specs.RvgBack.{FailsOrNone, FindsNoRvg, GroupHeld, GroupUnfound, RvgBack, RvgFinds}
use Rattle.vx_events.specs.RvgParts.{ShortGroup}
use Rattle.vx_events.specs.RvgViews.{over_table}
use Rattle.vx_events.specs.declared.said.Said.TheVariants.{Refused}
use Rattle.vx_yard.proofs.Carrying.{SameLoad}
use Rattle.vx_yard.proofs.CrashLine.{rose_still}
use Rattle.vx_yard.proofs.Lists.{get-set_same}
use Rattle.vx_yard.specs.Yards.{IsTold}
use Rattle.vx_yard.specs.declared.yard.Yard.{Yard}
use Rattle.vx_group_lines.specs.RvgRises.{RaisesFor, RaisesShort, RestsSo, rests_as}
use Rattle.vx_group_lines.proofs.Dimming.{knows_none, no_call, none_found}
use Rattle.vx_group_lines.proofs.GroupAt.{lit_down}
use Rattle.vx_group_lines.proofs.RvgComing.{DownCall, RestCall, fell_noted, rest_call, rest_named}
use Rattle.vx_group_lines.proofs.RvgRests.{left_arrives, left_is, left_world, rests_carries, rests_stands}
use Rattle.vx_group_lines.proofs.RvgReturns.{call_named, calls_are_of, calls_at, calls_rose}
use Rattle.vx_group_lines.proofs.RvgRose.{note_before}

-- ---- the note

pub held_refused : (dims : Bool) (note : GroupNode) → NotesRefused note (note_held false dims note)
held_refused true note = inr refl
held_refused false note = inl refl

pub held_unfound : (loosens dims : Bool) (note : GroupNode) → NotesUnfound note (note_held loosens dims note)
held_unfound false dims note = inl (held_refused dims note)
held_unfound true true note = inr (inr refl)
held_unfound true false note = inr (inl refl)

pub held_short : (dims : Bool) (note : GroupNode) → (dims ≡ true → (note.loose ≡ true) ⊎ (note.dark ≡ true)) → NotesShort note (note_held false dims note)
held_short false note more = inl refl
held_short true note more = ⊎_elim
    (λ (loose : note.loose ≡ true). inr (loose, refl))
    (λ (dark : note.dark ≡ true). inl (ap (λ (b : Bool). let k : GroupNode = record note { dark = b } in k) (sym dark)))
    (more refl)

-- a note that is as it was: the import had written nothing, and nothing was found
pub record AsNoted (loosens dims : Bool) : Type 0 where
  pub tight : loosens ≡ false
  pub lit : dims ≡ false

pub held_same : (loosens dims : Bool) (note : GroupNode) → AsNoted loosens dims → note_held loosens dims note ≡ note
held_same loosens dims note it =
    ap (λ (b : Bool). note_held b dims note) it.tight ∙ ap (λ (b : Bool). note_held false b note) it.lit

module _ {R : Type 0} {g : Ghosts R} (d : Doubted) (s kept : ℕ) (taken : Bool) (rests : RestsSo d s kept taken) (old new : Yard R g) (o p : OverSet R g) (call : DownCall (rests_as d s kept taken) old new s o (Over p)) (stop : Stop)
    (h : HeldStill (beside_of (rests_as d s kept taken) s) ((rests_as d s kept taken).world.nodes s) (note_at ((rests_as d s kept taken).world.nodes s)) (site_in o) p stop)
    (facts : new.facts.items ≡ slice_set old.facts.items s (linked_fact (rests_as d s kept taken).world s)) (load : SameLoad old new) where
  abbrev b : Doubted
  b = rests_as d s kept taken

  abbrev n : Node
  n = (rests_as d s kept taken).world.nodes s

  abbrev resting : RestCall b old new s o (Over p)
  resting = rest_call b old new s o (Over p) call

  abbrev note : GroupNode
  note = note_at ((rests_as d s kept taken).world.nodes s)

  abbrev next : GroupNode
  next = note_held h.loosens h.dims note

  abbrev m : Node
  m = rest_in n.session next n

  abbrev left : Doubted
  left = left_world d s kept taken rests old new o p call next

  named : IsNamed m
  named = let w = rest_named b old new s o (Over p) call in (w.0, w.1, w.2, w.3, w.4, w.5, cut_stays n m next refl refl (λ v low. refl) (λ up. up) w.6)

  table : over_table m next ≡ over_table n note
  table = refl

  -- what the calls named
  abbrev fails : ℕ → Fails
  fails many = calls_at b old new s o p resting many

  fails_in : (many disk : ℕ) → disk < many → Rose ((as_imported (site_in o)).disk_faults disk) ((site_disks (site_in p)).disk_faults disk) → Contains (fails many) (s, disk)
  fails_in many disk low rose =
      call_named b old new s o p resting many disk ((as_imported (site_in o)).disk_faults disk) ((site_disks (site_in p)).disk_faults disk) low (omega (arith, (imported_same {R = R} {g = g} (site_in o)).counts disk)) rose (omega arith)

  abbrev import_units : ℕ
  import_units = (as_imported (site_in o)).units

  -- ---- what is known

  there : slice_get new.disk_sets.items s ≡ Some (Over p)
  there = ap (λ (es : List (DiskSet R g)). slice_get es s) call.changed.disk_sets ∙ get-set_same old.disk_sets.items s (Over p) (slice_get_within old.disk_sets.items s (Over o) call.changed.there)

  rack_told : IsTold new → IsTrue (site_below (site_in p)).tells
  rack_told told = told.each s (Over p) there

  -- nothing, where it is not known what the disks hold, or they may not agree
  nothing_by : (IsTrue (site_below (site_in p)).tells → (note.dark ≡ true) ⊎ (note.loose ≡ true)) → KnowsNothing (IsTold new) note
  nothing_by why = by (site_below (site_in p)).tells refl
    where
      by : (t : Bool) → (site_below (site_in p)).tells ≡ t → KnowsNothing (IsTold new) note
      by true is = ⊎_elim (λ (dark : note.dark ≡ true). inr (inr dark)) (λ (loose : note.loose ≡ true). inr (inl loose)) (why is)
      by false is = inl (λ told. let e : true ≡ false = sym (rack_told told) ∙ is in absurd (cc))

  nothing_before : KnowsNothing (IsTold new) note → KnowsNothing (IsTold new) (note_at (d.world.nodes s))
  nothing_before it = subst (λ (k : GroupNode). KnowsNothing (IsTold new) k) (note_before d s kept taken rests old new o p call) it

  -- contents that the rack tells are told of the disks, where nothing more is noted of them
  tells_lit : AsNoted h.loosens h.dims → IsTold new → note.dark ≡ false → IsTrue (site_disks (site_in p)).tells
  tells_lit as_noted told bright =
      let fell : DownNoted (below_rvg m) next (site_in p) = fell_noted m (below_rvg m) next (beside_of b s) p.site h.stands.1 call.down h.noted.0 in
      lit_down (below_rvg m) next (site_in p) fell (ap (λ (k : GroupNode). k.dark) (held_same h.loosens h.dims note as_noted) ∙ bright) (rack_told told)

  -- ---- the ends

  module _ (name : List ℕ) where
    held_for : (many : ℕ) (why : No) → RvgBack (IsTold new) d (Recover name) s (fails many) (Refused why) left ⊎ RvgFinds (IsTold new) d (Recover name) s (fails many) (Refused why) left
        → RaisesFor d (Recover name) s kept taken (Refused why) old new
    held_for many why ends = record {
      next = left;
      fails = fails many;
      works = ends;
      stands = rests_stands d s kept taken rests old new o p call n.session next table named h.noted h.stands left (left_arrives d s kept taken rests old new o p call next) refl facts;
      carries = λ was. rests_carries d s kept taken rests old new o p call n.session next table named h.noted h.stands left (left_arrives d s kept taken rests old new o p call next) refl load was;
      rose = calls_rose b old new s o p resting many;
    }

    -- what was found, of which nothing was known, was refused
    held_unknown : (many : ℕ) (why : No) → FailsOrNone (fails many) s why → KnowsNothing (IsTold new) note → RaisesFor d (Recover name) s kept taken (Refused why) old new
    held_unknown many why because nothing =
        held_for many why
        (inr (FindsNoRvg kept taken true next why rests.over (calls_are_of b old new s o p resting many) tt (nothing_before nothing) because
        (subst (λ (k : GroupNode). NotesUnfound k next) (note_before d s kept taken rests old new o p call) (held_unfound h.loosens h.dims note)) refl
        (left_is d s kept taken rests old new o p call name next)))

    -- none was found
    held_unfound_for : (many : ℕ) (why : No) → NotFound s note (fails many) why → NotFoundLeaves why note next → RaisesFor d (Recover name) s kept taken (Refused why) old new
    held_unfound_for many why not leaves =
        held_for many why
        (inl (GroupUnfound name kept taken true why next rests.over refl (calls_are_of b old new s o p resting many)
        (subst (λ (k : GroupNode). NotFound s k (fails many) why) (note_before d s kept taken rests old new o p call) not)
        (subst (λ (k : GroupNode). NotFoundLeaves why k next) (note_before d s kept taken rests old new o p call) leaves) refl (left_is d s kept taken rests old new o p call name next)))

    -- the note is as it was, or nothing was known
    noted_or : stops_early stop ≡ true → AsNoted h.loosens h.dims ⊎ KnowsNothing (IsTold new) note
    noted_or early = by h.loosens h.dims refl refl
      where
        by : (loosens dims : Bool) → h.loosens ≡ loosens → h.dims ≡ dims → AsNoted h.loosens h.dims ⊎ KnowsNothing (IsTold new) note
        by true dims is too = inr (nothing_by (h.loose is))
        by false true is too = inr (nothing_by (h.dimmed too early))
        by false false is too = inl (record { tight = is; lit = too })

    -- a disk failed
    pub held_device : (disk : ℕ) → Rose ((as_imported (site_in o)).disk_faults disk) ((site_disks (site_in p)).disk_faults disk) → RaisesFor d (Recover name) s kept taken (Refused (Device disk)) old new
    held_device disk rose = by h.loosens refl
      where
        failed : Contains (fails (disk + 1)) (s, disk)
        failed = fails_in (disk + 1) disk (omega arith) rose

        by : (loosens : Bool) → h.loosens ≡ loosens → RaisesFor d (Recover name) s kept taken (Refused (Device disk)) old new
        by true is = held_unknown (disk + 1) (Device disk) failed (nothing_by (h.loose is))
        by false is =
            held_for (disk + 1) (Device disk)
            (inl (GroupHeld name kept taken true disk next rests.over refl (calls_are_of b old new s o p resting (disk + 1)) failed
            (subst (λ (k : GroupNode). NotesRefused k next) (note_before d s kept taken rests old new o p call)
            (subst (λ (l : Bool). NotesRefused note (note_held l h.dims note)) (sym is) (held_refused h.dims note))) refl (left_is d s kept taken rests old new o p call name next)))

    -- no serial is left
    pub held_limit : (what : Counted) (most : ℕ) → what ≡ Numbers → most ≡ MOST_NUMBER → RaisesFor d (Recover name) s kept taken (Refused (Limit what most)) old new
    held_limit what most is most_is = subst (λ (w : Counted). RaisesFor d (Recover name) s kept taken (Refused (Limit w most)) old new) (sym is) (by h.loosens refl)
      where
        by : (loosens : Bool) → h.loosens ≡ loosens → RaisesFor d (Recover name) s kept taken (Refused (Limit Numbers most)) old new
        by true so = held_unknown 0 (Limit Numbers most) tt (nothing_by (h.loose so))
        by false so = held_unfound_for 0 (Limit Numbers most) most_is (subst (λ (l : Bool). NotesRefused note (note_held l h.dims note)) (sym so) (held_refused h.dims note))

    -- a disk that is held as good could not be read
    pub held_missing : (disk : ℕ) → stop ≡ StopsBy (Lacks disk) → Rose ((as_imported (site_in o)).disk_faults disk) ((site_disks (site_in p)).disk_faults disk) → RaisesFor d (Recover name) s kept taken (Refused (Lacks disk)) old new
    held_missing disk is rose = ⊎_elim
        (λ as_noted. held_unfound_for (disk + 1) (Lacks disk) (fails_in (disk + 1) disk (omega arith) rose) (held_same h.loosens h.dims note as_noted))
        (λ nothing. held_unknown (disk + 1) (Lacks disk) tt nothing)
        (noted_or (ap (λ (x : Stop). stops_early x) is))

    -- none has a configuration
    pub held_none : stop ≡ StopsBy NoConfig → (KnownAway (IsTrue (site_disks (site_in p)).tells) (note_ready (site_in o) note) → SomeRose (as_imported (site_in o)) (site_disks (site_in p)))
        → RaisesFor d (Recover name) s kept taken (Refused NoConfig) old new
    held_none is rose = ⊎_elim
        (λ as_noted. ⊎_elim
        (λ found. held_unfound_for import_units NoConfig found (held_same h.loosens h.dims note as_noted))
        (λ nothing. held_unknown import_units NoConfig tt nothing)
        (none_found (IsTold new) (IsTrue (site_disks (site_in p)).tells) false s note (fails import_units) (λ off. let e : false ≡ true = off in absurd (cc)) (tells_lit as_noted) never))
        (λ nothing. held_unknown import_units NoConfig tt nothing)
        (noted_or (ap (λ (x : Stop). stops_early x) is))
      where
        never : IsTrue (site_disks (site_in p)).tells × (note.loose ≡ false) × (note.begun ≡ []) → fails import_units ≡ [] → ⊥
        never sure none = let some = rose sure in no_call (fails import_units) (s, some.disk) none (fails_in import_units some.disk some.below some.rose)

    -- what no disk that tells its contents has
    pub held_strange : (why : No) → stop ≡ StopsBy why → stops_early (StopsBy why) ≡ true → FailsOrNone (fails 0) s why → (IsTrue (site_disks (site_in p)).tells → ⊥) → RaisesFor d (Recover name) s kept taken (Refused why) old new
    held_strange why is early because never = ⊎_elim
        (λ as_noted. held_unknown 0 why because (knows_none (IsTold new) false note (λ off. let e : false ≡ true = off in absurd (cc)) (λ told bright. never (tells_lit as_noted told bright))))
        (λ nothing. held_unknown 0 why because nothing)
        (noted_or (ap (λ (x : Stop). stops_early x) is ∙ early))

    -- memory was wanted
    pub held_memory : stop ≡ MemoryStop → RaisesShort d (Recover name) s kept taken old new
    held_memory is = record {
      next = left;
      part = ShortGroup kept taken true next rests.over tt
          (subst (λ (k : GroupNode). NotesShort k next) (note_before d s kept taken rests old new o p call)
          (subst (λ (l : Bool). NotesShort note (note_held l h.dims note)) (sym (h.short is).0) (held_short h.dims note (h.short is).1)))
          (left_is d s kept taken rests old new o p call name next);
      stands = rests_stands d s kept taken rests old new o p call n.session next table named h.noted h.stands left (left_arrives d s kept taken rests old new o p call next) refl facts;
      carries = λ was. rests_carries d s kept taken rests old new o p call n.session next table named h.noted h.stands left (left_arrives d s kept taken rests old new o p call next) refl load was;
      rose = rose_still old new s (Over o) (Over p) call.changed.there call.changed.later call.changed.disk_sets;
    }
