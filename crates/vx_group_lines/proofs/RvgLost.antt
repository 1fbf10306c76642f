-- What a recovery of a site whose group has a replicated volume group leads its yard to, where the group came up and the replicated volume group did not.
use Rattle.std.proofs.Common.{◌≡◌, ◌∙◌, ◌++◌, ◌+◌, ◌<◌, ◌≤◌, ℕ, Bool, true, false, List, [], ◌∷◌, map, ap, sym, subst, refl, arith, inl, inr, ⊎_elim}
use Rattle.std.specs.Prelude.{Contains, Option, Some, slice_set}
use Rattle.vx_model.specs.Content.{Content}
use Rattle.vx_model.specs.declared.errors.Stop.{Stop}
use Rattle.vx_model.specs.declared.limits.TheConstants.{MOST_NUMBER}
use Rattle.vx_model.specs.declared.no.Counted.{Counted}
use Rattle.vx_model.specs.declared.no.Counted.TheVariants.{Number}
use Rattle.vx_model.specs.declared.no.No.{No}
use Rattle.vx_model.specs.declared.no.No.TheVariants.{Device, Limit}
use Rattle.vx_disk.specs.Counts.{Rose}
use Rattle.vx_disk.specs.Shelf.{Meaning}
use Rattle.vx_disk.specs.declared.shelf.Shelf.{Ghosts}
use Rattle.vx_config.specs.declared.config.Config.{Config}
use Rattle.vx_history.specs.Doubts.{Doubted}
use Rattle.vx_history.specs.Groups.{GroupNode}
use Rattle.vx_history.specs.World.{Node}
use Rattle.vx_history.specs.declared.event.Event.{Event}
use Rattle.vx_history.specs.declared.event.Event.TheVariants.{Recover as RecoverAt}
use Rattle.vx_script.specs.declared.line.ScriptLine.TheVariants.{Recover}
use Rattle.vx_grouped.specs.GroupSites.{laid_disks, site_disks}
use Rattle.vx_diskset.proofs.NotedLikes.{cut_stays}
use Rattle.vx_diskset.specs.Aboves.{site_in}
use Rattle.vx_diskset.specs.DiskSets.{no_number}
use Rattle.vx_diskset.specs.Holds.{beside_of, most_header}
use Rattle.vx_diskset.specs.Noted.{IsNamed}
use Rattle.vx_diskset.specs.OverRises.{LostAgain, SessionFrom, rest_in}
use Rattle.vx_diskset.specs.declared.disk_set.DiskSet.TheVariants.{Over}
use Rattle.vx_diskset.specs.declared.over_set.OverSet.{OverSet}
use Rattle.vx_events.proofs.RvgStays.{loses, then_keeps}
use Rattle.vx_events.specs.Doubts.{run_as}
use Rattle.vx_events.specs.Fails.{Fails}
use Rattle.vx_events.specs.GroupNotes.{NotesBack, note_at}
use Rattle.vx_events.specs.GroupViews.{config_of, plain_fact}
use Rattle.vx_events.specs.LinkedFacts.{linked_fact}
use Rattle.vx_events.specs.RvgBack.{IsLeftBut, LogFails, LogLacks, RvgBack, SessionLeft, fall_first}
use Rattle.vx_events.specs.RvgFits.{KeptConfig, NoteKeepsRvg, config_rvg, entries_noted, rvg_noted}
use Rattle.vx_events.specs.RvgParts.{ShortLog}
use Rattle.vx_events.specs.RvgViews.{over_table}
use Rattle.vx_events.specs.RvgWorks.{NotesWork, WorksCut}
use Rattle.vx_events.specs.Stamps.{most_stamp, most_stamp_at}
use Rattle.vx_events.specs.declared.said.Said.{Said}
use Rattle.vx_events.specs.declared.said.Said.TheVariants.{Refused}
use Rattle.vx_yard.proofs.Carrying.{SameLoad}
use Rattle.vx_yard.proofs.CrashLine.{rose_still}
use Rattle.vx_yard.specs.Stands.{RoseAll}
use Rattle.vx_yard.specs.Yards.{IsTold, count_of}
use Rattle.vx_yard.specs.declared.yard.Yard.{Yard}
use Rattle.vx_above.proofs.Tables.{table_like}
use Rattle.vx_above.proofs.RiseWorlds.{own_headers, own_is, own_node}
use Rattle.vx_group_lines.specs.RvgRises.{RaisesFor, RaisesShort, RestsSo, rests_as, rests_world}
use Rattle.vx_group_lines.proofs.Arriving.{Arrives}
use Rattle.vx_group_lines.proofs.RvgComing.{DownCall, RestCall, rest_call, rest_named, rest_noted}
use Rattle.vx_group_lines.proofs.RvgReturns.{call_named, calls_are_of, calls_at, calls_rose, extra_at, group_back, group_keeps, group_works, many_at, named_again}
use Rattle.vx_group_lines.proofs.RvgRests.{begun_is, begun_left, begun_world, headers_begun, left_arrives, left_is, left_none, left_world, rests_carries, rests_stands}
use Rattle.vx_group_lines.proofs.RvgRose.{note_before}
use Rattle.vx_group_lines.proofs.RvgShown.{shown_same}
use Rattle.vx_diskset.specs.Layouts.{units_of}

-- the numbers of a log have nothing to do with the disks that are made to fail
own_stamp : (b : Bool) (was n : Node) → most_stamp (own_node b was n) ≡ most_stamp n
own_stamp true was n = refl
own_stamp false was n = refl

module _ {R : Type 0} {g : Ghosts R} (d : Doubted) (s kept : ℕ) (taken : Bool) (rests : RestsSo d s kept taken) (old new : Yard R g) (o p : OverSet R g) (call : DownCall (rests_as d s kept taken) old new s o (Over p)) (stop : Stop)
    (r : LostAgain (beside_of (rests_as d s kept taken) s) ((rests_as d s kept taken).world.nodes s) (note_at ((rests_as d s kept taken).world.nodes s)) (site_in o) p stop) where
  abbrev b : Doubted
  b = rests_as d s kept taken

  abbrev n : Node
  n = (rests_as d s kept taken).world.nodes s

  abbrev resting : RestCall b old new s o (Over p)
  resting = rest_call b old new s o (Over p) call

  abbrev note : GroupNode
  note = note_at ((rests_as d s kept taken).world.nodes s)

  abbrev pub lost_note : GroupNode
  lost_note = record r.worked { cut = (note_at ((rests_as d s kept taken).world.nodes s)).cut }

  abbrev m : Node
  m = rest_in r.session lost_note n

  abbrev was : Meaning
  was = site_disks (site_in o)

  abbrev mid : Meaning
  mid = laid_disks r.laid

  abbrev now : Meaning
  now = site_disks (site_in p)

  last : (k : ℕ) → (site_disks (site_in p)).disk_faults k ≤ (site_disks (site_in p)).disk_faults k
  last k = omega arith

  -- ---- its note

  abbrev extra : ℕ → ℕ
  extra more = extra_at b old new s o p resting r.laid r.group p r.to last r.worked r.works r.goes r.agrees + more

  abbrev many : ℕ → ℕ
  many more = many_at b old new s o p resting r.laid r.group p r.to last (extra more)

  abbrev fails : ℕ → Fails
  fails more = calls_at b old new s o p resting (many more)

  back : (more : ℕ) → NotesBack (IsTold new) s (d.world.nodes s) (fails more) (note_at (d.world.nodes s)) r.group.middle
  back more =
      subst (λ (k : GroupNode). NotesBack (IsTold new) s (d.world.nodes s) (fails more) k r.group.middle) (note_before d s kept taken rests old new o p call)
      (group_back b old new s o p resting r.laid r.group p r.to last (d.world.nodes s) (extra more) rests.disks rests.blocks (λ _. r.told))

  keeps_here : NoteKeepsRvg note r.group.middle
  keeps_here = group_keeps b old new s o p resting r.laid r.group p r.to last r.told r.named

  keeps : NoteKeepsRvg (note_at (d.world.nodes s)) r.group.middle
  keeps = subst (λ (k : GroupNode). NoteKeepsRvg k r.group.middle) (note_before d s kept taken rests old new o p call) keeps_here

  works : (more : ℕ) → NotesWork ⊥ s (fails more) r.group.middle r.worked
  works more = group_works b old new s o p resting r.laid r.group p r.to last r.worked r.works r.goes r.agrees (extra more) (omega arith)

  -- the same as the site noted it before it came to rest
  cut_before : lost_note ≡ (let k : GroupNode = record r.worked { cut = (note_at (d.world.nodes s)).cut } in k)
  cut_before = ap (λ (x : GroupNode). let k : GroupNode = record r.worked { cut = x.cut } in k) (note_before d s kept taken rests old new o p call)

  works_cut : (more : ℕ) → WorksCut ⊥ s (fails more) (note_at (d.world.nodes s)).cut r.group.middle lost_note
  works_cut more = record { worked = r.worked; works = works more; is = cut_before }

  keeps_lost : NoteKeepsRvg note lost_note
  keeps_lost c at =
      let k : KeptConfig c r.worked = then_keeps note r.group.middle r.worked keeps_here (loses s (fails 0) r.group.middle r.worked (works 0)) c at in
      record { now = k.now; is = k.is; keeps = k.keeps }

  -- the volumes are as large as they were
  sizes_lost : (v : ℕ) → 0 < note.bytes.size v → lost_note.bytes.size v ≡ note.bytes.size v
  sizes_lost v low = ap (λ (k : Content). k.size v) r.works.same.bytes ∙ r.group.returns.size r.told v low

  named : IsNamed m
  named =
      let was_named = rest_named b old new s o (Over p) call in
      named_again n m lost_note refl refl keeps_lost (cut_stays n m lost_note refl refl sizes_lost (λ up. up) was_named.6) was_named

  -- ---- what is seen of it

  table_same : map plain_fact (entries_noted lost_note) ≡ map plain_fact (entries_noted note)
  table_same = shown_same n note (site_in o) (site_in p) r.laid r.group r.told (units_of n) (rest_noted b old new s o (Over p) call).3 r.seen r.worked r.goes

  rvg_same : rvg_noted lost_note ≡ rvg_noted note
  rvg_same =
      let k : KeptConfig named_config lost_note = keeps_lost named_config named_is in
      ap (λ (x : Option Config). config_rvg x) k.is ∙ k.keeps.rvg ∙ sym (ap (λ (x : Option Config). config_rvg x) named_is)
    where
      named_config : Config
      named_config = (rest_named b old new s o (Over p) call).0

      named_is : config_of note.config ≡ Some named_config
      named_is = (rest_named b old new s o (Over p) call).2

  table : over_table m lost_note ≡ over_table n note
  table = table_like n m note lost_note refl rvg_same table_same

  -- ---- the ends

  -- in the session that the log had
  module _ (same : r.session ≡ n.session) (facts : new.facts.items ≡ slice_set old.facts.items s (linked_fact (rests_as d s kept taken).world s)) (load : SameLoad old new) where
    arrives : Arrives b (left_world d s kept taken rests old new o p call lost_note) s m (b.world.gathering s)
    arrives =
        subst (λ (k : ℕ). Arrives b (left_world d s kept taken rests old new o p call lost_note) s (rest_in k lost_note n) (b.world.gathering s)) (sym same) (left_arrives d s kept taken rests old new o p call lost_note)

    -- no event came
    lost_for : (name : List ℕ) (more : ℕ) (said : Said) → RvgBack (IsTold new) d (Recover name) s (fails more) said (left_world d s kept taken rests old new o p call lost_note) → RaisesFor d (Recover name) s kept taken said old new
    lost_for name more said ends = record {
      next = left_world d s kept taken rests old new o p call lost_note;
      fails = fails more;
      works = inl ends;
      stands = rests_stands d s kept taken rests old new o p call r.session lost_note table named r.noted r.stands (left_world d s kept taken rests old new o p call lost_note) arrives refl facts;
      carries = λ before. rests_carries d s kept taken rests old new o p call r.session lost_note table named r.noted r.stands (left_world d s kept taken rests old new o p call lost_note) arrives refl load before;
      rose = calls_rose b old new s o p resting (many more);
    }

    lost_short : (name : List ℕ) → r.worked ≡ r.group.middle → RaisesShort d (Recover name) s kept taken old new
    lost_short name unbegun = record {
      next = left_world d s kept taken rests old new o p call lost_note;
      part = ShortLog kept taken (fails 0) r.group.middle lost_note rests.over tt (calls_are_of b old new s o p resting (many 0)) (back 0) keeps
          (cut_before ∙ ap (λ (x : GroupNode). let k : GroupNode = record x { cut = (note_at (d.world.nodes s)).cut } in k) unbegun) (left_is d s kept taken rests old new o p call name lost_note);
      stands = rests_stands d s kept taken rests old new o p call r.session lost_note table named r.noted r.stands (left_world d s kept taken rests old new o p call lost_note) arrives refl facts;
      carries = λ before. rests_carries d s kept taken rests old new o p call r.session lost_note table named r.noted r.stands (left_world d s kept taken rests old new o p call lost_note) arrives refl load before;
      rose = none_rose;
    }
      where
        none_rose : RoseAll [] (count_of old) (count_of new)
        none_rose = rose_still old new s (Over o) (Over p) call.changed.there call.changed.later call.changed.disk_sets

  -- its header was written, and no more
  module _ (begun : r.session ≡ n.session + 1) (less : n.session < MOST_NUMBER) (facts : new.facts.items ≡ slice_set old.facts.items s (linked_fact (rests_as d s kept taken).world s)) (load : SameLoad old new) where
    begun_for : (name : List ℕ) (disk : ℕ) (more : ℕ) (said : Said) → RvgBack (IsTold new) d (Recover name) s (fails more) said (begun_world d s kept taken rests old new o p call disk lost_note)
        → RaisesFor d (Recover name) s kept taken said old new
    begun_for name disk more said ends =
        let e : Doubted = begun_world d s kept taken rests old new o p call disk lost_note in
        let arrives : Arrives b e s m (b.world.gathering s) =
        subst (λ (k : ℕ). Arrives b e s (rest_in k lost_note n) (b.world.gathering s)) (sym begun) (begun_left d s kept taken rests old new o p call less disk lost_note) in
        let headers = headers_begun d s kept taken rests old new o p call less disk lost_note in
        record {
          next = e;
          fails = fails more;
          works = inl ends;
          stands = rests_stands d s kept taken rests old new o p call r.session lost_note table named r.noted r.stands e arrives headers facts;
          carries = λ before. rests_carries d s kept taken rests old new o p call r.session lost_note table named r.noted r.stands e arrives headers load before;
          rose = calls_rose b old new s o p resting (many more);
        }

  -- a disk failed
  module _ (disk : ℕ) (rose : Rose ((site_disks (site_in o)).disk_faults disk) ((site_disks (site_in p)).disk_faults disk)) where
    failed : Contains (fails (disk + 1)) (s, disk)
    failed = call_named b old new s o p resting (many (disk + 1)) disk (was.disk_faults disk) (now.disk_faults disk) (omega arith) (omega arith) rose (omega arith)

    fails_end : (name : List ℕ) (left : List Event) (e : Doubted) → SessionLeft s disk left → IsLeftBut true s (Recover name) taken lost_note d (run_as taken d (fall_first (d.world.nodes s).state s kept ++ left)) e
        → RvgBack (IsTold new) d (Recover name) s (fails (disk + 1)) (Refused (Device disk)) e
    fails_end name left e session leaves =
        LogFails name kept taken disk r.group.middle lost_note left rests.over refl (calls_are_of b old new s o p resting (many (disk + 1))) failed (back (disk + 1)) keeps (works_cut (disk + 1)) session refl leaves

    pub lost_device : (name : List ℕ) → SessionFrom n r.session → new.facts.items ≡ slice_set old.facts.items s (linked_fact (rests_as d s kept taken).world s) → SameLoad old new
        → RaisesFor d (Recover name) s kept taken (Refused (Device disk)) old new
    lost_device name session facts load = ⊎_elim
        (λ (same : r.session ≡ n.session).
        lost_for same facts load name (disk + 1) (Refused (Device disk))
        (fails_end name [] (left_world d s kept taken rests old new o p call lost_note) (inl refl) (left_none d s kept taken rests old new o p call name lost_note)))
        (λ (begun : (r.session ≡ n.session + 1) × (n.session < MOST_NUMBER)).
        begun_for begun.0 begun.1 facts load name disk (disk + 1) (Refused (Device disk))
        (fails_end name (RecoverAt s (Some disk) ∷ []) (begun_world d s kept taken rests old new o p call disk lost_note) (inr refl)
        (begun_is d s kept taken rests old new o p call begun.1 disk lost_note name)))
        session

  -- no number is left
  stamps : most_stamp_at (rests_world d s kept taken).world s ≡ most_header (beside_of b s) n
  stamps =
      let h : Doubted = rests_world d s kept taken in
      omega (arith, sym (own_stamp taken (d.world.nodes s) (h.world.nodes s)), ap (λ (k : Node). most_stamp k) (own_is s d.world h taken), own_headers s d.world h taken)

  pub lost_limit : (name : List ℕ) (what : Counted) (most : ℕ) → r.session ≡ n.session → Limit what most ≡ no_number → MOST_NUMBER ≤ most_header (beside_of (rests_as d s kept taken) s) n + 2
      → new.facts.items ≡ slice_set old.facts.items s (linked_fact (rests_as d s kept taken).world s) → SameLoad old new → RaisesFor d (Recover name) s kept taken (Refused (Limit what most)) old new
  lost_limit name what most same is lacks facts load =
      subst (λ (why : No). RaisesFor d (Recover name) s kept taken (Refused why) old new) (sym is)
      (lost_for same facts load name 0 (Refused (Limit Number MOST_NUMBER))
      (LogLacks name kept taken r.group.middle lost_note rests.over refl (calls_are_of b old new s o p resting (many 0)) (back 0) keeps (works_cut 0) (λ _. omega (arith, lacks, stamps)) refl
      (left_is d s kept taken rests old new o p call name lost_note)))

  -- memory was wanted
  pub lost_memory : (name : List ℕ) → r.session ≡ n.session → r.worked ≡ r.group.middle → new.facts.items ≡ slice_set old.facts.items s (linked_fact (rests_as d s kept taken).world s) → SameLoad old new
      → RaisesShort d (Recover name) s kept taken old new
  lost_memory name same unbegun facts load = lost_short same facts load name unbegun
