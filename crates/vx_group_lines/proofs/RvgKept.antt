-- What a recovery of a site whose group has a replicated volume group leads its yard to, where both came up, and what is kept of a write that was cut could not be read:
-- the site is down again, and the write is cut still.
use Rattle.std.proofs.Common.{◌≡◌, ◌∙◌, ◌+◌, ◌<◌, ◌≤◌, ℕ, Bool, true, List, [], ◌∷◌, length, map, ap, sym, subst, refl, arith, inl}
use Rattle.std.specs.Prelude.{Contains, Err, Option, Some, None, slice_set, if◌then◌else◌}
use Rattle.vx_model.specs.Content.{Content}
use Rattle.vx_model.specs.declared.errors.Stop.TheVariants.{No as StopsBy}
use Rattle.vx_model.specs.declared.no.No.TheVariants.{Device}
use Rattle.vx_model.specs.declared.site.SiteState.TheVariants.{Deported as IsAway, Down as IsDown, Up as IsUp}
use Rattle.vx_disk.specs.declared.shelf.Shelf.{Ghosts}
use Rattle.vx_effects.specs.Facts.{down_fact}
use Rattle.vx_history.specs.Doubts.{Doubted, happened}
use Rattle.vx_history.specs.Events.{kept_of}
use Rattle.vx_history.specs.Groups.{GroupNode}
use Rattle.vx_history.specs.Steps.{burned, crashed, recovered, worked}
use Rattle.vx_history.specs.World.{Node}
use Rattle.vx_history.specs.declared.event.Event.TheVariants.{Crash as CrashAt, Recover as RecoverAt}
use Rattle.vx_order.specs.declared.facts.SiteFacts.{SiteFacts}
use Rattle.vx_script.specs.declared.line.ScriptLine.TheVariants.{Recover}
use Rattle.vx_grouped.specs.GroupSites.{site_disks, with_note}
use Rattle.vx_diskset.proofs.NotedLikes.{cut_stays, site_like}
use Rattle.vx_diskset.proofs.OverLikes.{over_like}
use Rattle.vx_diskset.proofs.Roles.{role_origin}
use Rattle.vx_diskset.specs.Aboves.{site_in}
use Rattle.vx_diskset.specs.DiskSets.{fell_to}
use Rattle.vx_diskset.specs.GroupSets.{cut_value}
use Rattle.vx_diskset.specs.Holds.{KeptBeside, KeptSite, beside_of, itself, sure_of}
use Rattle.vx_diskset.specs.Noted.{IsNamed, NotedOver, SiteNoted}
use Rattle.vx_diskset.specs.OverRises.{LookedOver, RoseAgain, came_with}
use Rattle.vx_diskset.specs.Recovers.{CutFits, still_cut}
use Rattle.vx_diskset.specs.Stands.{OverStands, SiteStands}
use Rattle.vx_diskset.specs.declared.disk_set.DiskSet.TheVariants.{Over}
use Rattle.vx_diskset.specs.declared.group_set.CutWrite.{CutWrite}
use Rattle.vx_diskset.specs.declared.over_set.OverSet.{OverSet}
use Rattle.vx_diskset.specs.declared.over_set.OverSite.{OverSite}
use Rattle.vx_diskset.specs.declared.over_set.OverSite.TheVariants.{Origin as OriginSite, Receiver as ReceiverSite, Deported as GroupAway, Down as GroupFell, Gone as NoGroup}
use Rattle.vx_events.proofs.Places.{never_some, some_same}
use Rattle.vx_events.proofs.RvgEvents.{rvg_apart}
use Rattle.vx_events.proofs.RvgStays.{then_same}
use Rattle.vx_events.specs.Facts.{volume_fact}
use Rattle.vx_events.specs.Fails.{Fails}
use Rattle.vx_events.specs.GroupNotes.{NotesBack, note_at}
use Rattle.vx_events.specs.LinkedFacts.{linked_fact}
use Rattle.vx_events.specs.RvgBack.{IsLeftBack, KeptLost, RvgBack}
use Rattle.vx_events.specs.RvgFits.{NoteKeepsRvg}
use Rattle.vx_events.specs.RvgViews.{is_over_rvg, over_table}
use Rattle.vx_events.specs.RvgWorks.{NotesWork}
use Rattle.vx_events.specs.StepsOver.{fact_over}
use Rattle.vx_events.specs.declared.said.Said.TheVariants.{Refused}
use Rattle.vx_yard.proofs.Carrying.{LetsGo, carries_let}
use Rattle.vx_yard.proofs.CrashSite.{down_up}
use Rattle.vx_yard.proofs.OneSite.{told_by}
use Rattle.vx_yard.proofs.Rows.{apart_same, fact_from, facts_is}
use Rattle.vx_yard.specs.Standing.{StandsFor}
use Rattle.vx_yard.specs.Yards.{IsTold}
use Rattle.vx_yard.specs.declared.yard.Yard.{Yard}
use Rattle.vx_above.proofs.OverSites.{over_again}
use Rattle.vx_above.specs.OwnDisks.{own_disks}
use Rattle.vx_group_lines.specs.Noting.{made_facts}
use Rattle.vx_group_lines.specs.RvgRises.{RaisesFor, RestsSo, rests_as, rests_world}
use Rattle.vx_group_lines.proofs.Arriving.{Arrives, arrives_noted, noted_at}
use Rattle.vx_group_lines.proofs.BelowOff.{FellSo, fell_so}
use Rattle.vx_group_lines.proofs.RvgComing.{DownCall, RestCall, rest_call, rest_named, rest_noted, rest_stood, stands_so}
use Rattle.vx_group_lines.proofs.RvgReturns.{call_named, calls_are_of, calls_at, calls_rose, extra_at, group_back, group_works, many_at, named_again}
use Rattle.vx_group_lines.proofs.RvgRose.{arrives, below_rest, came_first, keeps_back, keeps_next, links_rest, note_before, origin_rest, over, risen, risen_world, seen, some_rest, sure_rest}
use Rattle.vx_group_lines.proofs.RvgWorlds.{beside_as, fell_back_arrives, fell_back_headers, kept_at, rest_then}

-- a write that lies in its volume was cut
pub some_cut : (note : GroupNode) (cut : Option CutWrite) → CutFits note cut → cut_value cut ≡ None → ⊥
some_cut note None it none = absurd it
some_cut note (Some c) it none = never_some (sym none)

module _ {R : Type 0} {g : Ghosts R} where
  -- a site that is down has its writes all
  down_logged : (beside : KeptBeside) (n : Node) (s : OverSite R g) → OverStands beside n s → n.state ≡ IsDown → length n.log ≡ n.safe
  down_logged beside n (OriginSite f) it down = absurd (let clash : IsUp ≡ IsDown = sym it.state ∙ down in cc)
  down_logged beside n (ReceiverSite f) it down = absurd (let clash : IsUp ≡ IsDown = sym it.state ∙ down in cc)
  down_logged beside n (GroupAway idle) it down = absurd (let clash : IsAway ≡ IsDown = sym it.0 ∙ down in cc)
  down_logged beside n (GroupFell idle) it down = it.2.logged
  down_logged beside n NoGroup it down = absurd it

  module _ (d : Doubted) (s kept : ℕ) (taken : Bool) (rests : RestsSo d s kept taken) (old new : Yard R g) (o p : OverSet R g) (call : DownCall (rests_as d s kept taken) old new s o (Over p)) (x : OverSet R g)
      (r : RoseAgain (beside_of (rests_as d s kept taken) s) ((rests_as d s kept taken).world.nodes s) (note_at ((rests_as d s kept taken).world.nodes s)) (site_in o) x) (last : (k : ℕ) → (site_disks (site_in x)).disk_faults k ≤ (site_disks (site_in p)).disk_faults k)
      (cut : Option CutWrite) (same : cut ≡ o.cut) (disk : ℕ)
      (looked : LookedOver (beside_of (rests_as d s kept taken) s) (came_with (burned ((rests_as d s kept taken).world.nodes s).fuse) r.over.next ((rests_as d s kept taken).world.nodes s)) r.over.next cut x p (Err (StopsBy (Device disk)))) where
    abbrev b : Doubted
    b = rests_as d s kept taken

    abbrev n : Node
    n = (rests_as d s kept taken).world.nodes s

    abbrev resting : RestCall b old new s o (Over p)
    resting = rest_call b old new s o (Over p) call

    abbrev note : GroupNode
    note = note_at ((rests_as d s kept taken).world.nodes s)

    abbrev next : GroupNode
    next = r.over.next

    -- the site that came up
    abbrev m : Node
    m = came_with (burned ((rests_as d s kept taken).world.nodes s).fuse) r.over.next ((rests_as d s kept taken).world.nodes s)

    -- its note, with the write
    abbrev lost : GroupNode
    lost = still_cut cut r.over.next

    -- so many writes are kept
    abbrev many_kept : ℕ
    many_kept = kept_of (recovered ((rests_as d s kept taken).world.nodes s)) 0

    abbrev fell_node : Node
    fell_node = record (crashed (recovered ((rests_as d s kept taken).world.nodes s)) (kept_of (recovered ((rests_as d s kept taken).world.nodes s)) 0)) { group = Some (still_cut cut r.over.next) }

    abbrev fell_world : Doubted
    fell_world = noted_at (own_disks taken s d.world (happened (happened (rests_world d s kept taken) (RecoverAt s None) taken) (CrashAt s 0) taken)) s (still_cut cut r.over.next)

    cut_note : cut_value cut ≡ note.cut
    cut_note = ap (λ (c : Option CutWrite). cut_value c) same ∙ (rest_noted b old new s o (Over p) call).1

    -- ---- the world

    fell_arrives : Arrives b fell_world s fell_node None
    fell_arrives =
        arrives_noted b (own_disks taken s d.world (happened (happened (rests_world d s kept taken) (RecoverAt s None) taken) (CrashAt s 0) taken)) s (crashed (recovered n) many_kept) lost None
        (fell_back_arrives d s kept taken rests.fits (below_rest d s kept taken rests old new o p call) (sure_rest d s kept taken rests old new o p call) (links_rest d s kept taken rests old new o p call)
        (origin_rest d s kept taken rests old new o p call) (some_rest d s kept taken rests old new o p call) call.down r.over.session)

    same_beside : beside_of fell_world s ≡ beside_of b s
    same_beside =
        beside_as b fell_world s (links_rest d s kept taken rests old new o p call) fell_arrives.links
        (fell_back_headers d s kept taken rests.fits (below_rest d s kept taken rests old new o p call) (sure_rest d s kept taken rests old new o p call) (links_rest d s kept taken rests old new o p call)
        (origin_rest d s kept taken rests old new o p call) (some_rest d s kept taken rests old new o p call) call.down r.over.session)
        (sure_rest d s kept taken rests old new o p call) fell_arrives.sure

    -- ---- its disks

    fell : FellSo (beside_of b s) (worked m) p
    fell = fell_so (beside_of b s) (worked m) p (rest_stood b old new s o (Over p) call).0.1 looked.0

    logged : length n.log ≡ n.safe
    logged = down_logged (beside_of b s) n o.site (rest_stood b old new s o (Over p) call).1 call.down

    count_is : fell.count ≡ many_kept
    count_is =
        let all : fell.count ≡ n.safe = omega (arith, fell.least, fell.most, logged) in
        all ∙ sym (kept_at (recovered n) (omega (arith, logged)))

    beside_is : sure_of (itself (beside_of b s) (worked m)) ≡ beside_of b s
    beside_is = ap (λ (k : Option KeptSite). let q : KeptBeside = record (beside_of b s) { doubt = k } in q) (sym (rest_stood b old new s o (Over p) call).0.1)

    stood : SiteStands (beside_of b s) fell_node (Over p)
    stood =
        over_like (beside_of b s) (fell_to (worked m) (worked m) many_kept) fell_node p refl (λ none. never_some (sym none)) refl (λ y lit. lit) (λ none. none)
        (subst (λ (c : ℕ). SiteStands (beside_of b s) (fell_to (worked m) (worked m) c) (Over p)) count_is
        (subst (λ (q : KeptBeside). SiteStands q (fell_to (worked m) (worked m) fell.count) (Over p)) beside_is fell.stands))

    noted : SiteNoted fell_node lost (Over p)
    noted = site_like (crashed (with_note lost m) 0) fell_node (record { name = refl; disks = refl; blocks = refl; volumes = refl; group = refl; state = refl; fuse = refl }) lost p looked.1

    sizes : (v : ℕ) → 0 < note.bytes.size v → next.bytes.size v ≡ note.bytes.size v
    sizes v low = ap (λ (c : Content). c.size v) r.over.works.same.bytes ∙ r.group.returns.size r.told v low

    keeps_lost : NoteKeepsRvg note lost
    keeps_lost = then_same note next lost (keeps_next d s kept taken rests old new o p call x r last) refl

    named : IsNamed fell_node
    named =
        named_again n fell_node lost refl refl keeps_lost
        (cut_stays n fell_node lost refl cut_note sizes (λ up. absurd (let clash : IsDown ≡ IsUp = up in cc)) (rest_named b old new s o (Over p) call).6) (rest_named b old new s o (Over p) call)

    noted_there : NotedOver fell_node (Over p)
    noted_there = ((λ k is. subst (λ (y : GroupNode). SiteNoted fell_node y (Over p)) (some_same is) noted), named)

    -- ---- what is seen of it

    over_fell : is_over_rvg fell_node ≡ true
    over_fell = over_again n fell_node lost call.over refl refl

    abbrev up_world : Doubted
    up_world = risen_world d s kept taken rests old new o p call x r last

    abbrev up_node : Node
    up_node = risen d s kept taken rests old new o p call x r last

    up_over : is_over_rvg up_node ≡ true
    up_over = over d s kept taken rests old new o p call x r last

    went_down : down_fact (fact_from up_node (up_world.world.links s) up_world.world.sites) ≡ fact_from fell_node (fell_world.world.links s) fell_world.world.sites
    went_down =
        facts_is (down_fact (fact_from up_node (up_world.world.links s) up_world.world.sites)) (fact_from fell_node (fell_world.world.links s) fell_world.world.sites) refl refl refl refl (up_over ∙ sym over_fell)
        (ap (λ (t : Bool). if t then over_table up_node next else map volume_fact up_node.volumes) up_over ∙ sym (ap (λ (t : Bool). if t then over_table fell_node lost else map volume_fact fell_node.volumes) over_fell)) refl refl

    seen_fell : down_fact (made_facts (came_first d s kept taken rests old new o p call x r last).core (came_first d s kept taken rests old new o p call x r last).config (linked_fact b.world s)) ≡ fact_over fell_world.world s
    seen_fell =
        ap (λ (f : SiteFacts). down_fact f)
        (seen d s kept taken rests old new o p call x r last
        ∙ apart_same up_node (up_world.world.nodes s) (up_world.world.links s) (up_world.world.links s) up_world.world.sites up_world.world.sites (rvg_apart up_node up_over) (arrives d s kept taken rests old new o p call x r last).node (λ j. refl) refl)
        ∙ went_down
        ∙ sym (apart_same fell_node (fell_world.world.nodes s) (fell_world.world.links s) (fell_world.world.links s) fell_world.world.sites fell_world.world.sites (rvg_apart fell_node over_fell) fell_arrives.node (λ j. refl) refl)

    fell_stands : new.facts.items
        ≡ slice_set old.facts.items s (down_fact (made_facts (came_first d s kept taken rests old new o p call x r last).core (came_first d s kept taken rests old new o p call x r last).config (linked_fact b.world s))) → StandsFor fell_world new
    fell_stands facts =
        stands_so b old new s o (Over p) call fell_world fell_node None fell_arrives (subst (λ (q : KeptBeside). SiteStands q fell_node (Over p)) (sym same_beside) stood) refl refl
        (role_origin fell_node (Over p) (origin_rest d s kept taken rests old new o p call))
        (down_fact (made_facts (came_first d s kept taken rests old new o p call x r last).core (came_first d s kept taken rests old new o p call x r last).config (linked_fact b.world s))) noted_there seen_fell facts

    -- ---- the line

    abbrev extra : ℕ
    extra = extra_at b old new s o p resting r.laid r.group x r.to last next r.over.works r.over.goes r.over.agrees + disk + 1

    abbrev many : ℕ
    many = many_at b old new s o p resting r.laid r.group x r.to last extra

    abbrev fails : Fails
    fails = calls_at b old new s o p resting many

    failed : Contains fails (s, disk)
    failed =
        call_named b old new s o p resting many disk ((site_disks (site_in x)).disk_faults disk) ((site_disks (site_in p)).disk_faults disk) (omega arith) (omega (arith, r.group.from disk, r.to disk)) looked.3 (omega arith)

    back : NotesBack (IsTold new) s (d.world.nodes s) fails (note_at (d.world.nodes s)) r.group.middle
    back =
        subst (λ (k : GroupNode). NotesBack (IsTold new) s (d.world.nodes s) fails k r.group.middle) (note_before d s kept taken rests old new o p call)
        (group_back b old new s o p resting r.laid r.group x r.to last (d.world.nodes s) extra rests.disks rests.blocks (λ _. r.told))

    works : NotesWork ⊥ s fails r.group.middle next
    works = group_works b old new s o p resting r.laid r.group x r.to last next r.over.works r.over.goes r.over.agrees extra (omega arith)

    some : (note_at (d.world.nodes s)).cut ≡ None → ⊥
    some none = some_cut next cut looked.2 (cut_note ∙ ap (λ (k : GroupNode). k.cut) (note_before d s kept taken rests old new o p call) ∙ none)

    cut_before : lost ≡ (let k : GroupNode = record next { cut = (note_at (d.world.nodes s)).cut } in k)
    cut_before = ap (λ c. let k : GroupNode = record next { cut = c } in k) (cut_note ∙ ap (λ (k : GroupNode). k.cut) (note_before d s kept taken rests old new o p call))

    ends : (name : List ℕ) → RvgBack (IsTold new) d (Recover name) s fails (Refused (Device disk)) fell_world
    ends name =
        KeptLost name kept taken disk r.group.middle lost rests.over some refl (calls_are_of b old new s o p resting many) failed back
        (subst (λ (k : GroupNode). NoteKeepsRvg k r.group.middle) (note_before d s kept taken rests old new o p call) (keeps_back d s kept taken rests old new o p call x r last))
        (record { worked = next; works = works; is = cut_before }) refl
        (subst (λ (e : Doubted). IsLeftBack s (Recover name) taken lost d e fell_world) (sym (rest_then d s kept taken (RecoverAt s None ∷ CrashAt s 0 ∷ []))) (record { world = refl; after = λ i. refl; strayed = refl }))

    pub kept_lost : (name : List ℕ) → new.facts.items
        ≡ slice_set old.facts.items s (down_fact (made_facts (came_first d s kept taken rests old new o p call x r last).core (came_first d s kept taken rests old new o p call x r last).config (linked_fact b.world s))) → LetsGo old new s
        → RaisesFor d (Recover name) s kept taken (Refused (Device disk)) old new
    kept_lost name facts lets = record {
      next = fell_world;
      fails = fails;
      works = inl (ends name);
      stands = fell_stands facts;
      carries = λ was.
          carries_let s b fell_world old new lets (omega (arith, call.below, call.stands.disk_sets.few)) fell_arrives.site fell_arrives.packets fell_arrives.gathering
          (λ is_up. down_up (sym (ap (λ (k : Node). k.state) fell_arrives.node) ∙ is_up)) (told_by old new s (Over o) (Over p) call.changed) was;
      rose = calls_rose b old new s o p resting many;
    }
