-- What a recovery of a site whose group has a replicated volume group leads its yard to, where both come up.
use Rattle.std.proofs.Common.{◌≡◌, ◌∙◌, ◌++◌, ◌<◌, ◌≤◌, ℕ, Bool, true, false, List, [], ◌∷◌, length, map, ap, sym, subst, refl, arith, inl}
use Rattle.std.proofs.lemmas.Option.{slice_get_within}
use Rattle.std.specs.Prelude.{IsTrue, Option, Some, None, slice_get, slice_set, unwrap_or}
use Rattle.vx_model.specs.Content.{Content, Write}
use Rattle.vx_model.specs.Sites.{is_origin}
use Rattle.vx_model.specs.declared.site.SiteState.{SiteState}
use Rattle.vx_disk.specs.declared.shelf.Shelf.{Ghosts}
use Rattle.vx_config.specs.declared.config.Config.{Config}
use Rattle.vx_kept.specs.Cleans.{at_serial}
use Rattle.vx_history.specs.Doubts.{Doubted, happened}
use Rattle.vx_history.specs.Groups.{GroupNode}
use Rattle.vx_history.specs.Steps.{burned, recovered, worked}
use Rattle.vx_history.specs.Volumes.{as_volume}
use Rattle.vx_history.specs.World.{Fuse, Node, NoFuse, World}
use Rattle.vx_history.specs.declared.event.Event.TheVariants.{Recover as RecoverAt}
use Rattle.vx_report.specs.declared.view.Kept.{Kept}
use Rattle.vx_report.specs.declared.view.SiteView.{SiteView}
use Rattle.vx_script.specs.declared.line.ScriptLine.TheVariants.{Recover}
use Rattle.vx_grouped.specs.Ends.{plain_write}
use Rattle.vx_grouped.specs.GroupSites.{FitsPlain, UpNoted, site_below, site_disks}
use Rattle.vx_diskset.proofs.NotedLikes.{cut_none, same_size}
use Rattle.vx_diskset.proofs.OverNoted.{note_read, noted_up}
use Rattle.vx_diskset.proofs.Roles.{role_origin}
use Rattle.vx_diskset.specs.Aboves.{site_in}
use Rattle.vx_diskset.specs.Holds.{KeptBeside, beside_of, header_links}
use Rattle.vx_diskset.specs.GroupCalls.{config_in}
use Rattle.vx_diskset.specs.GroupSets.{cut_value}
use Rattle.vx_diskset.specs.Noted.{CutRests, IsNamed, NotedOver, SiteNoted, below_rvg}
use Rattle.vx_diskset.specs.OverRises.{RoseAgain, came_with}
use Rattle.vx_diskset.specs.Recovers.{KeptIs}
use Rattle.vx_diskset.specs.Stands.{SiteStands}
use Rattle.vx_diskset.specs.declared.disk_set.DiskSet.{DiskSet}
use Rattle.vx_diskset.specs.declared.disk_set.DiskSet.TheVariants.{Over}
use Rattle.vx_diskset.specs.declared.group_set.CutWrite.{CutWrite}
use Rattle.vx_diskset.specs.declared.group_set.KeptWrite.{KeptWrite}
use Rattle.vx_diskset.specs.declared.over_set.OverSet.{OverSet}
use Rattle.vx_events.proofs.Places.{some_same}
use Rattle.vx_events.proofs.RvgEvents.{rvg_apart}
use Rattle.vx_events.proofs.RvgStays.{loses, then_keeps}
use Rattle.vx_events.specs.Doubts.{run_as}
use Rattle.vx_events.specs.Fails.{Fails}
use Rattle.vx_events.specs.GroupLines.{is_over_group}
use Rattle.vx_events.specs.GroupNotes.{IsKnown, NotesBack, no_note, note_at}
use Rattle.vx_events.specs.GroupReplies.{ShowsKept}
use Rattle.vx_events.specs.GroupViews.{config_of, noted_disks, noted_volumes, shown_up, volumes_of}
use Rattle.vx_events.specs.LinkViews.{linked_view}
use Rattle.vx_events.specs.LinkedFacts.{linked_fact}
use Rattle.vx_events.specs.RvgBack.{IsLeftBack, RvgBack, RvgUp, fall_first, rvg_view}
use Rattle.vx_events.specs.RvgFits.{NoteKeepsRvg, data_of}
use Rattle.vx_events.specs.RvgViews.{is_over_rvg, over_disks}
use Rattle.vx_events.specs.RvgWorks.{NotesWork}
use Rattle.vx_events.specs.StepsOver.{fact_over}
use Rattle.vx_events.specs.declared.said.Said.{Said}
use Rattle.vx_events.specs.declared.said.Said.TheVariants.{Resumed}
use Rattle.vx_yard.proofs.Carrying.{SameLoad}
use Rattle.vx_yard.proofs.Lists.{get-set_same}
use Rattle.vx_yard.specs.Standing.{StandsFor}
use Rattle.vx_yard.specs.Yards.{IsTold}
use Rattle.vx_yard.specs.declared.yard.Yard.{Yard}
use Rattle.vx_above.proofs.Changing.{notes_config}
use Rattle.vx_above.proofs.OverSites.{over_again}
use Rattle.vx_above.proofs.RiseWorlds.{own_sites, own_view, view_noted}
use Rattle.vx_above.specs.OwnDisks.{own_disks}
use Rattle.vx_group_lines.specs.Noting.{made_facts}
use Rattle.vx_group_lines.specs.Rises.{kept_shown}
use Rattle.vx_group_lines.specs.RvgRises.{RaisesFor, RestsSo, rests_as, rests_world}
use Rattle.vx_group_lines.proofs.BelowAt.{SizedUp, sized_up}
use Rattle.vx_group_lines.proofs.GroupAt.{lit_up}
use Rattle.vx_group_lines.proofs.Rising.{shows_cut}
use Rattle.vx_group_lines.proofs.Arriving.{Arrives, arrives_noted, noted_at}
use Rattle.vx_group_lines.proofs.RvgComing.{DownCall, RestCall, carries_so, down_made, never_receives, rest_call, rest_links, rest_named, rest_noted, rest_origin, rest_some, rest_sure, rest_unfused, stands_so}
use Rattle.vx_group_lines.proofs.RvgFacts.{gained_fact, up_seen}
use Rattle.vx_group_lines.proofs.RvgReturns.{calls_are_of, calls_at, calls_rose, extra_at, group_back, group_keeps, group_works, many_at, named_again}
use Rattle.vx_group_lines.proofs.RvgStanding.{RvgOver, rvg_over, set_volumes}
use Rattle.vx_group_lines.proofs.RvgWorlds.{back_arrives, back_headers, back_up, beside_as, rest_then}

-- a site without a fuse comes up without one
pub came_is : (n : Node) (next : GroupNode) → n.fuse ≡ NoFuse → came_with (burned n.fuse) next n ≡ record (recovered n) { group = Some next }
came_is n next none = ap (λ (f : Fuse). let k : Node = record (recovered n) { fuse = f; group = Some next } in k) (ap (λ (f : Fuse). burned f) none ∙ sym none)

pub worked_is : (n : Node) (next : GroupNode) → n.fuse ≡ NoFuse → worked (came_with (burned n.fuse) next n) ≡ record (recovered n) { group = Some next }
worked_is n next none = ap (λ (f : Fuse). let k : Node = record (recovered n) { fuse = f; group = Some next } in k) (ap (λ (f : Fuse). burned (burned f)) none ∙ sym none)

module _ {R : Type 0} {g : Ghosts R} (d : Doubted) (s kept : ℕ) (taken : Bool) (rests : RestsSo d s kept taken) (old new : Yard R g) (o p : OverSet R g) (call : DownCall (rests_as d s kept taken) old new s o (Over p)) where
  abbrev b : Doubted
  b = rests_as d s kept taken

  abbrev n : Node
  n = (rests_as d s kept taken).world.nodes s

  abbrev resting : RestCall b old new s o (Over p)
  resting = rest_call b old new s o (Over p) call

  abbrev note : GroupNode
  note = note_at ((rests_as d s kept taken).world.nodes s)

  pub below_rest : s < (rests_world d s kept taken).world.sites
  below_rest = omega (arith, call.below, own_sites s d.world (rests_world d s kept taken) taken)

  -- it noted the same before it came to rest
  pub note_before : note_at ((rests_as d s kept taken).world.nodes s) ≡ note_at (d.world.nodes s)
  note_before = ap (λ (x : Option GroupNode). unwrap_or x no_note) rests.group

  pub sure_rest : (rests_world d s kept taken).after s ≡ None
  sure_rest = rest_sure (rests_as d s kept taken) old new s o (Over p) call

  pub links_rest : header_links (rests_as d s kept taken).world s ≡ []
  links_rest = rest_links (rests_as d s kept taken) old new s o (Over p) call

  pub origin_rest : is_origin ((rests_as d s kept taken).world.nodes s).role ≡ true
  origin_rest = rest_origin (rests_as d s kept taken) old new s o (Over p) call

  pub some_rest : ((rests_as d s kept taken).world.nodes s).volumes ≡ [] → ⊥
  some_rest none = rest_some (rests_as d s kept taken) old new s o (Over p) call none

  pub unfused_rest : ((rests_as d s kept taken).world.nodes s).fuse ≡ NoFuse
  unfused_rest = rest_unfused (rests_as d s kept taken) old new s o (Over p) call

  -- ---- the group came up, and its replicated volume group

  module _ (x : OverSet R g) (r : RoseAgain (beside_of (rests_as d s kept taken) s) ((rests_as d s kept taken).world.nodes s) (note_at ((rests_as d s kept taken).world.nodes s)) (site_in o) x)
      (last : (k : ℕ) → (site_disks (site_in x)).disk_faults k ≤ (site_disks (site_in p)).disk_faults k) where
    abbrev next : GroupNode
    next = r.over.next

    abbrev pub risen : Node
    risen = record (recovered ((rests_as d s kept taken).world.nodes s)) { group = Some r.over.next }

    -- behind the event, and with the note
    abbrev up_world : Doubted
    up_world = own_disks taken s d.world (happened (rests_world d s kept taken) (RecoverAt s None) taken)

    abbrev pub risen_world : Doubted
    risen_world = noted_at (own_disks taken s d.world (happened (rests_world d s kept taken) (RecoverAt s None) taken)) s r.over.next

    abbrev last_world : World
    last_world = (happened (rests_world d s kept taken) (RecoverAt s None) taken).world

    -- ---- the note

    abbrev pub extra : ℕ
    extra = extra_at b old new s o p resting r.laid r.group x r.to last next r.over.works r.over.goes r.over.agrees

    abbrev pub fails : Fails
    fails = calls_at b old new s o p resting (many_at b old new s o p resting r.laid r.group x r.to last extra)

    pub back : NotesBack (IsTold new) s (d.world.nodes s) fails (note_at (d.world.nodes s)) r.group.middle
    back =
        subst (λ (k : GroupNode). NotesBack (IsTold new) s (d.world.nodes s) fails k r.group.middle) note_before
        (group_back b old new s o p resting r.laid r.group x r.to last (d.world.nodes s) extra rests.disks rests.blocks (λ _. r.told))

    pub keeps_back : NoteKeepsRvg note r.group.middle
    keeps_back = group_keeps b old new s o p resting r.laid r.group x r.to last r.told r.named

    pub works : NotesWork ⊥ s fails r.group.middle next
    works = group_works b old new s o p resting r.laid r.group x r.to last next r.over.works r.over.goes r.over.agrees extra (omega arith)

    pub keeps_next : NoteKeepsRvg note next
    keeps_next = then_keeps note r.group.middle next keeps_back (loses s fails r.group.middle next works)

    clear : next.cut ≡ None
    clear = r.over.works.same.cut ∙ r.group.returns.cut

    named : IsNamed risen
    named = named_again n risen next refl refl keeps_next (cut_none risen next refl clear) (rest_named b old new s o (Over p) call)

    -- ---- the world

    pub arrives : Arrives b risen_world s risen (b.world.gathering s)
    arrives = arrives_noted b up_world s (recovered n) next (b.world.gathering s) (back_arrives d s kept taken rests.fits below_rest sure_rest links_rest origin_rest some_rest call.down r.over.session)

    same_beside : beside_of risen_world s ≡ beside_of b s
    same_beside =
        beside_as b risen_world s links_rest arrives.links (back_headers d s kept taken rests.fits below_rest sure_rest links_rest origin_rest some_rest call.down r.over.session) sure_rest arrives.sure

    pub over : is_over_rvg risen ≡ true
    over = over_again n risen next call.over refl refl

    apart : is_over_group risen ≡ false
    apart = rvg_apart risen over

    -- what came up
    pub came_first : RvgOver (beside_of (rests_as d s kept taken) s) risen r.over.next (Over x)
    came_first =
        rvg_over (beside_of b s) risen next (Over x) (subst (λ (k : Node). SiteStands (beside_of b s) k (Over x)) (came_is n next unfused_rest) r.over.stands)
        (subst (λ (k : Node). SiteNoted k next (Over x)) (came_is n next unfused_rest) r.over.noted) apart refl origin_rest

    first_config : config_of next.config ≡ Some (at_serial 0 came_first.config)
    first_config = notes_config next came_first.config came_first.noted

    same_config : named.0 ≡ at_serial 0 came_first.config
    same_config = some_same (sym named.2 ∙ first_config)

    pub seen : made_facts came_first.core came_first.config (linked_fact b.world s) ≡ fact_over risen_world.world s
    seen =
        down_made came_first.core came_first.config b.world s note call.down
        ∙ gained_fact risen_world.world s n risen note next came_first.core came_first.config named.1 arrives.node refl first_config refl over apart
        (ap (λ (c : Config). c.rvg) (sym same_config) ∙ named.3)
        (subst (λ (c : Config). risen.volumes ≡ map as_volume (data_of c.volumes named.1)) same_config named.4)
        arrives.links refl refl refl
        (up_seen (beside_of b s) risen came_first.core (set_volumes (Over x)) came_first.stands refl (omega (arith, came_first.stands.logged, came_first.stands.durable refl)))

    -- ---- what is shown

    pub risen_below : s < risen_world.world.sites
    risen_below = omega (arith, call.below, arrives.site.sites)

    pub over_risen : is_over_rvg (risen_world.world.nodes s) ≡ true
    over_risen = ap (λ (k : Node). is_over_rvg k) arrives.node ∙ over

    shown_view : over_disks (risen_world.world.nodes s) (note_at (risen_world.world.nodes s)) (linked_view risen_world.world s) ≡ over_disks (last_world.nodes s) next (linked_view last_world s)
    shown_view =
        ap (λ (k : Node). over_disks k (note_at k) (linked_view risen_world.world s)) arrives.node
        ∙ ap (λ (q : SiteView). over_disks risen next q)
        (view_noted up_world.world s (up_world.world.nodes s).failing (Some next) ∙ own_view taken s d.world (happened (rests_world d s kept taken) (RecoverAt s None) taken))
        ∙ ap (λ (t : SiteState). let q : SiteView = record (linked_view last_world s) { disks = shown_up t (noted_disks next); volumes = shown_up t (noted_volumes next) } in q)
        (sym (back_up d s kept taken rests.fits below_rest sure_rest links_rest origin_rest some_rest call.down r.over.session))

    -- ---- and so the site stands behind the look at a write that was cut

    module _ (stood : SiteStands (beside_of (rests_as d s kept taken) s) (worked (came_with (burned ((rests_as d s kept taken).world.nodes s).fuse) r.over.next ((rests_as d s kept taken).world.nodes s))) (Over p))
        (noted : SiteNoted (worked (came_with (burned ((rests_as d s kept taken).world.nodes s).fuse) r.over.next ((rests_as d s kept taken).world.nodes s))) r.over.next (Over p)) where
      here : SiteStands (beside_of b s) risen (Over p)
      here = subst (λ (k : Node). SiteStands (beside_of b s) k (Over p)) (worked_is n next unfused_rest) stood

      noted_here : SiteNoted risen next (Over p)
      noted_here = subst (λ (k : Node). SiteNoted k next (Over p)) (worked_is n next unfused_rest) noted

      noted_at_last : NotedOver risen (Over p)
      noted_at_last = ((λ k is. subst (λ (y : GroupNode). SiteNoted risen y (Over p)) (some_same is) noted_here), named)

      pub risen_stands : new.facts.items ≡ slice_set old.facts.items s (made_facts came_first.core came_first.config (linked_fact (rests_as d s kept taken).world s)) → StandsFor risen_world new
      risen_stands facts =
          stands_so b old new s o (Over p) call risen_world risen (b.world.gathering s) arrives (subst (λ (q : KeptBeside). SiteStands q risen (Over p)) (sym same_beside) here) refl unfused_rest
          (role_origin risen (Over p) origin_rest) (made_facts came_first.core came_first.config (linked_fact b.world s)) noted_at_last seen facts

      -- what is kept of that

      module _ (cut : Option CutWrite) (read : Option KeptWrite) (same : cut ≡ o.cut) (kept_is : KeptIs r.over.next (site_disks (site_in x)) cut read) (less : IsTrue (site_below (site_in p)).tells → IsTrue (site_below (site_in x)).tells) where
        up_last : UpNoted (below_rvg risen) next (site_in p)
        up_last = noted_up (beside_of b s) risen next p.site here.1 refl noted_here.0

        sized : SizedUp next (site_in p)
        sized = sized_up (below_rvg risen) next (site_in p) up_last

        abbrev shown : Option Kept
        shown = kept_shown sized.config.volumes read

        shown_is : kept_shown (volumes_of (config_in (Over p))) read ≡ shown
        shown_is = ap (λ (c : Option Config). kept_shown (volumes_of c) read) sized.has

        there : slice_get new.disk_sets.items s ≡ Some (Over p)
        there = ap (λ (es : List (DiskSet R g)). slice_get es s) call.changed.disk_sets ∙ get-set_same old.disk_sets.items s (Over p) (slice_get_within old.disk_sets.items s (Over o) call.changed.there)

        -- contents that are known were told of its disks
        tells : IsKnown (IsTold new) next → IsTrue (site_disks (site_in x)).tells
        tells known =
            lit_up (below_rvg (came_with (burned n.fuse) next n)) next (site_in x) (noted_up (beside_of b s) (came_with (burned n.fuse) next n) next x.site r.over.stands.1 refl r.over.noted.0) known.1
            (less (known.0.each s (Over p) there))

        sizes : (v : ℕ) → 0 < note.bytes.size v → next.bytes.size v ≡ note.bytes.size v
        sizes v low = ap (λ (c : Content). c.size v) r.over.works.same.bytes ∙ r.group.returns.size r.told v low

        cut_note : cut_value cut ≡ note.cut
        cut_note = ap (λ (c : Option CutWrite). cut_value c) same ∙ (rest_noted b old new s o (Over p) call).1

        fits : (y : CutWrite) → cut ≡ Some y → FitsPlain next y.volume y.block (length y.bytes)
        fits y is =
            let rests_cut : CutRests n = (rest_named b old new s o (Over p) call).6 in
            let w : Write = plain_write y.volume y.block y.bytes in
            same_size note next w sizes (rests_cut.1 w (sym cut_note ∙ ap (λ (c : Option CutWrite). cut_value c) is))

        shows : ShowsKept (IsTold new) (note_at (d.world.nodes s)).cut next shown
        shows =
            subst (λ (w : Option Write). ShowsKept (IsTold new) w next shown) (cut_note ∙ ap (λ (k : GroupNode). k.cut) note_before)
            (shows_cut (IsTold new) next (site_disks (site_in x)) sized.config tells (note_read next sized.config sized.noted) sized.size cut read fits kept_is)

        -- ---- the line

        says_kept : rvg_view last_world s next shown ≡ rvg_view (run_as taken d (fall_first (d.world.nodes s).state s kept ++ RecoverAt s None ∷ [])).world s next shown
        says_kept = ap (λ (e : Doubted). rvg_view e.world s next shown) (sym (rest_then d s kept taken (RecoverAt s None ∷ [])))

        ends : (name : List ℕ) (said : Said) → said ≡ rvg_view last_world s next shown → RvgBack (IsTold new) d (Recover name) s fails said risen_world
        ends name said is =
            RvgUp name kept taken r.group.middle next shown rests.over refl (calls_are_of b old new s o p resting (many_at b old new s o p resting r.laid r.group x r.to last extra)) back
            (subst (λ (k : GroupNode). NoteKeepsRvg k r.group.middle) note_before keeps_back) works (is ∙ says_kept) shows
            (subst (λ (e : Doubted). IsLeftBack s (Recover name) taken next d e risen_world) (sym (rest_then d s kept taken (RecoverAt s None ∷ []))) (record { world = refl; after = λ i. refl; strayed = refl }))

        pub rose_raises : (name : List ℕ) (said : Said) → new.facts.items ≡ slice_set old.facts.items s (made_facts came_first.core came_first.config (linked_fact (rests_as d s kept taken).world s)) → SameLoad old new
            → said ≡ Resumed (over_disks (risen_world.world.nodes s) (note_at (risen_world.world.nodes s)) (linked_view risen_world.world s)) (kept_shown (volumes_of (config_in (Over p))) read) → RaisesFor d (Recover name) s kept taken said old new
        rose_raises name said facts load is = record {
          next = risen_world;
          fails = fails;
          works = inl (ends name said (is ∙ ap (λ (q : SiteView). Resumed q (kept_shown (volumes_of (config_in (Over p))) read)) shown_view
              ∙ ap (λ (k : Option Kept). Resumed (over_disks (last_world.nodes s) next (linked_view last_world s)) k) shown_is));
          stands = risen_stands facts;
          carries = λ was. carries_so b old new s o (Over p) call risen_world risen arrives (never_receives b old new s o (Over p) call risen origin_rest) load was;
          rose = calls_rose b old new s o p resting (many_at b old new s o p resting r.laid r.group x r.to last extra);
        }
