-- What a recovery of a site whose group has a replicated volume group leads its yard to, where nothing was known of its disks, some replicated volume group came up over
-- the group that was found, and what is kept of a write that was cut could not be read: the site is down as that one, and the write is cut still.
use Rattle.std.proofs.Common.{◌≡◌, ◌∙◌, ◌++◌, ◌+◌, ◌<◌, ℕ, Bool, true, false, List, [], length, map, ap, sym, subst, refl, arith, inr, IsTrue}
use Rattle.std.proofs.lemmas.List.{append-nil}
use Rattle.std.proofs.lemmas.Option.{slice_get_within}
use Rattle.std.specs.Prelude.{Contains, Err, Option, Some, None, if◌then◌else◌, slice_get, slice_set, unwrap_or}
use Rattle.vx_config.specs.declared.config.Config.{Config}
use Rattle.vx_disk.specs.declared.shelf.Shelf.{Ghosts}
use Rattle.vx_effects.proofs.Leaving.{fit_disks, fit_fallen}
use Rattle.vx_effects.proofs.Rows.{touch_kept}
use Rattle.vx_effects.specs.Facts.{down_fact}
use Rattle.vx_grouped.specs.GroupNotes.{NotesConfig}
use Rattle.vx_grouped.specs.GroupSites.{FitsPlain, site_below, site_disks, with_note}
use Rattle.vx_history.proofs.Updates.{at_place}
use Rattle.vx_history.specs.Doubts.{Doubted}
use Rattle.vx_history.specs.Events.{recovery_greeting}
use Rattle.vx_history.specs.Groups.{GroupNode}
use Rattle.vx_history.specs.Sends.{greeting}
use Rattle.vx_history.specs.Steps.{crashed, worked}
use Rattle.vx_history.specs.World.{Link, Node, Packet, World, with_node}
use Rattle.vx_kept.specs.Cleans.{at_serial}
use Rattle.vx_model.specs.Content.{Write}
use Rattle.vx_model.specs.Sites.{is_origin}
use Rattle.vx_model.specs.declared.errors.Stop.TheVariants.{No as StopsBy}
use Rattle.vx_model.specs.declared.no.No.TheVariants.{Device}
use Rattle.vx_model.specs.declared.site.SiteState.TheVariants.{Down as IsDown, Up as IsUp}
use Rattle.vx_order.specs.declared.facts.SiteFacts.{SiteFacts}
use Rattle.vx_rvg.specs.Views.{Core, last_of}
use Rattle.vx_script.specs.declared.line.ScriptLine.TheVariants.{Recover}
use Rattle.vx_diskset.proofs.NotedLikes.{site_like}
use Rattle.vx_diskset.proofs.OverLikes.{over_like}
use Rattle.vx_diskset.proofs.Roles.{role_origin}
use Rattle.vx_diskset.specs.Aboves.{site_in}
use Rattle.vx_diskset.specs.DiskSets.{fell_to}
use Rattle.vx_diskset.specs.GroupSets.{cut_value}
use Rattle.vx_diskset.specs.Holds.{KeptBeside, KeptSite, beside_of, header_links, itself, sure_of}
use Rattle.vx_diskset.specs.Layouts.{units_by}
use Rattle.vx_diskset.specs.Noted.{CutRests, IsNamed, NotedOver, SiteNoted}
use Rattle.vx_diskset.specs.OverRises.{FoundAgain, LookedOver}
use Rattle.vx_diskset.specs.Recovers.{CutFits, still_cut}
use Rattle.vx_diskset.specs.Stands.{SiteStands}
use Rattle.vx_diskset.specs.declared.disk_set.DiskSet.{DiskSet}
use Rattle.vx_diskset.specs.declared.disk_set.DiskSet.TheVariants.{Over}
use Rattle.vx_diskset.specs.declared.group_set.CutWrite.{CutWrite}
use Rattle.vx_diskset.specs.declared.over_set.OverSet.{OverSet}
use Rattle.vx_events.proofs.Places.{never_some, some_same}
use Rattle.vx_events.proofs.RvgEvents.{rvg_apart}
use Rattle.vx_events.specs.Doubts.{with_disks}
use Rattle.vx_events.specs.Effects.{EffectAt}
use Rattle.vx_events.specs.Facts.{group_fact, volume_fact}
use Rattle.vx_events.specs.Fails.{Fails}
use Rattle.vx_events.specs.Found.{ComesUpAs}
use Rattle.vx_events.specs.GroupEnds.{KnowsNothing}
use Rattle.vx_events.specs.GroupLines.{group_noted, noting}
use Rattle.vx_events.specs.GroupNotes.{no_note, note_at}
use Rattle.vx_events.specs.LinkedFacts.{linked_fact}
use Rattle.vx_events.specs.RvgBack.{FindsLost, RvgFinds, fallen, fallen_row, found_fallen}
use Rattle.vx_events.specs.RvgFits.{FitsRvg}
use Rattle.vx_events.specs.RvgViews.{is_over_rvg, over_table}
use Rattle.vx_events.specs.StepsOver.{fact_of_group, fact_over}
use Rattle.vx_events.specs.Strays.{gone_astray}
use Rattle.vx_events.specs.declared.said.Said.TheVariants.{Refused}
use Rattle.vx_yard.proofs.Alike.{apart_place}
use Rattle.vx_yard.proofs.Carrying.{LetsGo, carries_let}
use Rattle.vx_yard.proofs.CrashSite.{down_up}
use Rattle.vx_yard.proofs.Lists.{get-set_same}
use Rattle.vx_yard.proofs.OneSite.{told_by}
use Rattle.vx_yard.proofs.OverGroup.{over_rvg}
use Rattle.vx_yard.proofs.Rows.{apart_same, fact_from, facts_is, row_links_same}
use Rattle.vx_yard.specs.Changes.{up_group}
use Rattle.vx_yard.specs.Standing.{StandsFor}
use Rattle.vx_yard.specs.Yards.{IsTold}
use Rattle.vx_yard.specs.declared.yard.Yard.{Yard}
use Rattle.vx_above.proofs.Changing.{notes_config}
use Rattle.vx_above.proofs.OverSites.{over_again}
use Rattle.vx_above.proofs.RiseWorlds.{behind_disks, own_headers, own_is, own_links, own_node, own_packets, own_sites}
use Rattle.vx_above.specs.OwnDisks.{own_disks}
use Rattle.vx_group_lines.specs.Noting.{made_facts}
use Rattle.vx_group_lines.specs.RvgRises.{RaisesFor, RestsSo, rests_as, rests_world}
use Rattle.vx_group_lines.proofs.Arriving.{Arrives, arrives_as, arrives_none, arrives_noted, arrives_then}
use Rattle.vx_group_lines.proofs.BelowOff.{FellSo, fell_so}
use Rattle.vx_group_lines.proofs.RvgComing.{DownCall, RestCall, down_made, rest_call, rest_links, rest_noted, rest_stood, rest_sure, some_data, stands_so}
use Rattle.vx_group_lines.proofs.RvgFacts.{gained_fact}
use Rattle.vx_group_lines.proofs.RvgFound.{arrives_astray, knows_nothing}
use Rattle.vx_group_lines.proofs.RvgKept.{some_cut}
use Rattle.vx_group_lines.proofs.RvgReturns.{call_named, calls_are_of, calls_at, calls_rose}
use Rattle.vx_group_lines.proofs.RvgRose.{note_before}
use Rattle.vx_group_lines.proofs.RvgWorlds.{beside_as}

-- ---- the node

-- m as it came up, on disks that are made to fail as before and have the fuse that they had
abbrev on_disks : Node → Node → Node
on_disks at m = record m { failing = at.failing; fuse = at.fuse }

-- behind the crash, with its note
fell_at : (b : Bool) (was at m : Node) (next : GroupNode) → (own_node b was at).failing ≡ m.failing → (let x : Node = own_node b was (fallen (on_disks at m)) in let y : Node = record x { group = Some next } in y) ≡ (let y : Node = record (fallen m) { group = Some next } in y)
fell_at true was at m next failing = ap (λ (f : ℕ → Bool). let x : Node = record (fallen m) { failing = f; group = Some next } in x) failing
fell_at false was at m next failing = ap (λ (f : ℕ → Bool). let x : Node = record (fallen m) { failing = f; group = Some next } in x) failing

-- what a site is is the same with the disks that are made to fail
own_name : (b : Bool) (was n : Node) → (own_node b was n).name ≡ n.name
own_name true was n = refl
own_name false was n = refl

own_many : (b : Bool) (was n : Node) → (own_node b was n).disks ≡ n.disks
own_many true was n = refl
own_many false was n = refl

own_large : (b : Bool) (was n : Node) → (own_node b was n).blocks ≡ n.blocks
own_large true was n = refl
own_large false was n = refl

own_volumes : (b : Bool) (was n : Node) → (own_node b was n).volumes ≡ n.volumes
own_volumes true was n = refl
own_volumes false was n = refl

-- one where writes arise greets no other
greets_none : (s : ℕ) (n : Node) → is_origin n.role ≡ true → recovery_greeting s n ≡ []
greets_none s n origin = ap (λ (b : Bool). if b then [] else greeting s n.other n) origin

-- ---- the world

fallen_effect : (h : Doubted) (s : ℕ) (k : Node) (row : ℕ → Link)
    → EffectAt s h (found_fallen h s k row) (fallen k) (fallen_row row) (h.world.headers s) (h.after s) (h.world.packets ++ recovery_greeting s (fallen k)) None
fallen_effect h s k row = record {
  site = record {
    sites = refl;
    nodes = λ i apart. apart_place h.world.nodes s (fallen k) i apart;
    links = λ i j apart. ap (λ (r : ℕ → Link). r j) (apart_place h.world.links s (fallen_row row) i apart);
    headers = λ i apart. refl;
    after = λ i apart. refl;
    strayed = λ calm. calm;
    gathering = λ i apart. apart_place h.world.gathering s None i apart;
  };
  is = record { node = at_place h.world.nodes s (fallen k); links = λ j. ap (λ (r : ℕ → Link). r j) (at_place h.world.links s (fallen_row row)); headers = refl; after = refl };
  sent = refl;
  gathering = at_place h.world.gathering s None;
}

-- ---- the write that is cut

cut_fits : (note : GroupNode) (cut : Option CutWrite) → CutFits note cut → (x : Write) → cut_value cut ≡ Some x → FitsPlain note x.volume x.start (length x.bytes)
cut_fits note None it x is = absurd it
cut_fits note (Some c) it x is = subst (λ (y : Write). FitsPlain note y.volume y.start (length y.bytes)) (some_same is) it

module _ {R : Type 0} {g : Ghosts R} (d : Doubted) (name : List ℕ) (s kept : ℕ) (taken : Bool) (rests : RestsSo d s kept taken) (old new : Yard R g) (o p : OverSet R g) (call : DownCall (rests_as d s kept taken) old new s o (Over p)) (x : OverSet R g)
    (again : FoundAgain (beside_of (rests_as d s kept taken) s) ((rests_as d s kept taken).world.nodes s) (note_at ((rests_as d s kept taken).world.nodes s)) (site_in o) x)
    (told_before : IsTrue (site_below (site_in p)).tells → IsTrue (site_below (site_in x)).tells) (cut : Option CutWrite) (cut_is : cut ≡ o.cut) (disk : ℕ)
    (looked : LookedOver (beside_of (rests_as d s kept taken) s) again.over.node again.over.next cut x p (Err (StopsBy (Device disk)))) where
  abbrev b : Doubted
  b = rests_as d s kept taken

  abbrev h : Doubted
  h = rests_world d s kept taken

  abbrev was : Node
  was = d.world.nodes s

  abbrev at : Node
  at = (rests_world d s kept taken).world.nodes s

  abbrev n : Node
  n = (rests_as d s kept taken).world.nodes s

  abbrev resting : RestCall b old new s o (Over p)
  resting = rest_call b old new s o (Over p) call

  abbrev note : GroupNode
  note = note_at ((rests_as d s kept taken).world.nodes s)

  -- what came up
  abbrev m : Node
  m = again.over.node

  abbrev next : GroupNode
  next = again.over.next

  abbrev k : Node
  k = on_disks ((rests_world d s kept taken).world.nodes s) again.over.node

  abbrev row : ℕ → Link
  row = (rests_world d s kept taken).world.links s

  -- its note, with the write
  abbrev lost : GroupNode
  lost = still_cut cut again.over.next

  abbrev fell_node : Node
  fell_node = record (fallen again.over.node) { group = Some (still_cut cut again.over.next) }

  abbrev shown : Doubted
  shown = own_disks taken s d.world (found_fallen (rests_world d s kept taken) s (on_disks ((rests_world d s kept taken).world.nodes s) again.over.node) ((rests_world d s kept taken).world.links s))

  abbrev fell_left : Doubted
  fell_left = let e : Doubted = found_fallen (rests_world d s kept taken) s (on_disks ((rests_world d s kept taken).world.nodes s) again.over.node) ((rests_world d s kept taken).world.links s) in
      record (gone_astray e) { world = group_noted s (Recover name) (noting (with_disks taken s d.world e.world) s (still_cut cut again.over.next)) }

  here : (rests_as d s kept taken).world.nodes s ≡ own_node taken (d.world.nodes s) ((rests_world d s kept taken).world.nodes s)
  here = own_is s d.world h taken

  sure : b.after s ≡ None
  sure = rest_sure b old new s o (Over p) call

  links : header_links b.world s ≡ []
  links = rest_links b old new s o (Over p) call

  below_h : s < h.world.sites
  below_h = subst (λ (i : ℕ). s < i) (own_sites s d.world h taken) call.below

  -- ---- what it came up as

  comes_as : ComesUpAs s h.world.sites (let y : Node = record ((rests_world d s kept taken).world.nodes s) { volumes = again.over.node.volumes; group = again.over.node.group } in y) k row
  comes_as = record {
    same = record {
      name = again.over.same.name ∙ ap (λ (y : Node). y.name) here ∙ own_name taken was at;
      disks = again.over.same.disks ∙ ap (λ (y : Node). y.disks) here ∙ own_many taken was at;
      blocks = again.over.same.blocks ∙ ap (λ (y : Node). y.blocks) here ∙ own_large taken was at;
      volumes = refl;
      up = again.over.same.up;
      running = again.over.same.running;
      failing = refl;
      fuse = refl;
      group = refl;
    };
    whole = again.over.whole;
    quiet = again.over.quiet;
    rests = again.over.rests;
    fits = rests.fits.rows s;
    starts = λ j linked. again.over.origin;
  }

  up_over : is_over_rvg m ≡ true
  up_over = over_rvg (beside_of b s) m x again.over.stands

  over_fell : is_over_rvg fell_node ≡ true
  over_fell = over_again m fell_node lost up_over refl refl

  some : (own_node taken was (fallen k)).volumes ≡ [] → ⊥
  some none = some_data m up_over (sym (own_volumes taken was (fallen k)) ∙ none)

  -- ---- the world

  effect : EffectAt s b shown (own_node taken was (fallen k)) (fallen_row row) (h.world.headers s) (h.after s) (h.world.packets ++ recovery_greeting s (fallen k)) None
  effect = behind_disks s d.world h (found_fallen h s k row) (fallen k) (fallen_row row) (h.world.headers s) (h.after s) (h.world.packets ++ recovery_greeting s (fallen k)) None taken (fallen_effect h s k row)

  came : Arrives b shown s (own_node taken was (fallen k)) None
  came =
      arrives_then b b shown s n (own_node taken was (fallen k)) (fallen_row row) (h.world.headers s) (h.after s) (h.world.packets ++ recovery_greeting s (fallen k)) (b.world.gathering s) None
      (arrives_none b s call.stands.links sure links) effect
      (fit_disks taken s d.world (found_fallen h s k row) (fit_fallen h s (let y : Node = record at { volumes = m.volumes; group = m.group } in y) k row below_h sure comes_as rests.fits)) sure
      (ap (λ (ps : List Packet). h.world.packets ++ ps) (greets_none s (fallen k) again.over.origin) ∙ append-nil h.world.packets ∙ sym (own_packets s d.world h taken))
      (touch_kept row b.world.sites ∙ sym (row_links_same row (b.world.links s) (λ j. own_links s d.world h taken j) b.world.sites) ∙ links)
      (λ _ made none. absurd (some none))

  fell_arrives : Arrives b fell_left s fell_node None
  fell_arrives =
      arrives_astray b (record shown { world = noting shown.world s lost }) s fell_node None
      (arrives_as b (record shown { world = noting shown.world s lost }) s (let y : Node = own_node taken was (fallen k) in let z : Node = record y { group = Some lost } in z) fell_node None
      (fell_at taken was at m lost (ap (λ (y : Node). y.failing) (sym here) ∙ sym again.over.same.failing))
      (arrives_noted b shown s (own_node taken was (fallen k)) lost None came))

  same_beside : beside_of fell_left s ≡ beside_of b s
  same_beside = beside_as b fell_left s links fell_arrives.links (effect.is.headers ∙ sym (own_headers s d.world h taken)) sure fell_arrives.sure

  -- ---- its disks

  fell : FellSo (beside_of b s) (worked m) p
  fell = fell_so (beside_of b s) (worked m) p (rest_stood b old new s o (Over p) call).0.1 looked.0

  count_is : fell.count ≡ m.safe
  count_is = omega (arith, fell.least, fell.most, again.over.whole)

  beside_is : sure_of (itself (beside_of b s) (worked m)) ≡ beside_of b s
  beside_is = ap (λ (y : Option KeptSite). let q : KeptBeside = record (beside_of b s) { doubt = y } in q) (sym (rest_stood b old new s o (Over p) call).0.1)

  stood : SiteStands (beside_of b s) fell_node (Over p)
  stood =
      over_like (beside_of b s) (fell_to (worked m) (worked m) m.safe) fell_node p refl (λ none. never_some (sym none)) (ap (λ (y : Option GroupNode). units_by y m.disks) (sym again.over.same.group)) (λ y lit. lit) (λ none. none)
      (subst (λ (c : ℕ). SiteStands (beside_of b s) (fell_to (worked m) (worked m) c) (Over p)) count_is
      (subst (λ (q : KeptBeside). SiteStands q (fell_to (worked m) (worked m) fell.count) (Over p)) beside_is fell.stands))

  noted : SiteNoted fell_node lost (Over p)
  noted = site_like (crashed (with_note lost m) 0) fell_node (record { name = refl; disks = refl; blocks = refl; volumes = refl; group = refl; state = refl; fuse = refl }) lost p looked.1

  cut_rests : CutRests fell_node
  cut_rests = (
    λ up. absurd (let clash : IsDown ≡ IsUp = up in cc),
    λ y is. let f : FitsPlain next y.volume y.start (length y.bytes) = cut_fits next cut looked.2 y is in record { some = f.some; whole = f.whole; within = f.within },
  )

  named : IsNamed fell_node
  named = (again.over.now, again.over.units, again.over.is, again.over.fits.rvg, again.over.fits.volumes, again.over.has, cut_rests)

  noted_there : NotedOver fell_node (Over p)
  noted_there = ((λ y is. subst (λ (z : GroupNode). SiteNoted fell_node z (Over p)) (some_same is) noted), named)

  -- ---- what is seen of it

  m_noted : note_at m ≡ next
  m_noted = ap (λ (y : Option GroupNode). unwrap_or y no_note) again.over.same.group

  -- the world with what came up
  abbrev up_world : World
  up_world = with_node fell_left.world s again.over.node

  module _ (core : Core) (c : Config) (notes : NotesConfig again.over.next c) (shows : up_group core.log.header.state (last_of core) core.log.ring ≡ group_fact again.over.node) where
    fits : FitsRvg m (at_serial 0 c) again.over.units
    fits = subst (λ (y : Config). FitsRvg m y again.over.units) (some_same (sym again.over.is ∙ notes_config next c notes)) again.over.fits

    seen_up : made_facts core c (fact_of_group n note) ≡ fact_over up_world s
    seen_up =
        gained_fact up_world s n m note next core c again.over.units (at_place fell_left.world.nodes s m) m_noted (notes_config next c notes) again.over.same.up up_over (rvg_apart m up_over) fits.rvg fits.volumes fell_arrives.links
        again.over.same.name again.over.same.disks again.over.same.blocks shows

    went_down : down_fact (fact_from m (fell_left.world.links s) fell_left.world.sites) ≡ fact_from fell_node (fell_left.world.links s) fell_left.world.sites
    went_down =
        facts_is (down_fact (fact_from m (fell_left.world.links s) fell_left.world.sites)) (fact_from fell_node (fell_left.world.links s) fell_left.world.sites) refl refl refl refl (up_over ∙ sym over_fell)
        (ap (λ (t : Bool). if t then over_table m (note_at m) else map volume_fact m.volumes) up_over ∙ ap (λ (y : GroupNode). over_table m y) m_noted
        ∙ sym (ap (λ (t : Bool). if t then over_table fell_node lost else map volume_fact fell_node.volumes) over_fell)) refl refl

    seen_fell : down_fact (made_facts core c (linked_fact b.world s)) ≡ fact_over fell_left.world s
    seen_fell =
        ap (λ (f : SiteFacts). down_fact f)
        (down_made core c b.world s note call.down ∙ seen_up
        ∙ apart_same m (up_world.nodes s) (up_world.links s) (up_world.links s) up_world.sites up_world.sites (rvg_apart m up_over) (at_place fell_left.world.nodes s m) (λ j. refl) refl)
        ∙ went_down
        ∙ sym (apart_same fell_node (fell_left.world.nodes s) (fell_left.world.links s) (fell_left.world.links s) fell_left.world.sites fell_left.world.sites (rvg_apart fell_node over_fell) fell_arrives.node (λ j. refl) refl)

    fell_stands : new.facts.items ≡ slice_set old.facts.items s (down_fact (made_facts core c (linked_fact b.world s))) → StandsFor fell_left new
    fell_stands facts =
        stands_so b old new s o (Over p) call fell_left fell_node None fell_arrives (subst (λ (q : KeptBeside). SiteStands q fell_node (Over p)) (sym same_beside) stood) again.over.same.failing refl
        (role_origin fell_node (Over p) again.over.origin) (down_fact (made_facts core c (linked_fact b.world s))) noted_there seen_fell facts

  -- ---- the line

  abbrev many : ℕ
  many = n.disks + disk + 1

  abbrev fails : Fails
  fails = calls_at b old new s o p resting many

  failed : Contains fails (s, disk)
  failed =
      call_named b old new s o p resting many disk ((site_disks (site_in x)).disk_faults disk) ((site_disks (site_in p)).disk_faults disk) (omega arith) (omega (arith, again.group.from disk, again.to disk)) looked.3 (omega arith)

  there : slice_get new.disk_sets.items s ≡ Some (Over p)
  there = ap (λ (es : List (DiskSet R g)). slice_get es s) call.changed.disk_sets ∙ get-set_same old.disk_sets.items s (Over p) (slice_get_within old.disk_sets.items s (Over o) call.changed.there)

  told_below : IsTold new → IsTrue (site_below (site_in x)).tells
  told_below told = told_before (told.each s (Over p) there)

  known : KnowsNothing (IsTold new) (note_at (d.world.nodes s))
  known =
      subst (λ (y : GroupNode). KnowsNothing (IsTold new) y) (note_before d s kept taken rests old new o p call)
      (knows_nothing (IsTold new) (site_below (site_in x)).tells note told_below again.less.was)

  some_was : (note_at (d.world.nodes s)).cut ≡ None → ⊥
  some_was none =
      some_cut next cut looked.2
      (ap (λ (y : Option CutWrite). cut_value y) cut_is ∙ (rest_noted b old new s o (Over p) call).1 ∙ ap (λ (y : GroupNode). y.cut) (note_before d s kept taken rests old new o p call) ∙ none)

  ends : RvgFinds (IsTold new) d (Recover name) s fails (Refused (Device disk)) fell_left
  ends =
      FindsLost name kept taken disk lost h (let y : Node = record at { volumes = m.volumes; group = m.group } in y) k row again.over.now again.over.units rests.over some_was refl (calls_are_of b old new s o p resting many) failed known
      (λ told. again.less.dark (told_below told)) refl refl comes_as again.over.is (record { rvg = again.over.fits.rvg; volumes = again.over.fits.volumes; ring = again.over.fits.ring }) again.over.has refl
      (record { world = refl; after = λ i. refl; strayed = refl })

  pub found_lost : (core : Core) (c : Config) → NotesConfig again.over.next c → up_group core.log.header.state (last_of core) core.log.ring ≡ group_fact again.over.node
      → new.facts.items ≡ slice_set old.facts.items s (down_fact (made_facts core c (linked_fact (rests_as d s kept taken).world s))) → LetsGo old new s → RaisesFor d (Recover name) s kept taken (Refused (Device disk)) old new
  found_lost core c notes shows facts lets = record {
    next = fell_left;
    fails = fails;
    works = inr ends;
    stands = fell_stands core c notes shows facts;
    carries = λ carried.
        carries_let s b fell_left old new lets (omega (arith, call.below, call.stands.disk_sets.few)) fell_arrives.site fell_arrives.packets fell_arrives.gathering
        (λ is_up. down_up (sym (ap (λ (y : Node). y.state) fell_arrives.node) ∙ is_up)) (told_by old new s (Over o) (Over p) call.changed) carried;
    rose = calls_rose b old new s o p resting many;
  }
