-- What a line leads a yard to that found a replicated volume group over the group of disks of its site, of which nothing was known.
use Rattle.std.proofs.Common.{◌≡◌, ◌∙◌, ◌++◌, ◌<◌, ◌⊎◌, inl, inr, ⊎_elim, ℕ, Bool, true, false, List, [], ap, sym, subst, refl, IsTrue}
use Rattle.std.proofs.lemmas.List.{append-nil}
use Rattle.std.proofs.lemmas.Option.{slice_get_within}
use Rattle.std.specs.Prelude.{Option, Some, None, if◌then◌else◌, slice_get, slice_set, unwrap_or}
use Rattle.vx_model.specs.Sites.{is_origin}
use Rattle.vx_model.proofs.Tests.{by_bool}
use Rattle.vx_disk.specs.declared.shelf.Shelf.{Ghosts}
use Rattle.vx_config.specs.declared.config.Config.{Config}
use Rattle.vx_history.proofs.Updates.{at_place}
use Rattle.vx_history.specs.Doubts.{Doubted}
use Rattle.vx_history.specs.Events.{recovery_greeting}
use Rattle.vx_history.specs.Groups.{GroupNode}
use Rattle.vx_history.specs.Sends.{greeting}
use Rattle.vx_history.specs.Steps.{burned, worked}
use Rattle.vx_history.specs.World.{Fuse, Gathering, Link, Node, Packet, World}
use Rattle.vx_kept.specs.Cleans.{at_serial}
use Rattle.vx_report.specs.declared.view.Kept.{Kept}
use Rattle.vx_report.specs.declared.view.SiteView.{SiteView}
use Rattle.vx_rvg.specs.Views.{Core, last_of}
use Rattle.vx_script.specs.declared.line.ScriptLine.{ScriptLine}
use Rattle.vx_script.specs.declared.line.ScriptLine.TheVariants.{GroupImport, Recover}
use Rattle.vx_grouped.specs.GroupNotes.{NotesConfig}
use Rattle.vx_grouped.specs.GroupSites.{site_below}
use Rattle.vx_diskset.proofs.NotedLikes.{cut_none}
use Rattle.vx_diskset.proofs.Roles.{role_origin}
use Rattle.vx_diskset.specs.Aboves.{site_in}
use Rattle.vx_diskset.specs.Asked.{FailsAs, FusedAs, SameFailing}
use Rattle.vx_diskset.specs.Holds.{KeptBeside, beside_of, header_links}
use Rattle.vx_diskset.specs.Noted.{IsNamed, NotedOver, SiteNoted}
use Rattle.vx_diskset.specs.OverRises.{FoundOver, KnowsLess}
use Rattle.vx_diskset.specs.Stands.{RoleIs, SiteStands}
use Rattle.vx_diskset.specs.declared.disk_set.DiskSet.{DiskSet}
use Rattle.vx_diskset.specs.declared.disk_set.DiskSet.TheVariants.{Over}
use Rattle.vx_diskset.specs.declared.over_set.OverSet.{OverSet}
use Rattle.vx_effects.proofs.Leaving.{fit_disks, fit_found}
use Rattle.vx_events.proofs.Places.{never_some, some_same}
use Rattle.vx_events.proofs.RvgEvents.{rvg_apart}
use Rattle.vx_events.specs.Doubts.{with_disks}
use Rattle.vx_events.specs.Effects.{ChangesNode, EffectAt}
use Rattle.vx_events.specs.Ends.{found_linked}
use Rattle.vx_events.specs.Facts.{group_fact}
use Rattle.vx_events.specs.Fails.{Fails}
use Rattle.vx_events.specs.Found.{ComesUpAs}
use Rattle.vx_events.specs.GroupEnds.{BringsUp, KnowsNothing}
use Rattle.vx_events.specs.GroupLines.{group_noted, noting}
use Rattle.vx_events.specs.GroupNotes.{no_note, note_at}
use Rattle.vx_events.specs.GroupViews.{config_of}
use Rattle.vx_events.specs.LinkViews.{linked_view}
use Rattle.vx_events.specs.LinksFit.{LinksFit}
use Rattle.vx_events.specs.RvgBack.{FindsRvg, RvgFinds, SaysFoundUp}
use Rattle.vx_events.specs.RvgFits.{FitsRvg}
use Rattle.vx_events.specs.RvgViews.{is_over_rvg, over_disks}
use Rattle.vx_events.specs.StepsOver.{fact_of_group, fact_over}
use Rattle.vx_events.specs.Strays.{gone_astray}
use Rattle.vx_events.specs.declared.said.Said.{Said}
use Rattle.vx_events.specs.declared.said.Said.TheVariants.{Resumed}
use Rattle.vx_above.proofs.RiseWorlds.{behind_disks, found_effect, own_gathering, own_headers, own_is, own_links, own_node, own_packets, own_sites, own_view, view_noted}
use Rattle.vx_above.specs.OwnDisks.{own_disks}
use Rattle.vx_yard.proofs.Carrying.{SameLoad, carries_at, feeds_none}
use Rattle.vx_yard.proofs.CrashSite.{beside_sure}
use Rattle.vx_yard.proofs.FailsStay.{fails_then}
use Rattle.vx_yard.proofs.Lists.{get-set_same}
use Rattle.vx_yard.proofs.OneSite.{Changed, Comes, stands_at, told_by}
use Rattle.vx_yard.proofs.OverGroup.{both_ways, over_rvg}
use Rattle.vx_yard.proofs.Rows.{row_links_same}
use Rattle.vx_yard.specs.Carries.{Carries}
use Rattle.vx_yard.specs.Changes.{up_group}
use Rattle.vx_yard.specs.Standing.{BeginsFirst, StandsFor}
use Rattle.vx_yard.specs.Stands.{RoseAll}
use Rattle.vx_yard.specs.Yards.{IsTold, count_of}
use Rattle.vx_yard.specs.declared.yard.Yard.{Yard}
use Rattle.vx_above.proofs.Changing.{notes_config}
use Rattle.vx_above.proofs.Fails.{calls_of}
use Rattle.vx_above.proofs.SiteCalls.{calls, rose_below}
use Rattle.vx_group_lines.specs.Noting.{made_facts}
use Rattle.vx_group_lines.specs.RvgRises.{RaisesFor, rests_world}
use Rattle.vx_group_lines.proofs.Arriving.{Arrives, arrives_as, arrives_none, arrives_noted, arrives_then, arrives_worked}
use Rattle.vx_group_lines.proofs.RvgComing.{some_data}
use Rattle.vx_group_lines.proofs.RvgFacts.{gained_fact, up_seen}
use Rattle.vx_group_lines.proofs.RvgGained.{over_noted}
use Rattle.vx_group_lines.proofs.RvgStanding.{RvgOver, rvg_over, set_volumes}

-- ---- the node

-- the fuse of the disks behind such a line
abbrev pub lit_by : ScriptLine → Fuse → Fuse
lit_by (GroupImport site) fuse = burned fuse
lit_by other fuse = fuse

-- what a site is is the same with the disks that are made to fail
record OwnSame (b : Bool) (was n : Node) : Type 0 where
  name : (own_node b was n).name ≡ n.name
  disks : (own_node b was n).disks ≡ n.disks
  blocks : (own_node b was n).blocks ≡ n.blocks
  volumes : (own_node b was n).volumes ≡ n.volumes
  fuse : (own_node b was n).fuse ≡ n.fuse

own_same : (b : Bool) (was n : Node) → OwnSame b was n
own_same true was n = record { name = refl; disks = refl; blocks = refl; volumes = refl; fuse = refl }
own_same false was n = record { name = refl; disks = refl; blocks = refl; volumes = refl; fuse = refl }

-- m as it came up, on disks that are made to fail as before and have the fuse that they had
abbrev came_with : Node → Node → Node
came_with at m = record m { failing = at.failing; fuse = at.fuse }

-- with its note, and behind the calls of the line, that is m
left_node : (line : ScriptLine) (b : Bool) (was at m : Node) (next : GroupNode) → (own_node b was at).failing ≡ m.failing → m.group ≡ Some next → lit_by line at.fuse ≡ m.fuse
    → (let x : Node = own_node b was (came_with at m) in let y : Node = record x { group = Some next; fuse = lit_by line x.fuse } in y) ≡ m
left_node line true was at m next failing group fuse =
    ap (λ (f : ℕ → Bool). let x : Node = record m { failing = f; group = Some next; fuse = lit_by line at.fuse } in x) failing
    ∙ ap (λ (o : Option GroupNode). let x : Node = record m { group = o; fuse = lit_by line at.fuse } in x) (sym group)
    ∙ ap (λ (f : Fuse). let x : Node = record m { fuse = f } in x) fuse
left_node line false was at m next failing group fuse =
    ap (λ (f : ℕ → Bool). let x : Node = record m { failing = f; group = Some next; fuse = lit_by line at.fuse } in x) failing
    ∙ ap (λ (o : Option GroupNode). let x : Node = record m { group = o; fuse = lit_by line at.fuse } in x) (sym group)
    ∙ ap (λ (f : Fuse). let x : Node = record m { fuse = f } in x) fuse

-- one where writes arise greets no other
greets_none : (s : ℕ) (n : Node) → is_origin n.role ≡ true → recovery_greeting s n ≡ []
greets_none s n origin = ap (λ (b : Bool). if b then [] else greeting s n.other n) origin

-- ---- the world

-- with the note of the site, behind the line
arrives_left : (line : ScriptLine) → BringsUp line → (b e : Doubted) (s : ℕ) (m : Node) (next : GroupNode) (gathered : Option Gathering) → Arrives b e s m gathered
    → Arrives b (record e { world = group_noted s line (noting e.world s next) }) s (record m { group = Some next; fuse = lit_by line m.fuse }) gathered
arrives_left (GroupImport site) brings b e s m next gathered arrives = arrives_worked b e s m next gathered arrives
arrives_left (Recover site) brings b e s m next gathered arrives = arrives_noted b e s m next gathered arrives
arrives_left other brings b e s m next gathered arrives = absurd brings

headers_left : (line : ScriptLine) → BringsUp line → (v : World) (s : ℕ) (next : GroupNode) → (group_noted s line (noting v s next)).headers s ≡ v.headers s
headers_left (GroupImport site) brings v s next = refl
headers_left (Recover site) brings v s next = refl
headers_left other brings v s next = absurd brings

-- that it strayed changes nothing of it
changes_astray : (s : ℕ) (b e : Doubted) → ChangesNode s b e → ChangesNode s b (gone_astray e)
changes_astray s b e it = record {
  sites = it.sites;
  nodes = it.nodes;
  links = it.links;
  headers = it.headers;
  after = it.after;
  strayed = λ calm. let clash : true ≡ false = calm in absurd (cc);
  gathering = it.gathering;
}

fit_astray : (e : Doubted) → LinksFit e → LinksFit (gone_astray e)
fit_astray e it = record { rows = it.rows; later = it.later; bare = it.bare; doubts = it.doubts; starts = it.starts; quiet = it.quiet; rests = it.rests }

pub arrives_astray : (b e : Doubted) (s : ℕ) (m : Node) (gathered : Option Gathering) → Arrives b e s m gathered → Arrives b (gone_astray e) s m gathered
arrives_astray b e s m gathered it = record {
  site = changes_astray s b e it.site;
  fits = fit_astray e it.fits;
  node = it.node;
  first = it.first;
  sure = it.sure;
  links = it.links;
  packets = it.packets;
  gathering = it.gathering;
}

-- ---- what was known

-- nothing is known of the disks where this says so of what is told
pub knows_nothing : (told : Type 0) (tells : Bool) (note : GroupNode) → (told → IsTrue tells) → (IsTrue tells → (note.dark ≡ true) ⊎ (note.loose ≡ true)) → KnowsNothing told note
knows_nothing told tells note lit less =
    by_bool tells
    (λ yes_. ⊎_elim (λ (dark : note.dark ≡ true). inr (inr dark)) (λ (loose : note.loose ≡ true). inr (inl loose)) (less yes_))
    (λ no_. inl (λ it. let clash : true ≡ false = sym (lit it) ∙ no_ in absurd (cc)))

-- ---- the line

module _ {R : Type 0} {g : Ghosts R} where
  -- what came up, behind calls on its disks
  abbrev pub found_worked : (beside : KeptBeside) (n : Node) (lit : Fuse) (p q : OverSet R g) (it : FoundOver beside n lit p) → SiteStands beside (worked it.node) (Over q) → SiteNoted (worked it.node) it.next (Over q) → FoundOver beside n (burned lit) q
  found_worked beside n lit p q it stands noted = record {
    next = it.next;
    now = it.now;
    units = it.units;
    node = worked it.node;
    same = record {
      name = it.same.name;
      disks = it.same.disks;
      blocks = it.same.blocks;
      volumes = refl;
      up = it.same.up;
      running = it.same.running;
      failing = it.same.failing;
      fuse = ap (λ (f : Fuse). burned f) it.same.fuse;
      group = it.same.group;
    };
    whole = it.whole;
    quiet = it.quiet;
    origin = it.origin;
    rests = it.rests;
    clear = it.clear;
    is = it.is;
    fits = record { rvg = it.fits.rvg; volumes = it.fits.volumes; ring = it.fits.ring };
    has = it.has;
    noted = noted;
    stands = stands;
  }

  -- What the line is done from: the yard stands for the world h in which the site rests, with the disks that are made to fail, and the call brought this up.
  pub record FoundCall (d h : Doubted) (line : ScriptLine) (s : ℕ) (taken : Bool) (old new : Yard R g) (before : DiskSet R g) (p : OverSet R g) (lit : Fuse) : Type 0 where
    pub stands : StandsFor (own_disks taken s d.world h) old
    pub fits : LinksFit h
    pub below : s < (own_disks taken s d.world h).world.sites
    pub sure : h.after s ≡ None
    pub links : header_links (own_disks taken s d.world h).world s ≡ []
    pub note : note_at ((own_disks taken s d.world h).world.nodes s) ≡ note_at (d.world.nodes s)
    pub changed : Changed old new s before (Over p)
    pub failing : SameFailing before (Over p)
    pub brings : BringsUp line
    pub over : FoundOver (beside_of (own_disks taken s d.world h) s) ((own_disks taken s d.world h).world.nodes s) lit p
    pub less : KnowsLess (note_at ((own_disks taken s d.world h).world.nodes s)) over.next (site_in p)
    pub lit_is : lit_by line ((own_disks taken s d.world h).world.nodes s).fuse ≡ lit
    pub fused : FusedAs over.node (Over p)

  module _ (d h : Doubted) (line : ScriptLine) (s : ℕ) (taken : Bool) (old new : Yard R g) (before : DiskSet R g) (p : OverSet R g) (lit : Fuse) (call : FoundCall d h line s taken old new before p lit) where
    -- with the disks that are made to fail
    abbrev b : Doubted
    b = own_disks taken s d.world h

    abbrev was : Node
    was = d.world.nodes s

    abbrev at : Node
    at = h.world.nodes s

    abbrev n : Node
    n = (own_disks taken s d.world h).world.nodes s

    -- what came up, and what it is before the line notes its disks
    abbrev m : Node
    m = call.over.node

    abbrev next : GroupNode
    next = call.over.next

    abbrev k : Node
    k = came_with (h.world.nodes s) call.over.node

    abbrev row : ℕ → Link
    row = h.world.links s

    abbrev pub found_world : Doubted
    found_world = found_linked h s (came_with (h.world.nodes s) call.over.node) (h.world.links s)

    abbrev shown : Doubted
    shown = own_disks taken s d.world (found_linked h s (came_with (h.world.nodes s) call.over.node) (h.world.links s))

    abbrev pub found_left : Doubted
    found_left = let e : Doubted = found_linked h s (came_with (h.world.nodes s) call.over.node) (h.world.links s) in
        record (gone_astray e) { world = group_noted s line (noting (with_disks taken s d.world e.world) s call.over.next) }

    here : (own_disks taken s d.world h).world.nodes s ≡ own_node taken (d.world.nodes s) (h.world.nodes s)
    here = own_is s d.world h taken

    same : OwnSame taken (d.world.nodes s) (h.world.nodes s)
    same = own_same taken was at

    below_h : s < h.world.sites
    below_h = subst (λ (i : ℕ). s < i) (own_sites s d.world h taken) call.below

    -- ---- what it came up as

    comes_as : ComesUpAs s h.world.sites
        (let x : Node = record (h.world.nodes s) { volumes = call.over.node.volumes; group = call.over.node.group } in x)
        (came_with (h.world.nodes s) call.over.node) (h.world.links s)
    comes_as = record {
      same = record {
        name = call.over.same.name ∙ ap (λ (x : Node). x.name) here ∙ same.name;
        disks = call.over.same.disks ∙ ap (λ (x : Node). x.disks) here ∙ same.disks;
        blocks = call.over.same.blocks ∙ ap (λ (x : Node). x.blocks) here ∙ same.blocks;
        volumes = refl;
        up = call.over.same.up;
        running = call.over.same.running;
        failing = refl;
        fuse = refl;
        group = refl;
      };
      whole = call.over.whole;
      quiet = call.over.quiet;
      rests = call.over.rests;
      fits = call.fits.rows s;
      starts = λ j linked. call.over.origin;
    }

    is_over : is_over_rvg call.over.node ≡ true
    is_over = over_rvg (beside_of b s) m p call.over.stands

    some : (own_node taken (d.world.nodes s) (came_with (h.world.nodes s) call.over.node)).volumes ≡ [] → ⊥
    some none = some_data m is_over (sym (own_same taken was k).volumes ∙ none)

    effect : EffectAt s (own_disks taken s d.world h) shown (own_node taken (d.world.nodes s) (came_with (h.world.nodes s) call.over.node)) (h.world.links s)
        (h.world.headers s) (h.after s)
        (h.world.packets ++ recovery_greeting s (came_with (h.world.nodes s) call.over.node)) (h.world.gathering s)
    effect = behind_disks s d.world h (found_linked h s k row) k row (h.world.headers s) (h.after s) (h.world.packets ++ recovery_greeting s k) (h.world.gathering s) taken (found_effect h s k row)

    came : Arrives (own_disks taken s d.world h) shown s (own_node taken (d.world.nodes s) (came_with (h.world.nodes s) call.over.node)) ((own_disks taken s d.world h).world.gathering s)
    came =
        subst (λ (o : Option Gathering). Arrives b shown s (own_node taken was k) o) (sym (own_gathering s d.world h taken))
        (arrives_then b b shown s n (own_node taken was k) row (h.world.headers s) (h.after s) (h.world.packets ++ recovery_greeting s k) (b.world.gathering s) (h.world.gathering s)
        (arrives_none b s call.stands.links call.sure call.links) effect
        (fit_disks taken s d.world (found_linked h s k row) (fit_found h s (let x : Node = record at { volumes = m.volumes; group = m.group } in x) k row below_h call.sure comes_as call.fits))
        call.sure
        (ap (λ (ps : List Packet). h.world.packets ++ ps) (greets_none s k call.over.origin) ∙ append-nil h.world.packets ∙ sym (own_packets s d.world h taken))
        (sym (row_links_same row (b.world.links s) (λ j. own_links s d.world h taken j) b.world.sites) ∙ call.links)
        (λ _ made none. absurd (some none)))

    -- behind the line
    pub found_arrives : Arrives (own_disks taken s d.world h) found_left s call.over.node ((own_disks taken s d.world h).world.gathering s)
    found_arrives =
        arrives_astray b (record shown { world = group_noted s line (noting shown.world s next) }) s m (b.world.gathering s)
        (arrives_as b (record shown { world = group_noted s line (noting shown.world s next) }) s
        (let x : Node = own_node taken was k in let y : Node = record x { group = Some next; fuse = lit_by line x.fuse } in y) m (b.world.gathering s)
        (left_node line taken was at m next (ap (λ (x : Node). x.failing) (sym here) ∙ sym call.over.same.failing) call.over.same.group
        (ap (λ (f : Fuse). lit_by line f) (sym same.fuse ∙ ap (λ (x : Node). x.fuse) (sym here)) ∙ call.lit_is ∙ sym call.over.same.fuse))
        (arrives_left line call.brings b shown s (own_node taken was k) next (b.world.gathering s) came))

    headers : found_left.world.headers s ≡ (own_disks taken s d.world h).world.headers s
    headers = headers_left line call.brings shown.world s next ∙ effect.is.headers ∙ sym (own_headers s d.world h taken)

    beside : beside_of found_left s ≡ beside_of (own_disks taken s d.world h) s
    beside =
        beside_sure found_left s [] (b.world.headers s) found_arrives.links headers found_arrives.sure
        ∙ sym (beside_sure b s [] (b.world.headers s) call.links refl call.sure)

    stood : SiteStands (beside_of found_left s) call.over.node (Over p)
    stood = subst (λ (x : KeptBeside). SiteStands x m (Over p)) (sym beside) call.over.stands

    -- ---- the yard stands for it

    comes : Comes (own_disks taken s d.world h) found_left s (Over p)
    comes = record {
      changes = found_arrives.site;
      links = found_arrives.fits;
      stands = subst (λ (x : Node). SiteStands (beside_of found_left s) x (Over p)) (sym found_arrives.node) stood;
      failing = subst (λ (x : Node). FailsAs x (Over p)) (sym found_arrives.node) (fails_then n m before (Over p) call.over.same.failing call.failing (call.stands.failing s before call.below call.changed.there));
      fuse = subst (λ (x : Node). FusedAs x (Over p)) (sym found_arrives.node) call.fused;
      role = subst (λ (x : Node). RoleIs x (Over p)) (sym found_arrives.node) (role_origin m (Over p) call.over.origin);
      doubt = λ before a is. absurd (never_some (sym found_arrives.sure ∙ is));
    }

    pub found_noted : note_at call.over.node ≡ call.over.next
    found_noted = ap (λ (o : Option GroupNode). unwrap_or o no_note) call.over.same.group

    named : IsNamed call.over.node
    named =
        (call.over.now, call.over.units, ap (λ (x : GroupNode). config_of x.config) found_noted ∙ call.over.is, call.over.fits.rvg, call.over.fits.volumes, call.over.has, cut_none call.over.node call.over.next call.over.same.group call.over.clear)

    here_noted : NotedOver call.over.node (Over p)
    here_noted = over_noted m next (Over p) call.over.same.group named call.over.noted

    pub found_sits : RvgOver (beside_of found_left s) call.over.node call.over.next (Over p)
    found_sits = rvg_over (beside_of found_left s) m next (Over p) stood call.over.noted (rvg_apart m is_over) call.over.same.up call.over.origin

    -- what the tests see of it, by a replicated volume group and a configuration that are those of the site
    found_seen : (core : Core) (c : Config) → NotesConfig call.over.next c → up_group core.log.header.state (last_of core) core.log.ring ≡ group_fact call.over.node
        → made_facts core c (fact_of_group ((own_disks taken s d.world h).world.nodes s) (note_at ((own_disks taken s d.world h).world.nodes s))) ≡ fact_over found_left.world s
    found_seen core c notes shows =
        let fits : FitsRvg m (at_serial 0 c) call.over.units = subst (λ (x : Config). FitsRvg m x call.over.units) (some_same (sym call.over.is ∙ notes_config next c notes)) call.over.fits in
        gained_fact found_left.world s n m (note_at n) next core c call.over.units found_arrives.node found_noted (notes_config next c notes) call.over.same.up is_over (rvg_apart m is_over) fits.rvg fits.volumes found_arrives.links
        call.over.same.name call.over.same.disks call.over.same.blocks shows

    pub found_stands_by : (core : Core) (c : Config) → NotesConfig call.over.next c → up_group core.log.header.state (last_of core) core.log.ring ≡ group_fact call.over.node
        → new.facts.items ≡ slice_set old.facts.items s (made_facts core c (fact_of_group ((own_disks taken s d.world h).world.nodes s) (note_at ((own_disks taken s d.world h).world.nodes s)))) → StandsFor found_left new
    found_stands_by core c notes shows facts =
        stands_at b found_left old new s (made_facts core c (fact_of_group n (note_at n))) before (Over p) call.stands call.below call.changed comes
        (λ was. subst (λ (x : Node). BeginsFirst s x) (sym found_arrives.node) (found_arrives.first was)) (λ _. subst (λ (x : Node). NotedOver x (Over p)) (sym found_arrives.node) here_noted)
        (found_seen core c notes shows) facts

    pub found_stands : new.facts.items ≡ slice_set old.facts.items s (made_facts found_sits.core found_sits.config (fact_of_group ((own_disks taken s d.world h).world.nodes s) (note_at ((own_disks taken s d.world h).world.nodes s)))) → StandsFor found_left new
    found_stands facts =
        found_stands_by found_sits.core found_sits.config found_sits.noted
        (up_seen (beside_of found_left s) m found_sits.core (set_volumes (Over p)) found_sits.stands call.over.same.running call.over.whole) facts

    pub found_carries : SameLoad old new → Carries (own_disks taken s d.world h) old → Carries found_left new
    found_carries load carries =
        carries_at s b found_left old new carries load (record { site = found_arrives.site; packets = found_arrives.packets; gathering = found_arrives.gathering })
        (feeds_none n (found_left.world.nodes s) (λ up receives. both_ways call.over.origin (ap (λ (x : Node). is_origin x.role) (sym found_arrives.node) ∙ receives)))
        (told_by old new s before (Over p) call.changed)

    -- ---- how the line ends

    told_below : IsTold new → IsTrue (site_below (site_in p)).tells
    told_below told =
        told.each s (Over p)
        (ap (λ (es : List (DiskSet R g)). slice_get es s) call.changed.disk_sets ∙ get-set_same old.disk_sets.items s (Over p) (slice_get_within old.disk_sets.items s before call.changed.there))

    known : KnowsNothing (IsTold new) (note_at (d.world.nodes s))
    known =
        subst (λ (x : GroupNode). KnowsNothing (IsTold new) x) call.note
        (knows_nothing (IsTold new) (site_below (site_in p)).tells (note_at n) told_below call.less.was)

    abbrev pub found_fails : Fails
    found_fails = calls s old new ((own_disks taken s d.world h).world.nodes s).disks

    pub found_rose : RoseAll found_fails (count_of old) (count_of new)
    found_rose = rose_below old new s before (Over p) call.changed n.disks

    -- the line finds it, and says so in the world in which it came up
    pub found_ends : (kept : ℕ) (said : Said) → h ≡ rests_world d s kept taken → SaysFoundUp line s call.over.next found_world.world said → RvgFinds (IsTold new) d line s found_fails said found_left
    found_ends kept said is says =
        FindsRvg kept taken next h (let x : Node = record at { volumes = m.volumes; group = m.group } in x) k row call.over.now call.over.units
        (calls_of s (count_of old s) (count_of new s) n.disks) call.brings known (λ told. call.less.dark (told_below told)) is refl comes_as call.over.is
        (record { rvg = call.over.fits.rvg; volumes = call.over.fits.volumes; ring = call.over.fits.ring }) call.over.has says (record { world = refl; after = λ i. refl; strayed = refl })

  -- ---- a recovery shows how the site stands then

  module _ (d h : Doubted) (name : List ℕ) (s : ℕ) (taken : Bool) (old new : Yard R g) (before : DiskSet R g) (p : OverSet R g) (lit : Fuse) (call : FoundCall d h (Recover name) s taken old new before p lit) where
    abbrev left : Doubted
    left = found_left d h (Recover name) s taken old new before p lit call

    abbrev up : Doubted
    up = found_world d h (Recover name) s taken old new before p lit call

    abbrev v : World
    v = (own_disks taken s d.world (found_world d h (Recover name) s taken old new before p lit call)).world

    same_view : linked_view (found_left d h (Recover name) s taken old new before p lit call).world s ≡ linked_view (found_world d h (Recover name) s taken old new before p lit call).world s
    same_view = view_noted v s (v.nodes s).failing (Some call.over.next) ∙ own_view taken s d.world up

    up_node : (found_world d h (Recover name) s taken old new before p lit call).world.nodes s ≡ came_with (h.world.nodes s) call.over.node
    up_node = at_place h.world.nodes s (came_with (h.world.nodes s) call.over.node)

    -- by the world in which it came up
    shown_as : (let l : Doubted = found_left d h (Recover name) s taken old new before p lit call in over_disks (l.world.nodes s) (note_at (l.world.nodes s)) (linked_view l.world s))
        ≡ (let u : Doubted = found_world d h (Recover name) s taken old new before p lit call in over_disks (u.world.nodes s) call.over.next (linked_view u.world s))
    shown_as =
        ap (λ (x : Node). over_disks x (note_at x) (linked_view left.world s)) (found_arrives d h (Recover name) s taken old new before p lit call).node
        ∙ ap (λ (x : GroupNode). over_disks call.over.node x (linked_view left.world s)) (found_noted d h (Recover name) s taken old new before p lit call)
        ∙ ap (λ (x : Node). over_disks x call.over.next (linked_view left.world s)) (sym up_node)
        ∙ ap (λ (x : SiteView). over_disks (up.world.nodes s) call.over.next x) same_view

    pub found_says : (said : Said) (shown : Option Kept)
        → (let l : Doubted = found_left d h (Recover name) s taken old new before p lit call in said ≡ Resumed (over_disks (l.world.nodes s) (note_at (l.world.nodes s)) (linked_view l.world s)) shown)
        → SaysFoundUp (Recover name) s call.over.next (found_world d h (Recover name) s taken old new before p lit call).world said
    found_says said shown is = (shown, is ∙ ap (λ (x : SiteView). Resumed x shown) shown_as)

  -- of a site with a replicated volume group, in which nothing was known of the disks
  pub found_raises : (d : Doubted) (name : List ℕ) (s kept : ℕ) (taken : Bool) (old new : Yard R g) (before : DiskSet R g) (p : OverSet R g) (lit : Fuse)
      (call : FoundCall d (rests_world d s kept taken) (Recover name) s taken old new before p lit) (said : Said) (shown : Option Kept)
      → (let l : Doubted = found_left d (rests_world d s kept taken) (Recover name) s taken old new before p lit call in said ≡ Resumed (over_disks (l.world.nodes s) (note_at (l.world.nodes s)) (linked_view l.world s)) shown)
      → StandsFor (found_left d (rests_world d s kept taken) (Recover name) s taken old new before p lit call) new
      → SameLoad old new → RaisesFor d (Recover name) s kept taken said old new
  found_raises d name s kept taken old new before p lit call said shown is stands load =
      let h : Doubted = rests_world d s kept taken in
      record {
        next = found_left d h (Recover name) s taken old new before p lit call;
        fails = found_fails d h (Recover name) s taken old new before p lit call;
        works = inr (found_ends d h (Recover name) s taken old new before p lit call kept said refl (found_says d h name s taken old new before p lit call said shown is));
        stands = stands;
        carries = λ carried. found_carries d h (Recover name) s taken old new before p lit call load carried;
        rose = found_rose d h (Recover name) s taken old new before p lit call;
      }
