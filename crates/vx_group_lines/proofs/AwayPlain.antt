-- What an import of a site whose group has a replicated volume group leads its yard to, where nothing was known of the disks, and a group without one came up.
use Rattle.std.proofs.Common.{◌≡◌, ◌∙◌, ◌++◌, ℕ, true, false, List, [], map, ap, sym, subst, refl, inr, IsTrue}
use Rattle.std.proofs.lemmas.List.{append-nil}
use Rattle.std.proofs.lemmas.Option.{slice_get_within}
use Rattle.std.specs.Prelude.{Option, Some, None, slice_get, slice_set, Ok}
use Rattle.vx_model.specs.declared.site.SiteState.{SiteState}
use Rattle.vx_model.specs.declared.site.SiteState.TheVariants.{Deported as IsAway}
use Rattle.vx_disk.specs.declared.shelf.Shelf.{Ghosts}
use Rattle.vx_config.specs.declared.config.Config.{Config}
use Rattle.vx_effects.proofs.Leaving.{fit_found}
use Rattle.vx_history.specs.Doubts.{Doubted}
use Rattle.vx_history.specs.Events.{recovery_greeting}
use Rattle.vx_history.specs.Groups.{GroupNode, MissedNote}
use Rattle.vx_history.specs.KeptLinks.{kept_links}
use Rattle.vx_history.specs.Missing.{with_maps}
use Rattle.vx_history.specs.Steps.{burned, group_set, worked_on}
use Rattle.vx_history.specs.World.{Fuse, Link, Node, no_link}
use Rattle.vx_order.specs.declared.facts.SiteFacts.{SiteFacts}
use Rattle.vx_order.specs.declared.facts.VolumeFacts.{VolumeFacts}
use Rattle.vx_script.specs.declared.line.ScriptLine.TheVariants.{GroupImport}
use Rattle.vx_grouped.proofs.MapNoteLemmas.{up_with_maps}
use Rattle.vx_grouped.specs.GroupSites.{AwayNoted, UpNoted, site_below, site_config, site_disks}
use Rattle.vx_grouped.specs.SiteMaps.{CameMapped, MapsOf, StandMaps}
use Rattle.vx_grouped.specs.SiteReturns.{KeepsFuse, as_imported, returned_with}
use Rattle.vx_grouped.specs.declared.group_site.GroupSite.{GroupSite}
use Rattle.vx_grouped.specs.declared.group_site.GroupSite.TheVariants.{Up as SiteUp, Deported as SiteAway, Down as SiteDown, Marked, Gone as SiteGone}
use Rattle.vx_diskset.proofs.GroupStands.{IsLikeGroup}
use Rattle.vx_diskset.specs.Aboves.{site_in}
use Rattle.vx_diskset.specs.GroupCalls.{AtSite, core_in}
use Rattle.vx_diskset.specs.Noted.{below_rvg}
use Rattle.vx_diskset.specs.OverRises.{PlainAgain, note_ready}
use Rattle.vx_diskset.specs.declared.disk_set.DiskSet.{DiskSet}
use Rattle.vx_diskset.specs.declared.disk_set.DiskSet.TheVariants.{OfGroup, Over}
use Rattle.vx_diskset.specs.declared.group_set.GroupSet.{GroupSet}
use Rattle.vx_diskset.specs.declared.over_set.OverSet.{OverSet}
use Rattle.vx_events.specs.Ends.{found_linked}
use Rattle.vx_events.specs.Facts.{site_number}
use Rattle.vx_events.specs.Found.{ComesUpAs}
use Rattle.vx_events.specs.GroupEnds.{KnowsNothing}
use Rattle.vx_events.specs.GroupLines.{noting}
use Rattle.vx_events.specs.GroupNotes.{note_at}
use Rattle.vx_events.specs.GroupViews.{plain_fact}
use Rattle.vx_events.specs.LinkedFacts.{linked_fact, links_by, links_of_site}
use Rattle.vx_events.specs.RvgBack.{FindsPlain, RvgFinds, unmade_site}
use Rattle.vx_events.specs.RvgFits.{config_rvg, rvg_noted}
use Rattle.vx_events.specs.StepsOver.{fact_of_group}
use Rattle.vx_events.specs.Strays.{gone_astray}
use Rattle.vx_events.specs.declared.said.Said.TheVariants.{Done}
use Rattle.vx_events.proofs.Steps.{no_sites}
use Rattle.vx_yard.proofs.Carrying.{SameLoad}
use Rattle.vx_yard.proofs.CrashLine.{rose_still}
use Rattle.vx_yard.proofs.FailsStay.{fails_then}
use Rattle.vx_yard.proofs.Lists.{get-set_same}
use Rattle.vx_yard.specs.AboveLines.{LeadsAbove}
use Rattle.vx_yard.specs.GroupFacts.{group_up_facts}
use Rattle.vx_yard.specs.Yards.{IsTold}
use Rattle.vx_yard.specs.declared.yard.Yard.{Yard}
use Rattle.vx_above.proofs.GroupStatus.{table_is}
use Rattle.vx_above.proofs.RiseWorlds.{found_effect}
use Rattle.vx_group_lines.proofs.Arriving.{Arrives, arrives_then, arrives_worked}
use Rattle.vx_group_lines.proofs.AwayCalls.{AwayCall, away_begins, away_fused, away_group, away_rest, away_stood, away_sure}
use Rattle.vx_group_lines.proofs.GroupAt.{up_notes}
use Rattle.vx_group_lines.proofs.GroupLeads.{Follows, follows_on, up_set}
use Rattle.vx_group_lines.proofs.MapComing.{stands_up}
use Rattle.vx_group_lines.proofs.Rising.{HasUp, has_up}
use Rattle.vx_group_lines.proofs.RvgFound.{arrives_astray, knows_nothing}
use Rattle.vx_group_lines.proofs.RvgPlain.{none_fits, up_as}

-- what the tests see of it
plain_seen : (volumes : List VolumeFacts) (d : Doubted) (s : ℕ) (next : GroupNode) (lit : Fuse) → (d.world.nodes s).state ≡ IsAway
    → volumes ≡ (let m : Node = record (group_set s (unmade_site (d.world.nodes s))) { group = Some next; fuse = lit } in (fact_of_group m next).volumes)
    → group_up_facts volumes (linked_fact d.world s) ≡ (let m : Node = record (group_set s (unmade_site (d.world.nodes s))) { group = Some next; fuse = lit } in fact_of_group m next)
plain_seen volumes d s next lit away table =
    ap (λ (t : SiteState). let x : SiteFacts = record (group_up_facts volumes (linked_fact d.world s)) { links = links_by t (links_of_site d.world s) } in x) away
    ∙ ap (λ (vs : List VolumeFacts). let x : SiteFacts = record (fact_of_group (group_set s (unmade_site (d.world.nodes s))) next) { volumes = vs } in x) table

module _ {R : Type 0} {g : Ghosts R} where
  -- what was noted of the maps of a group that came up, where nothing was known of it
  came_away : (n : Node) (note : GroupNode) (old new : GroupSite R g) (c : Config) → AwayNoted n note old → CameMapped old new (Ok tt) → site_config new ≡ Some c → (w : MissedNote) × MapsOf w c new
  came_away n note (SiteUp laid) new c away came is = absurd away
  came_away n note (SiteAway idle) new c away came is = came.some c is
  came_away n note (SiteDown idle) new c away came is = absurd away
  came_away n note (Marked rack) new c away came is = absurd away
  came_away n note SiteGone new c away came is = absurd away

  module _ (d : Doubted) (old new : Yard R g) (name : List ℕ) (s : ℕ) (number : site_number d.world name ≡ s) (o : OverSet R g) (x : GroupSet R g) (r : PlainAgain (d.world.nodes s) (note_at (d.world.nodes s)) (site_in o) x)
      (call : AwayCall d old new s o (let t : GroupSet R g = record { site = SiteUp r.laid; cut = None } in OfGroup t)) (keeps : KeepsFuse (as_imported (site_in o)) (site_disks (SiteUp r.laid))) where
    abbrev n : Node
    n = d.world.nodes s

    abbrev note : GroupNode
    note = note_at (d.world.nodes s)

    abbrev t : GroupSet R g
    t = record { site = SiteUp r.laid; cut = None }

    -- ---- the note

    memory : (w : MissedNote) × MapsOf w r.laid.core.inner.config (SiteUp r.laid)
    memory = came_away (below_rvg n) note (site_in o) (SiteUp r.laid) r.laid.core.inner.config (away_group d old new s o (OfGroup t) call) r.maps refl

    abbrev next : GroupNode
    next = with_maps memory.0 r.group.middle

    -- the node of the group, before its data volumes are gone
    abbrev group_node : Node
    group_node = record (returned_with r.group.middle (record (below_rvg n) { group = Some (note_ready (site_in o) note) })) { group = Some next }

    up_first : UpNoted group_node next (SiteUp r.laid)
    up_first = up_with_maps memory.0 (returned_with r.group.middle (record (below_rvg n) { group = Some (note_ready (site_in o) note) })) r.group.middle (SiteUp r.laid) r.group.up

    has : HasUp group_node next (SiteUp r.laid)
    has = has_up group_node next (SiteUp r.laid) up_first

    none : has.config.rvg ≡ None
    none = ap (λ (c : Option Config). config_rvg c) (sym has.has) ∙ r.none

    plain : rvg_noted next ≡ None
    plain = ap (λ (c : Option Config). config_rvg c) has.reads ∙ none

    -- ---- the world

    abbrev k : Node
    k = group_set s (unmade_site (d.world.nodes s))

    abbrev row : ℕ → Link
    row = λ j. no_link

    abbrev shown : Doubted
    shown = found_linked d s (group_set s (unmade_site (d.world.nodes s))) (λ j. no_link)

    abbrev m : Node
    m = record (group_set s (unmade_site (d.world.nodes s))) { group = Some next; fuse = burned (d.world.nodes s).fuse }

    abbrev left : Doubted
    left = let e : Doubted = found_linked d s (group_set s (unmade_site (d.world.nodes s))) (λ j. no_link) in gone_astray (record e { world = worked_on (noting e.world s next) s })

    comes_as : ComesUpAs s d.world.sites (let y : Node = record n { volumes = [] } in y) k row
    comes_as = record {
      same = record { name = refl; disks = refl; blocks = refl; volumes = refl; up = refl; running = refl; failing = refl; fuse = refl; group = refl };
      whole = refl;
      quiet = refl;
      rests = refl;
      fits = none_fits s d.world.sites;
      starts = λ j linked. let e : false ≡ true = linked in absurd (cc);
    }

    sure : d.after s ≡ None
    sure = away_sure d old new s o (OfGroup t) call

    came : Arrives d shown s k (d.world.gathering s)
    came =
        arrives_then d d shown s n k row (d.world.headers s) (d.after s) (d.world.packets ++ recovery_greeting s k) (d.world.gathering s) (d.world.gathering s) (away_begins d old new s o (OfGroup t) call) (found_effect d s k row)
        (fit_found d s (let y : Node = record n { volumes = [] } in y) k row call.below sure comes_as call.stands.links) sure (append-nil d.world.packets)
        (ap (λ (ss : List ℕ). kept_links row ss) (no_sites row d.world.sites 0 d.world.sites (λ j. refl))) (λ _ made empty. record { state = refl; session = refl; low = refl })

    arrives : Arrives d left s m (d.world.gathering s)
    arrives = arrives_astray d (let e : Doubted = shown in record e { world = worked_on (noting e.world s next) s }) s m (d.world.gathering s) (arrives_worked d shown s k next (d.world.gathering s) came)

    -- ---- the yard

    like : IsLikeGroup group_node m
    like = record {
      state = refl;
      disks = refl;
      blocks = refl;
      group = refl;
      none = λ _. record { role = refl; volumes = refl; log = refl; safe = refl; running = refl };
      fuse = λ q has_fuse. has_fuse;
      unfused = λ is. is;
    }

    up : UpNoted m next (SiteUp r.laid)
    up = up_as group_node m like next (SiteUp r.laid) up_first

    maps : StandMaps next (SiteUp r.laid)
    maps = stands_up memory.0 r.group.middle r.laid.core.inner.config (SiteUp r.laid) refl (record { is = r.group.up.at.lies.config; spells = r.group.up.spells }) memory.1

    there : slice_get new.disk_sets.items s ≡ Some (OfGroup t)
    there = ap (λ (es : List (DiskSet R g)). slice_get es s) call.changed.disk_sets ∙ get-set_same old.disk_sets.items s (OfGroup t) (slice_get_within old.disk_sets.items s (Over o) call.changed.there)

    abbrev facts_now : SiteFacts
    facts_now = group_up_facts (map plain_fact has.config.volumes) (linked_fact d.world s)

    fact : facts_now ≡ fact_of_group m next
    fact = plain_seen (map plain_fact has.config.volumes) d s next (burned n.fuse) call.away (sym (table_is next has.config has.reads))

    follows : SameLoad old new → new.facts.items ≡ slice_set old.facts.items s facts_now → Follows d left old new
    follows load facts =
        follows_on d left s m next facts_now old new (Over o) t call.stands call.below call.changed arrives (up_notes m next (SiteUp r.laid) up).0
        (up_set m next t (record { few = (away_stood d old new s o (OfGroup t) call).0.2; some = (away_stood d old new s o (OfGroup t) call).0.3 }) up maps plain refl r.group.returns.cut)
        (fails_then n m (Over o) (OfGroup t) refl call.failing (call.stands.failing s (Over o) call.below call.changed.there))
        (away_fused d old new s o (OfGroup t) call m (site_disks (SiteUp r.laid)) refl refl keeps) fact facts load

    -- ---- what is known

    told_now : IsTold new → IsTrue (site_below (SiteUp r.laid)).tells
    told_now told = told.each s (OfGroup t) there

    unknown : KnowsNothing (IsTold new) (note_at (d.world.nodes s))
    unknown = knows_nothing (IsTold new) (site_below (SiteUp r.laid)).tells note told_now r.less.was

    ends : RvgFinds (IsTold new) d (GroupImport name) s [] Done left
    ends = FindsPlain 0 false next d call.over tt tt unknown (λ told. r.less.dark (told_now told)) (sym (away_rest d s call.away)) plain refl (record { world = refl; after = λ i. refl; strayed = refl })

    pub away_plain : SameLoad old new
        → ((c : Config) → AtSite (λ y. site_config y ≡ Some c) (let q : GroupSet R g = record { site = SiteUp r.laid; cut = None } in OfGroup q) → c.rvg ≡ None → core_in (let q : GroupSet R g = record { site = SiteUp r.laid; cut = None } in OfGroup q) ≡ None
        → new.facts.items ≡ slice_set old.facts.items s (group_up_facts (map plain_fact c.volumes) (linked_fact d.world s)))
        → LeadsAbove d (GroupImport name) Done old new
    away_plain load facts =
        let f : Follows d left old new = follows load (facts has.config has.has none refl) in
        record {
          next = left;
          fails = [];
          works = inr (subst (λ (j : ℕ). RvgFinds (IsTold new) d (GroupImport name) j [] Done left) (sym number) ends);
          stands = f.stands;
          carries = f.carries;
          rose = rose_still old new s (Over o) (OfGroup t) call.changed.there call.changed.later call.changed.disk_sets;
        }
