-- What an import of a site whose group has a replicated volume group leads its yard to, where both come up.
use Rattle.std.proofs.Common.{◌≡◌, ◌∙◌, ◌≤◌, ℕ, true, false, List, [], map, ap, sym, subst, refl, arith, inl}
use Rattle.std.specs.Prelude.{None, Some, slice_set}
use Rattle.vx_model.specs.Sites.{is_origin}
use Rattle.vx_disk.specs.declared.shelf.Shelf.{Ghosts}
use Rattle.vx_config.specs.declared.config.Config.{Config}
use Rattle.vx_kept.specs.Cleans.{at_serial}
use Rattle.vx_history.specs.Doubts.{Doubted, happened}
use Rattle.vx_history.specs.Groups.{GroupNode}
use Rattle.vx_history.specs.Steps.{burned, recovered, worked_on}
use Rattle.vx_history.specs.Volumes.{as_volume}
use Rattle.vx_history.specs.World.{Node}
use Rattle.vx_history.specs.declared.event.Event.TheVariants.{Recover as RecoverAt}
use Rattle.vx_script.specs.declared.line.ScriptLine.TheVariants.{GroupImport}
use Rattle.vx_grouped.specs.GroupSites.{site_config, site_disks}
use Rattle.vx_grouped.specs.SiteReturns.{KeepsFuse, as_imported}
use Rattle.vx_diskset.proofs.NotedLikes.{cut_none}
use Rattle.vx_diskset.proofs.Roles.{role_origin}
use Rattle.vx_diskset.specs.Aboves.{site_in}
use Rattle.vx_diskset.specs.GroupCalls.{AtSite, core_in}
use Rattle.vx_diskset.specs.Holds.{KeptBeside, beside_of}
use Rattle.vx_diskset.specs.Noted.{IsNamed, NotedOver, SiteNoted}
use Rattle.vx_diskset.specs.OverRises.{RoseAgain, came_with}
use Rattle.vx_diskset.specs.Stands.{SiteStands}
use Rattle.vx_diskset.specs.declared.disk_set.DiskSet.TheVariants.{Over}
use Rattle.vx_diskset.specs.declared.over_set.OverSet.{OverSet}
use Rattle.vx_rvg.specs.Views.{Core}
use Rattle.vx_events.proofs.Places.{some_same}
use Rattle.vx_events.proofs.RvgEvents.{rvg_apart}
use Rattle.vx_events.proofs.RvgStays.{loses, then_keeps}
use Rattle.vx_events.specs.Facts.{site_number}
use Rattle.vx_events.specs.Fails.{Fails}
use Rattle.vx_events.specs.GroupLines.{is_over_group, noting}
use Rattle.vx_events.specs.GroupNotes.{NotesBack, note_at}
use Rattle.vx_events.specs.GroupViews.{config_of}
use Rattle.vx_events.specs.LinkedFacts.{linked_fact}
use Rattle.vx_events.specs.RvgFits.{NoteKeepsRvg, data_of}
use Rattle.vx_events.specs.RvgTakes.{RvgTaken, RvgTakes}
use Rattle.vx_events.specs.RvgViews.{is_over_rvg}
use Rattle.vx_events.specs.RvgWorks.{NotesWork}
use Rattle.vx_events.specs.StepsOver.{fact_over}
use Rattle.vx_events.specs.declared.said.Said.TheVariants.{Done}
use Rattle.vx_yard.proofs.Carrying.{SameLoad}
use Rattle.vx_yard.proofs.OverGroup.{both_ways}
use Rattle.vx_yard.specs.AboveLines.{LeadsAbove}
use Rattle.vx_yard.specs.Standing.{StandsFor}
use Rattle.vx_yard.specs.Yards.{IsTold}
use Rattle.vx_yard.specs.declared.yard.Yard.{Yard}
use Rattle.vx_above.proofs.Changing.{notes_config}
use Rattle.vx_above.proofs.OverSites.{over_again}
use Rattle.vx_group_lines.specs.Noting.{made_facts}
use Rattle.vx_group_lines.proofs.Arriving.{Arrives, arrives_worked}
use Rattle.vx_group_lines.proofs.AwayCalls.{AwayCall, away_begins, away_call, away_carries, away_fused, away_links, away_made, away_named, away_origin, away_some, away_stands, away_sure}
use Rattle.vx_group_lines.proofs.AwayEvents.{arrives_back, back_headers}
use Rattle.vx_group_lines.proofs.RvgComing.{RestCall}
use Rattle.vx_group_lines.proofs.RvgFacts.{gained_fact, up_seen}
use Rattle.vx_group_lines.proofs.RvgReturns.{calls_are_of, calls_at, calls_rose, extra_at, group_back, group_keeps, group_works, many_at, named_again}
use Rattle.vx_group_lines.proofs.RvgStanding.{RvgOver, rvg_over, set_volumes}
use Rattle.vx_group_lines.proofs.RvgWorlds.{beside_as}

module _ {R : Type 0} {g : Ghosts R} (d : Doubted) (old new : Yard R g) (name : List ℕ) (s : ℕ) (number : site_number d.world name ≡ s) (o p : OverSet R g) (call : AwayCall d old new s o (Over p)) (keeps : KeepsFuse (as_imported (site_in o)) (site_disks (site_in p)))
    (r : RoseAgain (beside_of d s) (d.world.nodes s) (note_at (d.world.nodes s)) (site_in o) p) where
  abbrev n : Node
  n = d.world.nodes s

  abbrev note : GroupNode
  note = note_at (d.world.nodes s)

  abbrev resting : RestCall d old new s o (Over p)
  resting = away_call d old new s o (Over p) call

  abbrev next : GroupNode
  next = r.over.next

  abbrev risen : Node
  risen = came_with (burned (d.world.nodes s).fuse) r.over.next (d.world.nodes s)

  abbrev last_world : Doubted
  last_world = let e : Doubted = happened d (RecoverAt s None) false in record e { world = worked_on (noting e.world s r.over.next) s }

  last : (k : ℕ) → (site_disks (site_in p)).disk_faults k ≤ (site_disks (site_in p)).disk_faults k
  last k = omega arith

  origin : is_origin (d.world.nodes s).role ≡ true
  origin = away_origin d old new s o (Over p) call

  some : (d.world.nodes s).volumes ≡ [] → ⊥
  some none = away_some d old new s o (Over p) call none

  begins : Arrives d d s (d.world.nodes s) (d.world.gathering s)
  begins = away_begins d old new s o (Over p) call

  -- ---- the note

  abbrev extra : ℕ
  extra = extra_at d old new s o p resting r.laid r.group p r.to last next r.over.works r.over.goes r.over.agrees

  abbrev many : ℕ
  many = many_at d old new s o p resting r.laid r.group p r.to last extra

  abbrev fails : Fails
  fails = calls_at d old new s o p resting many

  back : NotesBack (IsTold new) s (d.world.nodes s) fails (note_at (d.world.nodes s)) r.group.middle
  back = group_back d old new s o p resting r.laid r.group p r.to last n extra refl refl (λ _. r.told)

  keeps_back : NoteKeepsRvg note r.group.middle
  keeps_back = group_keeps d old new s o p resting r.laid r.group p r.to last r.told r.named

  works : NotesWork ⊥ s fails r.group.middle next
  works = group_works d old new s o p resting r.laid r.group p r.to last next r.over.works r.over.goes r.over.agrees extra (omega arith)

  keeps_next : NoteKeepsRvg note next
  keeps_next = then_keeps note r.group.middle next keeps_back (loses s fails r.group.middle next works)

  named : IsNamed risen
  named = named_again n risen next refl refl keeps_next (cut_none risen next refl (r.over.works.same.cut ∙ r.group.returns.cut)) (away_named d old new s o (Over p) call)

  -- ---- the world

  arrives : Arrives d last_world s risen (d.world.gathering s)
  arrives = arrives_worked d (happened d (RecoverAt s None) false) s (recovered n) next (d.world.gathering s) (arrives_back d d s n (d.world.gathering s) begins call.below call.away some r.over.session origin)

  same_beside : beside_of last_world s ≡ beside_of d s
  same_beside =
      beside_as d last_world s (away_links d old new s o (Over p) call) arrives.links (back_headers d d s n (d.world.gathering s) begins call.below call.away some r.over.session) (away_sure d old new s o (Over p) call) arrives.sure

  over : is_over_rvg risen ≡ true
  over = over_again n risen next call.over refl refl

  apart : is_over_group risen ≡ false
  apart = rvg_apart risen over

  noted_at_last : NotedOver risen (Over p)
  noted_at_last = ((λ k is. subst (λ (y : GroupNode). SiteNoted risen y (Over p)) (some_same is) r.over.noted), named)

  -- what came up
  came : RvgOver (beside_of d s) risen r.over.next (Over p)
  came = rvg_over (beside_of d s) risen next (Over p) r.over.stands r.over.noted apart refl origin

  config_there : config_of next.config ≡ Some (at_serial 0 came.config)
  config_there = notes_config next came.config came.noted

  same_config : named.0 ≡ at_serial 0 came.config
  same_config = some_same (sym named.2 ∙ config_there)

  seen : made_facts came.core came.config (linked_fact d.world s) ≡ fact_over last_world.world s
  seen =
      away_made came.core came.config d.world s note call.away
      ∙ gained_fact last_world.world s n risen note next came.core came.config named.1 arrives.node refl config_there refl over apart
      (ap (λ (c : Config). c.rvg) (sym same_config) ∙ named.3)
      (subst (λ (c : Config). risen.volumes ≡ map as_volume (data_of c.volumes named.1)) same_config named.4)
      arrives.links refl refl refl
      (up_seen (beside_of d s) risen came.core (set_volumes (Over p)) came.stands refl (omega (arith, came.stands.logged, came.stands.durable refl)))

  -- what the tests of the yard see of it
  abbrev pub MadeFacts : Type 0
  MadeFacts =
      (core : Core) (c : Config) → core_in (Over p) ≡ Some core → AtSite (λ x. site_config x ≡ Some c) (Over p) → new.facts.items ≡ slice_set old.facts.items s (made_facts core c (linked_fact d.world s))

  stands : MadeFacts → StandsFor last_world new
  stands made =
      away_stands d old new s o (Over p) call last_world risen (d.world.gathering s) arrives (subst (λ (q : KeptBeside). SiteStands q risen (Over p)) (sym same_beside) r.over.stands) refl
      (away_fused d old new s o (Over p) call risen (site_disks (site_in p)) refl refl keeps) (role_origin risen (Over p) origin) (made_facts came.core came.config (linked_fact d.world s)) noted_at_last seen
      (made came.core came.config came.has_core came.has)

  -- ---- the line

  pub away_rose : SameLoad old new → MadeFacts → LeadsAbove d (GroupImport name) Done old new
  away_rose load made = record {
    next = last_world;
    fails = fails;
    works = inl (subst (λ (k : ℕ). RvgTakes (IsTold new) d (GroupImport name) k fails Done last_world) (sym number)
        (RvgTaken name r.group.middle next call.over refl (calls_are_of d old new s o p resting many) back keeps_back works refl (record { world = refl; after = λ i. refl; strayed = refl })));
    stands = stands made;
    carries = λ was. away_carries d old new s o (Over p) call last_world risen arrives (λ up receives. both_ways origin receives) load was;
    rose = calls_rose d old new s o p resting many;
  }
