-- What a line leads to that starts the group of a site: it stands up with its links, or stays down.
use Rattle.std.proofs.Common.{◌≡◌, ◌∙◌, ◌<◌, ◌≤◌, ◌++◌, ◌+◌, ◌⊎◌, ℕ, Bool, true, List, [], ◌∷◌, length, ap, sym, subst, refl, arith, ⊎_elim}
use Rattle.std.specs.Prelude.{Some, None, Err, map, slice_get, slice_set}
use Rattle.std.proofs.lemmas.Option.{slice_get_within}
use Rattle.vx_model.specs.Sizes.{ring_of}
use Rattle.vx_model.specs.declared.limits.TheConstants.{MOST_NUMBER}
use Rattle.vx_model.specs.declared.no.No.{No}
use Rattle.vx_model.specs.declared.no.No.TheVariants.{Device, Limit, NoConfig}
use Rattle.vx_model.specs.declared.site.SiteState.TheVariants.{Down as IsDown, Up as IsUp}
use Rattle.vx_model.specs.declared.state.KeptLink.{KeptLink}
use Rattle.vx_model.specs.declared.state.State.{State}
use Rattle.vx_disk.specs.Shelf.{Lawful}
use Rattle.vx_disk.specs.declared.shelf.Shelf.{Ghosts}
use Rattle.vx_courier.specs.UnderWay.{FlightStands}
use Rattle.vx_diskset.specs.Asked.{IsRawSet, FailsAs, FusedAs, SameFailing}
use Rattle.vx_diskset.specs.DiskSets.{CameUp, CameUpIs, CrashedAt, Later, RoseAt, no_number, fell_to}
use Rattle.vx_diskset.specs.Holds.{KeptBeside, KeptSite, beside_of, itself, row_links, state_with, sure_of}
use Rattle.vx_diskset.specs.Stands.{IsToldAt, RoleIs, SiteStands}
use Rattle.vx_diskset.specs.declared.disk_set.DiskSet.{DiskSet}
use Rattle.vx_diskset.proofs.TakenBack.{any_down}
use Rattle.vx_history.specs.Doubts.{Doubted, happened}
use Rattle.vx_history.specs.Events.{come_back, restarted_link}
use Rattle.vx_history.specs.World.{Link, Node, Packet}
use Rattle.vx_history.specs.declared.event.Event.TheVariants.{Recover as RecoverAt}
use Rattle.vx_effects.proofs.Fitting.{fit_happened}
use Rattle.vx_effects.proofs.Leaving.{fit_disks}
use Rattle.vx_effects.proofs.Rises.{session_effect}
use Rattle.vx_effects.specs.Restarts.{row_of_kept}
use Rattle.vx_events.proofs.OverSeats.{fact_apart}
use Rattle.vx_events.proofs.Places.{never_some}
use Rattle.vx_events.specs.Effects.{EffectAt}
use Rattle.vx_events.specs.Ends.{Ends, found_linked}
use Rattle.vx_events.specs.Facts.{site_number, volume_fact}
use Rattle.vx_events.specs.Fails.{Fails}
use Rattle.vx_events.specs.Found.{SameDisks}
use Rattle.vx_events.specs.LinkViews.{linked_view}
use Rattle.vx_events.specs.LinkedFacts.{linked_fact}
use Rattle.vx_events.specs.Lists.{Choice}
use Rattle.vx_events.specs.LinksFit.{LinksFit}
use Rattle.vx_events.specs.Stamps.{most_stamp_at}
use Rattle.vx_events.specs.declared.said.Said.{Said}
use Rattle.vx_events.specs.declared.said.Said.TheVariants.{Recovered, Refused}
use Rattle.vx_order.specs.declared.facts.SiteFacts.{SiteFacts}
use Rattle.vx_report.specs.declared.view.SiteView.{SiteView}
use Rattle.vx_script.specs.declared.line.ScriptLine.TheVariants.{Recover}
use Rattle.vx_yard.specs.Carries.{Carries}
use Rattle.vx_above.specs.OwnDisks.{own_disks}
use Rattle.vx_site_lines.specs.Rises.{AreNeeds, IsRisen, LeadsFrom, RisesFrom, RisesTo, can_rise, hello_by, risen_facts}
use Rattle.vx_yard.specs.Standing.{StandsFor}
use Rattle.vx_yard.specs.Stands.{AreTold, RoseAll}
use Rattle.vx_yard.specs.Yards.{IsTold, count_of}
use Rattle.vx_yard.specs.declared.yard.Yard.{Yard}
use Rattle.vx_yard.proofs.Carrying.{SameLoad, carries_node, carries_same}
use Rattle.vx_yard.proofs.CrashLine.{rose_still}
use Rattle.vx_yard.proofs.FailsStay.{fails_then}
use Rattle.vx_yard.proofs.FuseStays.{fused_none}
use Rattle.vx_yard.proofs.Lists.{get-set_same}
use Rattle.vx_yard.proofs.NamedSite.{fact_of}
use Rattle.vx_yard.proofs.NoteSite.{comes_same}
use Rattle.vx_yard.proofs.OneSite.{Changed, Comes, beside_same, role_off, rose_at, stands_still, told_by}
use Rattle.vx_yard.proofs.RawSites.{raw_site, raw_told}
use Rattle.vx_yard.proofs.RecoverLine.{recover_done, session_fact, told_or}
use Rattle.vx_site_lines.proofs.Apart.{fact_stays, over_is, seen_alone}
use Rattle.vx_site_lines.proofs.RiseEnds.{begun_ends, found_ends, none_ends, refused_ends, rose_ends, unread_ends}
use Rattle.vx_site_lines.proofs.RiseLine.{down_h, effect_as, fit_h, found_as, free_h, own_at, own_safe, sure, told_comes, told_kept, told_last, unfused_down, untold_comes, untold_kept}
use Rattle.vx_site_lines.proofs.RiseSite.{ComesUp, SeesDisks, up_carries, up_stands}
use Rattle.vx_above.proofs.RiseWorlds.{behind_disks, own_gathering, own_headers, own_is, own_links, own_node, own_packets, own_session, own_sites, own_view}
use Rattle.vx_yard.proofs.Rows.{fact_like, fact_same}
use Rattle.vx_diskset.proofs.GroupStands.{none_apart}
use Rattle.vx_yard.proofs.OverGroup.{begins_apart, noted_none}

module _ {R : Type 0} {g : Ghosts R} where
  -- the disk set of a site is another, and the rest of the yard is as it was
  pub record Replaced (old y : Yard R g) (s : ℕ) (after : DiskSet R g) : Type 0 where
    pub disk_sets : y.disk_sets.items ≡ slice_set old.disk_sets.items s after
    pub facts : y.facts ≡ old.facts
    pub racks : y.racks ≡ old.racks
    pub flight : y.flight ≡ old.flight
    pub assemblies : y.assemblies ≡ old.assemblies
    pub feeders : y.feeders ≡ old.feeders

  -- where not all of this disk set is told, not all are
  pub never_told : (es fs : List (DiskSet R g)) (s : ℕ) (before after : DiskSet R g) → slice_get es s ≡ Some before → fs ≡ slice_set es s after → IsRawSet after → (IsToldAt after → ⊥) → AreTold fs → ⊥
  never_told es fs s before after there is raw untold told =
      untold (raw_told after raw (told.each s after (ap (λ xs. slice_get xs s) is ∙ get-set_same es s after (slice_get_within es s before there))))

  module _ (lawful : (r : R) → Lawful (g.meaning r)) (d h : Doubted) (old : Yard R g) (s ring : ℕ) (c : Choice) (taken : Bool) (name : List ℕ) (number : site_number d.world name ≡ s)
      (from : RisesFrom d s c taken h) (fit_d : LinksFit d)
      (stands : StandsFor (own_disks taken s d.world h) old) (below : s < h.world.sites) (down : ((own_disks taken s d.world h).world.nodes s).state ≡ IsDown) (apart : ((own_disks taken s d.world h).world.nodes s).group ≡ None)
      (ring_is : ring ≡ ring_of ((own_disks taken s d.world h).world.nodes s).blocks) (before after : DiskSet R g) (there : slice_get old.disk_sets.items s ≡ Some before) (later : Later before after)
      (same : SameFailing before after) where
    abbrev mid : Doubted
    mid = own_disks taken s d.world h

    abbrev m : Node
    m = mid.world.nodes s

    below_mid : s < mid.world.sites
    below_mid = omega (arith, below, own_sites s d.world h taken)

    -- ---- it stands up

    module _ (y new : Yard R g) (replaced : Replaced old y s after) (sites : ℕ) (state : State) (used : List ℕ) (said : Said) (rises : RisesTo s ring state used said y new)
        (sites_is : sites ≡ mid.world.sites) (came : CameUp (beside_of mid s) m after) (role : RoleIs came.node after) (risen : IsRisen s sites came.node state used)
        (links : IsToldAt after → state.links ≡ (beside_of mid s).links) where
      abbrev f : SiteFacts
      f = linked_fact mid.world s

      at_y : slice_get y.facts.items s ≡ Some f
      at_y = ap (λ fs. slice_get fs.items s) replaced.facts ∙ fact_of mid old s stands below_mid ∙ ap (λ (x : SiteFacts). Some x) (fact_apart mid.world s (none_apart (mid.world.nodes s) apart))

      changed : Changed old new s before after
      changed = record { there = there; later = later; disk_sets = ap (λ es. es.items) rises.disk_sets ∙ replaced.disk_sets; racks = rises.racks ∙ replaced.racks }

      here : slice_get y.disk_sets.items s ≡ Some after
      here = ap (λ es. slice_get es s) replaced.disk_sets ∙ get-set_same old.disk_sets.items s after (slice_get_within old.disk_sets.items s before there)

      last_is : rises.last ≡ came.node.safe
      last_is = rises.last_is.each (beside_of mid s) came.node after here came.stands came.same.up came.same.running

      session_is : rises.session ≡ came.node.session
      session_is = rises.session_is.each (beside_of mid s) came.node after here came.stands came.same.up (none_apart came.node (came.same.group ∙ apart))

      facts_are : new.facts.items ≡ slice_set old.facts.items s (risen_facts state came.node.safe ring used f)
      facts_are =
          rises.facts f at_y ∙ ap (λ fs. slice_set fs.items s (risen_facts state rises.last ring used f)) replaced.facts
          ∙ ap (λ (k : ℕ). slice_set old.facts.items s (risen_facts state k ring used f)) last_is

      sees : (k : Node) → SameDisks m k → SeesDisks k f
      sees k disks = record { name = sym disks.name; disks = sym disks.disks; blocks = sym disks.blocks; grouped = ap (λ (x : SiteFacts). x.grouped) (seen_alone m apart); volumes = ap (λ (x : SiteFacts). x.volumes) (seen_alone m apart) ∙ ap (map volume_fact) (sym disks.volumes) }

      feeders_are : new.feeders.items ≡ slice_set old.feeders.items s state.other
      feeders_are = rises.feeders ∙ ap (λ fs. slice_set fs.items s state.other) replaced.feeders

      flies : (ps : List Packet) → FlightStands ps old.flight → FlightStands (ps ++ hello_by s state rises.session rises.last) new.flight
      flies ps flight = rises.flight ps (subst (λ fl. FlightStands ps fl) (sym replaced.flight) flight)

      inside : Carries mid old → s < length old.feeders.items
      inside carries = omega (arith, below_mid, stands.disk_sets.few, carries.numbers)

      rose_here : RoseAll [] (count_of old) (count_of new)
      rose_here = rose_still old new s before after there later changed.disk_sets

      -- contents are told
      module _ (told : IsToldAt after) where
        abbrev last : Doubted
        last = happened h (RecoverAt s None) taken

        abbrev next : Doubted
        next = own_disks taken s d.world last

        abbrev row : ℕ → Link
        row = λ j. restarted_link (come_back (h.world.nodes s)) j (h.world.links s j)

        up : ComesUp mid next s ring came.node row after
        up = told_comes lawful d h old s ring c taken from fit_d stands below down apart ring_is before after there same came told role

        kept : state.links ≡ row_links row mid.world.sites
        kept = links told ∙ sym (told_kept lawful d h old s ring c taken from fit_d stands below down apart ring_is before after there same came told)

        is : state ≡ state_with came.node (row_links row mid.world.sites)
        is = risen.kept ∙ ap (λ (ls : List KeptLink). state_with came.node ls) kept

        needs : AreNeeds came.node (row_links row mid.world.sites) used
        needs = subst (λ (ls : List KeptLink). AreNeeds came.node ls used) kept risen.needs

        stands_next : StandsFor next new
        stands_next = up_stands mid next old new s ring came.node row f state used before after stands below_mid changed up (sees came.node came.same) is needs facts_are

        view : rises.view ≡ linked_view last.world s
        view = rises.shows next stands_next (omega (arith, below_mid, up.effect.site.sites)) (over_is came.node (next.world.nodes s) up.effect.is.node (none_apart came.node up.none)) ∙ own_view taken s d.world last

        told_leads : LeadsFrom mid d (Recover name) said old new
        told_leads = record {
          next = next;
          fails = [];
          done = recover_done (IsTold new) d next s name [] said number
              (rose_ends (IsTold new) d h s c taken name number from rises.last said below
              (down_h lawful d h old s ring c taken from fit_d stands below down apart ring_is before after there same)
              (free_h lawful d h old s ring c taken from fit_d stands below down apart ring_is before after there same came told)
              (last_is ∙ told_last lawful d h old s ring c taken from fit_d stands below down apart ring_is before after there same came told)
              (rises.says ∙ ap (λ (v : SiteView). Recovered rises.last v) view));
          stands = stands_next;
          carries = λ carries. up_carries mid next old new s ring came.node row f state used before after stands below_mid changed up (sees came.node came.same) is needs rises.session rises.last
              session_is last_is flies (rises.assemblies ∙ replaced.assemblies) feeders_are (inside carries) carries;
          rose = rose_here;
        }

      -- they are not
      module _ (untold : IsToldAt after → ⊥) where
        may : can_rise s mid.world.sites state ≡ true
        may = ap (λ (n : ℕ). can_rise s n state) (sym sites_is) ∙ risen.may

        abbrev found_node : Node
        found_node = record came.node { fed_by = came.node.other }

        abbrev noted_node : Node
        noted_node = record found_node { failing = (h.world.nodes s).failing; group = (h.world.nodes s).group }

        abbrev found_row : ℕ → Link
        found_row = row_of_kept state.links

        abbrev found_last : Doubted
        found_last = found_linked h s noted_node found_row

        abbrev found_next : Doubted
        found_next = own_disks taken s d.world found_last

        found_up : ComesUp mid found_next s ring found_node found_row after
        found_up = untold_comes lawful d h old s ring c taken from fit_d stands below down apart ring_is before after there same came untold state may risen.kept role

        found_is : state ≡ state_with found_node (row_links found_row mid.world.sites)
        found_is =
            risen.kept
            ∙ ap (λ (ls : List KeptLink). state_with found_node ls)
            (sym (untold_kept lawful d h old s ring c taken from fit_d stands below down apart ring_is before after there same came untold state may risen.kept))

        found_needs : AreNeeds found_node (row_links found_row mid.world.sites) used
        found_needs =
            subst (λ (ls : List KeptLink). AreNeeds found_node ls used)
            (sym (untold_kept lawful d h old s ring c taken from fit_d stands below down apart ring_is before after there same came untold state may risen.kept)) (record { each = risen.needs.each })

        found_sees : SeesDisks found_node f
        found_sees = let x = sees came.node came.same in record { name = x.name; disks = x.disks; blocks = x.blocks; grouped = x.grouped; volumes = x.volumes }

        found_stands : StandsFor found_next new
        found_stands = up_stands mid found_next old new s ring found_node found_row f state used before after stands below_mid changed found_up found_sees found_is found_needs facts_are

        found_view : rises.view ≡ linked_view found_last.world s
        found_view = rises.shows found_next found_stands (omega (arith, below_mid, found_up.effect.site.sites)) (over_is found_node (found_next.world.nodes s) found_up.effect.is.node (none_apart found_node found_up.none)) ∙ own_view taken s d.world found_last

        untold_leads : LeadsFrom mid d (Recover name) said old new
        untold_leads = record {
          next = found_next;
          fails = [];
          done = recover_done (IsTold new) d found_next s name [] said number
              (found_ends (IsTold new) d h s c taken name number from (never_told old.disk_sets.items new.disk_sets.items s before after there changed.disk_sets (raw_site (beside_of mid s) came.node after (came.same.group ∙ apart) came.stands) untold) noted_node found_row said
              (found_as lawful d h old s ring c taken from fit_d stands below down apart ring_is before after there same came untold state may risen.kept)
              (rises.says ∙ ap (λ (v : SiteView). Recovered rises.last v) found_view ∙ ap (λ (k : ℕ). Recovered k (linked_view found_last.world s)) last_is));
          stands = found_stands;
          carries = λ carries. up_carries mid found_next old new s ring found_node found_row f state used before after stands below_mid changed found_up found_sees found_is found_needs rises.session rises.last
              session_is last_is flies (rises.assemblies ∙ replaced.assemblies) feeders_are (inside carries) carries;
          rose = rose_here;
        }

      pub stood_up : LeadsFrom mid d (Recover name) said old new
      stood_up = ⊎_elim told_leads untold_leads (told_or after)

    -- ---- it stays down

    module _ (new : Yard R g) (replaced : Replaced old new s after) where
      changed_down : Changed old new s before after
      changed_down = record { there = there; later = later; disk_sets = replaced.disk_sets; racks = replaced.racks }

      load : SameLoad old new
      load = record { flight = replaced.flight; assemblies = ap (λ xs. xs.items) replaced.assemblies; feeders = ap (λ xs. xs.items) replaced.feeders }

      facts_still : new.facts.items ≡ old.facts.items
      facts_still = ap (λ fs. fs.items) replaced.facts

      told_was : IsTold new → IsTold old
      told_was = told_by old new s before after changed_down

      stood_down : SiteStands (beside_of mid s) m before
      stood_down = stands.disk_sets.sites s before below_mid there

      fuse_none : (n : Node) → n.fuse ≡ m.fuse → FusedAs n after
      fuse_none n fuse = fused_none n after (fuse ∙ unfused_down (beside_of mid s) m before stood_down apart down)

      off : m.state ≡ IsUp → ⊥
      off up = let e : IsDown ≡ IsUp = sym down ∙ up in cc

      stays : SiteStands (beside_of mid s) m after → StandsFor mid new
      stays at =
          stands_still mid mid old new s before after stands below_mid changed_down
          (comes_same mid s after stands.links at (fails_then m m before after refl same (stands.failing s before below_mid there)) (fuse_none m refl)
          (role_off (beside_of mid s) m m after at off)) (λ first. first) (λ _. noted_none (beside_of mid s) m m after at apart) refl facts_still

      -- so the line ended, with no change or with failed calls alone
      down_leads : (fails : Fails) (said : Said) → Ends (IsTold new) d (Recover name) s fails said mid → SiteStands (beside_of mid s) m after → RoseAll fails (count_of old) (count_of new)
          → LeadsFrom mid d (Recover name) said old new
      down_leads fails said ends at rose = record {
        next = mid;
        fails = fails;
        done = recover_done (IsTold new) d mid s name fails said number ends;
        stands = stays at;
        carries = carries_same mid old new load told_was;
        rose = rose;
      }

      rose_none_here : RoseAll [] (count_of old) (count_of new)
      rose_none_here = rose_still old new s before after there later replaced.disk_sets

      -- in its next session
      module _ (disk : ℕ) (at : SiteStands (beside_of mid s) (record m { session = m.session + 1 }) after) (free : m.session < MOST_NUMBER) (rose : RoseAt before after disk) where
        abbrev begun : Node
        begun = record m { session = m.session + 1 }

        abbrev begun_last : Doubted
        begun_last = happened h (RecoverAt s (Some disk)) taken

        abbrev begun_next : Doubted
        begun_next = own_disks taken s d.world begun_last

        free_hn : (h.world.nodes s).session < MOST_NUMBER
        free_hn = let e = ap (λ (n : Node). n.session) (own_is s d.world h taken) ∙ own_at taken (d.world.nodes s) (h.world.nodes s) in omega (arith, free, e)

        down_hn : (h.world.nodes s).state ≡ IsDown
        down_hn = down_h lawful d h old s ring c taken from fit_d stands below down apart ring_is before after there same

        sure_h : h.after s ≡ None
        sure_h = sure lawful d h old s ring c taken from fit_d stands below down apart ring_is before after there same

        begun_is : own_node taken (d.world.nodes s) (record (h.world.nodes s) { session = (h.world.nodes s).session + 1 }) ≡ begun
        begun_is =
            own_session taken (d.world.nodes s) (h.world.nodes s)
            ∙ ap (λ (n : Node). let k : Node = record n { session = n.session + 1 } in k) (sym (own_is s d.world h taken))

        eff : EffectAt s mid begun_next begun (h.world.links s) (mid.world.headers s) None mid.world.packets (mid.world.gathering s)
        eff =
            effect_as s mid begun_next (own_node taken (d.world.nodes s) (record (h.world.nodes s) { session = (h.world.nodes s).session + 1 })) begun (h.world.links s) (h.world.headers s)
            (mid.world.headers s) (h.after s) None h.world.packets mid.world.packets (h.world.gathering s) (mid.world.gathering s) begun_is (sym (own_headers s d.world h taken)) sure_h
            (sym (own_packets s d.world h taken)) (sym (own_gathering s d.world h taken))
            (behind_disks s d.world h begun_last (record (h.world.nodes s) { session = (h.world.nodes s).session + 1 }) (h.world.links s) (h.world.headers s) (h.after s) h.world.packets
            (h.world.gathering s) taken (session_effect h s disk taken below down_hn free_hn))

        begun_fits : LinksFit begun_next
        begun_fits =
            fit_disks taken s d.world begun_last
            (fit_happened h (RecoverAt s (Some disk)) taken tt (fit_h lawful d h old s ring c taken from fit_d stands below down apart ring_is before after there same))

        links_same : (k : ℕ) → begun_next.world.links s k ≡ mid.world.links s k
        links_same k = eff.is.links k ∙ sym (own_links s d.world h taken k)

        begun_comes : Comes mid begun_next s after
        begun_comes = record {
          changes = eff.site;
          links = begun_fits;
          stands = subst (λ (n : Node). SiteStands (beside_of begun_next s) n after) (sym eff.is.node)
              (subst (λ (b : KeptBeside). SiteStands b begun after) (sym (beside_same mid begun_next s eff.site.sites links_same eff.is.headers (eff.is.after ∙ sym sure_h))) at);
          failing = subst (λ (n : Node). FailsAs n after) (sym eff.is.node) (fails_then m begun before after refl same (stands.failing s before below_mid there));
          fuse = subst (λ (n : Node). FusedAs n after) (sym eff.is.node) (fuse_none begun refl);
          role = role_off (beside_of mid s) begun (begun_next.world.nodes s) after at off;
          doubt = λ was a is. absurd (never_some (sym eff.is.after ∙ is));
        }

        begun_fact : linked_fact begun_next.world s ≡ linked_fact mid.world s
        begun_fact =
            fact_same begun (begun_next.world.nodes s) (mid.world.links s) (begun_next.world.links s) mid.world.sites begun_next.world.sites eff.is.node links_same eff.site.sites
            ∙ fact_like m begun (mid.world.links s) mid.world.sites (sym (session_fact m)) (λ i l. refl)

        begun_leads : LeadsFrom mid d (Recover name) (Refused (Device disk)) old new
        begun_leads = record {
          next = begun_next;
          fails = (s, disk) ∷ [];
          done = recover_done (IsTold new) d begun_next s name ((s, disk) ∷ []) (Refused (Device disk)) number (begun_ends (IsTold new) d h s c taken name number from disk);
          stands = stands_still mid begun_next old new s before after stands below_mid changed_down begun_comes
              (λ _. begins_apart s (beside_of begun_next s) (begun_next.world.nodes s) after begun_comes.stands (over_is begun (begun_next.world.nodes s) eff.is.node (none_apart begun apart)))
              (λ _. noted_none (beside_of begun_next s) (begun_next.world.nodes s) (begun_next.world.nodes s) after begun_comes.stands (ap (λ (n : Node). n.group) eff.is.node ∙ apart)) (fact_stays mid.world begun_next.world s (none_apart (mid.world.nodes s) apart) (over_is begun (begun_next.world.nodes s) eff.is.node (none_apart begun apart)) begun_fact) facts_still;
          carries = carries_node s mid begun_next begun old new load eff.site eff.sent eff.gathering eff.is.node refl refl refl told_was;
          rose = rose_at old new s disk before after changed_down rose;
        }

      -- a refused start
      pub stays_down : (why : No) → CameUpIs (beside_of mid s) m before after (Err why) → LeadsFrom mid d (Recover name) (Refused why) old new
      stays_down (Device disk) x = ⊎_elim
          (λ (at : SiteStands (beside_of mid s) m after). down_leads ((s, disk) ∷ []) (Refused (Device disk)) (unread_ends (IsTold new) d h s c taken name number from disk) at (rose_at old new s disk before after changed_down x.1))
          (λ at. begun_leads disk at.0 at.1 x.1) x.0
      stays_down (Limit what most) x =
          subst (λ (why : No). LeadsFrom mid d (Recover name) (Refused why) old new) (sym x.0)
          (down_leads [] (Refused no_number)
          (none_ends (IsTold new) d h s c taken name number from
          (λ told. let far = x.1 (raw_told after (raw_site (beside_of mid s) m after apart x.2)
          (told.each s after (ap (λ es. slice_get es s) replaced.disk_sets ∙ get-set_same old.disk_sets.items s after (slice_get_within old.disk_sets.items s before there)))) in
          stamp_h far)) x.2 rose_none_here)
        where
          stamp_h : MOST_NUMBER ≤ most_stamp_at mid.world s + 2 → MOST_NUMBER ≤ most_stamp_at h.world s + 2
          stamp_h far =
              let session = ap (λ (n : Node). n.session) (own_is s d.world h taken) ∙ own_at taken (d.world.nodes s) (h.world.nodes s) in
              let safe = ap (λ (n : Node). n.safe) (own_is s d.world h taken) ∙ own_safe taken (d.world.nodes s) (h.world.nodes s) in
              let headers = own_headers s d.world h taken in
              omega (arith, far, session, safe, headers)
      stays_down other x =
          down_leads [] (Refused other) (refused_ends (IsTold new) d h s c taken name number from (never_told old.disk_sets.items new.disk_sets.items s before after there replaced.disk_sets (raw_site (beside_of mid s) m after apart x.1) x.0) other tt) x.1
          rose_none_here

      -- what came up went down again, as no site of these can have what its log keeps
      pub withdrawn : (up : DiskSet R g) (b : KeptBeside) (k : Node) → (IsToldAt after → ⊥) → SameDisks m k → b.doubt ≡ None → CrashedAt b k after → LeadsFrom mid d (Recover name) (Refused NoConfig) old new
      withdrawn up b k untold disks sure fell =
          down_leads [] (Refused NoConfig) (refused_ends (IsTold new) d h s c taken name number from (never_told old.disk_sets.items new.disk_sets.items s before after there replaced.disk_sets (raw_site (sure_of fell.kept) (fell_to k fell.kept.node fell.count) after (disks.group ∙ apart) fell.stands) untold) NoConfig tt)
          (⊎_elim
          (λ (own : fell.kept ≡ itself b k).
          any_down (sure_of fell.kept) (beside_of mid s) m (fell_to k fell.kept.node fell.count) before after untold down refl
          (ap (λ (x : KeptSite). x.node.disks) own ∙ disks.disks) (ap (λ (x : KeptSite). x.node.blocks) own ∙ disks.blocks) apart
          (disks.group ∙ apart) stood_down fell.stands)
          (λ other. absurd (never_some (sym sure ∙ other))) fell.is)
          rose_none_here
