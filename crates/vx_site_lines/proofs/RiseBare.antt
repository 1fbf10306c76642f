-- What a line leads to that starts what an earlier run left on the disks of a bare site.
use Rattle.std.proofs.Common.{◌≡◌, ◌∙◌, ◌<◌, ◌++◌, ◌-◌, ℕ, true, false, List, [], ◌∷◌, ap, sym, subst, refl, arith, inl}
use Rattle.std.specs.Prelude.{Some, None, Err, ◌&&◌, ◌||◌, map, slice_get, slice_set}
use Rattle.std.proofs.lemmas.Option.{slice_get_within}
use Rattle.vx_model.specs.Sites.{is_origin}
use Rattle.vx_model.specs.Sizes.{ring_of}
use Rattle.vx_model.specs.declared.no.No.{No}
use Rattle.vx_model.specs.declared.no.No.TheVariants.{Device, NoConfig}
use Rattle.vx_model.specs.declared.site.SiteState.TheVariants.{Bare as IsBare, Up as IsUp}
use Rattle.vx_model.specs.declared.state.KeptLink.{KeptLink}
use Rattle.vx_model.specs.declared.state.State.{State}
use Rattle.vx_disk.specs.Shelf.{Lawful}
use Rattle.vx_disk.specs.declared.shelf.Shelf.{Ghosts}
use Rattle.vx_courier.specs.UnderWay.{FlightStands}
use Rattle.vx_diskset.specs.Asked.{SameFailing}
use Rattle.vx_diskset.specs.DiskSets.{BareUp, BareUpIs, Later, RoseAt}
use Rattle.vx_diskset.specs.Holds.{KeptBeside, beside_of, row_links, state_with}
use Rattle.vx_diskset.specs.Stands.{IsToldAt, RoleIs, SiteStands}
use Rattle.vx_diskset.specs.declared.disk_set.DiskSet.{DiskSet}
use Rattle.vx_diskset.proofs.TakenBack.{any_links}
use Rattle.vx_history.proofs.Updates.{and_left, and_right}
use Rattle.vx_history.specs.Doubts.{Doubted}
use Rattle.vx_history.specs.Events.{recovery_greeting}
use Rattle.vx_history.specs.Refusals.{refused}
use Rattle.vx_history.specs.Steps.{raw_set, raw_volumes}
use Rattle.vx_history.specs.World.{Link, Node, NoFuse, Packet}
use Rattle.vx_history.specs.declared.event.Event.TheVariants.{Recover as RecoverAt}
use Rattle.vx_effects.proofs.Leaving.{fit_found}
use Rattle.vx_effects.proofs.Restarts.{found_again, found_fits, found_kept}
use Rattle.vx_effects.specs.Restarts.{are_fine, row_of_kept}
use Rattle.vx_events.proofs.OverSeats.{fact_apart}
use Rattle.vx_events.proofs.Places.{some_same}
use Rattle.vx_events.proofs.Steps.{bare_step}
use Rattle.vx_events.specs.Effects.{EffectAt}
use Rattle.vx_events.specs.Ends.{DiskFails, Ends, FindsLinks, FindsNone, FromBare, found_linked}
use Rattle.vx_events.specs.Facts.{site_number, volume_fact}
use Rattle.vx_events.specs.Fails.{Fails}
use Rattle.vx_events.specs.Found.{ComesUpAs}
use Rattle.vx_events.specs.LinkViews.{linked_view}
use Rattle.vx_events.specs.GroupLines.{is_over_group}
use Rattle.vx_events.specs.LinkedFacts.{linked_fact}
use Rattle.vx_events.specs.LinksFit.{LinksFit}
use Rattle.vx_events.specs.declared.said.Said.{Said}
use Rattle.vx_events.specs.declared.said.Said.TheVariants.{Recovered, Refused}
use Rattle.vx_model.specs.Refusals.{IsNoDevice}
use Rattle.vx_order.specs.declared.facts.SiteFacts.{SiteFacts}
use Rattle.vx_order.specs.declared.facts.VolumeFacts.{VolumeFacts}
use Rattle.vx_report.specs.declared.view.SiteView.{SiteView}
use Rattle.vx_script.specs.declared.line.ScriptLine.TheVariants.{Recover}
use Rattle.vx_diskset.proofs.Roles.{role_like}
use Rattle.vx_yard.specs.Changes.{raw_facts}
use Rattle.vx_site_lines.specs.Rises.{AreNeeds, IsRisen, RisesTo, can_rise, hello_by, is_none, is_quiet, risen_facts}
use Rattle.vx_yard.specs.Standing.{Leads, StandsFor}
use Rattle.vx_yard.specs.Stands.{RoseAll}
use Rattle.vx_yard.specs.Yards.{IsTold, count_of}
use Rattle.vx_yard.specs.declared.yard.Yard.{Yard}
use Rattle.vx_yard.proofs.Carrying.{SameLoad, carries_on, carries_same, feeds_same}
use Rattle.vx_yard.proofs.CrashLine.{rose_still}
use Rattle.vx_yard.proofs.FailsStay.{fails_then}
use Rattle.vx_site_lines.proofs.Apart.{bare_over, over_is}
use Rattle.vx_site_lines.proofs.FetchLine.{no_more, recounted, recounted_fits}
use Rattle.vx_yard.proofs.FuseStays.{fused_none}
use Rattle.vx_yard.proofs.Lists.{get-set_same, set_twice}
use Rattle.vx_yard.proofs.NamedSite.{fact_of}
use Rattle.vx_yard.proofs.NoteSite.{comes_same, one_left}
use Rattle.vx_yard.proofs.OneSite.{Changed, Comes, beside_same, role_off, rose_at, stands_still, told_by}
use Rattle.vx_yard.proofs.OverGroup.{none_rvg, noted_none}
use Rattle.vx_site_lines.proofs.RawSite.{bare_at, bare_sure}
use Rattle.vx_site_lines.proofs.RiseLeads.{Replaced, never_told}
use Rattle.vx_yard.proofs.RawSites.{bare_set, raw_site}
use Rattle.vx_yard.proofs.RecoverLine.{bare_events, recover_done}
use Rattle.vx_site_lines.proofs.RiseLine.{effect_as, plain_of, quiet_is, row_starts, shape_at}
use Rattle.vx_above.proofs.SeenSites.{IsWhole}
use Rattle.vx_site_lines.proofs.RiseSite.{ComesUp, SeesDisks, up_carries, up_stands}
use Rattle.vx_above.proofs.RiseWorlds.{found_effect}
use Rattle.vx_yard.proofs.SiteEvents.{first_choice}
use Rattle.vx_diskset.proofs.GroupStands.{none_apart}

module _ {R : Type 0} {g : Ghosts R} where
  -- a site of which a refused event counts no header
  comes_counted : (d : Doubted) (s : ℕ) (after : DiskSet R g) → Comes d d s after → Comes d (recounted d d.world) s after
  comes_counted d s after comes = record {
    changes = record { sites = refl; nodes = λ i apart. refl; links = λ i k apart. refl; headers = λ i apart. no_more (d.world.headers i); after = λ i apart. refl; strayed = λ calm. calm; gathering = λ i apart. refl };
    links = recounted_fits d comes.links;
    stands = subst (λ (b : KeptBeside). SiteStands b (d.world.nodes s) after) (sym (beside_same d (recounted d d.world) s refl (λ k. refl) (no_more (d.world.headers s)) refl)) comes.stands;
    failing = comes.failing;
    fuse = comes.fuse;
    role = comes.role;
    doubt = comes.doubt;
  }

  module _ (d : Doubted) (old : Yard R g) (s : ℕ) (name : List ℕ) (number : site_number d.world name ≡ s) (stands : StandsFor d old) (below : s < d.world.sites) (bare : (d.world.nodes s).state ≡ IsBare)
      (before after : DiskSet R g) (there : slice_get old.disk_sets.items s ≡ Some before) (later : Later before after) (same : SameFailing before after) where
    abbrev n : Node
    n = d.world.nodes s

    stood : SiteStands (beside_of d s) n before
    stood = stands.disk_sets.sites s before below there

    unfused : n.fuse ≡ NoFuse
    unfused = (bare_at (beside_of d s) n before stood bare).2

    none_noted : n.group ≡ None
    none_noted = (bare_at (beside_of d s) n before stood bare).3

    -- ---- it stays bare

    module _ (new : Yard R g) (replaced : Replaced old new s after) (at : SiteStands (beside_of d s) n after) where
      changed : Changed old new s before after
      changed = record { there = there; later = later; disk_sets = replaced.disk_sets; racks = replaced.racks }

      load : SameLoad old new
      load = record { flight = replaced.flight; assemblies = ap (λ xs. xs.items) replaced.assemblies; feeders = ap (λ xs. xs.items) replaced.feeders }

      still : Comes d d s after
      still =
          comes_same d s after stands.links at (fails_then n n before after refl same (stands.failing s before below there)) (fused_none n after unfused)
          (role_off (beside_of d s) n n after at (λ up. let e : IsBare ≡ IsUp = sym bare ∙ up in cc))

      facts_still : new.facts.items ≡ old.facts.items
      facts_still = ap (λ fs. fs.items) replaced.facts

      told_was : IsTold new → IsTold old
      told_was = told_by old new s before after changed

      rose_here : RoseAll [] (count_of old) (count_of new)
      rose_here = rose_still old new s before after there later replaced.disk_sets

      bare_leads : (fails : Fails) (said : Said) → Ends (IsTold new) d (Recover name) s fails said d → RoseAll fails (count_of old) (count_of new) → Leads d (Recover name) said old new
      bare_leads fails said ends rose = record {
        next = d;
        fails = fails;
        done = recover_done (IsTold new) d d s name fails said number ends;
        stands = stands_still d d old new s before after stands below changed still (λ first. first) (λ _. noted_none (beside_of d s) n n after at none_noted) refl facts_still;
        carries = carries_same d old new load told_was;
        rose = rose;
      }

      -- nothing is made of it
      pub none_leads : Leads d (Recover name) (Refused NoConfig) old new
      none_leads = record {
        next = recounted d d.world;
        fails = [];
        done = recover_done (IsTold new) d (recounted d d.world) s name [] (Refused NoConfig) number
            (one_left (IsTold new) d (Recover name) s first_choice (RecoverAt s None) (refused d.world NoConfig) (Refused NoConfig) (recounted d d.world).world (bare_events d s name number bare) refl
            (bare_step d.world s None below bare) refl refl);
        stands = stands_still d (recounted d d.world) old new s before after stands below changed (comes_counted d s after still) (λ first. first) (λ _. noted_none (beside_of d s) n n after at none_noted) refl facts_still;
        carries = λ carries. carries_on d (recounted d d.world) old new carries load refl (λ i. refl) (λ i. feeds_same (d.world.nodes i) (d.world.nodes i) refl) told_was (λ calm. calm);
        rose = rose_here;
      }

      pub unread_leads : (disk : ℕ) → RoseAt before after disk → Leads d (Recover name) (Refused (Device disk)) old new
      unread_leads disk rose =
          bare_leads ((s, disk) ∷ []) (Refused (Device disk))
          (DiskFails first_choice false [] (RecoverAt s None) [] [] disk (bare_events d s name number bare) (inl refl) tt refl refl (record { world = refl; after = λ i. refl; strayed = refl }))
          (rose_at old new s disk before after changed rose)

      pub untold_none : (why : No) → IsNoDevice why → (IsToldAt after → ⊥) → Leads d (Recover name) (Refused why) old new
      untold_none why other untold =
          bare_leads [] (Refused why)
          (FindsNone (never_told old.disk_sets.items new.disk_sets.items s before after there replaced.disk_sets (bare_set (beside_of d s) n after at bare) untold) first_choice false name d (raw_set s n) why refl (FromBare bare refl refl) other refl refl
          (record { world = refl; after = λ i. refl; strayed = refl })) rose_here

    pub stays_bare : (new : Yard R g) → Replaced old new s after → (why : No) → BareUpIs n before after (Err why) → Leads d (Recover name) (Refused why) old new
    stays_bare new replaced (Device disk) x = unread_leads new replaced (x.0 (beside_of d s)) disk x.1
    stays_bare new replaced NoConfig x = none_leads new replaced (x (beside_of d s))
    stays_bare new replaced other x = untold_none new replaced (x.1 (beside_of d s)) other tt x.0

    -- ---- it comes up

    module _ (lawful : (r : R) → Lawful (g.meaning r)) (y new : Yard R g) (site : SiteFacts) (volumes : List VolumeFacts) (ring sites : ℕ) (state : State) (used : List ℕ) (said : Said)
        (site_at : slice_get old.facts.items s ≡ Some site) (table : volumes ≡ map volume_fact (raw_volumes 1 (site.disks - 2) site.blocks)) (ring_is : ring ≡ ring_of site.blocks)
        (facts : y.facts.items ≡ slice_set old.facts.items s (raw_facts s volumes site)) (disk_sets : y.disk_sets.items ≡ slice_set old.disk_sets.items s after) (racks : y.racks ≡ old.racks)
        (flight : y.flight ≡ old.flight) (assemblies : y.assemblies ≡ old.assemblies) (feeders : y.feeders ≡ old.feeders)
        (rises : RisesTo s ring state used said y new) (sites_is : sites ≡ d.world.sites) (found : BareUp n after) (role : RoleIs found.node after) (risen : IsRisen s sites found.node state used) where
      abbrev k : Node
      k = record found.node { fed_by = found.node.other }

      abbrev row : ℕ → Link
      row = row_of_kept state.links

      abbrev next : Doubted
      next = found_linked d s k row

      sure : d.after s ≡ None
      sure = bare_sure d s bare stands.links

      may : can_rise s d.world.sites state ≡ true
      may = ap (λ (m : ℕ). can_rise s m state) (sym sites_is) ∙ risen.may

      fine : are_fine s d.world.sites state.links ≡ true
      fine = and_left (are_fine s d.world.sites state.links) (is_origin state.role || is_none state.links) (and_right (is_quiet state.phase) (are_fine s d.world.sites state.links && (is_origin state.role || is_none state.links)) may)

      origin : (is_origin k.role || is_none state.links) ≡ true
      origin = ap (λ (x : State). is_origin x.role || is_none state.links) (sym risen.kept)
          ∙ and_right (are_fine s d.world.sites state.links) (is_origin state.role || is_none state.links) (and_right (is_quiet state.phase) (are_fine s d.world.sites state.links && (is_origin state.role || is_none state.links)) may)

      comes_as : ComesUpAs s d.world.sites (raw_set s n) k row
      comes_as = record {
        same = let x = found.same in record { name = x.name; disks = x.disks; blocks = x.blocks; volumes = x.volumes; up = x.up; running = x.running; failing = x.failing; fuse = x.fuse; group = x.group };
        whole = found.whole;
        quiet = ap (λ (x : State). x.phase) (sym risen.kept)
            ∙ quiet_is state.phase (and_left (is_quiet state.phase) (are_fine s d.world.sites state.links && (is_origin state.role || is_none state.links)) may);
        rests = refl;
        fits = found_fits s d.world.sites state.links fine;
        starts = row_starts state.links (is_origin k.role) origin;
      }

      abbrev beside_now : KeptBeside
      beside_now = record { links = row_links row d.world.sites; headers = d.world.headers s; doubt = None }

      none : k.group ≡ None
      none = found.same.group ∙ none_noted

      apart : is_over_group k ≡ false
      apart = none_apart k none

      stands_now : SiteStands beside_now k after
      stands_now = any_links lawful beside_now beside_now found.node found.node.other after found.untold refl found.same.up none (found.stands beside_now refl)

      fact_is : site ≡ linked_fact d.world s
      fact_is = some_same (sym site_at ∙ fact_of d old s stands below) ∙ fact_apart d.world s (bare_over d old s stands below bare)

      blocks_is : site.blocks ≡ n.blocks
      blocks_is = ap (λ (x : SiteFacts). x.blocks) fact_is

      whole_now : IsWhole k ring
      whole_now =
          let shape = shape_at beside_now k after stands_now none (λ is. let e : IsUp ≡ IsBare = sym found.same.up ∙ is in cc) in
          record {
            up = found.same.up;
            running = found.same.running;
            whole = found.whole;
            low = shape.0;
            ring = ring_is ∙ ap ring_of (blocks_is ∙ sym found.same.blocks) ∙ sym shape.1;
          }

      fits_now : LinksFit next
      fits_now = fit_found d s (raw_set s n) k row below sure comes_as stands.links

      effect_now : EffectAt s d next k row (d.world.headers s) None (d.world.packets ++ recovery_greeting s k) (d.world.gathering s)
      effect_now =
          effect_as s d next k k row (d.world.headers s) (d.world.headers s) (d.after s) None (d.world.packets ++ recovery_greeting s k) (d.world.packets ++ recovery_greeting s k)
          (d.world.gathering s) (d.world.gathering s) refl refl sure refl refl (found_effect d s k row)

      up : ComesUp d next s ring k row after
      up = record {
        effect = effect_now;
        fits = fits_now;
        plain = plain_of s next row fits_now effect_now.is.links;
        again = found_again s d.world.sites state.links fine;
        whole = whole_now;
        none = none;
        rests = refl;
        stands = stands_now;
        failing = fails_then n k before after found.same.failing same (stands.failing s before below there);
        fuse = fused_none k after (found.same.fuse ∙ unfused);
        role = role_like found.node k after refl role;
      }

      abbrev raw : SiteFacts
      raw = raw_facts s volumes site

      sees : SeesDisks k raw
      sees = record {
        name = ap (λ (x : SiteFacts). x.name) fact_is ∙ sym found.same.name;
        disks = ap (λ (x : SiteFacts). x.disks) fact_is ∙ sym found.same.disks;
        blocks = blocks_is ∙ sym found.same.blocks;
        grouped = ap (λ (x : SiteFacts). x.grouped) fact_is ∙ none_rvg n none_noted;
        volumes = table ∙ ap (λ (x : SiteFacts). map volume_fact (raw_volumes 1 (x.disks - 2) x.blocks)) fact_is ∙ ap (map volume_fact) (sym found.same.volumes);
      }

      changed_up : Changed old new s before after
      changed_up = record { there = there; later = later; disk_sets = ap (λ es. es.items) rises.disk_sets ∙ disk_sets; racks = rises.racks ∙ racks }

      here : slice_get y.disk_sets.items s ≡ Some after
      here = ap (λ es. slice_get es s) disk_sets ∙ get-set_same old.disk_sets.items s after (slice_get_within old.disk_sets.items s before there)

      raw_at : slice_get y.facts.items s ≡ Some raw
      raw_at = ap (λ fs. slice_get fs s) facts ∙ get-set_same old.facts.items s raw (slice_get_within old.facts.items s site site_at)

      last_is : rises.last ≡ found.node.safe
      last_is = rises.last_is.each beside_now found.node after here (found.stands beside_now refl) found.same.up found.same.running

      session_is : rises.session ≡ found.node.session
      session_is = rises.session_is.each beside_now found.node after here (found.stands beside_now refl) found.same.up apart

      facts_are : new.facts.items ≡ slice_set old.facts.items s (risen_facts state k.safe ring used raw)
      facts_are =
          rises.facts raw raw_at ∙ ap (λ fs. slice_set fs s (risen_facts state rises.last ring used raw)) facts ∙ set_twice old.facts.items s raw (risen_facts state rises.last ring used raw)
          ∙ ap (λ (x : ℕ). slice_set old.facts.items s (risen_facts state x ring used raw)) last_is

      kept_is : row_links row d.world.sites ≡ state.links
      kept_is = found_kept s d.world.sites state.links fine

      state_is : state ≡ state_with k (row_links row d.world.sites)
      state_is = risen.kept ∙ ap (λ (ls : List KeptLink). state_with k ls) (sym kept_is)

      needs : AreNeeds k (row_links row d.world.sites) used
      needs = subst (λ (ls : List KeptLink). AreNeeds k ls used) (sym kept_is) (record { each = risen.needs.each })

      stands_next : StandsFor next new
      stands_next = up_stands d next old new s ring k row raw state used before after stands below changed_up up sees state_is needs facts_are

      flies : (ps : List Packet) → FlightStands ps old.flight → FlightStands (ps ++ hello_by s state rises.session rises.last) new.flight
      flies ps fly = rises.flight ps (subst (λ fl. FlightStands ps fl) (sym flight) fly)

      pub stands_up_bare : Leads d (Recover name) said old new
      stands_up_bare = record {
        next = next;
        fails = [];
        done = recover_done (IsTold new) d next s name [] said number
            (FindsLinks (never_told old.disk_sets.items new.disk_sets.items s before after there changed_up.disk_sets (raw_site beside_now k after none stands_now) found.untold) first_choice false name d (raw_set s n) k row refl (FromBare bare refl refl) comes_as tt
            (rises.says ∙ ap (λ (v : SiteView). Recovered rises.last v) (rises.shows next stands_next below (over_is k (next.world.nodes s) effect_now.is.node apart)) ∙ ap (λ (x : ℕ). Recovered x (linked_view next.world s)) last_is)
            (record { world = refl; after = λ i. refl; strayed = refl }));
        stands = stands_next;
        carries = λ carries. up_carries d next old new s ring k row raw state used before after stands below changed_up up sees state_is needs rises.session rises.last session_is last_is flies
            (rises.assemblies ∙ assemblies) (rises.feeders ∙ ap (λ fs. slice_set fs.items s state.other) feeders) (omega (arith, below, stands.disk_sets.few, carries.numbers)) carries;
        rose = rose_still old new s before after there later changed_up.disk_sets;
      }
