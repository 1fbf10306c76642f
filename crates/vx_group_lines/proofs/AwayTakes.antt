-- What an import of a site whose group has a replicated volume group leads its yard to, by what came of it.
use Rattle.std.proofs.Common.{◌≡◌, ◌∙◌, ◌<◌, ℕ, true, List, map, ap, sym, subst, refl}
use Rattle.std.specs.Prelude.{None, Some, slice_get, slice_set, Result, Ok, Err}
use Rattle.vx_model.specs.declared.errors.OutOfMemory.{OutOfMemory}
use Rattle.vx_model.specs.declared.errors.Stop.{Stop}
use Rattle.vx_model.specs.declared.errors.Stop.TheVariants.{No as StopsBy, OutOfMemory as MemoryStop}
use Rattle.vx_model.specs.declared.no.No.{No}
use Rattle.vx_model.specs.declared.no.No.TheVariants.{Damaged, Device, Down as IsOff, Format, Limit, Missing as Lacks, NoConfig}
use Rattle.vx_model.specs.declared.site.SiteState.TheVariants.{Deported as IsAway}
use Rattle.vx_disk.specs.declared.shelf.Shelf.{Ghosts}
use Rattle.vx_config.specs.declared.config.Config.{Config}
use Rattle.vx_effects.specs.Facts.{down_fact}
use Rattle.vx_history.specs.Doubts.{Doubted}
use Rattle.vx_history.specs.Groups.{GroupNode}
use Rattle.vx_history.specs.World.{Node}
use Rattle.vx_order.specs.declared.facts.SiteFacts.{SiteFacts}
use Rattle.vx_rvg.specs.Views.{Core}
use Rattle.vx_script.specs.declared.line.ScriptLine.TheVariants.{GroupImport}
use Rattle.vx_grouped.specs.GroupSites.{site_config, site_disks}
use Rattle.vx_grouped.specs.SiteReturns.{KeepsFuse, as_imported}
use Rattle.vx_grouped.specs.declared.group_site.GroupSite.TheVariants.{Up as SiteUp}
use Rattle.vx_diskset.specs.Aboves.{site_in}
use Rattle.vx_diskset.specs.Asked.{SameFailing}
use Rattle.vx_diskset.specs.GroupCalls.{AtSite, core_in}
use Rattle.vx_diskset.specs.Holds.{beside_of}
use Rattle.vx_diskset.specs.OverTakes.{HeldAway, LostAway, OverTakes, TakesAbove, TakesAgain, TakesFound, TakesHeld, TakesHeldOff, TakesLost, TakesLostOff, TakesPlain}
use Rattle.vx_diskset.specs.declared.disk_set.DiskSet.{DiskSet}
use Rattle.vx_diskset.specs.declared.disk_set.DiskSet.TheVariants.{OfGroup, Over}
use Rattle.vx_diskset.specs.declared.group_set.GroupSet.{GroupSet}
use Rattle.vx_diskset.specs.declared.over_set.OverSet.{OverSet}
use Rattle.vx_events.proofs.OverSeats.{fact_apart}
use Rattle.vx_events.proofs.RvgEvents.{rvg_apart}
use Rattle.vx_events.specs.Facts.{seat_of, site_number}
use Rattle.vx_events.specs.RvgSteps.{is_for_rvg}
use Rattle.vx_events.specs.GroupNotes.{note_at}
use Rattle.vx_events.specs.GroupViews.{plain_fact}
use Rattle.vx_events.specs.LinkedFacts.{linked_fact}
use Rattle.vx_events.specs.RvgViews.{is_over_rvg}
use Rattle.vx_events.specs.declared.said.Said.{Said}
use Rattle.vx_events.specs.declared.said.Said.TheVariants.{Done}
use Rattle.vx_yard.proofs.Carrying.{SameLoad}
use Rattle.vx_yard.proofs.Lists.{set_same}
use Rattle.vx_yard.proofs.NamedSite.{fact_of, place_at}
use Rattle.vx_yard.proofs.OneSite.{Changed}
use Rattle.vx_yard.specs.AboveLines.{LeadsAbove, LeadsAboveIs}
use Rattle.vx_yard.specs.GroupFacts.{group_up_facts}
use Rattle.vx_yard.specs.Standing.{StandsFor}
use Rattle.vx_yard.specs.Writes.{below_facts}
use Rattle.vx_yard.specs.declared.yard.Yard.{Yard}
use Rattle.vx_above.proofs.SeenSites.{state_placed}
use Rattle.vx_above.proofs.OverSites.{OverIs, note_is, over_set, site_noted}
use Rattle.vx_group_lines.specs.Noting.{IsKeptRefusal, made_facts, reply_kept}
use Rattle.vx_group_lines.proofs.AwayCalls.{AwayCall}
use Rattle.vx_group_lines.proofs.AwayFound.{away_found}
use Rattle.vx_group_lines.proofs.AwayHeld.{away_device, away_limit, away_memory, away_missing, away_none, away_off, away_strange}
use Rattle.vx_group_lines.proofs.AwayLost.{lost_disk, lost_fuse, lost_number, lost_room}
use Rattle.vx_group_lines.proofs.AwayPlain.{away_plain}
use Rattle.vx_group_lines.proofs.AwayRose.{away_rose}
use Rattle.vx_group_lines.proofs.GroupEnding.{Midway, load_on}
use Rattle.vx_group_lines.proofs.Tests.{AwayMay}

never_done : {stop : Stop} → (let x : Result (Unit {0}) Stop = Err stop in x ≡ Ok tt) → ⊥
never_done is = cc

never_err : {stop : Stop} → (let x : Result (Unit {0}) Stop = Ok tt in x ≡ Err stop) → ⊥
never_err is = cc

stopped_by : {a b : Stop} → (let x : Result (Unit {0}) Stop = Err a in x ≡ Err b) → a ≡ b
stopped_by is = cc

-- what a line that no test refuses begins with, at such a site
pub record AwayAbove {R : Type 0} {g : Ghosts R} (d : Doubted) (y : Yard R g) (name : List ℕ) (s : ℕ) : Type 0 where
  pub number : site_number d.world name ≡ s
  pub below : s < d.world.sites
  pub over : is_over_rvg (d.world.nodes s) ≡ true
  pub away : (d.world.nodes s).state ≡ IsAway
  pub fact : slice_get y.facts.items s ≡ Some (linked_fact d.world s)

pub away_above : {R : Type 0} {g : Ghosts R} (d : Doubted) (y : Yard R g) (name : List ℕ) (s : ℕ) → StandsFor d y → seat_of y.facts.items name ≡ Some s → AwayMay y.facts.items name → is_for_rvg d.world (GroupImport name) ≡ true → AwayAbove d y name s
away_above d y name s stands seat may over =
    let place = place_at d y name s stands seat in
    let rvg : is_over_rvg (d.world.nodes s) ≡ true = ap (λ (k : ℕ). is_over_rvg (d.world.nodes k)) (sym place.number) ∙ over in
    record {
      number = place.number;
      below = place.below;
      over = rvg;
      away = state_placed d y name s stands seat may.site ∙ may.away;
      fact = fact_of d y s stands place.below ∙ ap (λ (x : SiteFacts). Some x) (fact_apart d.world s (rvg_apart (d.world.nodes s) rvg));
    }

module _ {R : Type 0} {g : Ghosts R} (d : Doubted) (old new : Yard R g) (name : List ℕ) (s : ℕ) (number : site_number d.world name ≡ s) (before after : DiskSet R g) (stands : StandsFor d old) (below : s < d.world.sites)
    (over : is_over_rvg (d.world.nodes s) ≡ true) (away : (d.world.nodes s).state ≡ IsAway) (changed : Changed old new s before after) (failing : SameFailing before after) where
  abbrev n : Node
  n = d.world.nodes s

  abbrev note : GroupNode
  note = note_at (d.world.nodes s)

  abbrev f : SiteFacts
  f = linked_fact d.world s

  was : OverIs before
  was = over_set (beside_of d s) n before (stands.disk_sets.sites s before below changed.there) over

  abbrev o : OverSet R g
  o = was.set

  there_over : slice_get old.disk_sets.items s ≡ Some (Over o)
  there_over = changed.there ∙ ap (λ (e : DiskSet R g). Some e) was.is

  -- what the call came to
  takes : (r : Result (Unit {0}) Stop) → TakesAbove before after r → OverTakes (beside_of d s) n note (site_in o) after r
  takes r above =
      subst (λ (e : DiskSet R g). TakesAbove e after r) was.is above (beside_of d s) n note (note_is n over) away (stands.links.quiet s) (stands.disk_sets.sites s (Over o) below there_over)
      (site_noted d old s o stands below there_over over)

  call : (q : DiskSet R g) → after ≡ q → AwayCall d old new s o q
  call q is = record {
    stands = stands;
    below = below;
    over = over;
    away = away;
    changed = subst (λ (e : DiskSet R g). Changed old new s e q) was.is (subst (λ (e : DiskSet R g). Changed old new s before e) is changed);
    failing = subst (λ (e : DiskSet R g). SameFailing e q) was.is (subst (λ (e : DiskSet R g). SameFailing before e) is failing);
  }

  -- ---- it is done

  pub takes_done : TakesAbove before after (Ok tt) → SameLoad old new
      → ((c : Config) → AtSite (λ x. site_config x ≡ Some c) after → c.rvg ≡ None → core_in after ≡ None → new.facts.items ≡ slice_set old.facts.items s (group_up_facts (map plain_fact c.volumes) (linked_fact d.world s)))
      → ((core : Core) (c : Config) → core_in after ≡ Some core → AtSite (λ x. site_config x ≡ Some c) after → new.facts.items ≡ slice_set old.facts.items s (made_facts core c (linked_fact d.world s))) → LeadsAbove d (GroupImport name) Done old new
  takes_done above load plain made = by (takes (Ok tt) above)
    where
      made_at : (p : OverSet R g) → after ≡ Over p → (core : Core) (c : Config) → core_in (Over p) ≡ Some core → AtSite (λ x. site_config x ≡ Some c) (Over p) → new.facts.items ≡ slice_set old.facts.items s (made_facts core c (linked_fact d.world s))
      made_at p is core c has at = made core c (ap (λ (e : DiskSet R g). core_in e) is ∙ has) (subst (λ (e : DiskSet R g). AtSite (λ y. site_config y ≡ Some c) e) (sym is) at)

      by : OverTakes (beside_of d s) n note (site_in o) after (Ok tt) → LeadsAbove d (GroupImport name) Done old new
      by (TakesAgain p is ok keeps r) = away_rose d old new name s number o p (call (Over p) is) keeps r load (made_at p is)
      by (TakesFound p is ok keeps r) = away_found d old new name s number o p (call (Over p) is) keeps r load (made_at p is)
      by (TakesPlain x is ok keeps r) =
          let as_set : after ≡ (let t : GroupSet R g = record { site = SiteUp r.laid; cut = None } in OfGroup t) = is ∙ ap (λ (t : GroupSet R g). OfGroup t) r.is in
          away_plain d old new name s number o x r (call (let t : GroupSet R g = record { site = SiteUp r.laid; cut = None } in OfGroup t) as_set)
          (subst (λ (t : GroupSet R g). KeepsFuse (as_imported (site_in o)) (site_disks t.site)) r.is keeps) load
          (λ c has none alone. plain c (subst (λ (e : DiskSet R g). AtSite (λ y. site_config y ≡ Some c) e) (sym as_set) has) none (ap (λ (e : DiskSet R g). core_in e) as_set ∙ alone))
      by (TakesLost p stop is err r) = absurd (never_err err)
      by (TakesLostOff p is err r) = absurd (never_err err)
      by (TakesHeld p stop is err r) = absurd (never_err err)
      by (TakesHeldOff p is err r) = absurd (never_err err)

  -- ---- it is refused, or memory ran out

  first_fact : slice_get old.facts.items s ≡ Some f
  first_fact = fact_of d old s stands below ∙ ap (λ (x : SiteFacts). Some x) (fact_apart d.world s (rvg_apart n over))

  module _ (mid : Yard R g) (half : Midway old mid) (result : Result Said OutOfMemory) where
    facts_off : (p : OverSet R g) (why : No) → below_facts why f ≡ f → IsKeptRefusal (Over p) s f why mid new result → new.facts.items ≡ slice_set old.facts.items s f
    facts_off p why quiet it = it.facts ∙ ap (λ (x : SiteFacts). slice_set mid.facts.items s x) quiet ∙ ap (λ (fs : List SiteFacts). slice_set fs s f) half.facts

    memory_facts : new ≡ mid → new.facts.items ≡ slice_set old.facts.items s f
    memory_facts as_mid = ap (λ (y : Yard R g). y.facts.items) as_mid ∙ half.facts ∙ sym (set_same old.facts.items s f first_fact)

    memory_load : new ≡ mid → SameLoad old new
    memory_load as_mid = subst (λ (y : Yard R g). SameLoad old y) (sym as_mid) half.load

    abbrev Leads : Type 0
    Leads = LeadsAboveIs d (GroupImport name) old new result

    said_as : (why : Result Said OutOfMemory) → result ≡ why → LeadsAboveIs d (GroupImport name) old new why → Leads
    said_as why is it = subst (λ (q : Result Said OutOfMemory). LeadsAboveIs d (GroupImport name) old new q) (sym is) it

    -- the replicated volume group did not come up
    lost : (p : OverSet R g) → after ≡ Over p → (stop : Stop) → reply_kept (Over p) s f stop mid new result → LostAway (beside_of d s) n note (site_in o) p stop → Leads
    lost p is (StopsBy (Device disk)) it r =
        said_as _ it.said (lost_disk d old new name s number o p (call (Over p) is) (StopsBy (Device disk)) r (facts_off p (Device disk) refl it) (load_on old mid new half it.same it.assemblies) disk r.why.1 r.why.0)
    lost p is (StopsBy (Limit what most)) it r =
        said_as _ it.said (lost_number d old new name s number o p (call (Over p) is) (StopsBy (Limit what most)) r (facts_off p (Limit what most) refl it) (load_on old mid new half it.same it.assemblies) what most r.why.0 r.why.1 r.why.2)
    lost p is (StopsBy other) it r = absurd r.why
    lost p is MemoryStop it r = said_as _ it.1 (lost_room d old new name s number o p (call (Over p) is) MemoryStop r (memory_facts it.0) (memory_load it.0) r.why.0 r.why.1)

    -- the group did not, or nothing was known of what did
    held : (p : OverSet R g) → after ≡ Over p → (stop : Stop) → reply_kept (Over p) s f stop mid new result → HeldAway (beside_of d s) n note (site_in o) p stop → Leads
    held p is (StopsBy (Device disk)) it h =
        said_as _ it.said (away_device d old new name s number o p (call (Over p) is) (StopsBy (Device disk)) h (facts_off p (Device disk) refl it) (load_on old mid new half it.same it.assemblies) disk h.why)
    held p is (StopsBy (Lacks disk)) it h =
        said_as _ it.said (away_missing d old new name s number o p (call (Over p) is) (StopsBy (Lacks disk)) h (facts_off p (Lacks disk) refl it) (load_on old mid new half it.same it.assemblies) disk refl h.why)
    held p is (StopsBy NoConfig) it h =
        said_as _ it.said (away_none d old new name s number o p (call (Over p) is) (StopsBy NoConfig) h (facts_off p NoConfig refl it) (load_on old mid new half it.same it.assemblies) refl h.why)
    held p is (StopsBy (Limit what most)) it h =
        said_as _ it.said (away_limit d old new name s number o p (call (Over p) is) (StopsBy (Limit what most)) h (facts_off p (Limit what most) refl it) (load_on old mid new half it.same it.assemblies) what most h.why.0 h.why.1)
    held p is (StopsBy (Damaged unit block stored computed)) it h =
        said_as _ it.said
        (away_strange d old new name s number o p (call (Over p) is) (StopsBy (Damaged unit block stored computed)) h (facts_off p (Damaged unit block stored computed) refl it) (load_on old mid new half it.same it.assemblies)
        (Damaged unit block stored computed) refl refl tt h.why)
    held p is (StopsBy (Format version)) it h =
        said_as _ it.said
        (away_strange d old new name s number o p (call (Over p) is) (StopsBy (Format version)) h (facts_off p (Format version) refl it) (load_on old mid new half it.same it.assemblies) (Format version) refl refl tt h.why)
    held p is (StopsBy other) it h = absurd h.why
    held p is MemoryStop it h = said_as _ it.1 (away_memory d old new name s number o p (call (Over p) is) MemoryStop h (memory_facts it.0) (memory_load it.0) refl)

    -- the fuse ran out
    off_facts : (p : OverSet R g) → IsKeptRefusal (Over p) s f IsOff mid new result → new.facts.items ≡ slice_set old.facts.items s (down_fact f)
    off_facts p it = it.facts ∙ ap (λ (fs : List SiteFacts). slice_set fs s (down_fact f)) half.facts

    reply_over : (p : OverSet R g) (stop : Stop) → after ≡ Over p → reply_kept after s f stop mid new result → reply_kept (Over p) s f stop mid new result
    reply_over p stop is reply = subst (λ (e : DiskSet R g). reply_kept e s f stop mid new result) is reply

    off_reply : (p : OverSet R g) (stop : Stop) → after ≡ Over p → stop ≡ StopsBy IsOff → reply_kept after s f stop mid new result → IsKeptRefusal (Over p) s f IsOff mid new result
    off_reply p stop at is reply = subst (λ (w : Stop). reply_kept (Over p) s f w mid new result) is (reply_over p stop at reply)

    pub takes_refused : (stop : Stop) → TakesAbove before after (Err stop) → reply_kept after s (linked_fact d.world s) stop mid new result → LeadsAboveIs d (GroupImport name) old new result
    takes_refused stop above reply = by (takes (Err stop) above)
      where
        by : OverTakes (beside_of d s) n note (site_in o) after (Err stop) → Leads
        by (TakesAgain p is ok keeps r) = absurd (never_done ok)
        by (TakesFound p is ok keeps r) = absurd (never_done ok)
        by (TakesPlain x is ok keeps r) = absurd (never_done ok)
        by (TakesLost p end is err r) = lost p is stop (reply_over p stop is reply) (subst (λ (w : Stop). LostAway (beside_of d s) n note (site_in o) p w) (sym (stopped_by err)) r)
        by (TakesLostOff p is err r) =
            let it : IsKeptRefusal (Over p) s f IsOff mid new result = off_reply p stop is (stopped_by err) reply in
            said_as _ it.said (lost_fuse d old new name s number o p (call (Over p) is) r (off_facts p it) (load_on old mid new half it.same it.assemblies))
        by (TakesHeld p end is err r) = held p is stop (reply_over p stop is reply) (subst (λ (w : Stop). HeldAway (beside_of d s) n note (site_in o) p w) (sym (stopped_by err)) r)
        by (TakesHeldOff p is err r) =
            let it : IsKeptRefusal (Over p) s f IsOff mid new result = off_reply p stop is (stopped_by err) reply in
            said_as _ it.said (away_off d old new name s number o p (call (Over p) is) r (off_facts p it) (load_on old mid new half it.same it.assemblies))
