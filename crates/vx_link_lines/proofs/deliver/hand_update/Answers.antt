-- The packet of an update at its target, case by case.
use Rattle.std.proofs.Common.{◌≡◌, ◌∙◌, ◌<◌, ℕ, ap, false, sym, subst, refl, arith}
use Rattle.std.specs.Prelude.{Some, slice_get, slice_set}
use Rattle.std.proofs.lemmas.Result.{err_from_is_err_and}
use Rattle.vx_history.specs.Events.{delivered, packet_at}
use Rattle.vx_history.specs.Fits.{WriteFits}
use Rattle.vx_model.specs.declared.site.SiteState.TheVariants.{Up}
use Rattle.vx_effects.specs.Facts.{received_fact}
use Rattle.vx_events.proofs.Places.{some_same}
use Rattle.vx_script.specs.declared.line.ScriptLine.TheVariants.{Deliver}
use Rattle.vx_diskset.specs.Holds.{beside_of}
use Rattle.vx_diskset.specs.Stands.{RoleIs, SiteStands}
use Rattle.vx_joins.proofs.TakesUpdate.{alone_same}
use Rattle.vx_joins.proofs.UpdatesFit.{are_one, update_fits}
use Rattle.vx_joins.specs.Deliveries.{DeliveredTo, TookTo}
use Rattle.vx_world.proofs.Doubting.{world_good}
use Rattle.vx_link_lines.proofs.Behind.{behind_ignored, behind_short, behind_taken}
use Rattle.vx_yard.proofs.OverGroup.{raw_set, receives_apart}
use Rattle.vx_yard.proofs.ChangeSite.{told_before}
use Rattle.vx_link_lines.proofs.Deaf.{fact_at, ignored_by, last_received, none_start, took_ignored}
use Rattle.vx_link_lines.proofs.HeardLine.{unheard_stays}
use Rattle.vx_link_lines.proofs.OverGroups.{second_raw}
use Rattle.vx_yard.proofs.Leads.{room_receives}
use Rattle.vx_yard.proofs.FailsStay.{alone_keeps}
use Rattle.vx_events.specs.declared.said.Said.TheVariants.{Ignored, Refused, Taken}
use Rattle.vx_yard.specs.OfSites.{TouchesNone}
use Rattle.vx_link_lines.proofs.DeliverCalls.{no_answer, waits_alone}
use Rattle.vx_yard.proofs.OfSites.{all_of_site, all_still, site_still}
use Rattle.vx_yard.proofs.Lists.{get-set_same, get_at, length-set, set_same}
use Rattle.vx_link_lines.proofs.deliver.hand_update.Goals as goal

pub overflow_cast-target : goal.overflow_cast-target
overflow_cast-target g c = omega (arith, c.requires.few)

pub returns-then-not-receives-clause-leads : goal.returns-then-not-receives-clause-leads
returns-then-not-receives-clause-leads g c = λ d p k x stands carries good at to below message.
    let old = c.args.yard.now in
    let t = c.args.target in
    let e = c.index.result.now in
    let there = get_at old.disk_sets.items t e c.requires.disk_set c.index.ensures in
    let is = ignored_by d c.args.number p k x at message (beside_of d p.target) e c.receives.result c.receives.ensures c.if-not-receives.true
    (subst (λ (i : ℕ). RoleIs (d.world.nodes i) e) (sym to) (stands.roles.each t e below there)) (subst (λ (i : ℕ). SiteStands (beside_of d i) (d.world.nodes i) e) (sym to) (stands.disk_sets.sites t e below there)) in
    unheard_stays d c.args.number p old e at stands (subst (λ (i : ℕ). i < d.world.sites) (sym to) below) (subst (λ (i : ℕ). slice_get old.disk_sets.items i ≡ Some e) (sym to) there) is

pub returns-in_err-said-clause-told : goal.returns-in_err-said-clause-told
returns-in_err-said-clause-told g c =
    let es = c.args.yard.now.disk_sets.items in
    told_before es c.args.target c.index_mut.result.now c.deliver_update.new.disks (get_at es c.args.target c.index_mut.result.now c.requires.disk_set c.index_mut.ensures.value) c.deliver_update.ensures.later

pub returns-in-Taken-clause-told : goal.returns-in-Taken-clause-told
returns-in-Taken-clause-told g c =
    let es = c.args.yard.now.disk_sets.items in
    told_before es c.args.target c.index_mut.result.now c.deliver_update.new.disks (get_at es c.args.target c.index_mut.result.now c.requires.disk_set c.index_mut.ensures.value) c.deliver_update.ensures.later

pub returns-in_err-said-clause-leads : goal.returns-in_err-said-clause-leads
returns-in_err-said-clause-leads g c = λ d p k x stands carries good at to below message.
    let old = c.args.yard.now in
    let t = c.args.target in
    let before = c.index_mut.result.now in
    let after = c.deliver_update.new.disks in
    let there = get_at old.disk_sets.items t before c.requires.disk_set c.index_mut.ensures.value in
    let same_before = some_same (sym (get_at old.disk_sets.items t c.index.result.now c.requires.disk_set c.index.ensures) ∙ there) in
    let here = stands.disk_sets.sites t before below there in
    let opens = room_receives (beside_of d t) (d.world.nodes t) c.index.result.now c.receives.result c.receives.ensures c.if-not-receives.false (subst (λ e. SiteStands (beside_of d t) (d.world.nodes t) e) (sym same_before) here) in
    let off = second_raw (beside_of d t) (d.world.nodes t) before here opens.1 in
    let fed = get_at old.feeders.items t c.index_mut-2.result.now c.requires.feeder c.index_mut-2.ensures.value in
    let was = get_at old.assemblies.items t c.index_mut-3.result.now c.requires.place c.index_mut-3.ensures.value in
    behind_short d (Deliver c.args.number) old _ before after t c.from_residual.result _ (err_from_is_err_and c.from_residual.result c.from_residual.ensures.1).1 stands below
    (record { there = there; later = c.deliver_update.ensures.later; disk_sets = refl; racks = refl }) c.deliver_update.ensures.still (c.deliver_update.ensures.role.kept (d.world.nodes t) (stands.roles.each t before below there)) off c.in_err-said.ensures.stands refl
    (record {
      flight = c.in_err-said.ensures.unsent;
      assemblies = ap (λ b. slice_set old.assemblies.items t b) c.in_err-said.ensures.assembly ∙ set_same old.assemblies.items t c.index_mut-3.result.now was;
      feeders = ap (λ b. slice_set old.feeders.items t b) c.in_err-said.ensures.fed_by ∙ set_same old.feeders.items t c.index_mut-2.result.now fed;
    }) (told_before old.disk_sets.items t before after there c.deliver_update.ensures.later)

pub returns-in-Taken-clause-leads : goal.returns-in-Taken-clause-leads
returns-in-Taken-clause-leads g c = λ d p k x stands carries good at to below message.
    let old = c.args.yard.now in
    let t = c.args.target in
    let before = c.index_mut.result.now in
    let after = c.deliver_update.new.disks in
    let feeder = c.deliver_update.new.fed_by in
    let was = c.index_mut-3.result.now in
    let a = c.deliver_update.new.assembly in
    let flight = c.deliver_update.new.flight in
    let there = get_at old.disk_sets.items t before c.requires.disk_set c.index_mut.ensures.value in
    let same_before = some_same (sym (get_at old.disk_sets.items t c.index.result.now c.requires.disk_set c.index.ensures) ∙ there) in
    let here = stands.disk_sets.sites t before below there in
    let role = stands.roles.each t before below there in
    let opens = room_receives (beside_of d t) (d.world.nodes t) c.index.result.now c.receives.result c.receives.ensures c.if-not-receives.false (subst (λ e. SiteStands (beside_of d t) (d.world.nodes t) e) (sym same_before) here) in
    let off = second_raw (beside_of d t) (d.world.nodes t) before here opens.1 in
    let raw = raw_set (beside_of d t) (d.world.nodes t) before here off in
    let fed = carries.feeders t c.index_mut-2.result.now (get_at old.feeders.items t c.index_mut-2.result.now c.requires.feeder c.index_mut-2.ensures.value) opens.0 opens.1 in
    let told = told_before old.disk_sets.items t before after there c.deliver_update.ensures.later in
    let up = subst (λ (i : ℕ). (d.world.nodes i).state ≡ Up) (sym to) opens.0 in
    let took = c.in_ok-said.ensures.took d p k x at to message carries.flight here role raw fed in
    let last = c.received-last.result in
    let seen = c.index_mut-in-Taken.result.now in
    let shown = fact_at d old t seen stands below (receives_apart (beside_of d t) (d.world.nodes t) before here opens.1) (get_at old.facts.items t seen c.requires.site c.index_mut-in-Taken.ensures.value) in
    let same_after = some_same (sym (get-set_same old.disk_sets.items t after c.requires.disk_set)
    ∙ get_at (slice_set old.disk_sets.items t after) t c.index-in-Taken.result.now (omega (arith, c.requires.disk_set, length-set old.disk_sets.items t after)) c.index-in-Taken.ensures) in
    behind_taken d c.args.number p k x old _ before after feeder was a stands at message c.deliver_update.ensures.still t to last
    (record {
      below = below;
      changed = record { there = there; later = c.deliver_update.ensures.later; disk_sets = refl; racks = refl };
      role = c.deliver_update.ensures.role.kept (d.world.nodes t) role;
      off = off;
      handed = record { assemblies = refl; feeders = refl; below = c.requires.few; told = told };
      took = subst (λ r. TookTo d.world c.args.number p k (beside_of d t) after feeder was a old.flight flight r) c.in-Taken.is took;
      exact = λ tells calm.
          let world = world_good d (good (told tells) calm) in
          subst (λ r. DeliveredTo (delivered d.world c.args.number (packet_at d.world.packets c.args.number)) (beside_of d t) t after feeder a flight r) c.in-Taken.is
          (c.in_ok-said.ensures.delivered d p k x at to message (are_one d.world world) carries.flight here role raw fed
          (carries.assemblies (told tells) calm t was (get_at old.assemblies.items t was c.requires.place c.index_mut-3.ensures.value))
          (subst (λ (i : ℕ). p.line ≡ (d.world.nodes i).line → WriteFits (d.world.nodes i) x) to (update_fits d.world c.args.number p k x world at message up)));
      receives = opens.1;
      none = none_start (d.world.nodes t) (d.world.links t) d.world.sites (stands.links.starts t) opens.1;
    })
    (λ m stood running. c.received-last.ensures (beside_of d t) m (subst (λ e. SiteStands (beside_of d t) m e) same_after stood) running.0 running.1)
    (ap (λ f. slice_set old.facts.items t f) (c.set_last.ensures ∙ last_received last seen ∙ ap (λ f. received_fact last f) shown))

pub returns-in_default : goal.returns-in_default
returns-in_default g c = record {
  called = record {
    before = c.index_mut.result.now;
    after = c.deliver_update.new.disks;
    there = get_at c.args.yard.now.disk_sets.items c.args.target c.index_mut.result.now c.requires.disk_set c.index_mut.ensures.value;
    disk_sets = refl;
    did = waits_alone Ignored c.index_mut.result.now c.deliver_update.new.disks (λ why is. let said : Ignored ≡ Refused why = is in cc) c.deliver_update.ensures.still;
  };
  leads = λ d p k x stands carries good at to below message.
      let old = c.args.yard.now in
      let t = c.args.target in
      let before = c.index_mut.result.now in
      let after = c.deliver_update.new.disks in
      let feeder = c.deliver_update.new.fed_by in
      let was = c.index_mut-3.result.now in
      let a = c.deliver_update.new.assembly in
      let flight = c.deliver_update.new.flight in
      let there = get_at old.disk_sets.items t before c.requires.disk_set c.index_mut.ensures.value in
      let same_before = some_same (sym (get_at old.disk_sets.items t c.index.result.now c.requires.disk_set c.index.ensures) ∙ there) in
      let here = stands.disk_sets.sites t before below there in
      let role = stands.roles.each t before below there in
      let opens = room_receives (beside_of d t) (d.world.nodes t) c.index.result.now c.receives.result c.receives.ensures c.if-not-receives.false (subst (λ e. SiteStands (beside_of d t) (d.world.nodes t) e) (sym same_before) here) in
      let off = second_raw (beside_of d t) (d.world.nodes t) before here opens.1 in
      let raw = raw_set (beside_of d t) (d.world.nodes t) before here off in
      let fed = carries.feeders t c.index_mut-2.result.now (get_at old.feeders.items t c.index_mut-2.result.now c.requires.feeder c.index_mut-2.ensures.value) opens.0 opens.1 in
      let told = told_before old.disk_sets.items t before after there c.deliver_update.ensures.later in
      let up = subst (λ (i : ℕ). (d.world.nodes i).state ≡ Up) (sym to) opens.0 in
      let took = c.in_ok-said.ensures.took d p k x at to message carries.flight here role raw fed in
      let ignored = took_ignored d.world c.args.number p k (beside_of d t) after feeder was a old.flight flight c.in_ok-said.said took c.in_default.not-Taken in
      behind_ignored d c.args.number p k x old _ before after feeder was a stands at message c.deliver_update.ensures.still t to
      (record {
        below = below;
        changed = record { there = there; later = c.deliver_update.ensures.later; disk_sets = refl; racks = refl };
        role = c.deliver_update.ensures.role.kept (d.world.nodes t) role;
        off = off;
        handed = record { assemblies = refl; feeders = refl; below = c.requires.few; told = told };
        took = subst (λ r. TookTo d.world c.args.number p k (beside_of d t) after feeder was a old.flight flight r) ignored took;
        exact = λ tells calm.
            let world = world_good d (good (told tells) calm) in
            subst (λ r. DeliveredTo (delivered d.world c.args.number (packet_at d.world.packets c.args.number)) (beside_of d t) t after feeder a flight r) ignored
            (c.in_ok-said.ensures.delivered d p k x at to message (are_one d.world world) carries.flight here role raw fed
            (carries.assemblies (told tells) calm t was (get_at old.assemblies.items t was c.requires.place c.index_mut-3.ensures.value))
            (subst (λ (i : ℕ). p.line ≡ (d.world.nodes i).line → WriteFits (d.world.nodes i) x) to (update_fits d.world c.args.number p k x world at message up)));
        receives = opens.1;
        none = none_start (d.world.nodes t) (d.world.links t) d.world.sites (stands.links.starts t) opens.1;
      }) refl;
  told = told_before c.args.yard.now.disk_sets.items c.args.target c.index_mut.result.now c.deliver_update.new.disks
      (get_at c.args.yard.now.disk_sets.items c.args.target c.index_mut.result.now c.requires.disk_set c.index_mut.ensures.value) c.deliver_update.ensures.later;
  files = refl;
  asked = all_of_site c.args.target c.args.yard.now _ (record {
    before = c.index_mut.result.now;
    after = c.deliver_update.new.disks;
    there = get_at c.args.yard.now.disk_sets.items c.args.target c.index_mut.result.now c.requires.disk_set c.index_mut.ensures.value;
    disk_sets = refl;
    did = alone_keeps c.index_mut.result.now c.deliver_update.new.disks c.deliver_update.ensures.still;
  });
}

pub returns-then-not-receives-clause-asked : goal.returns-then-not-receives-clause-asked
returns-then-not-receives-clause-asked g c = all_still c.args.yard.now _ refl

pub returns-in_err-said-clause-asked : goal.returns-in_err-said-clause-asked
returns-in_err-said-clause-asked g c = all_of_site c.args.target c.args.yard.now _ (record {
  before = c.index_mut.result.now;
  after = c.deliver_update.new.disks;
  there = get_at c.args.yard.now.disk_sets.items c.args.target c.index_mut.result.now c.requires.disk_set c.index_mut.ensures.value;
  disk_sets = refl;
  did = alone_keeps c.index_mut.result.now c.deliver_update.new.disks c.deliver_update.ensures.still;
})

pub returns-in-Taken-clause-asked : goal.returns-in-Taken-clause-asked
returns-in-Taken-clause-asked g c = all_of_site c.args.target c.args.yard.now _ (record {
  before = c.index_mut.result.now;
  after = c.deliver_update.new.disks;
  there = get_at c.args.yard.now.disk_sets.items c.args.target c.index_mut.result.now c.requires.disk_set c.index_mut.ensures.value;
  disk_sets = refl;
  did = alone_keeps c.index_mut.result.now c.deliver_update.new.disks c.deliver_update.ensures.still;
})

pub returns-then-not-receives-clause-called : goal.returns-then-not-receives-clause-called
returns-then-not-receives-clause-called g c =
    site_still (TouchesNone Ignored) c.args.target c.args.yard.now _ (λ e. waits_alone Ignored e e (λ why is. let said : Ignored ≡ Refused why = is in cc) (alone_same e)) c.requires.disk_set refl

pub returns-in_err-said-clause-called : goal.returns-in_err-said-clause-called
returns-in_err-said-clause-called g c =
    let short = err_from_is_err_and c.from_residual.result c.from_residual.ensures.1 in
    no_answer _ c.from_residual.result short.0 short.1

pub returns-in-Taken-clause-called : goal.returns-in-Taken-clause-called
returns-in-Taken-clause-called g c = record {
  before = c.index_mut.result.now;
  after = c.deliver_update.new.disks;
  there = get_at c.args.yard.now.disk_sets.items c.args.target c.index_mut.result.now c.requires.disk_set c.index_mut.ensures.value;
  disk_sets = refl;
  did = waits_alone Taken c.index_mut.result.now c.deliver_update.new.disks (λ why is. let said : Taken ≡ Refused why = is in cc) c.deliver_update.ensures.still;
}
