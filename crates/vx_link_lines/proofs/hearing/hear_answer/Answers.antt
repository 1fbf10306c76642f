-- A greeting or an acknowledgement at its target, case by case.
use Rattle.std.proofs.Common.{◌≡◌, ◌⊎◌, ◌∙◌, ◌<◌, ℕ, ap, sym, subst, refl}
use Rattle.std.specs.Prelude.{Result, Some, Err, slice_get, slice_set}
use Rattle.std.proofs.lemmas.List.{with_items_is}
use Rattle.vx_model.specs.declared.errors.Stop.{Stop}
use Rattle.vx_model.specs.declared.state.State.{State}
use Rattle.vx_model.proofs.Lists.{get_there}
use Rattle.vx_history.specs.LinkForms.{plain_link}
use Rattle.vx_history.specs.declared.event.Said.{Said as EventSaid}
use Rattle.vx_history.specs.declared.event.Said.TheVariants.{Ignored as IsIgnored, Taken as IsTaken}
use Rattle.vx_order.specs.declared.facts.LinkFacts.{LinkFacts}
use Rattle.vx_peers.proofs.Hears.{event_for}
use Rattle.vx_script.specs.declared.line.ScriptLine.TheVariants.{Deliver}
use Rattle.vx_diskset.specs.Asked.{HeadUnder, LeavesAlone, LeavesFuse}
use Rattle.vx_diskset.specs.Burning.{NoMore}
use Rattle.vx_diskset.specs.Holds.{beside_of}
use Rattle.vx_diskset.specs.Stands.{SiteStands}
use Rattle.vx_events.specs.LinkedFacts.{link_fact, needed_by}
use Rattle.vx_events.specs.declared.said.Said.TheVariants.{Done, Ignored}
use Rattle.vx_joins.proofs.TakesUpdate.{alone_same}
use Rattle.vx_joins.proofs.UpdatesFit.{are_one}
use Rattle.vx_joins.specs.Hearings.{IsListening, PartHeardAt, world_behind, reply_by}
use Rattle.vx_linked.specs.Hearings.{Hears}
use Rattle.vx_world.proofs.Doubting.{world_good}
use Rattle.vx_yard.specs.Loads.{LetGoBy}
use Rattle.vx_yard.proofs.ApplySite.{calls_keep}
use Rattle.vx_yard.proofs.OverGroup.{none_noted}
use Rattle.vx_link_lines.proofs.Behind.{behind_short}
use Rattle.vx_yard.proofs.ChangeSite.{told_before}
use Rattle.vx_link_lines.proofs.HeardLine.{deaf_to, heard_by, refused_by, stays_same, stop_is, stop_none, unheard_stays}
use Rattle.vx_link_lines.proofs.DeliverCalls.{deaf_calls, deaf_head, heard_head, never_short, never_stopped, refused_head}
use Rattle.vx_link_lines.proofs.HeardWorld.{answer_says, hears_as, listening, shown_by}
use Rattle.vx_link_lines.proofs.OverGroups.{linked_off, over_unlinked}
use Rattle.vx_link_lines.proofs.RawParts.{raw_there}
use Rattle.vx_yard.proofs.LinkLines.{listed}
use Rattle.vx_yard.proofs.Lists.{get_at, set_same}
use Rattle.vx_yard.specs.OfSites.{heard_calls}
use Rattle.vx_yard.proofs.OfSites.{all_of_site, all_still, site_still}
use Rattle.vx_yard.proofs.OneSite.{role_kept}
use Rattle.vx_link_lines.proofs.hearing.hear_answer.Goals as goal

pub returns-in_default-clause-leads : goal.returns-in_default-clause-leads
returns-in_default-clause-leads g c = λ d p stands carries good at to from below answers.
    let y = c.args.yard.now in
    let t = c.args.target in
    let e = get_there y.disk_sets.items t c.requires.disk_set in
    let is = deaf_to d c.args.number p at answers stands.links
    (λ small. c.in_default.ensures.deaf d.world p (event_for p.message) (c.deref.ensures.value ∙ stands.facts) refl to from below (subst (λ (i : ℕ). i < d.world.sites) from small)
    (λ over. over_unlinked d y c.args.target c.args.source (get_there y.disk_sets.items c.args.target c.requires.disk_set).0 stands below (get_there y.disk_sets.items c.args.target c.requires.disk_set).1 over) (listed d stands.links)
    (hears_as d c.args.number p at answers p.message answers)) in
    unheard_stays d c.args.number p y e.0 at stands (subst (λ (i : ℕ). i < d.world.sites) (sym to) below) (subst (λ (i : ℕ). slice_get y.disk_sets.items i ≡ Some e.0) (sym to) e.1) is

pub returns-in_default-clause-told : goal.returns-in_default-clause-told
returns-in_default-clause-told g c = λ told. told

pub returns-in_default-clause-asked : goal.returns-in_default-clause-asked
returns-in_default-clause-asked g c = λ d stands below. all_still c.args.yard.now _ refl

pub returns-in_default-state_here-clause-leads : goal.returns-in_default-state_here-clause-leads
returns-in_default-state_here-clause-leads g c = λ d p stands carries good at to from below answers. stays_same d c.args.yard.now stands

pub returns-in_default-state_here-clause-asked : goal.returns-in_default-state_here-clause-asked
returns-in_default-state_here-clause-asked g c = λ d stands below. all_still c.args.yard.now _ refl

pub returns-in_default-state_here-clause-told : goal.returns-in_default-state_here-clause-told
returns-in_default-state_here-clause-told g c = λ told. told

pub returns-in_default-heard_needs-clause-leads : goal.returns-in_default-heard_needs-clause-leads
returns-in_default-heard_needs-clause-leads g c = λ d p stands carries good at to from below answers. stays_same d c.args.yard.now stands

pub returns-in_default-heard_needs-clause-asked : goal.returns-in_default-heard_needs-clause-asked
returns-in_default-heard_needs-clause-asked g c = λ d stands below. all_still c.args.yard.now _ refl

pub returns-in_default-heard_needs-clause-told : goal.returns-in_default-heard_needs-clause-told
returns-in_default-heard_needs-clause-told g c = λ told. told

pub returns-in-Ok-clause-told : goal.returns-in-Ok-clause-told
returns-in-Ok-clause-told g c =
    let es = c.args.yard.now.disk_sets.items in
    told_before es c.args.target c.index_mut.result.now c.hear-said.new.disks (get_at es c.args.target c.index_mut.result.now c.requires.disk_set c.index_mut.ensures.value) c.hear-said.ensures.later

pub returns-in-Some-refusal-clause-told : goal.returns-in-Some-refusal-clause-told
returns-in-Some-refusal-clause-told g c =
    let es = c.args.yard.now.disk_sets.items in
    told_before es c.args.target c.index_mut.result.now c.hear-said.new.disks (get_at es c.args.target c.index_mut.result.now c.requires.disk_set c.index_mut.ensures.value) c.hear-said.ensures.later

pub returns-in-None-clause-told : goal.returns-in-None-clause-told
returns-in-None-clause-told g c =
    let es = c.args.yard.now.disk_sets.items in
    told_before es c.args.target c.index_mut.result.now c.hear-said.new.disks (get_at es c.args.target c.index_mut.result.now c.requires.disk_set c.index_mut.ensures.value) c.hear-said.ensures.later

pub returns-in-Ok-clause-asked : goal.returns-in-Ok-clause-asked
returns-in-Ok-clause-asked g c = λ d stands below.
    let old = c.args.yard.now in
    let t = c.args.target in
    let before = c.index_mut.result.now in
    let after = c.hear-said.new.disks in
    let there = get_at old.disk_sets.items t before c.requires.disk_set c.index_mut.ensures.value in
    all_of_site t old _ (record {
      before = before;
      after = after;
      there = there;
      disk_sets = refl;
      did = calls_keep NoMore Done before after (c.in-Ok.ensures.called (beside_of d t) (d.world.nodes t) (stands.disk_sets.sites t before below there));
    })

pub returns-in-Some-refusal-clause-asked : goal.returns-in-Some-refusal-clause-asked
returns-in-Some-refusal-clause-asked g c = λ d stands below.
    let old = c.args.yard.now in
    let t = c.args.target in
    let before = c.index_mut.result.now in
    let after = c.hear-said.new.disks in
    let there = get_at old.disk_sets.items t before c.requires.disk_set c.index_mut.ensures.value in
    all_of_site t old _ (record {
      before = before;
      after = after;
      there = there;
      disk_sets = refl;
      did = calls_keep NoMore _ before after (c.in-Err.ensures.called (beside_of d t) (d.world.nodes t) (stands.disk_sets.sites t before below there));
    })

pub returns-in-None-clause-asked : goal.returns-in-None-clause-asked
returns-in-None-clause-asked g c = λ d stands below.
    let old = c.args.yard.now in
    let t = c.args.target in
    let before = c.index_mut.result.now in
    let after = c.hear-said.new.disks in
    let there = get_at old.disk_sets.items t before c.requires.disk_set c.index_mut.ensures.value in
    all_of_site t old _ (record {
      before = before;
      after = after;
      there = there;
      disk_sets = refl;
      did = calls_keep NoMore _ before after (c.in-Err.ensures.called (beside_of d t) (d.world.nodes t) (stands.disk_sets.sites t before below there));
    })

pub returns-in-None-clause-leads : goal.returns-in-None-clause-leads
returns-in-None-clause-leads g c = λ d p stands carries good at to from below answers.
    let old = c.args.yard.now in
    let t = c.args.target in
    let before = c.index_mut.result.now in
    let after = c.hear-said.new.disks in
    let there = get_at old.disk_sets.items t before c.requires.disk_set c.index_mut.ensures.value in
    let was = get_at old.assemblies.items t c.index_mut-2.result.now c.requires.place c.index_mut-2.ensures.value in
    let stop = stop_none c.in-Err.stop (sym c.refusal.ensures ∙ c.in-None.is) in
    let hears : Hears d.world t p.source c.in-Some.l = subst (λ (i : ℕ). Hears d.world t i c.in-Some.l) (sym from) (c.in-Some.ensures.hears d.world c.in-Some.l (c.deref.ensures.value ∙ stands.facts) refl) in
    let off = linked_off d old t p.source stands below (listening d t p.source c.in-Some.l stands.links hears).linked in
    let same : after ≡ before = c.in-Err.ensures.short (ap (λ (x : Stop). let r : Result EventSaid Stop = Err x in r) stop) in
    behind_short d (Deliver c.args.number) old _ before after t (Err (record {})) (record {}) refl stands below (record { there = there; later = c.hear-said.ensures.later; disk_sets = refl; racks = refl })
    (subst (λ e. LeavesAlone before e) (sym same) (alone_same before)) (role_kept d old t before after stands below there c.hear-said.ensures.role) off
    (λ beside n stood. subst (λ e. SiteStands beside n e) (sym same) stood) refl
    (record {
      flight = refl;
      assemblies = ap (λ b. slice_set old.assemblies.items t b) c.in-Err.ensures.assembly ∙ set_same old.assemblies.items t c.index_mut-2.result.now was;
      feeders = refl;
    }) (told_before old.disk_sets.items t before after there c.hear-said.ensures.later)

pub returns-in-Some-refusal-clause-leads : goal.returns-in-Some-refusal-clause-leads
returns-in-Some-refusal-clause-leads g c = λ d p stands carries good at to from below answers.
    let old = c.args.yard.now in
    let t = c.args.target in
    let q = p.source in
    let before = c.index_mut.result.now in
    let after = c.hear-said.new.disks in
    let no = c.in-Some-refusal.no in
    let there = get_at old.disk_sets.items t before c.requires.disk_set c.index_mut.ensures.value in
    let here = stands.disk_sets.sites t before below there in
    let was = get_at old.assemblies.items t c.index_mut-2.result.now c.requires.place c.index_mut-2.ensures.value in
    let hears : Hears d.world t q c.in-Some.l = subst (λ (i : ℕ). Hears d.world t i c.in-Some.l) (sym from) (c.in-Some.ensures.hears d.world c.in-Some.l (c.deref.ensures.value ∙ stands.facts) refl) in
    let listens = listening d t q c.in-Some.l stands.links hears in
    let off = linked_off d old t q stands below listens.linked in
    let raw = raw_there d old t before stands below there off in
    let link : c.in-Some.l.link ≡ plain_link q (d.world.links t q) = ap (λ (x : LinkFacts). x.link) hears.link.link_is in
    let state = c.in-Some-state_here.ensures.is (beside_of d t) (d.world.nodes t) d.world
    (stands.disk_sets.sites t c.index.result.now below (get_at old.disk_sets.items t c.index.result.now c.requires.disk_set c.index.ensures)) listens.up listens.apart (c.deref-2.ensures.value ∙ stands.facts) below listens.up listens.apart in
    let stop = stop_is c.in-Err.stop no (sym c.refusal.ensures ∙ c.in-Some-refusal.is) in
    let as_stop = ap (λ (x : Stop). let r : Result EventSaid Stop = Err x in r) stop in
    let seen = c.index_mut-in-Some-refusal.result.now in
    refused_by d c.args.number p old _ before after no c.refused.result seen c.refused.new.facts t at answers stands to c.refused.ensures.said (record {
      below = below;
      changed = record { there = there; later = c.hear-said.ensures.later; disk_sets = refl; racks = refl };
      keeps = c.hear-said.ensures.role;
      opens = (listens.up, listens.running);
      none = none_noted (d.world.nodes t) listens.apart off;
      rises = c.in-Err.ensures.rises d p t no at to answers carries.flight listens link here state as_stop;
      stops = subst (λ (x : Stop). PartHeardAt d t q c.args.number before after c.hear-said.new.link old.flight (Err x)) stop (c.in-Err.ensures.part d p t at to answers carries.flight listens link here state raw);
      calls = subst (λ (x : Stop). LeavesFuse NoMore (reply_by (let r : Result EventSaid Stop = Err x in r)) before after) stop (c.in-Err.ensures.called (beside_of d t) (d.world.nodes t) here);
      shown = get_at old.facts.items t seen c.requires.site c.index_mut-in-Some-refusal.ensures.value;
      notes = c.refused.ensures.noted;
      facts = refl;
      lets = record {
        flight = refl;
        assemblies = subst (λ xs. LetGoBy no t xs c.let_go_if_down.new.assemblies.items)
            (ap (λ b. slice_set old.assemblies.items t b) c.in-Err.ensures.assembly ∙ set_same old.assemblies.items t c.index_mut-2.result.now was) c.let_go_if_down.ensures;
        feeders = refl;
      };
    })

pub returns-in-Ok-clause-leads : goal.returns-in-Ok-clause-leads
returns-in-Ok-clause-leads g c = λ d p stands carries good at to from below answers.
    let old = c.args.yard.now in
    let t = c.args.target in
    let q = p.source in
    let n = d.world.nodes t in
    let before = c.index_mut.result.now in
    let after = c.hear-said.new.disks in
    let a = c.hear-said.new.assembly in
    let was = c.index_mut-2.result.now in
    let said = c.in-Ok.said in
    let there = get_at old.disk_sets.items t before c.requires.disk_set c.index_mut.ensures.value in
    let here = stands.disk_sets.sites t before below there in
    let hears : Hears d.world t q c.in-Some.l = subst (λ (i : ℕ). Hears d.world t i c.in-Some.l) (sym from) (c.in-Some.ensures.hears d.world c.in-Some.l (c.deref.ensures.value ∙ stands.facts) refl) in
    let listens = listening d t q c.in-Some.l stands.links hears in
    let off = linked_off d old t q stands below listens.linked in
    let raw = raw_there d old t before stands below there off in
    let link : c.in-Some.l.link ≡ plain_link q (d.world.links t q) = ap (λ (x : LinkFacts). x.link) hears.link.link_is in
    let state = c.in-Some-state_here.ensures.is (beside_of d t) n d.world
    (stands.disk_sets.sites t c.index.result.now below (get_at old.disk_sets.items t c.index.result.now c.requires.disk_set c.index.ensures)) listens.up listens.apart (c.deref-2.ensures.value ∙ stands.facts) below listens.up listens.apart in
    let part = c.in-Ok.ensures.part d p t at to answers carries.flight listens link here state raw in
    let asked = stands.disk_sets.sites t c.index-2.result.now below (get_at old.disk_sets.items t c.index-2.result.now c.requires.disk_set c.index-2.ensures) in
    let needs = c.in-Some-heard_needs.ensures.is d p stands.links at answers carries.flight (subst (λ (i : ℕ). IsListening (d.world.nodes i) (d.world.links i q)) (sym to) listens)
    (subst (λ (i : ℕ). c.in-Some.l.link ≡ plain_link q (d.world.links i q)) (sym to) link) (subst (λ (i : ℕ). SiteStands (beside_of d i) (d.world.nodes i) c.index-2.result.now) (sym to) asked)
    (ap (λ (x : State). x.line) state ∙ ap (λ (i : ℕ). (d.world.nodes i).line) (sym to)) in
    let used = subst (λ (i : ℕ). c.in-Some-heard_needs.used ≡ needed_by (d.world.nodes i) q ((world_behind d.world c.args.number).links i q)) to needs in
    let shown = shown_by n q ((world_behind d.world c.args.number).links t q) c.hear-said.new.link c.in-Some-heard_needs.used part.0.link used in
    heard_by d c.args.number p old _ before after a said c.reply.result t at answers stands to c.reply.ensures (record {
      below = below;
      changed = record { there = there; later = c.hear-said.ensures.later; disk_sets = refl; racks = refl };
      keeps = c.hear-said.ensures.role;
      opens = (listens.up, listens.running);
      none = none_noted (d.world.nodes t) listens.apart off;
      says = part.0.says;
      calls = c.in-Ok.ensures.called (beside_of d t) n here;
      facts = with_items_is old.facts c.keep_heard.new.sites (c.keep_heard.auto.sites ∙ c.deref_mut.ensures.len)
          ∙ c.keep_heard.ensures.world d.world c.args.number p (event_for p.message) (c.deref_mut.ensures.value ∙ stands.facts) at to from (hears_as d c.args.number p at answers p.message answers) hears.site
          (subst (λ (i : ℕ). (let x : LinkFacts = record { link = c.hear-said.new.link; used = c.in-Some-heard_needs.used } in x) ≡ link_fact n i ((world_behind d.world c.args.number).links t i)) from shown);
      flight = refl;
      assemblies = refl;
      feeders = refl;
      exact = λ tells calm.
          let told = told_before old.disk_sets.items t before after there c.hear-said.ensures.later tells in
          (c.in-Ok.ensures.heard d p t at to answers (are_one d.world (world_good d (good told calm))) carries.flight listens link
          (carries.assemblies told calm t was (get_at old.assemblies.items t was c.requires.place c.index_mut-2.ensures.value)) here state raw).0.assembly;
      stored = part.1;
    })

pub returns-in_default-clause-called : goal.returns-in_default-clause-called
returns-in_default-clause-called g c = λ d p stands carries at to from below answers.
    let y = c.args.yard.now in
    let is = deaf_to d c.args.number p at answers stands.links
    (λ small. c.in_default.ensures.deaf d.world p (event_for p.message) (c.deref.ensures.value ∙ stands.facts) refl to from below (subst (λ (i : ℕ). i < d.world.sites) from small)
    (λ over. over_unlinked d y c.args.target c.args.source (get_there y.disk_sets.items c.args.target c.requires.disk_set).0 stands below (get_there y.disk_sets.items c.args.target c.requires.disk_set).1 over) (listed d stands.links)
    (hears_as d c.args.number p at answers p.message answers)) in
    site_still (HeadUnder (heard_calls d.world c.args.number c.args.target c.args.source) Ignored) c.args.target y _ (λ e. deaf_head (heard_calls d.world c.args.number c.args.target c.args.source) e (deaf_calls d.world c.args.number c.args.target c.args.source is)) c.requires.disk_set refl

pub returns-in_default-state_here-clause-called : goal.returns-in_default-state_here-clause-called
returns-in_default-state_here-clause-called g c = λ d p stands carries at to from below answers. tt

pub returns-in_default-heard_needs-clause-called : goal.returns-in_default-heard_needs-clause-called
returns-in_default-heard_needs-clause-called g c = λ d p stands carries at to from below answers. tt

pub returns-in-None-clause-called : goal.returns-in-None-clause-called
returns-in-None-clause-called g c = λ d p stands carries at to from below answers. tt

pub returns-in-Ok-clause-called : goal.returns-in-Ok-clause-called
returns-in-Ok-clause-called g c = λ d p stands carries at to from below answers.
    let old = c.args.yard.now in
    let t = c.args.target in
    let q = p.source in
    let n = d.world.nodes t in
    let before = c.index_mut.result.now in
    let after = c.hear-said.new.disks in
    let there = get_at old.disk_sets.items t before c.requires.disk_set c.index_mut.ensures.value in
    let here = stands.disk_sets.sites t before below there in
    let hears : Hears d.world t q c.in-Some.l = subst (λ (i : ℕ). Hears d.world t i c.in-Some.l) (sym from) (c.in-Some.ensures.hears d.world c.in-Some.l (c.deref.ensures.value ∙ stands.facts) refl) in
    let listens = listening d t q c.in-Some.l stands.links hears in
    let off = linked_off d old t q stands below listens.linked in
    let raw = raw_there d old t before stands below there off in
    let link : c.in-Some.l.link ≡ plain_link q (d.world.links t q) = ap (λ (x : LinkFacts). x.link) hears.link.link_is in
    let state = c.in-Some-state_here.ensures.is (beside_of d t) n d.world
    (stands.disk_sets.sites t c.index.result.now below (get_at old.disk_sets.items t c.index.result.now c.requires.disk_set c.index.ensures)) listens.up listens.apart (c.deref-2.ensures.value ∙ stands.facts) below listens.up listens.apart in
    let part = c.in-Ok.ensures.part d p t at to answers carries.flight listens link here state raw in
    let head = c.in-Ok.ensures.headed d p t at to answers carries.flight listens link here state (λ is. never_stopped c.in-Ok.said is) in
    let said = subst (λ (x : EventSaid). (x ≡ IsTaken) ⊎ (x ≡ IsIgnored)) (sym part.0.says) (answer_says d c.args.number p at answers) in
    record {
      before = before;
      after = after;
      there = there;
      disk_sets = refl;
      did = heard_head (heard_calls d.world c.args.number t c.args.source) c.in-Ok.said c.reply.result before after c.reply.ensures said
          (subst (λ (i : ℕ). HeadUnder (heard_calls d.world c.args.number t i) Done before after) from head);
    }

pub returns-in-Some-refusal-clause-called : goal.returns-in-Some-refusal-clause-called
returns-in-Some-refusal-clause-called g c = λ d p stands carries at to from below answers.
    let old = c.args.yard.now in
    let t = c.args.target in
    let q = p.source in
    let n = d.world.nodes t in
    let before = c.index_mut.result.now in
    let after = c.hear-said.new.disks in
    let no = c.in-Some-refusal.no in
    let there = get_at old.disk_sets.items t before c.requires.disk_set c.index_mut.ensures.value in
    let here = stands.disk_sets.sites t before below there in
    let hears : Hears d.world t q c.in-Some.l = subst (λ (i : ℕ). Hears d.world t i c.in-Some.l) (sym from) (c.in-Some.ensures.hears d.world c.in-Some.l (c.deref.ensures.value ∙ stands.facts) refl) in
    let listens = listening d t q c.in-Some.l stands.links hears in
    let link : c.in-Some.l.link ≡ plain_link q (d.world.links t q) = ap (λ (x : LinkFacts). x.link) hears.link.link_is in
    let state = c.in-Some-state_here.ensures.is (beside_of d t) n d.world
    (stands.disk_sets.sites t c.index.result.now below (get_at old.disk_sets.items t c.index.result.now c.requires.disk_set c.index.ensures)) listens.up listens.apart (c.deref-2.ensures.value ∙ stands.facts) below listens.up listens.apart in
    let stop = stop_is c.in-Err.stop no (sym c.refusal.ensures ∙ c.in-Some-refusal.is) in
    let head = c.in-Err.ensures.headed d p t at to answers carries.flight listens link here state (λ is. never_short c.in-Err.stop no stop is) in
    record {
      before = before;
      after = after;
      there = there;
      disk_sets = refl;
      did = refused_head (heard_calls d.world c.args.number t c.args.source) c.in-Err.stop no c.refused.result before after stop c.refused.ensures.said
          (subst (λ (i : ℕ). HeadUnder (heard_calls d.world c.args.number t i) (reply_by (let r : Result EventSaid Stop = Err c.in-Err.stop in r)) before after) from head);
    }
