-- `connect_line`: clause leads; what `site_of-there` and `connect` ask.
use Rattle.std.proofs.Common.{◌≡◌, ◌∙◌, ◌≤◌, length, refl, subst, sym}
use Rattle.std.specs.Prelude.{None}
use Rattle.std.proofs.lemmas.List.{with_items_is}
use Rattle.std.proofs.lemmas.Result.{err_from_is_err_and}
use Rattle.vx_linked.specs.Turns.{FactsStandFor as LinksStand}
use Rattle.vx_model.specs.declared.limits.TheConstants.{MOST_SITES}
use Rattle.vx_order.specs.Order.{line_refusal}
use Rattle.vx_script.specs.declared.line.ScriptLine.TheVariants.{Connect}
use Rattle.vx_linked.proofs.Finding.{connect_tested, seat_found}
use Rattle.vx_yard.specs.Yards.{in_files}
use Rattle.vx_yard.proofs.LinkLines.{connect_brings, links_stand, stays_short, tells}
use Rattle.vx_yard.proofs.Lists.{get_at}
use Rattle.vx_link_lines.proofs.connect.connect_line.Goals as goal

pub site_of-there-requires-clause-named : goal.site_of-there-requires-clause-named
site_of-there-requires-clause-named g c = λ κs within.
    seat_found c.args.yard.now.facts.items c.args.second.now (connect_tested c.args.yard.now.facts.items c.args.first.now c.args.second.now (in_files c.args.yard.now, c.requires.free)).other

pub connect-requires : goal.connect-requires
connect-requires g c = record {
  few = subst (λ fs. length fs ≤ MOST_SITES) (sym c.deref_mut.ensures.value) c.requires.kept.few;
  free = (in_files c.args.yard.now, subst (λ fs. line_refusal fs (in_files c.args.yard.now) (Connect c.args.first.now c.args.second.now) ≡ None) (sym c.deref_mut.ensures.value) c.requires.free);
}

pub returns-clause-leads : goal.returns-clause-leads
returns-clause-leads g c = λ d stands carries.
    let old = c.args.yard.now in
    let es = old.disk_sets.items in
    let s = c.site_of-there.result in
    connect_brings d old _ c.args.first.now c.args.second.now c.connect.new.sites stands carries
    (c.in_ok-connect.ensures.world d.world (subst (λ fs. LinksStand d.world fs old.flight) (sym c.deref_mut.ensures.value) (links_stand d old stands carries))
    (tells d old c.args.second.now s c.session-session.result c.last-stored.result c.index.result.now c.index-2.result.now stands c.site_of-there.ensures.seat
    (get_at es s c.index.result.now c.site_of-there.ensures.disk_set c.index.ensures) (get_at es s c.index-2.result.now c.site_of-there.ensures.disk_set c.index-2.ensures)
    c.session-session.ensures.is c.last-stored.ensures.is))
    (with_items_is old.facts c.connect.new.sites (c.connect.auto.sites ∙ c.deref_mut.ensures.len)) (record { disk_sets = refl; racks = refl; assemblies = refl; feeders = refl })

pub returns-in_err-connect-clause-leads : goal.returns-in_err-connect-clause-leads
returns-in_err-connect-clause-leads g c = λ d stands carries.
    let old = c.args.yard.now in
    let p = err_from_is_err_and c.from_residual.result c.from_residual.ensures.1 in
    stays_short d (Connect c.args.first.now c.args.second.now) old _ c.from_residual.result p.0 c.connect.new.sites c.connect.new.flight p.1 stands carries (record { disk_sets = refl; racks = refl; assemblies = refl; feeders = refl })
    (with_items_is old.facts c.connect.new.sites (c.connect.auto.sites ∙ c.deref_mut.ensures.len)) (c.in_err-connect.ensures.sites ∙ c.deref_mut.ensures.value) refl c.in_err-connect.ensures.unsent
