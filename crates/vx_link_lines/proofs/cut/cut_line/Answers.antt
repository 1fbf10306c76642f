-- `cut_line`: clause leads; what `cut` asks.
use Rattle.std.proofs.Common.{◌≡◌, ◌∙◌, refl, subst, sym}
use Rattle.std.specs.Prelude.{None}
use Rattle.std.proofs.lemmas.List.{with_items_is}
use Rattle.vx_linked.specs.Turns.{FactsStandFor as LinksStand}
use Rattle.vx_order.specs.Order.{line_refusal}
use Rattle.vx_script.specs.declared.line.ScriptLine.TheVariants.{Cut}
use Rattle.vx_yard.specs.Yards.{in_files}
use Rattle.vx_yard.proofs.LinkLines.{cut_brings, links_stand}
use Rattle.vx_link_lines.proofs.cut.cut_line.Goals as goal

pub cut-requires : goal.cut-requires
cut-requires g c = record {
  free = (in_files c.args.yard.now, subst (λ fs. line_refusal fs (in_files c.args.yard.now) (Cut c.args.first.now c.args.second.now) ≡ None) (sym c.deref_mut.ensures.value) c.requires.free);
}

pub returns-clause-leads : goal.returns-clause-leads
returns-clause-leads g c = λ d stands carries.
    let old = c.args.yard.now in
    cut_brings d old _ c.args.first.now c.args.second.now c.cut.new.sites stands carries
    (c.cut.ensures.world d.world old.flight (subst (λ fs. LinksStand d.world fs old.flight) (sym c.deref_mut.ensures.value) (links_stand d old stands carries)))
    (with_items_is old.facts c.cut.new.sites (c.cut.auto.sites ∙ c.deref_mut.ensures.len)) (record { disk_sets = refl; racks = refl; assemblies = refl; feeders = refl })
