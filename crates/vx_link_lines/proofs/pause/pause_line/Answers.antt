-- `pause_line`: clause leads; what `pause` asks.
use Rattle.std.proofs.Common.{◌≡◌, ◌∙◌, refl, subst, sym}
use Rattle.std.specs.Prelude.{None}
use Rattle.std.proofs.lemmas.List.{with_items_is}
use Rattle.vx_linked.specs.Turns.{FactsStandFor as LinksStand}
use Rattle.vx_order.specs.Order.{line_refusal}
use Rattle.vx_script.specs.declared.line.ScriptLine.TheVariants.{Pause}
use Rattle.vx_yard.specs.Yards.{in_files}
use Rattle.vx_yard.proofs.LinkLines.{pause_brings, links_stand}
use Rattle.vx_link_lines.proofs.pause.pause_line.Goals as goal

pub pause-requires : goal.pause-requires
pause-requires g c = record {
  free = (in_files c.args.yard.now, subst (λ fs. line_refusal fs (in_files c.args.yard.now) (Pause c.args.first.now c.args.second.now) ≡ None) (sym c.deref_mut.ensures.value) c.requires.free);
}

pub returns-clause-leads : goal.returns-clause-leads
returns-clause-leads g c = λ d stands carries.
    let old = c.args.yard.now in
    pause_brings d old _ c.args.first.now c.args.second.now c.pause.new.sites stands carries
    (c.pause.ensures.world d.world old.flight (subst (λ fs. LinksStand d.world fs old.flight) (sym c.deref_mut.ensures.value) (links_stand d old stands carries)))
    (with_items_is old.facts c.pause.new.sites (c.pause.auto.sites ∙ c.deref_mut.ensures.len)) (record { disk_sets = refl; racks = refl; assemblies = refl; feeders = refl })
