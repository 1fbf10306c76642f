-- `fall_again`: what the tests see of the site that is down again, and what stays.
use Rattle.std.proofs.Common.{◌∙◌, ap, refl, sym}
use Rattle.std.specs.Prelude.{slice_set}
use Rattle.vx_effects.specs.Facts.{down_fact}
use Rattle.vx_events.proofs.Places.{some_same}
use Rattle.vx_order.specs.declared.facts.SiteFacts.{SiteFacts}
use Rattle.vx_yard.proofs.Lists.{get_at}
use Rattle.vx_group_lines.proofs.recover.fall_again.Goals as goal

pub returns-clause-facts : goal.returns-clause-facts
returns-clause-facts g c = λ f at.
    let facts = c.args.yard.now.facts.items in
    let here = get_at facts c.args.site c.index_mut.result.now c.requires.facts c.index_mut.ensures.value in
    ap (λ (k : SiteFacts). slice_set facts c.args.site k) (c.go_down.ensures ∙ ap down_fact (some_same (sym here ∙ at)))

pub returns-clause-assemblies : goal.returns-clause-assemblies
returns-clause-assemblies g c = c.let_go.ensures

pub returns-clause-same : goal.returns-clause-same
returns-clause-same g c = record { disk_sets = refl; racks = refl; flight = refl; feeders = refl; dir = refl }

pub returns-clause-said : goal.returns-clause-said
returns-clause-said g c = c.stopped.ensures
