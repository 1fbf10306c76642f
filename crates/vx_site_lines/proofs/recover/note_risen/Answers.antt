-- The facts of the site are those of one that came up, with its links behind them.
use Rattle.std.proofs.Common.{◌∙◌, ap, arith, slice_set}
use Rattle.vx_diskset.specs.Stands.{SiteStands}
use Rattle.vx_effects.specs.Restarts.{facts_again}
use Rattle.vx_yard.proofs.Lists.{get_at, length-set}
use Rattle.vx_site_lines.proofs.RiseNeeds.{noted_risen, of_place}
use Rattle.vx_site_lines.proofs.recover.note_risen.Goals as goal

pub returns-clause-facts : goal.returns-clause-facts
returns-clause-facts g c = λ f at.
    let fs = c.args.yard.now.facts.items in
    let s = c.args.site in
    noted_risen fs s f c.index_mut.result.now c.come_up.new.facts c.index_mut-2.result.now c.args.risen.now.state c.last-last.result c.args.ring c.args.risen.now.used c.restart_links.result c.requires.facts at
    (get_at fs s c.index_mut.result.now c.requires.facts c.index_mut.ensures.value) c.come_up.ensures
    (get_at (slice_set fs s c.come_up.new.facts) s c.index_mut-2.result.now (omega (arith, length-set fs s c.come_up.new.facts, c.requires.facts)) c.index_mut-2.ensures.value)
    (c.restart_links.ensures.links ∙ ap (λ ls. facts_again ls c.args.risen.now.used) c.as_slice.ensures.links)

pub returns-clause-last : goal.returns-clause-last
returns-clause-last g c =
    let es = c.args.yard.now.disk_sets.items in
    let there = get_at es c.args.site c.index.result.now c.requires.disk_set c.index.ensures in
    record { each = λ beside n e at stands up running. c.last-last.ensures.is beside n (of_place (λ x. SiteStands beside n x) es c.args.site e c.index.result.now there at stands) up running }
