-- How far a link has come.
use Rattle.std.proofs.Common.{◌∙◌, arith, ap, refl}
use Rattle.vx_diskset.specs.Holds.{beside_of}
use Rattle.vx_order.specs.declared.facts.LinkFacts.{LinkFacts}
use Rattle.vx_settling.specs.Burnt.{noted_as}
use Rattle.vx_yard.proofs.Lists.{get_at}
use Rattle.vx_node.proofs.settle_turns.shown_of.Goals as goal

pub returns : goal.returns
returns g c = λ d first second serves.
    let y = c.args.yard.now in
    let here = c.args.here in
    let e = noted_as serves.noted.fuses d in
    let link = c.in-Some.ensures.world e.world c.in-Some.facts (c.deref.ensures.value ∙ serves.noted.stands.facts) refl in
    let at = get_at y.disk_sets.items here c.index.result.now (omega (arith, c.if-site-len.false, c.len.ensures)) c.index.ensures in
    (ap (λ (l : LinkFacts). l.link.stored) link.link_is, c.last.ensures.is (beside_of e here) (e.world.nodes here) (serves.noted.stands.disk_sets.sites here c.index.result.now link.below at) serves.may.can.here serves.may.can.runs_here)
