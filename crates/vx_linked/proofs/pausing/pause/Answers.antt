-- `pause`: clause world; what `turn` asks.
use Rattle.vx_history.specs.declared.sender.SEvent.TheVariants.{Pause}
use Rattle.vx_linked.proofs.Finding.{pause_tested, found}
use Rattle.vx_linked.proofs.Moves.{pause_comes, tested_there, with_facts}
use Rattle.vx_linked.proofs.pausing.pause.Goals as goal

pub turn-requires : goal.turn-requires
turn-requires c = record { found = found c.args.sites.now c.args.from.now c.args.to.now (pause_tested c.args.sites.now c.args.from.now c.args.to.now c.requires.free) }

pub returns-clause-world : goal.returns-clause-world
returns-clause-world c = λ w f stands.
    let from = c.args.from.now in
    let to = c.args.to.now in
    let tested = pause_tested c.args.sites.now from to c.requires.free in
    pause_comes w from to (tested_there w c.args.sites.now from to stands.facts tested) f stands.flight c.turn.new.sites (with_facts w c.args.sites.now c.turn.new.sites Pause from to stands.facts c.turn.ensures)
