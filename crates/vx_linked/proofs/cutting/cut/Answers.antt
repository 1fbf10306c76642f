-- `cut`: clause world; what `turn` asks.
use Rattle.vx_history.specs.declared.sender.SEvent.TheVariants.{Cut}
use Rattle.vx_linked.proofs.Finding.{cut_tested, found}
use Rattle.vx_linked.proofs.Moves.{cut_comes, tested_there, with_facts}
use Rattle.vx_linked.proofs.cutting.cut.Goals as goal

pub turn-requires : goal.turn-requires
turn-requires c = record { found = found c.args.sites.now c.args.from.now c.args.to.now (cut_tested c.args.sites.now c.args.from.now c.args.to.now c.requires.free) }

pub returns-clause-world : goal.returns-clause-world
returns-clause-world c = λ w f stands.
    let from = c.args.from.now in
    let to = c.args.to.now in
    let tested = cut_tested c.args.sites.now from to c.requires.free in
    cut_comes w from to (tested_there w c.args.sites.now from to stands.facts tested) f stands.flight c.turn.new.sites (with_facts w c.args.sites.now c.turn.new.sites Cut from to stands.facts c.turn.ensures)
