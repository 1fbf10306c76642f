-- A log that is lost.
use Rattle.vx_kept.proofs.LosingLemmas.{made_loses, made_plexes}
use Rattle.vx_kept.proofs.losing.lose.Goals as goal

pub returns-clause-same : goal.returns-clause-same
returns-clause-same c = made_plexes c.args.vol c.args.log c.args.config.now c.set_lost.new.self c.set_lost.ensures.changed

pub returns-clause-logs : goal.returns-clause-logs
returns-clause-logs c = made_loses c.args.vol c.args.log c.args.config.now c.set_lost.new.self c.set_lost.ensures.changed
