-- What a loss leaves of the configuration.
use Rattle.vx_config.proofs.Changed.{lost_count, lost_sound}
use Rattle.vx_config.proofs.config.Config.set_lost.Goals as goal

pub returns-clause-count : goal.returns-clause-count
returns-clause-count c = lost_count c.args.volume c.args.log c.args.lost c.args.self.now c.set_lost.new.self c.set_lost.ensures

pub returns-clause-sound : goal.returns-clause-sound
returns-clause-sound c = lost_sound c.args.volume c.args.log c.args.lost c.args.self.now c.set_lost.new.self c.set_lost.ensures
