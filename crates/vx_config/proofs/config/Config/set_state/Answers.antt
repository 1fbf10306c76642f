-- What a state leaves of the configuration.
use Rattle.vx_config.proofs.Changed.{state_count, state_sound}
use Rattle.vx_config.proofs.config.Config.set_state.Goals as goal

pub returns-clause-count : goal.returns-clause-count
returns-clause-count c = state_count c.args.volume c.args.plex c.args.state c.args.whole c.args.self.now c.set_state.new.self c.set_state.ensures

pub returns-clause-sound : goal.returns-clause-sound
returns-clause-sound c = state_sound c.args.volume c.args.plex c.args.state c.args.whole c.args.self.now c.set_state.new.self c.set_state.ensures
