-- A loss that is taken back.
use Rattle.vx_config.specs.declared.config.Config.{Config}
use Rattle.vx_kept.proofs.LosingLemmas.{lost_back}
use Rattle.vx_kept.proofs.losing.give_back.Goals as goal

pub returns : goal.returns
returns c = λ (x : Config) is was. lost_back c.args.vol c.args.log c.args.was x c.args.config.now c.set_lost.new.self is was c.set_lost.ensures.changed
