-- `is_short`: its result.
use Rattle.vx_config.proofs.LengthLemmas.{length-spelled}
use Rattle.vx_config.proofs.encoding.is_short.Goals as goal

pub returns : goal.returns
returns c = length-spelled c.args.config.now c.config_fits.ensures c.requires.few
