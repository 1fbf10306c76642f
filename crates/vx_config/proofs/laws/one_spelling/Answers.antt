-- `one_spelling`: its result.
use Rattle.vx_config.proofs.DecodeLemmas.{one-spelling}
use Rattle.vx_config.proofs.laws.one_spelling.Goals as goal

pub returns : goal.returns
returns c = one-spelling
