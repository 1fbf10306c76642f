-- The law is that of the lemma.
use Rattle.vx_layout.proofs.Placing.{sound_apart}
use Rattle.vx_layout.proofs.laws.are_apart.Goals as goal

pub returns : goal.returns
returns c = sound_apart
