-- The law is that of the lemma.
use Rattle.vx_layout.proofs.SoundLemmas.{sound_stays}
use Rattle.vx_layout.proofs.laws.stays_sound.Goals as goal

pub returns : goal.returns
returns c = sound_stays
