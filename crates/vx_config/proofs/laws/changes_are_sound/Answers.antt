-- What changes keep sound, and what takes them back.
use Rattle.std.proofs.Common.{refl}
use Rattle.vx_config.proofs.Changed.{sound_lost, state_sound}
use Rattle.vx_config.proofs.Fewer.{fewer_sound, stated_back}
use Rattle.vx_config.proofs.laws.changes_are_sound.Goals as goal

pub returns : goal.returns
returns c = record {
  state = λ d volume plex s whole sound live. state_sound volume plex s whole d _ refl sound live;
  loss = λ d volume log is_lost. sound_lost volume log is_lost d;
  last = λ d vs v is below sound. fewer_sound vs v d is below sound;
  back = λ d volume plex v p s whole in_d in_v. stated_back d volume plex v p s whole in_d in_v;
}
