-- `image_has_one_log`: its result.
use Rattle.vx_ringlog.proofs.OneLog.{log_unique}
use Rattle.vx_ringlog.proofs.image_has_one_log.Goals as goal

pub returns : goal.returns
returns c = log_unique
