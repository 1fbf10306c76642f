-- `puts_together`: its result.
use Rattle.vx_courier.proofs.Joining.{put_together, stands_later}
use Rattle.vx_courier.proofs.laws.puts_together.Goals as goal

pub returns : goal.returns
returns c = record { takes = λ ps site place p g old new t one stands there target fly takes. put_together ps site place p one there target fly g old stands t new takes; later = stands_later }
