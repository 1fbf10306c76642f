-- The test of a packet's number.
use Rattle.std.specs.Prelude.{ℕ, ◌+◌, ◌||◌, ◌==◌, nat_lt, nat_le, Option}
use Rattle.vx_model.specs.declared.limits.TheConstants.{MOST_PACKETS}
use Rattle.vx_model.specs.declared.no.Named.TheVariants.{Number}
use Rattle.vx_model.specs.declared.no.No.{No}
use Rattle.vx_model.specs.declared.no.No.TheVariants.{Unknown}
use Rattle.vx_order.specs.Tests.{when}

-- 1: of so many packets that were sent none that the network still keeps has this number
abbrev pub packet_unknown : (sent number : ℕ) → Option No
packet_unknown sent number = when (number == 0 || (nat_lt sent number || nat_le (number + MOST_PACKETS) sent)) (Unknown (Number number))
