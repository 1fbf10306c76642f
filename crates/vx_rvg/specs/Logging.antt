-- The log behind a call that did not end.
use Rattle.std.specs.Prelude.{◌≡◌}
use Rattle.vx_srl.specs.Views.{Log}

-- the log after a call that a device call ended: something may be staged in it
pub record LogEnded (l l' : Log) : Type 0 where
  pub unit : l'.unit ≡ l.unit
  pub ring : l'.ring ≡ l.ring
  pub header : l'.header ≡ l.header
  pub held : l'.held ≡ l.held
