-- Each clause is part of its theorem.
use Rattle.std.specs.Prelude.{Some, None}
use Rattle.vx_effects.proofs.Rooms.{has_room}
use Rattle.vx_effects.proofs.Writes.{write_none, write_said}
use Rattle.vx_effects.proofs.laws.writes_change_no_link.Goals as goal

pub returns : goal.returns
returns c = record {
  headers = λ d s x i fit. write_none d.world s x fit None i;
  half = λ d s x disk i fit. write_none d.world s x fit (Some disk) i;
  room = has_room;
  said = λ d s x fit can. write_said d.world s x fit can;
}
