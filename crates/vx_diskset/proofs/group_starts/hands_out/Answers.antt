-- `hands_out`: the write that was cut, by how the start went.
use Rattle.std.proofs.Common.{refl, subst, sym}
use Rattle.std.specs.Prelude.{Err, Ok}
use Rattle.vx_diskset.specs.OverStarts.{HandsOut}
use Rattle.vx_diskset.proofs.group_starts.hands_out.Goals as goal

pub returns-in-Ok : goal.returns-in-Ok
returns-in-Ok c = subst (λ r. HandsOut c.args.cut r (Ok c.args.cut)) (sym c.in-Ok.is) refl

pub returns-in-Err : goal.returns-in-Err
returns-in-Err c = subst (λ r. HandsOut c.args.cut r (Err c.in-Err.stop)) (sym c.in-Err.is) refl
