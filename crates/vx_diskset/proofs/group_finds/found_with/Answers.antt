-- A group that was found, with the replicated volume group that it has.
use Rattle.std.proofs.Common.{subst, true}
use Rattle.std.specs.Prelude.{None}
use Rattle.vx_diskset.specs.OverStarts.{WithPlain}
use Rattle.vx_diskset.proofs.group_finds.found_with.Goals as goal

pub returns-in-Ok : goal.returns-in-Ok
returns-in-Ok g c = subst (λ r. WithPlain true None c.args.group None c.with_plain-disk_set.result.0 r) c.in-Ok.is c.with_plain-disk_set.ensures.over

pub returns-in-Err : goal.returns-in-Err
returns-in-Err g c =
    (c.with_plain-disk_set.result.0, c.bare_again.ensures, subst (λ r. WithPlain true None c.args.group None c.with_plain-disk_set.result.0 r) c.in-Err.is c.with_plain-disk_set.ensures.over)
