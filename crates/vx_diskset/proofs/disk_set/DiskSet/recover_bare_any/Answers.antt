-- What was found on the disks of a bare site, by its role.
use Rattle.std.proofs.Common.{subst}
use Rattle.vx_diskset.specs.DiskSets.{BareUpIs}
use Rattle.vx_diskset.proofs.Receiving.{bare_role}
use Rattle.vx_diskset.proofs.disk_set.DiskSet.recover_bare_any.Goals as goal

pub returns-in-Ok-clause-found : goal.returns-in-Ok-clause-found
returns-in-Ok-clause-found g c = λ beside n stands bare can ring.
    bare_role n c.recover_bare-disk_set.result.0 c.by_role.result (subst (λ r. BareUpIs n c.args.self c.recover_bare-disk_set.result.0 r) c.in-Ok.is (c.recover_bare-disk_set.ensures.found beside n stands bare can ring))
    (λ other k. c.by_role.ensures.rises other k) (λ other k. c.by_role.ensures.role other k) c.by_role.ensures.told

pub returns-in-Err-clause-found : goal.returns-in-Err-clause-found
returns-in-Err-clause-found g c = λ beside n stands bare can ring.
    subst (λ r. BareUpIs n c.args.self c.recover_bare-disk_set.result.0 r) c.in-Err.is (c.recover_bare-disk_set.ensures.found beside n stands bare can ring)
