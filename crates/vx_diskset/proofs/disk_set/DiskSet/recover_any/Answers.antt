-- A start, and what comes up by its role.
use Rattle.std.proofs.Common.{subst}
use Rattle.vx_diskset.specs.DiskSets.{CameUpIs}
use Rattle.vx_diskset.proofs.Receiving.{came_role}
use Rattle.vx_diskset.proofs.disk_set.DiskSet.recover_any.Goals as goal

pub returns-in-Ok-clause-recovered : goal.returns-in-Ok-clause-recovered
returns-in-Ok-clause-recovered g c = λ beside n stands down apart ring.
    came_role n c.recover-disk_set.result.0 c.by_role.result (subst (λ r. CameUpIs beside n c.args.self c.recover-disk_set.result.0 r) c.in-Ok.is (c.recover-disk_set.ensures.recovered beside n stands down apart ring))
    (λ k. c.by_role.ensures.rises beside k) (λ k. c.by_role.ensures.role beside k) c.by_role.ensures.told

pub returns-in-Err-clause-recovered : goal.returns-in-Err-clause-recovered
returns-in-Err-clause-recovered g c = λ beside n stands down apart ring.
    subst (λ r. CameUpIs beside n c.args.self c.recover-disk_set.result.0 r) c.in-Err.is (c.recover-disk_set.ensures.recovered beside n stands down apart ring)
