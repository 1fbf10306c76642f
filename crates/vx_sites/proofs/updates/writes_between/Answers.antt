-- `writes_between`: clause is.
use Rattle.std.proofs.Common.{◌≡◌, length, min, ◌-◌}
use Rattle.vx_sites.proofs.Sendings.{between_is}
use Rattle.vx_sites.proofs.updates.writes_between.Goals as goal

pub returns-then-first-last-clause-is : goal.returns-then-first-last-clause-is
returns-then-first-last-clause-is c =
    let low : c.min-first.result ≡ min (c.args.from - 1) (length c.args.log.now) = cc in
    between_is c.args.from c.args.to c.min-first.result c.min-last.result c.args.log.now low c.min-last.ensures c.if-first-last.true
