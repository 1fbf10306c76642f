-- `fetch`: its result.
use Rattle.std.proofs.Common.{rules, ◌≡◌}
use Rattle.vx_plain.proofs.Logged.{does-gone}
use Rattle.vx_plain.proofs.small.Core.fetch.Goals as goal

pub returns-then-number-eq0 : goal.returns-then-number-eq0
returns-then-number-eq0 c = let none : c.args.number ≡ 0 = search rules in does-gone c.args.self.now c.args.number c.args.into.now none
