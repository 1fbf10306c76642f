-- `work`: its result.
use Rattle.std.proofs.Common.{sym, subst}
use Rattle.vx_turn.specs.declared.ask.Ask.TheVariants.{Charged}
use Rattle.vx_turn.specs.declared.ask.Said.TheVariants.{Worked}
use Rattle.vx_plain.specs.Logging.{Does}
use Rattle.vx_plain.proofs.small.Core.work.Goals as goal

pub returns-in-Acked : goal.returns-in-Acked
returns-in-Acked c = subst (λ j. Does c.args.self.now (Charged j) (Worked c.acked.result c.args.into.now) c.acked.new.self) (sym c.in-Acked.is) (c.acked.ensures c.args.into.now)

pub returns-in-Wait : goal.returns-in-Wait
returns-in-Wait c = subst (λ j. Does c.args.self.now (Charged j) (Worked c.wait.result c.args.into.now) c.args.self.now) (sym c.in-Wait.is) (c.wait.ensures c.args.into.now)
