-- `reply_to`: its result.
use Rattle.std.proofs.Common.{sym, subst}
use Rattle.vx_turn.specs.declared.ask.Ask.TheVariants.{Ordered}
use Rattle.vx_turn.specs.declared.ask.Said.TheVariants.{Replied}
use Rattle.vx_plain.specs.Logging.{Does}
use Rattle.vx_plain.proofs.small.Core.reply_to.Goals as goal

pub returns-in-Read : goal.returns-in-Read
returns-in-Read c = subst (λ k. Does c.args.self.now (Ordered k) (Replied c.read.result) c.read.new.self) (sym c.in-Read.is) c.read.ensures
