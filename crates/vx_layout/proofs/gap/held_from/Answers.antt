-- `held_from`: clauses held and free.
use Rattle.std.proofs.Common.{refl, sym}
use Rattle.vx_layout.proofs.Gaps.{held_on, none_held}
use Rattle.vx_layout.proofs.gap.held_from.Goals as goal

pub returns-then-holds-clause-held : goal.returns-then-holds-clause-held
returns-then-holds-clause-held c = held_on c.args.used.now c.args.disk c.args.block c.loop-run.run-index _ c.loop-run-test.true refl (sym c.if-holds.ensures)

pub returns-clause-free : goal.returns-clause-free
returns-clause-free c = λ none. none_held c.args.used.now c.args.disk c.args.block c.loop-run.run-index c.loop-run-test.false c.loop-run.invariant
