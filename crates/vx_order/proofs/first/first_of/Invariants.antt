-- The loop of `first_of` over `test`: what stays true.
use Rattle.std.proofs.Common.{◌≡◌, drop}
use Rattle.vx_order.specs.Tests.{first_said_no}
use Rattle.vx_order.proofs.first.first_of.Given as goal

abbrev pub invariant-loop-test : goal.invariant-loop-test
invariant-loop-test l = first_said_no (drop l.test-index l.tests) ≡ first_said_no l.tests
