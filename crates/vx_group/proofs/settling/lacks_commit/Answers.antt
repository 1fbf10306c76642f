-- `lacks_commit`: its clause, way by way.
use Rattle.std.proofs.Common.{◌≡◌, ◌∙◌, true, false, sym, arith}
use Rattle.vx_group.proofs.settling.lacks_commit.Goals as goal

pub returns-then-not-core : goal.returns-then-not-core
returns-then-not-core c = record { free = λ off it. absurd (let clash : false ≡ true = sym c.if-not-core.true ∙ it.missed in cc) }

pub returns-then-core-lt-MOST_NUMBER : goal.returns-then-core-lt-MOST_NUMBER
returns-then-core-lt-MOST_NUMBER c = record { free = λ off it. absurd (let left = c.if-core-lt-MOST_NUMBER.true in let spent = it.spent in omega (arith, left, spent)) }

pub returns : goal.returns
returns c = record { free = λ off it. absurd (let clash : true ≡ false = off in cc) }
