-- `drop_spent`: clauses kept and spent.
use Rattle.std.proofs.Common.{◌≡◌, ◌∙◌, inl, inr, false, true, refl, sym, arith}
use Rattle.vx_logged.proofs.spending.drop_spent.Goals as goal

pub returns-then-not-going-clause-kept : goal.returns-then-not-going-clause-kept
returns-then-not-going-clause-kept c = inl refl

pub returns-then-not-going-clause-spent : goal.returns-then-not-going-clause-spent
returns-then-not-going-clause-spent c = λ on few. absurd (let clash : false ≡ true = sym c.if-not-going.true ∙ on in cc)

pub returns-then-core-clause-kept : goal.returns-then-core-clause-kept
returns-then-core-clause-kept c = inl refl

pub returns-then-core-clause-spent : goal.returns-then-core-clause-spent
returns-then-core-clause-spent c = λ on few. absurd (let left = c.if-core.true in omega (arith, left, few))

pub returns-clause-kept : goal.returns-clause-kept
returns-clause-kept c = inr (refl, (let spent = c.if-core.false in omega (arith, spent)))

pub returns-clause-spent : goal.returns-clause-spent
returns-clause-spent c = λ on few. refl
