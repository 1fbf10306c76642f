-- A run ends at a line that is open, and that no test refuses.
use Rattle.std.proofs.Common.{◌≡◌, ◌∙◌, false, sym, true}
use Rattle.std.specs.Prelude.{None}
use Rattle.vx_yard.specs.Working.{refused_in}
use Rattle.vx_link_lines.proofs.AnswerFor.{tested}
use Rattle.vx_node.proofs.closing.ends_run.Goals as goal

pub is_open_at-requires-clause-free : goal.is_open_at-requires-clause-free
is_open_at-requires-clause-free g c = λ κs within. sym c.refusal.ensures ∙ c.in-None.is

pub returns-in-Some-clause-ends : goal.returns-in-Some-clause-ends
returns-in-Some-clause-ends g c = λ is. absurd (let clash : false ≡ true = is in cc)

pub returns-in-Some-clause-closed : goal.returns-in-Some-clause-closed
returns-in-Some-clause-closed g c = λ off free.
    let some : refused_in c.args.yard.now c.args.line.now ≡ c.refusal.result = sym c.refusal.ensures in
    let none : refused_in c.args.yard.now c.args.line.now ≡ None = free in
    absurd (let clash = sym none ∙ some ∙ c.in-Some.is in cc)

pub returns-in-None-clause-ends : goal.returns-in-None-clause-ends
returns-in-None-clause-ends g c = λ is d stands carries. record {
  free = tested d c.args.yard.now c.args.line.now stands carries ∙ (sym c.refusal.ensures ∙ c.in-None.is);
  is = sym (c.is_open_at.ensures d stands) ∙ is;
}

pub returns-in-None-clause-closed : goal.returns-in-None-clause-closed
returns-in-None-clause-closed g c = λ off free d stands carries. sym (c.is_open_at.ensures d stands) ∙ off
