-- `by_role`: clauses rises and role.
use Rattle.std.proofs.Common.{◌∙◌, ap, sym}
use Rattle.vx_model.specs.Sites.{is_origin}
use Rattle.vx_diskset.proofs.Receiving.{risen_at, risen_origin}
use Rattle.vx_diskset.proofs.disk_set.DiskSet.by_role.Goals as goal

pub returns-else-is_origin-clause-rises : goal.returns-else-is_origin-clause-rises
returns-else-is_origin-clause-rises g c = λ beside n stands running whole.
    risen_at beside n c.args.self c.in-Up.rvg c.together.result c.in-Up.is c.together.ensures.group (c.together.ensures.waiting ∙ c.requires.none)
    (ap (λ s. is_origin s.role) (sym c.state.ensures.is) ∙ sym c.is_origin.ensures ∙ c.if-is_origin.false) stands running whole

pub returns-then-is_origin-clause-role : goal.returns-then-is_origin-clause-role
returns-then-is_origin-clause-role g c = λ beside n stands.
    risen_origin beside n c.args.self c.in-Up.rvg c.in-Up.is (ap (λ s. is_origin s.role) (sym c.state.ensures.is) ∙ sym c.is_origin.ensures ∙ c.if-is_origin.true) stands
