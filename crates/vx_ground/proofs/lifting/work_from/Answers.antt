-- Work on the volumes of a group, with an account that goes on.
use Rattle.std.proofs.Common.{sym, subst}
use Rattle.vx_ground.specs.Lifted.{volumes_over}
use Rattle.vx_loggroup.specs.declared.group.LoggedGroup.{LoggedGroup}
use Rattle.vx_ground.proofs.lifting.work_from.Goals as goal

pub run-ground-requires : goal.run-ground-requires
run-ground-requires g c = subst (λ (x : LoggedGroup g.row.S.Denot g.S.Shelf). g.W.Work.asks c.args.work (volumes_over x.core (g.S.Shelf.meaning x.shelf))) (sym c.over-ground.ensures) c.requires.asks

pub returns-clause-does : goal.returns-clause-does
returns-clause-does g c =
    subst (λ (x : LoggedGroup g.row.S.Denot g.S.Shelf). g.W.Work.does c.args.work (volumes_over x.core (g.S.Shelf.meaning x.shelf)) (volumes_over c.into_group.result.core (g.S.Shelf.meaning c.into_group.result.shelf)) c.run-ground.result.1) c.over-ground.ensures
    (subst (λ (x : LoggedGroup g.row.S.Denot g.S.Shelf). g.W.Work.does c.args.work (volumes_over c.over-ground.result.group.core (g.S.Shelf.meaning c.over-ground.result.group.shelf)) (volumes_over x.core (g.S.Shelf.meaning x.shelf)) c.run-ground.result.1) (sym c.into_group.ensures.group) c.run-ground.ensures)
