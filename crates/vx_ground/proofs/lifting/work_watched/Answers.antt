-- Work over disks with an account of their calls.
use Rattle.std.proofs.Common.{◌∙◌}
use Rattle.vx_ground.specs.Accounts.{GroundSince, ground_state}
use Rattle.vx_ground.specs.Lifted.{volumes_over}
use Rattle.vx_grouped.proofs.CarryLemmas.{carried, shelf_of}
use Rattle.vx_ground.proofs.AccountLemmas.{carried_back}
use Rattle.vx_ground.proofs.lifting.work_watched.Goals as goal

pub work_grounded-group-requires-clause-asks : goal.work_grounded-group-requires-clause-asks
work_grounded-group-requires-clause-asks g c =
    carried_back (λ x s. g.W.Work.asks c.args.work (volumes_over x (g.R.Shelf.meaning s))) c.args.group.core c.together-group.result.core c.args.group.shelf c.together-group.result.shelf.shelf
    (c.together-group.ensures.core ∙ c.apart-rack.ensures.core) (shelf_of _ _ c.together-group.ensures.shelf ∙ c.over-watched.ensures ∙ c.apart-rack.ensures.shelf) c.requires.asks

pub returns-clause-does : goal.returns-clause-does
returns-clause-does g c =
    carried (λ x s y t. g.W.Work.does c.args.work (volumes_over x (g.R.Shelf.meaning s)) (volumes_over y (g.R.Shelf.meaning t)) c.work_grounded-group.result.1)
    c.args.group.core c.together-group.result.core c.together.result.core c.work_grounded-group.result.0.core c.args.group.shelf c.together-group.result.shelf.shelf c.together.result.shelf c.work_grounded-group.result.0.shelf.shelf
    (c.together-group.ensures.core ∙ c.apart-rack.ensures.core) (shelf_of _ _ c.together-group.ensures.shelf ∙ c.over-watched.ensures ∙ c.apart-rack.ensures.shelf)
    (c.together.ensures.core ∙ c.apart-watched.ensures.core) (c.together.ensures.shelf ∙ c.into_shelf-rack.ensures.shelf ∙ shelf_of _ _ c.apart-watched.ensures.shelf)
    c.work_grounded-group.ensures.does

pub returns-clause-ground : goal.returns-clause-ground
returns-clause-ground g c =
    carried (λ x s y t. GroundSince (ground_state x) (g.R.Shelf.meaning s) (ground_state y) (g.R.Shelf.meaning t))
    c.args.group.core c.together-group.result.core c.together.result.core c.work_grounded-group.result.0.core c.args.group.shelf c.together-group.result.shelf.shelf c.together.result.shelf c.work_grounded-group.result.0.shelf.shelf
    (c.together-group.ensures.core ∙ c.apart-rack.ensures.core) (shelf_of _ _ c.together-group.ensures.shelf ∙ c.over-watched.ensures ∙ c.apart-rack.ensures.shelf)
    (c.together.ensures.core ∙ c.apart-watched.ensures.core) (c.together.ensures.shelf ∙ c.into_shelf-rack.ensures.shelf ∙ shelf_of _ _ c.apart-watched.ensures.shelf)
    c.work_grounded-group.ensures.since

pub work_grounded-group-requires-clause-counts : goal.work_grounded-group-requires-clause-counts
work_grounded-group-requires-clause-counts g c = λ s d. ((g.met.R.Rack g.world.𝓛 g.world.𝓜 g.world.𝓡 ((λ s x. x), (λ x. x), (λ x. x), λ x. x)).rack s.shelf).counts d
