-- A group that is made over disks with an account.
use Rattle.std.proofs.Common.{◌∙◌, refl, subst}
use Rattle.std.specs.Prelude.{◌≡◌, IfErr, None}
use Rattle.vx_group.specs.Creates.{IsNewGroup}
use Rattle.vx_grouped.specs.Begins.{BeginRefuses}
use Rattle.vx_grouped.proofs.BeginLemmas.{refuses_by}
use Rattle.vx_grouped.proofs.CarryLemmas.{carried, carried_two, shelf_of}
use Rattle.vx_grouped.proofs.beginning.create_from.Goals as goal

pub returns-in-Ok-clause-made : goal.returns-in-Ok-clause-made
returns-in-Ok-clause-made g c =
    carried (λ x s y t. IsNewGroup c.args.site (g.R.Shelf.meaning s) y.inner (g.R.Shelf.meaning t) × (y.held ≡ None))
    c.in-Ok.group.core c.in-Ok.group.core c.together.result.core c.in-Ok.group.core c.args.rack c.over-watched.result.shelf c.together.result.shelf c.in-Ok.group.shelf.shelf refl c.over-watched.ensures
    (c.together.ensures.core ∙ c.apart-watched.ensures.core) (c.together.ensures.shelf ∙ c.into_shelf-rack.ensures.shelf ∙ shelf_of _ _ c.apart-watched.ensures.shelf) c.in-Ok.ensures.created

pub returns-in-Err-clause-refusals : goal.returns-in-Err-clause-refusals
returns-in-Err-clause-refusals g c =
    carried_two (λ s t. BeginRefuses (g.R.Shelf.meaning s) (g.R.Shelf.meaning t) c.in-Err.stop) c.args.rack c.over-watched.result.shelf c.into_shelf.result c.in-Err.watched.shelf c.over-watched.ensures c.into_shelf.ensures.shelf
    (subst (λ r. IfErr r (λ e. BeginRefuses (g.R.Shelf.meaning c.over-watched.result.shelf) (g.R.Shelf.meaning e.0.shelf) e.1)) c.in-Err.is
    (refuses_by c.create-made.result c.args.site (g.R.Shelf.meaning c.over-watched.result.shelf) (λ w. g.R.Shelf.meaning w.shelf) (λ x. x.core) (λ x. x.shelf) c.create-made.ensures.created))
