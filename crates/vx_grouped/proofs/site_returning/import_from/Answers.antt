-- An import over disks with an account.
use Rattle.std.proofs.Common.{◌∙◌, IsTrue, refl, sym, subst, ap}
use Rattle.vx_group.specs.Imports.{ImportStops}
use Rattle.vx_group.specs.Resumes.{CanImport, CanImportBehind}
use Rattle.vx_logimport.specs.Rests.{LogsTell}
use Rattle.vx_grouped.specs.Away.{AwayLies}
use Rattle.vx_grouped.specs.Returns.{GroupReturns, ImportLeft}
use Rattle.vx_grouped.proofs.CarryLemmas.{carried, carried_two, shelf_of}
use Rattle.vx_grouped.specs.Brings.{BringsVolumes}
use Rattle.vx_grouped.specs.PlainMaps.{PartsBack, map_parts}
use Rattle.vx_grouped.proofs.PlainMapLemmas.{parts_carried, parts_same}
use Rattle.vx_grouped.proofs.site_returning.import_from.Goals as goal

pub returns-in-Ok-clause-leaves : goal.returns-in-Ok-clause-leaves
returns-in-Ok-clause-leaves g c = λ n note last lies.
    carried (λ x s y t. AwayLies n note last (g.R.Shelf.meaning s) → GroupReturns n note last (g.R.Shelf.meaning s) y (g.R.Shelf.meaning t))
    c.in-Ok.group.core c.in-Ok.group.core c.together.result.core c.in-Ok.group.core c.args.rack c.over-watched.result.shelf c.together.result.shelf c.in-Ok.group.shelf.shelf refl c.over-watched.ensures
    (c.together.ensures.core ∙ c.apart-watched.ensures.core) (c.together.ensures.shelf ∙ c.into_shelf-rack.ensures.shelf ∙ shelf_of _ _ c.apart-watched.ensures.shelf) (λ it. c.in-Ok.ensures.leaves n note last it) lies

pub returns-in-Err-clause-leaves : goal.returns-in-Err-clause-leaves
returns-in-Err-clause-leaves g c = λ n note last lies.
    carried_two (λ s t. AwayLies n note last (g.R.Shelf.meaning s) → ImportLeft n note last (g.R.Shelf.meaning s) (g.R.Shelf.meaning t)) c.args.rack c.over-watched.result.shelf c.into_shelf.result c.in-Err.watched.shelf c.over-watched.ensures c.into_shelf.ensures.shelf
    (λ it. c.in-Err.ensures.leaves n note last it) lies

pub returns-in-Err-clause-stops : goal.returns-in-Err-clause-stops
returns-in-Err-clause-stops g c =
    carried_two (λ s t. ImportStops (g.R.Shelf.meaning s) (g.R.Shelf.meaning t) c.in-Err.stop) c.args.rack c.over-watched.result.shelf c.into_shelf.result c.in-Err.watched.shelf c.over-watched.ensures c.into_shelf.ensures.shelf c.in-Err.ensures.stops

pub returns-in-Err-clause-again : goal.returns-in-Err-clause-again
returns-in-Err-clause-again g c = carried_two (λ s t. CanImportBehind (g.R.Shelf.meaning t)) c.args.rack c.over-watched.result.shelf c.into_shelf.result c.in-Err.watched.shelf c.over-watched.ensures c.into_shelf.ensures.shelf c.in-Err.ensures.again

pub import_group-came-requires : goal.import_group-came-requires
import_group-came-requires g c = record {
  can = subst (λ s. CanImport (g.R.Shelf.meaning s)) (sym c.over-watched.ensures) c.requires.can;
  tells = subst (λ s. LogsTell c.args.rested.now (g.R.Shelf.meaning s)) (sym c.over-watched.ensures) c.requires.tells;
}

pub returns-in-Ok-clause-up : goal.returns-in-Ok-clause-up
returns-in-Ok-clause-up g c =
    carried_two (λ s t. IsTrue (g.R.Shelf.meaning t).down → ⊥) c.args.rack c.args.rack c.together.result.shelf c.in-Ok.group.shelf.shelf refl (c.together.ensures.shelf ∙ c.into_shelf-rack.ensures.shelf ∙ shelf_of _ _ c.apart-watched.ensures.shelf) c.in-Ok.ensures.up

pub returns-in-Ok-clause-maps : goal.returns-in-Ok-clause-maps
returns-in-Ok-clause-maps g c =
    parts_carried (λ x m y n. PartsBack c.args.rested.now m y n)
    (map_parts c.in-Ok.group.core.inner.config c.in-Ok.group.logs.items c.in-Ok.group.alike c.in-Ok.group.stopped) (map_parts c.in-Ok.group.core.inner.config c.in-Ok.group.logs.items c.in-Ok.group.alike c.in-Ok.group.stopped) (map_parts c.together.result.core.inner.config c.together.result.logs.items c.together.result.alike c.together.result.stopped) (map_parts c.in-Ok.group.core.inner.config c.in-Ok.group.logs.items c.in-Ok.group.alike c.in-Ok.group.stopped) (g.R.Shelf.meaning c.args.rack) (g.R.Shelf.meaning c.over-watched.result.shelf) (g.R.Shelf.meaning c.together.result.shelf) (g.R.Shelf.meaning c.in-Ok.group.shelf.shelf) refl
    (ap (λ s. g.R.Shelf.meaning s) c.over-watched.ensures)
    (parts_same c.in-Ok.group.core.inner.config c.together.result.core.inner.config c.in-Ok.group.logs.items c.together.result.logs.items c.in-Ok.group.alike c.together.result.alike c.in-Ok.group.stopped c.together.result.stopped
    (ap (λ x. x.inner.config) (c.together.ensures.core ∙ c.apart-watched.ensures.core)) (ap (λ x. x.items) (c.together.ensures.logs ∙ c.apart-watched.ensures.logs)) (c.together.ensures.alike ∙ c.apart-watched.ensures.alike) (c.together.ensures.stopped ∙ c.apart-watched.ensures.stopped))
    (ap (λ s. g.R.Shelf.meaning s) (c.together.ensures.shelf ∙ c.into_shelf-rack.ensures.shelf ∙ shelf_of _ _ c.apart-watched.ensures.shelf))
    c.in-Ok.ensures.maps

pub returns-in-Err-clause-maps : goal.returns-in-Err-clause-maps
returns-in-Err-clause-maps g c = tt

pub returns-in-Ok-clause-brings : goal.returns-in-Ok-clause-brings
returns-in-Ok-clause-brings g c =
    carried (λ x s y t. BringsVolumes (g.R.Shelf.meaning s) y (g.R.Shelf.meaning t))
    c.in-Ok.group.core c.in-Ok.group.core c.together.result.core c.in-Ok.group.core c.args.rack c.over-watched.result.shelf c.together.result.shelf c.in-Ok.group.shelf.shelf refl c.over-watched.ensures
    (c.together.ensures.core ∙ c.apart-watched.ensures.core) (c.together.ensures.shelf ∙ c.into_shelf-rack.ensures.shelf ∙ shelf_of _ _ c.apart-watched.ensures.shelf) c.in-Ok.ensures.brings
