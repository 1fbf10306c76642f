-- A group of disks that tell nothing, of which the calls are accounted for.
use Rattle.std.proofs.Common.{◌∙◌, IsTrue, ap, refl, sym, subst}
use Rattle.std.proofs.lemmas.Bool.{false_from_ne_true}
use Rattle.vx_group.specs.Imports.{ImportStops}
use Rattle.vx_logimport.proofs.TellLemmas.{untold_tells}
use Rattle.vx_loggroup.specs.Fresh.{FreshStands}
use Rattle.vx_loggroup.specs.LoggedVolumes.{LoggedStands}
use Rattle.vx_untold.specs.Shades.{rack_of, shade_meaning}
use Rattle.vx_untold.specs.Untold.{untold}
use Rattle.vx_untold.specs.declared.shade.Shade.TheVariants.{Bright, Dark}
use Rattle.vx_grouped.specs.Away.{AwayLies}
use Rattle.vx_grouped.specs.PlainMaps.{PartsNoted}
use Rattle.vx_grouped.specs.Returns.{GroupReturns}
use Rattle.vx_grouped.proofs.CarryLemmas.{carried, carried_two}
use Rattle.vx_grouped.proofs.FindLemmas.{untold_can}
use Rattle.vx_grouped.proofs.PlainMapLemmas.{parts_same}
use Rattle.vx_grouped.proofs.SinceReturns.{return_at, return_calls, return_dark, return_then}
use Rattle.vx_loggroup.specs.Settled.{SettledFact}
use Rattle.vx_grouped.proofs.finding.find_from.Goals as goal

pub returns-in-Ok-clause-leaves : goal.returns-in-Ok-clause-leaves
returns-in-Ok-clause-leaves g c = λ n note last lies.
    subst (λ s. GroupReturns n note last (untold (g.R.Shelf.meaning c.args.rack)) c.dimmed.result.core (shade_meaning g.R.Shelf.meaning s))
    (sym (c.dimmed.ensures.shelf ∙ ap (λ u. Dark u.shelf) c.together.ensures.shelf ∙ ap (λ r. Dark r) (c.into_shelf-rack.ensures.shelf ∙ ap (λ u. u.shelf.shelf) c.apart-watched.ensures.shelf)))
    (carried (λ x s y t. AwayLies n note last (untold (g.R.Shelf.meaning s)) → GroupReturns n note last (untold (g.R.Shelf.meaning s)) y (untold (g.R.Shelf.meaning t)))
    c.in-Ok.group.core c.in-Ok.group.core c.dimmed.result.core c.in-Ok.group.core c.args.rack c.over.result.shelf c.in-Ok.group.shelf.shelf.shelf c.in-Ok.group.shelf.shelf.shelf refl c.over.ensures
    (c.dimmed.ensures.core ∙ c.together.ensures.core ∙ c.apart-watched.ensures.core) refl (λ it. c.in-Ok.ensures.leaves n note last it) lies)

pub returns-in-Err-clause-stops : goal.returns-in-Err-clause-stops
returns-in-Err-clause-stops g c =
    carried_two (λ s t. ImportStops (untold (g.R.Shelf.meaning s)) (untold (g.R.Shelf.meaning t)) c.in-Err.stop) c.args.rack c.over.result.shelf c.into_shelf.result c.in-Err.watched.shelf.shelf c.over.ensures c.into_shelf.ensures.shelf c.in-Err.ensures.stops

pub returns-in-Ok-clause-since : goal.returns-in-Ok-clause-since
returns-in-Ok-clause-since g c =
    let since = c.into_shelf-rack.ensures.since in
    return_at (λ s. shade_meaning g.R.Shelf.meaning s) _ (Dark c.into_shelf-rack.result) c.dimmed.result.shelf (c.dimmed.ensures.shelf ∙ ap (λ u. Dark u.shelf) c.together.ensures.shelf)
    (return_then _ (g.R.Shelf.meaning c.into_shelf-rack.result) (untold (g.R.Shelf.meaning c.into_shelf-rack.result))
    (return_calls _ (g.R.Shelf.meaning c.into_shelf-rack.result) since (false_from_ne_true (g.R.Shelf.meaning c.into_shelf-rack.result).down
    (subst (λ s. IsTrue (g.R.Shelf.meaning s).down → ⊥) (sym (c.into_shelf-rack.ensures.shelf ∙ ap (λ u. u.shelf.shelf) c.apart-watched.ensures.shelf)) c.in-Ok.ensures.up)))
    (return_dark g.R.Shelf.meaning (Bright c.into_shelf-rack.result)))

pub returns-in-Ok-clause-told : goal.returns-in-Ok-clause-told
returns-in-Ok-clause-told g c = λ told.
    sym c.into_shelf-rack.ensures.since.tells ∙ subst (λ s. IsTrue (g.R.Shelf.meaning (rack_of s)).tells) (c.dimmed.ensures.shelf ∙ ap (λ u. Dark u.shelf) c.together.ensures.shelf) told

pub returns-in-Err-clause-told : goal.returns-in-Err-clause-told
returns-in-Err-clause-told g c = λ told. sym c.into_shelf.ensures.since.tells ∙ told

pub import_group-requires : goal.import_group-requires
import_group-requires g c = record { can = untold_can (g.R.Shelf.meaning c.over.result.shelf); tells = untold_tells c.found.result (untold (g.R.Shelf.meaning c.over.result.shelf)) (λ i each. each 0 0) }

pub together-requires-clause-stands : goal.together-requires-clause-stands
together-requires-clause-stands g c =
    subst (λ s. LoggedStands c.apart-watched.result.1.core c.apart-watched.result.1.logs.items c.apart-watched.result.1.alike c.apart-watched.result.1.stopped (untold (g.R.Shelf.meaning s))) (sym c.into_shelf-rack.ensures.shelf) c.apart-watched.ensures.stands

pub together-requires-clause-begins : goal.together-requires-clause-begins
together-requires-clause-begins g c = subst (λ s. FreshStands c.apart-watched.result.1.core c.apart-watched.result.1.fresh (untold (g.R.Shelf.meaning s))) (sym c.into_shelf-rack.ensures.shelf) c.apart-watched.ensures.begins

pub returns-in-Ok-clause-maps : goal.returns-in-Ok-clause-maps
returns-in-Ok-clause-maps g c =
    let some = c.in-Ok.ensures.maps.some in (
      some.0,
      subst (λ x. PartsNoted some.0 x)
          (sym (parts_same c.in-Ok.group.core.inner.config c.dimmed.result.core.inner.config c.in-Ok.group.logs.items c.dimmed.result.logs.items c.in-Ok.group.alike c.dimmed.result.alike c.in-Ok.group.stopped c.dimmed.result.stopped
          (ap (λ x. x.inner.config) (c.dimmed.ensures.core ∙ c.together.ensures.core ∙ c.apart-watched.ensures.core)) (ap (λ x. x.items) (c.dimmed.ensures.logs ∙ c.together.ensures.logs ∙ c.apart-watched.ensures.logs))
          (c.dimmed.ensures.alike ∙ c.together.ensures.alike ∙ c.apart-watched.ensures.alike) (c.dimmed.ensures.stopped ∙ c.together.ensures.stopped ∙ c.apart-watched.ensures.stopped)))
          some.1,
    )

pub together-requires-clause-settles : goal.together-requires-clause-settles
together-requires-clause-settles g c = subst (λ s. SettledFact c.apart-watched.result.1.core c.apart-watched.result.1.alike (untold (g.R.Shelf.meaning s))) (sym c.into_shelf-rack.ensures.shelf) c.apart-watched.ensures.settles
