-- A deport over disks with an account.
use Rattle.std.proofs.Common.{◌≡◌, ◌∙◌, None, Option, true, refl, subst, sym, ap}
use Rattle.std.specs.Prelude.{Err}
use Rattle.vx_model.specs.declared.site.SiteState.TheVariants.{Deported as IsDeported}
use Rattle.vx_config.specs.declared.config.Config.{Config}
use Rattle.vx_group.specs.Deports.{DeportedBy}
use Rattle.vx_group.specs.Holding.{wide}
use Rattle.vx_group.specs.Resumes.{CanImport}
use Rattle.vx_loggroup.specs.Opens.{RestTells}
use Rattle.vx_logimport.specs.declared.rested.Rested.{Rested}
use Rattle.vx_watched.specs.declared.watched.Watched.{Watched}
use Rattle.vx_grouped.specs.CoreMoves.{BackMoves}
use Rattle.vx_grouped.specs.Away.{IsDeportedAt, note_deported}
use Rattle.vx_grouped.specs.Ends.{CallLeaves}
use Rattle.vx_grouped.specs.GroupNotes.{IsGroupAt}
use Rattle.vx_grouped.proofs.CarryLemmas.{carried, shelf_of}
use Rattle.vx_grouped.proofs.DeportedLemmas.{device_stops}
use Rattle.vx_grouped.proofs.LeavingLemmas.{Refuses, refuses_by_serial}
use Rattle.vx_disk.specs.Racks.{IsRack}
use Rattle.vx_grouped.specs.PlainMaps.{PartsLeft, RefusedMaps, map_parts}
use Rattle.vx_grouped.specs.SiteMaps.{MapsLike}
use Rattle.vx_grouped.proofs.PlainMapLemmas.{parts_carried, parts_same}
use Rattle.vx_grouped.proofs.site_leaving.deport_from.Goals as goal

pub returns-in-Ok-clause-leaves : goal.returns-in-Ok-clause-leaves
returns-in-Ok-clause-leaves g c = λ n note at.
    carried (λ x s y t. IsGroupAt n note x (g.R.Shelf.meaning s) → (z : Config) × IsDeportedAt (record n { state = IsDeported }) (note_deported z x.inner note) x.inner.config z (g.R.Shelf.meaning t))
    c.args.group.core c.together-group.result.core c.args.group.core c.args.group.core c.args.group.shelf c.together-group.result.shelf.shelf c.into_shelf.result c.in-Ok.watched.shelf
    (c.together-group.ensures.core ∙ c.apart-rack.ensures.core) (shelf_of _ _ c.together-group.ensures.shelf ∙ c.over-watched.ensures ∙ c.apart-rack.ensures.shelf) refl c.into_shelf.ensures.shelf (λ it. c.in-Ok.ensures.leaves n note it) at

pub returns-in-Err-clause-leaves : goal.returns-in-Err-clause-leaves
returns-in-Err-clause-leaves g c = λ n note at.
    carried (λ x s y t. IsGroupAt n note x (g.R.Shelf.meaning s) → CallLeaves {T = Unit {0}} n note y (g.R.Shelf.meaning t) (Err c.in-Err.stop))
    c.args.group.core c.together-group.result.core c.together.result.core c.in-Err.group.core c.args.group.shelf c.together-group.result.shelf.shelf c.together.result.shelf c.in-Err.group.shelf.shelf
    (c.together-group.ensures.core ∙ c.apart-rack.ensures.core) (shelf_of _ _ c.together-group.ensures.shelf ∙ c.over-watched.ensures ∙ c.apart-rack.ensures.shelf)
    (c.together.ensures.core ∙ c.apart-watched.ensures.core) (c.together.ensures.shelf ∙ c.into_shelf-rack.ensures.shelf ∙ shelf_of _ _ c.apart-watched.ensures.shelf) (λ it. c.in-Err.ensures.leaves n note it) at

pub returns-in-Err-clause-refusals : goal.returns-in-Err-clause-refusals
returns-in-Err-clause-refusals g c =
    carried (λ x s y t. Refuses x (g.R.Shelf.meaning s) (g.R.Shelf.meaning t) c.in-Err.stop)
    c.args.group.core c.together-group.result.core c.together.result.core c.in-Err.group.core c.args.group.shelf c.together-group.result.shelf.shelf c.together.result.shelf c.in-Err.group.shelf.shelf
    (c.together-group.ensures.core ∙ c.apart-rack.ensures.core) (shelf_of _ _ c.together-group.ensures.shelf ∙ c.over-watched.ensures ∙ c.apart-rack.ensures.shelf)
    (c.together.ensures.core ∙ c.apart-watched.ensures.core) (c.together.ensures.shelf ∙ c.into_shelf-rack.ensures.shelf ∙ shelf_of _ _ c.apart-watched.ensures.shelf)
    (refuses_by_serial c.together-group.result.core (g.R.Shelf.meaning c.together-group.result.shelf.shelf) (g.R.Shelf.meaning c.in-Err.group.shelf.shelf) c.in-Err.stop (λ lt. (c.in-Err.ensures.limit lt).0)
    (λ le. device_stops {S = Watched _ _ _ _ × Option Rested} (g.R.Shelf.meaning c.together-group.result.shelf.shelf) (λ w. g.R.Shelf.meaning w.0.shelf) (λ y. (y.shelf, None)) c.in-Err.group c.in-Err.stop (c.in-Err.ensures.cause le)))

pub returns-in-Ok-clause-can : goal.returns-in-Ok-clause-can
returns-in-Ok-clause-can g c =
    carried (λ x s y t. x.inner.committed ≡ true → CanImport (g.R.Shelf.meaning t))
    c.args.group.core c.together-group.result.core c.args.group.core c.args.group.core c.args.group.shelf c.together-group.result.shelf.shelf c.into_shelf.result c.in-Ok.watched.shelf
    (c.together-group.ensures.core ∙ c.apart-rack.ensures.core) (shelf_of _ _ c.together-group.ensures.shelf ∙ c.over-watched.ensures ∙ c.apart-rack.ensures.shelf) refl c.into_shelf.ensures.shelf c.in-Ok.ensures.can

pub returns-in-Ok-clause-moves : goal.returns-in-Ok-clause-moves
returns-in-Ok-clause-moves g c =
    carried (λ x s y t. DeportedBy (wide x).config x.inner (g.R.Shelf.meaning s) (g.R.Shelf.meaning t))
    c.args.group.core c.together-group.result.core c.args.group.core c.args.group.core c.args.group.shelf c.together-group.result.shelf.shelf c.into_shelf.result c.in-Ok.watched.shelf
    (c.together-group.ensures.core ∙ c.apart-rack.ensures.core) (shelf_of _ _ c.together-group.ensures.shelf ∙ c.over-watched.ensures ∙ c.apart-rack.ensures.shelf) refl c.into_shelf.ensures.shelf c.in-Ok.ensures.moves

pub returns-in-Err-clause-moves : goal.returns-in-Err-clause-moves
returns-in-Err-clause-moves g c =
    carried (λ x s y t. BackMoves x y (g.R.Shelf.meaning s) (g.R.Shelf.meaning t))
    c.args.group.core c.together-group.result.core c.together.result.core c.in-Err.group.core c.args.group.shelf c.together-group.result.shelf.shelf c.together.result.shelf c.in-Err.group.shelf.shelf
    (c.together-group.ensures.core ∙ c.apart-rack.ensures.core) (shelf_of _ _ c.together-group.ensures.shelf ∙ c.over-watched.ensures ∙ c.apart-rack.ensures.shelf)
    (c.together.ensures.core ∙ c.apart-watched.ensures.core) (c.together.ensures.shelf ∙ c.into_shelf-rack.ensures.shelf ∙ shelf_of _ _ c.apart-watched.ensures.shelf) c.in-Err.ensures.moves

pub returns-in-Ok-clause-tells : goal.returns-in-Ok-clause-tells
returns-in-Ok-clause-tells g c = subst (λ t. RestTells c.in-Ok.rested (g.R.Shelf.meaning t)) (sym c.into_shelf.ensures.shelf) c.in-Ok.ensures.tells

pub returns-in-Ok-clause-maps : goal.returns-in-Ok-clause-maps
returns-in-Ok-clause-maps g c =
    parts_carried (λ x m y n. PartsLeft x c.in-Ok.rested m n)
    (map_parts c.args.group.core.inner.config c.args.group.logs.items c.args.group.alike c.args.group.stopped) (map_parts c.together-group.result.core.inner.config c.together-group.result.logs.items c.together-group.result.alike c.together-group.result.stopped) (map_parts c.args.group.core.inner.config c.args.group.logs.items c.args.group.alike c.args.group.stopped) (map_parts c.args.group.core.inner.config c.args.group.logs.items c.args.group.alike c.args.group.stopped) (g.R.Shelf.meaning c.args.group.shelf) (g.R.Shelf.meaning c.together-group.result.shelf.shelf) (g.R.Shelf.meaning c.into_shelf.result) (g.R.Shelf.meaning c.in-Ok.watched.shelf)
    (parts_same c.args.group.core.inner.config c.together-group.result.core.inner.config c.args.group.logs.items c.together-group.result.logs.items c.args.group.alike c.together-group.result.alike c.args.group.stopped c.together-group.result.stopped
    (ap (λ x. x.inner.config) (c.together-group.ensures.core ∙ c.apart-rack.ensures.core)) (ap (λ x. x.items) (c.together-group.ensures.logs ∙ c.apart-rack.ensures.logs)) (c.together-group.ensures.alike ∙ c.apart-rack.ensures.alike) (c.together-group.ensures.stopped ∙ c.apart-rack.ensures.stopped))
    (ap (λ s. g.R.Shelf.meaning s) (shelf_of _ _ c.together-group.ensures.shelf ∙ c.over-watched.ensures ∙ c.apart-rack.ensures.shelf)) refl
    (ap (λ s. g.R.Shelf.meaning s) c.into_shelf.ensures.shelf)
    c.in-Ok.ensures.maps

pub returns-in-Err-clause-maps : goal.returns-in-Err-clause-maps
returns-in-Err-clause-maps g c =
    parts_carried (λ x m y n. IsRack m → IsRack n → RefusedMaps (MapsLike m n) c.in-Err.stop x y n)
    (map_parts c.args.group.core.inner.config c.args.group.logs.items c.args.group.alike c.args.group.stopped) (map_parts c.together-group.result.core.inner.config c.together-group.result.logs.items c.together-group.result.alike c.together-group.result.stopped) (map_parts c.together.result.core.inner.config c.together.result.logs.items c.together.result.alike c.together.result.stopped) (map_parts c.in-Err.group.core.inner.config c.in-Err.group.logs.items c.in-Err.group.alike c.in-Err.group.stopped) (g.R.Shelf.meaning c.args.group.shelf) (g.R.Shelf.meaning c.together-group.result.shelf.shelf) (g.R.Shelf.meaning c.together.result.shelf) (g.R.Shelf.meaning c.in-Err.group.shelf.shelf)
    (parts_same c.args.group.core.inner.config c.together-group.result.core.inner.config c.args.group.logs.items c.together-group.result.logs.items c.args.group.alike c.together-group.result.alike c.args.group.stopped c.together-group.result.stopped
    (ap (λ x. x.inner.config) (c.together-group.ensures.core ∙ c.apart-rack.ensures.core)) (ap (λ x. x.items) (c.together-group.ensures.logs ∙ c.apart-rack.ensures.logs)) (c.together-group.ensures.alike ∙ c.apart-rack.ensures.alike) (c.together-group.ensures.stopped ∙ c.apart-rack.ensures.stopped))
    (ap (λ s. g.R.Shelf.meaning s) (shelf_of _ _ c.together-group.ensures.shelf ∙ c.over-watched.ensures ∙ c.apart-rack.ensures.shelf))
    (parts_same c.in-Err.group.core.inner.config c.together.result.core.inner.config c.in-Err.group.logs.items c.together.result.logs.items c.in-Err.group.alike c.together.result.alike c.in-Err.group.stopped c.together.result.stopped
    (ap (λ x. x.inner.config) (c.together.ensures.core ∙ c.apart-watched.ensures.core)) (ap (λ x. x.items) (c.together.ensures.logs ∙ c.apart-watched.ensures.logs)) (c.together.ensures.alike ∙ c.apart-watched.ensures.alike) (c.together.ensures.stopped ∙ c.apart-watched.ensures.stopped))
    (ap (λ s. g.R.Shelf.meaning s) (c.together.ensures.shelf ∙ c.into_shelf-rack.ensures.shelf ∙ shelf_of _ _ c.apart-watched.ensures.shelf))
    c.in-Err.ensures.maps
