-- A deport over the disks of a site.
use Rattle.std.proofs.Common.{◌≡◌, IsTrue, true, refl, ap, sym}
use Rattle.std.specs.Prelude.{Err}
use Rattle.vx_model.specs.declared.site.SiteState.TheVariants.{Deported as IsDeported}
use Rattle.vx_config.specs.declared.config.Config.{Config}
use Rattle.vx_group.specs.Deports.{DeportedBy}
use Rattle.vx_group.specs.Holding.{wide}
use Rattle.vx_group.specs.Resumes.{CanImport}
use Rattle.vx_loggroup.specs.Opens.{RestTells}
use Rattle.vx_watched.specs.Since.{CalledSince}
use Rattle.vx_grouped.specs.Away.{IsDeportedAt, note_deported}
use Rattle.vx_grouped.specs.CoreMoves.{BackMoves}
use Rattle.vx_grouped.specs.Ends.{CallLeaves}
use Rattle.vx_grouped.specs.GroupNotes.{IsGroupAt}
use Rattle.vx_grouped.proofs.TraceLemmas.{carried_both, carried_in, carried_off, carried_on, off_means}
use Rattle.vx_grouped.proofs.LeavingLemmas.{Refuses}
use Rattle.vx_disk.specs.Racks.{IsRack}
use Rattle.vx_untold.specs.Shades.{shade_meaning}
use Rattle.vx_grouped.specs.PlainMaps.{PartsLeft, RefusedMaps, map_parts}
use Rattle.vx_grouped.specs.SiteMaps.{MapsLike}
use Rattle.vx_grouped.proofs.PlainMapLemmas.{parts_carried, parts_same}
use Rattle.vx_grouped.proofs.site_leaving.deport_traced.Goals as goal

pub returns-in-Ok-clause-leaves : goal.returns-in-Ok-clause-leaves
returns-in-Ok-clause-leaves g c = λ n note at.
    carried_in (λ x s y t. IsGroupAt n note x s → (z : Config) × IsDeportedAt (record n { state = IsDeported }) (note_deported z x.inner note) x.inner.config z t)
    c.args.laid.core c.trace.result.core c.args.laid.core c.args.laid.core c.args.laid.shelf c.trace.result.shelf c.untraced.result c.in-Ok.rack c.trace.ensures.core c.trace.ensures.shelf refl c.untraced.ensures.shade (λ it. c.in-Ok.ensures.leaves n note it) at

pub returns-in-Err-clause-leaves : goal.returns-in-Err-clause-leaves
returns-in-Err-clause-leaves g c = λ n note at.
    carried_in (λ x s y t. IsGroupAt n note x s → CallLeaves {T = Unit {0}} n note y t (Err c.in-Err.stop))
    c.args.laid.core c.trace.result.core c.untrace.result.core c.in-Err.group.core c.args.laid.shelf c.trace.result.shelf c.untrace.result.shelf c.in-Err.group.shelf c.trace.ensures.core c.trace.ensures.shelf c.untrace.ensures.core c.untrace.ensures.shelf (λ it. c.in-Err.ensures.leaves n note it) at

pub returns-in-Ok-clause-can : goal.returns-in-Ok-clause-can
returns-in-Ok-clause-can g c =
    carried_in (λ x s y t. x.inner.committed ≡ true → CanImport t)
    c.args.laid.core c.trace.result.core c.args.laid.core c.args.laid.core c.args.laid.shelf c.trace.result.shelf c.untraced.result c.in-Ok.rack c.trace.ensures.core c.trace.ensures.shelf refl c.untraced.ensures.shade c.in-Ok.ensures.can

pub returns-in-Ok-clause-moves : goal.returns-in-Ok-clause-moves
returns-in-Ok-clause-moves g c =
    carried_in (λ x s y t. DeportedBy (wide x).config x.inner s t)
    c.args.laid.core c.trace.result.core c.args.laid.core c.args.laid.core c.args.laid.shelf c.trace.result.shelf c.untraced.result c.in-Ok.rack c.trace.ensures.core c.trace.ensures.shelf refl c.untraced.ensures.shade c.in-Ok.ensures.moves

pub returns-in-Err-clause-moves : goal.returns-in-Err-clause-moves
returns-in-Err-clause-moves g c =
    carried_in (λ x s y t. BackMoves x y s t)
    c.args.laid.core c.trace.result.core c.untrace.result.core c.in-Err.group.core c.args.laid.shelf c.trace.result.shelf c.untrace.result.shelf c.in-Err.group.shelf c.trace.ensures.core c.trace.ensures.shelf c.untrace.ensures.core c.untrace.ensures.shelf c.in-Err.ensures.moves

pub returns-in-Err-clause-refusals : goal.returns-in-Err-clause-refusals
returns-in-Err-clause-refusals g c =
    carried_in (λ x s y t. Refuses x s t c.in-Err.stop)
    c.args.laid.core c.trace.result.core c.untrace.result.core c.in-Err.group.core c.args.laid.shelf c.trace.result.shelf c.untrace.result.shelf c.in-Err.group.shelf c.trace.ensures.core c.trace.ensures.shelf c.untrace.ensures.core c.untrace.ensures.shelf c.in-Err.ensures.refusals

pub returns-in-Err-clause-since : goal.returns-in-Err-clause-since
returns-in-Err-clause-since g c =
    carried_both (λ s t. CalledSince s t) c.args.laid.shelf c.trace.result.shelf c.untrace.result.shelf c.in-Err.group.shelf c.trace.ensures.shelf c.untrace.ensures.shelf c.in-Err.ensures.since

pub returns-in-Ok-clause-since : goal.returns-in-Ok-clause-since
returns-in-Ok-clause-since g c = carried_both (λ s t. CalledSince s t) c.args.laid.shelf c.trace.result.shelf c.untraced.result c.in-Ok.rack c.trace.ensures.shelf c.untraced.ensures.shade c.in-Ok.ensures.since

pub returns-in-Ok-clause-up : goal.returns-in-Ok-clause-up
returns-in-Ok-clause-up g c = carried_off (λ m. IsTrue m.down → ⊥) c.untraced.result c.in-Ok.rack c.untraced.ensures.shade c.in-Ok.ensures.up

pub returns-in-Ok-clause-told : goal.returns-in-Ok-clause-told
returns-in-Ok-clause-told g c = c.untraced.ensures.told

pub returns-in-Err-clause-told : goal.returns-in-Err-clause-told
returns-in-Err-clause-told g c = c.untrace.ensures.told

pub deport_shaded-requires-clause-up : goal.deport_shaded-requires-clause-up
deport_shaded-requires-clause-up g c = λ κs within. carried_on (λ m. IsTrue m.down → ⊥) c.args.laid.shelf c.trace.result.shelf c.trace.ensures.shelf c.requires.up

pub returns-in-Ok-clause-tells : goal.returns-in-Ok-clause-tells
returns-in-Ok-clause-tells g c = carried_off (λ m. RestTells c.in-Ok.rested m) c.untraced.result c.in-Ok.rack c.untraced.ensures.shade c.in-Ok.ensures.tells

pub returns-in-Ok-clause-maps : goal.returns-in-Ok-clause-maps
returns-in-Ok-clause-maps g c =
    parts_carried (λ x m y n. PartsLeft x c.in-Ok.rested m n)
    (map_parts c.args.laid.core.inner.config c.args.laid.logs.items c.args.laid.alike c.args.laid.stopped) (map_parts c.trace.result.core.inner.config c.trace.result.logs.items c.trace.result.alike c.trace.result.stopped) (map_parts c.args.laid.core.inner.config c.args.laid.logs.items c.args.laid.alike c.args.laid.stopped) (map_parts c.args.laid.core.inner.config c.args.laid.logs.items c.args.laid.alike c.args.laid.stopped) (shade_meaning g.R.Shelf.meaning c.args.laid.shelf) (shade_meaning (λ t. g.R.Shelf.meaning t.rack) c.trace.result.shelf) (shade_meaning g.R.Shelf.meaning c.untraced.result) (shade_meaning (λ t. g.R.Shelf.meaning t.rack) c.in-Ok.rack)
    (parts_same c.args.laid.core.inner.config c.trace.result.core.inner.config c.args.laid.logs.items c.trace.result.logs.items c.args.laid.alike c.trace.result.alike c.args.laid.stopped c.trace.result.stopped
    (ap (λ x. x.inner.config) (c.trace.ensures.core)) (ap (λ x. x.items) (c.trace.ensures.logs)) (c.trace.ensures.alike) (c.trace.ensures.stopped))
    (off_means c.args.laid.shelf c.trace.result.shelf c.trace.ensures.shelf) refl
    (sym (off_means c.untraced.result c.in-Ok.rack c.untraced.ensures.shade))
    c.in-Ok.ensures.maps

pub returns-in-Err-clause-maps : goal.returns-in-Err-clause-maps
returns-in-Err-clause-maps g c =
    parts_carried (λ x m y n. IsRack m → IsRack n → RefusedMaps (MapsLike m n) c.in-Err.stop x y n)
    (map_parts c.args.laid.core.inner.config c.args.laid.logs.items c.args.laid.alike c.args.laid.stopped) (map_parts c.trace.result.core.inner.config c.trace.result.logs.items c.trace.result.alike c.trace.result.stopped) (map_parts c.untrace.result.core.inner.config c.untrace.result.logs.items c.untrace.result.alike c.untrace.result.stopped) (map_parts c.in-Err.group.core.inner.config c.in-Err.group.logs.items c.in-Err.group.alike c.in-Err.group.stopped) (shade_meaning g.R.Shelf.meaning c.args.laid.shelf) (shade_meaning (λ t. g.R.Shelf.meaning t.rack) c.trace.result.shelf) (shade_meaning g.R.Shelf.meaning c.untrace.result.shelf) (shade_meaning (λ t. g.R.Shelf.meaning t.rack) c.in-Err.group.shelf)
    (parts_same c.args.laid.core.inner.config c.trace.result.core.inner.config c.args.laid.logs.items c.trace.result.logs.items c.args.laid.alike c.trace.result.alike c.args.laid.stopped c.trace.result.stopped
    (ap (λ x. x.inner.config) (c.trace.ensures.core)) (ap (λ x. x.items) (c.trace.ensures.logs)) (c.trace.ensures.alike) (c.trace.ensures.stopped))
    (off_means c.args.laid.shelf c.trace.result.shelf c.trace.ensures.shelf)
    (parts_same c.in-Err.group.core.inner.config c.untrace.result.core.inner.config c.in-Err.group.logs.items c.untrace.result.logs.items c.in-Err.group.alike c.untrace.result.alike c.in-Err.group.stopped c.untrace.result.stopped
    (ap (λ x. x.inner.config) (c.untrace.ensures.core)) (ap (λ x. x.items) (c.untrace.ensures.logs)) (c.untrace.ensures.alike) (c.untrace.ensures.stopped))
    (sym (off_means c.untrace.result.shelf c.in-Err.group.shelf c.untrace.ensures.shelf))
    c.in-Err.ensures.maps
