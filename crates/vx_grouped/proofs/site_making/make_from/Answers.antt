-- A volume that is made over disks with an account.
use Rattle.std.proofs.Common.{◌≡◌, ◌∙◌, ap}
use Rattle.vx_disk.specs.Racks.{IsRack}
use Rattle.vx_grouped.specs.SiteAdds.{MakesVolume}
use Rattle.vx_grouped.specs.Added.{IsUnmoved}
use Rattle.vx_grouped.proofs.BothLemmas.{still_more}
use Rattle.vx_grouped.proofs.CarryLemmas.{carried, shelf_of}
use Rattle.vx_grouped.specs.PlainMaps.{AddsMaps, map_parts}
use Rattle.vx_grouped.proofs.PlainMapLemmas.{parts_carried, parts_same}
use Rattle.vx_grouped.proofs.site_making.make_from.Goals as goal

pub returns-clause-works : goal.returns-clause-works
returns-clause-works g c =
    carried (λ x s y t. MakesVolume c.args.name.now c.args.want.now x (g.R.Shelf.meaning s) y (g.R.Shelf.meaning t) c.make_volume_of-answer.result)
    c.args.group.core c.together-group.result.core c.together.result.core c.make_volume_of-answer.new.group.core c.args.group.shelf c.together-group.result.shelf.shelf c.together.result.shelf c.make_volume_of-answer.new.group.shelf.shelf
    (c.together-group.ensures.core ∙ c.apart-rack.ensures.core) (shelf_of _ _ c.together-group.ensures.shelf ∙ c.over-watched.ensures ∙ c.apart-rack.ensures.shelf)
    (c.together.ensures.core ∙ c.apart-watched.ensures.core) (c.together.ensures.shelf ∙ c.into_shelf-rack.ensures.shelf ∙ shelf_of _ _ c.apart-watched.ensures.shelf)
    (record { refused = λ why is. (c.make_volume_of-answer.ensures.refused why is).0; leaves = c.make_volume_of-answer.ensures.leaves; ends = c.make_volume_of-answer.ensures.ends; trust = c.make_volume_of-answer.ensures.trust; goes = c.make_volume_of-answer.ensures.volumes; parts = c.make_volume_of-answer.ensures.parts; disks = c.make_volume_of-answer.ensures.disks; agreed = c.make_volume_of-answer.ensures.agreed })

pub returns-clause-still : goal.returns-clause-still
returns-clause-still g c =
    carried (λ x s y t. IsUnmoved c.make_volume_of-answer.result ((y ≡ x) × (t ≡ s)))
    c.args.group.core c.together-group.result.core c.together.result.core c.make_volume_of-answer.new.group.core c.args.group.shelf c.together-group.result.shelf.shelf c.together.result.shelf c.make_volume_of-answer.new.group.shelf.shelf
    (c.together-group.ensures.core ∙ c.apart-rack.ensures.core) (shelf_of _ _ c.together-group.ensures.shelf ∙ c.over-watched.ensures ∙ c.apart-rack.ensures.shelf)
    (c.together.ensures.core ∙ c.apart-watched.ensures.core) (c.together.ensures.shelf ∙ c.into_shelf-rack.ensures.shelf ∙ shelf_of _ _ c.apart-watched.ensures.shelf)
    (still_more c.make_volume_of-answer.result _ _ (λ same. (same.0, shelf_of _ _ same.1)) c.make_volume_of-answer.ensures.still)

pub returns-clause-maps : goal.returns-clause-maps
returns-clause-maps g c =
    parts_carried (λ x m y n. IsRack m → IsRack n → AddsMaps x m y n c.make_volume_of-answer.result)
    (map_parts c.args.group.core.inner.config c.args.group.logs.items c.args.group.alike c.args.group.stopped) (map_parts c.together-group.result.core.inner.config c.together-group.result.logs.items c.together-group.result.alike c.together-group.result.stopped) (map_parts c.together.result.core.inner.config c.together.result.logs.items c.together.result.alike c.together.result.stopped) (map_parts c.make_volume_of-answer.new.group.core.inner.config c.make_volume_of-answer.new.group.logs.items c.make_volume_of-answer.new.group.alike c.make_volume_of-answer.new.group.stopped) (g.R.Shelf.meaning c.args.group.shelf) (g.R.Shelf.meaning c.together-group.result.shelf.shelf) (g.R.Shelf.meaning c.together.result.shelf) (g.R.Shelf.meaning c.make_volume_of-answer.new.group.shelf.shelf)
    (parts_same c.args.group.core.inner.config c.together-group.result.core.inner.config c.args.group.logs.items c.together-group.result.logs.items c.args.group.alike c.together-group.result.alike c.args.group.stopped c.together-group.result.stopped
    (ap (λ x. x.inner.config) (c.together-group.ensures.core ∙ c.apart-rack.ensures.core)) (ap (λ x. x.items) (c.together-group.ensures.logs ∙ c.apart-rack.ensures.logs)) (c.together-group.ensures.alike ∙ c.apart-rack.ensures.alike) (c.together-group.ensures.stopped ∙ c.apart-rack.ensures.stopped))
    (ap (λ s. g.R.Shelf.meaning s) (shelf_of _ _ c.together-group.ensures.shelf ∙ c.over-watched.ensures ∙ c.apart-rack.ensures.shelf))
    (parts_same c.make_volume_of-answer.new.group.core.inner.config c.together.result.core.inner.config c.make_volume_of-answer.new.group.logs.items c.together.result.logs.items c.make_volume_of-answer.new.group.alike c.together.result.alike c.make_volume_of-answer.new.group.stopped c.together.result.stopped
    (ap (λ x. x.inner.config) (c.together.ensures.core ∙ c.apart-watched.ensures.core)) (ap (λ x. x.items) (c.together.ensures.logs ∙ c.apart-watched.ensures.logs)) (c.together.ensures.alike ∙ c.apart-watched.ensures.alike) (c.together.ensures.stopped ∙ c.apart-watched.ensures.stopped))
    (ap (λ s. g.R.Shelf.meaning s) (c.together.ensures.shelf ∙ c.into_shelf-rack.ensures.shelf ∙ shelf_of _ _ c.apart-watched.ensures.shelf))
    c.make_volume_of-answer.ensures.maps
