-- A write over disks with an account.
use Rattle.std.proofs.Common.{◌∙◌, ap}
use Rattle.vx_grouped.specs.Watches.{PlainWrites}
use Rattle.vx_grouped.proofs.CarryLemmas.{carried, shelf_of}
use Rattle.vx_grouped.specs.Ends.{plain_write}
use Rattle.vx_grouped.specs.PlainMaps.{WritesMaps, map_parts}
use Rattle.vx_grouped.proofs.PlainMapLemmas.{parts_carried, parts_same}
use Rattle.vx_grouped.proofs.watching.write_from.Goals as goal

pub returns-clause-works : goal.returns-clause-works
returns-clause-works g c =
    carried (λ x s y t. PlainWrites c.args.vol c.args.block c.args.bytes.now x (g.R.Shelf.meaning s) y (g.R.Shelf.meaning t) c.write_plain-answer.result)
    c.args.group.core c.together-group.result.core c.together.result.core c.write_plain-answer.new.group.core c.args.group.shelf c.together-group.result.shelf.shelf c.together.result.shelf c.write_plain-answer.new.group.shelf.shelf
    (c.together-group.ensures.core ∙ c.apart-rack.ensures.core) (shelf_of _ _ c.together-group.ensures.shelf ∙ c.over-watched.ensures ∙ c.apart-rack.ensures.shelf)
    (c.together.ensures.core ∙ c.apart-watched.ensures.core) (c.together.ensures.shelf ∙ c.into_shelf-rack.ensures.shelf ∙ shelf_of _ _ c.apart-watched.ensures.shelf)
    (record { leaves = c.write_plain-answer.ensures.leaves; goes = c.write_plain-answer.ensures.goes; loses = c.write_plain-answer.ensures.loses; on = c.write_plain-answer.ensures.on; trust = c.write_plain-answer.ensures.trust; agreed = c.write_plain-answer.ensures.agreed; cause = c.write_plain-answer.ensures.cause })

pub returns-clause-maps : goal.returns-clause-maps
returns-clause-maps g c =
    parts_carried (λ x m y n. WritesMaps (plain_write c.args.vol c.args.block c.args.bytes.now) x m y n c.write_plain-answer.result)
    (map_parts c.args.group.core.inner.config c.args.group.logs.items c.args.group.alike c.args.group.stopped) (map_parts c.together-group.result.core.inner.config c.together-group.result.logs.items c.together-group.result.alike c.together-group.result.stopped) (map_parts c.together.result.core.inner.config c.together.result.logs.items c.together.result.alike c.together.result.stopped) (map_parts c.write_plain-answer.new.group.core.inner.config c.write_plain-answer.new.group.logs.items c.write_plain-answer.new.group.alike c.write_plain-answer.new.group.stopped) (g.R.Shelf.meaning c.args.group.shelf) (g.R.Shelf.meaning c.together-group.result.shelf.shelf) (g.R.Shelf.meaning c.together.result.shelf) (g.R.Shelf.meaning c.write_plain-answer.new.group.shelf.shelf)
    (parts_same c.args.group.core.inner.config c.together-group.result.core.inner.config c.args.group.logs.items c.together-group.result.logs.items c.args.group.alike c.together-group.result.alike c.args.group.stopped c.together-group.result.stopped
    (ap (λ x. x.inner.config) (c.together-group.ensures.core ∙ c.apart-rack.ensures.core)) (ap (λ x. x.items) (c.together-group.ensures.logs ∙ c.apart-rack.ensures.logs)) (c.together-group.ensures.alike ∙ c.apart-rack.ensures.alike) (c.together-group.ensures.stopped ∙ c.apart-rack.ensures.stopped))
    (ap (λ s. g.R.Shelf.meaning s) (shelf_of _ _ c.together-group.ensures.shelf ∙ c.over-watched.ensures ∙ c.apart-rack.ensures.shelf))
    (parts_same c.write_plain-answer.new.group.core.inner.config c.together.result.core.inner.config c.write_plain-answer.new.group.logs.items c.together.result.logs.items c.write_plain-answer.new.group.alike c.together.result.alike c.write_plain-answer.new.group.stopped c.together.result.stopped
    (ap (λ x. x.inner.config) (c.together.ensures.core ∙ c.apart-watched.ensures.core)) (ap (λ x. x.items) (c.together.ensures.logs ∙ c.apart-watched.ensures.logs)) (c.together.ensures.alike ∙ c.apart-watched.ensures.alike) (c.together.ensures.stopped ∙ c.apart-watched.ensures.stopped))
    (ap (λ s. g.R.Shelf.meaning s) (c.together.ensures.shelf ∙ c.into_shelf-rack.ensures.shelf ∙ shelf_of _ _ c.apart-watched.ensures.shelf))
    c.write_plain-answer.ensures.maps
