-- What was read of the blocks of a write over disks with an account.
use Rattle.std.proofs.Common.{◌∙◌, ap}
use Rattle.vx_grouped.specs.SiteKeeps.{PlainKeeps}
use Rattle.vx_grouped.proofs.CarryLemmas.{carried, shelf_of}
use Rattle.vx_grouped.proofs.PlainMapLemmas.{parts_same}
use Rattle.vx_grouped.proofs.site_keeping.kept_from.Goals as goal

pub returns-clause-works : goal.returns-clause-works
returns-clause-works g c =
    carried (λ x s y t. PlainKeeps c.args.vol c.args.block c.args.bytes.now x (g.R.Shelf.meaning s) y (g.R.Shelf.meaning t) c.kept_plain-answer.result)
    c.args.group.core c.together-group.result.core c.together.result.core c.kept_plain-answer.new.group.core c.args.group.shelf c.together-group.result.shelf.shelf c.together.result.shelf c.kept_plain-answer.new.group.shelf.shelf
    (c.together-group.ensures.core ∙ c.apart-rack.ensures.core) (shelf_of _ _ c.together-group.ensures.shelf ∙ c.over-watched.ensures ∙ c.apart-rack.ensures.shelf)
    (c.together.ensures.core ∙ c.apart-watched.ensures.core) (c.together.ensures.shelf ∙ c.into_shelf-rack.ensures.shelf ∙ shelf_of _ _ c.apart-watched.ensures.shelf)
    (record { kept = c.kept_plain-answer.ensures.kept; stays = c.kept_plain-answer.ensures.stays; goes = c.kept_plain-answer.ensures.goes; same = c.kept_plain-answer.ensures.same; cause = c.kept_plain-answer.ensures.cause })

pub returns-clause-maps : goal.returns-clause-maps
returns-clause-maps g c =
    (parts_same c.kept_plain-answer.new.group.core.inner.config c.together.result.core.inner.config c.kept_plain-answer.new.group.logs.items c.together.result.logs.items c.kept_plain-answer.new.group.alike c.together.result.alike c.kept_plain-answer.new.group.stopped c.together.result.stopped
    (ap (λ x. x.inner.config) (c.together.ensures.core ∙ c.apart-watched.ensures.core)) (ap (λ x. x.items) (c.together.ensures.logs ∙ c.apart-watched.ensures.logs)) (c.together.ensures.alike ∙ c.apart-watched.ensures.alike) (c.together.ensures.stopped ∙ c.apart-watched.ensures.stopped))
    ∙ c.kept_plain-answer.ensures.maps
    ∙ (parts_same c.args.group.core.inner.config c.together-group.result.core.inner.config c.args.group.logs.items c.together-group.result.logs.items c.args.group.alike c.together-group.result.alike c.args.group.stopped c.together-group.result.stopped
    (ap (λ x. x.inner.config) (c.together-group.ensures.core ∙ c.apart-rack.ensures.core)) (ap (λ x. x.items) (c.together-group.ensures.logs ∙ c.apart-rack.ensures.logs)) (c.together-group.ensures.alike ∙ c.apart-rack.ensures.alike) (c.together-group.ensures.stopped ∙ c.apart-rack.ensures.stopped))
