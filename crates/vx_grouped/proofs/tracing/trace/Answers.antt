-- A group over disks with an account of what the rack inside tells.
use Rattle.std.proofs.Common.{◌∙◌, ap, sym}
use Rattle.vx_loggroup.specs.Fresh.{FreshStands}
use Rattle.vx_loggroup.specs.LoggedVolumes.{LoggedStands}
use Rattle.vx_grouped.proofs.TraceLemmas.{carried_on, off}
use Rattle.vx_grouped.proofs.tracing.trace.Goals as goal

pub together-requires-clause-stands : goal.together-requires-clause-stands
together-requires-clause-stands g c = carried_on (λ m. LoggedStands c.apart-shelf.result.1.core c.apart-shelf.result.1.logs.items c.apart-shelf.result.1.alike c.apart-shelf.result.1.stopped m) c.apart-shelf.result.0 c.traced.result c.traced.ensures c.apart-shelf.ensures.stands

pub together-requires-clause-begins : goal.together-requires-clause-begins
together-requires-clause-begins g c = carried_on (λ m. FreshStands c.apart-shelf.result.1.core c.apart-shelf.result.1.fresh m) c.apart-shelf.result.0 c.traced.result c.traced.ensures c.apart-shelf.ensures.begins

pub returns-clause-core : goal.returns-clause-core
returns-clause-core g c = c.together.ensures.core ∙ c.apart-shelf.ensures.core ∙ c.together-group.ensures.core

pub returns-clause-logs : goal.returns-clause-logs
returns-clause-logs g c = c.together.ensures.logs ∙ c.apart-shelf.ensures.logs ∙ c.together-group.ensures.logs

pub returns-clause-alike : goal.returns-clause-alike
returns-clause-alike g c = c.together.ensures.alike ∙ c.apart-shelf.ensures.alike ∙ c.together-group.ensures.alike

pub returns-clause-fresh : goal.returns-clause-fresh
returns-clause-fresh g c = c.together.ensures.fresh ∙ c.apart-shelf.ensures.fresh ∙ c.together-group.ensures.fresh

pub returns-clause-stopped : goal.returns-clause-stopped
returns-clause-stopped g c = c.together.ensures.stopped ∙ c.apart-shelf.ensures.stopped ∙ c.together-group.ensures.stopped

pub returns-clause-shelf : goal.returns-clause-shelf
returns-clause-shelf g c = sym c.together-group.ensures.shelf ∙ sym c.apart-shelf.ensures.shelf ∙ c.traced.ensures ∙ ap (λ s. off s) (sym c.together.ensures.shelf)
