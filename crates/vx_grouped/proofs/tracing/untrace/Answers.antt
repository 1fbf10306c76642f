-- And by its parts again.
use Rattle.std.proofs.Common.{◌∙◌, IsTrue, ap, subst}
use Rattle.vx_loggroup.specs.Fresh.{FreshStands}
use Rattle.vx_loggroup.specs.LoggedVolumes.{LoggedStands}
use Rattle.vx_untold.specs.Shades.{rack_of}
use Rattle.vx_grouped.proofs.TraceLemmas.{carried_off, off}
use Rattle.vx_grouped.proofs.tracing.untrace.Goals as goal

pub together-inside-requires-clause-stands : goal.together-inside-requires-clause-stands
together-inside-requires-clause-stands g c = carried_off (λ m. LoggedStands c.apart-shelf.result.1.core c.apart-shelf.result.1.logs.items c.apart-shelf.result.1.alike c.apart-shelf.result.1.stopped m) c.untraced.result c.apart-shelf.result.0 c.untraced.ensures.shade c.apart-shelf.ensures.stands

pub together-inside-requires-clause-begins : goal.together-inside-requires-clause-begins
together-inside-requires-clause-begins g c = carried_off (λ m. FreshStands c.apart-shelf.result.1.core c.apart-shelf.result.1.fresh m) c.untraced.result c.apart-shelf.result.0 c.untraced.ensures.shade c.apart-shelf.ensures.begins

pub returns-clause-core : goal.returns-clause-core
returns-clause-core g c = c.of.ensures.core ∙ c.together-inside.ensures.core ∙ c.apart-shelf.ensures.core

pub returns-clause-logs : goal.returns-clause-logs
returns-clause-logs g c = c.of.ensures.logs ∙ c.together-inside.ensures.logs ∙ c.apart-shelf.ensures.logs

pub returns-clause-alike : goal.returns-clause-alike
returns-clause-alike g c = c.of.ensures.alike ∙ c.together-inside.ensures.alike ∙ c.apart-shelf.ensures.alike

pub returns-clause-fresh : goal.returns-clause-fresh
returns-clause-fresh g c = c.of.ensures.fresh ∙ c.together-inside.ensures.fresh ∙ c.apart-shelf.ensures.fresh

pub returns-clause-stopped : goal.returns-clause-stopped
returns-clause-stopped g c = c.of.ensures.stopped ∙ c.together-inside.ensures.stopped ∙ c.apart-shelf.ensures.stopped

pub returns-clause-shelf : goal.returns-clause-shelf
returns-clause-shelf g c = c.of.ensures.shelf ∙ c.together-inside.ensures.shelf ∙ c.untraced.ensures.shade ∙ ap (λ s. off s) c.apart-shelf.ensures.shelf

pub returns-clause-told : goal.returns-clause-told
returns-clause-told g c = λ told. c.untraced.ensures.told (subst (λ s. IsTrue (g.R.Shelf.meaning (rack_of s)).tells) (c.of.ensures.shelf ∙ c.together-inside.ensures.shelf) told)
