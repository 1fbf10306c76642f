-- Disks for an import: it asks nothing of those that tell nothing.
use Rattle.std.proofs.Common.{sym, subst}
use Rattle.vx_group.specs.Resumes.{CanImport}
use Rattle.vx_untold.specs.Shades.{shade_meaning}
use Rattle.vx_grouped.proofs.ImportFactLemmas.{fact_import}
use Rattle.vx_grouped.proofs.SinceReturns.{dark_can}
use Rattle.vx_grouped.proofs.TellLemmas.{dark_tells}
use Rattle.vx_logimport.specs.Rests.{LogsTell}
use Rattle.vx_grouped.proofs.idle.Idle.into_ready.Goals as goal

pub returns-then-self-clause-can : goal.returns-then-self-clause-can
returns-then-self-clause-can g c = fact_import (shade_meaning g.R.Shelf.meaning c.args.self.rack) (c.args.self.can c.if-self.true)

pub returns-else-self-clause-can : goal.returns-else-self-clause-can
returns-else-self-clause-can g c = subst (λ s. CanImport (shade_meaning g.R.Shelf.meaning s)) (sym c.darkened.ensures) (dark_can g.R.Shelf.meaning c.args.self.rack)

pub returns-then-self-clause-tells : goal.returns-then-self-clause-tells
returns-then-self-clause-tells g c = λ r is. c.args.self.tells r c.if-self.true is

pub returns-else-self-clause-tells : goal.returns-else-self-clause-tells
returns-else-self-clause-tells g c = λ r is. subst (λ s. LogsTell r (shade_meaning g.R.Shelf.meaning s)) (sym c.darkened.ensures) (dark_tells r g.R.Shelf.meaning c.args.self.rack)
