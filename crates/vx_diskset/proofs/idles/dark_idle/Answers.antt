-- Disks that tell nothing any more.
use Rattle.std.proofs.Common.{◌∙◌, subst, sym}
use Rattle.vx_group.specs.Resumes.{CanImport}
use Rattle.vx_logimport.specs.Rests.{LogsTell}
use Rattle.vx_untold.specs.Shades.{shade_meaning}
use Rattle.vx_grouped.proofs.SinceReturns.{dark_can}
use Rattle.vx_grouped.proofs.TellLemmas.{dark_tells}
use Rattle.vx_diskset.proofs.idles.dark_idle.Goals as goal

pub of-requires-clause-can : goal.of-requires-clause-can
of-requires-clause-can g c = λ κs lives agreed. subst (λ s. CanImport (shade_meaning g.R.Shelf.meaning s)) (sym c.darkened.ensures) (dark_can g.R.Shelf.meaning c.args.idle.rack)

pub of-requires-clause-tells : goal.of-requires-clause-tells
of-requires-clause-tells g c = λ κs lives r agreed is. subst (λ s. LogsTell r (shade_meaning g.R.Shelf.meaning s)) (sym c.darkened.ensures) (dark_tells r g.R.Shelf.meaning c.args.idle.rack)

pub returns-clause-rack : goal.returns-clause-rack
returns-clause-rack g c = c.of.ensures.rack ∙ c.darkened.ensures
