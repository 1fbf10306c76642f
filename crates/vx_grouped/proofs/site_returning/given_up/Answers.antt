-- Disks that are imported no more: nothing is asked of disks that tell nothing.
use Rattle.std.proofs.Common.{◌≡◌, ◌∙◌, None, Some, subst, sym}
use Rattle.vx_group.specs.Resumes.{CanImport}
use Rattle.vx_untold.specs.Shades.{shade_meaning}
use Rattle.vx_grouped.proofs.SinceReturns.{dark_can}
use Rattle.vx_grouped.proofs.site_returning.given_up.Goals as goal

pub of-requires-clause-can : goal.of-requires-clause-can
of-requires-clause-can g c = λ κs lives agreed. subst (λ s. CanImport (shade_meaning g.R.Shelf.meaning s)) (sym c.darkened.ensures) (dark_can g.R.Shelf.meaning c.args.idle.rack)

pub of-requires-clause-tells : goal.of-requires-clause-tells
of-requires-clause-tells g c = λ κs lives r agreed is. absurd (let clash : None ≡ Some r = is in cc)

pub returns-clause-rack : goal.returns-clause-rack
returns-clause-rack g c = c.of.ensures.rack ∙ c.darkened.ensures
