-- The disks of a site behind a start that was refused.
use Rattle.std.proofs.Common.{◌∙◌, ap, refl, subst, sym}
use Rattle.vx_untold.specs.Shades.{shade_meaning}
use Rattle.vx_grouped.specs.declared.group_site.GroupSite.TheVariants.{Deported, Down}
use Rattle.vx_diskset.specs.OverStarts.{FellAt}
use Rattle.vx_diskset.proofs.idles.back_at.Goals as goal

pub revive-requires-after_bounds : goal.revive-requires-after_bounds
revive-requires-after_bounds g c = λ κs lives.
    let it = c.fell_back-idle.ensures in
    ap (λ s. (shade_meaning g.R.Shelf.meaning s).down) it.rack ∙ it.is.stopped.down

pub returns-then-away : goal.returns-then-away
returns-then-away g c = subst (λ b. FellAt b c.args.laid (Deported c.revive.result)) (sym c.if-away.true) (
  c.fell_back-idle.result,
  c.fell_back-idle.ensures,
  (c.revive.result, refl, record { agreed = c.revive.ensures.agreed; rested = c.revive.ensures.rested; alike = c.revive.ensures.alike; up = c.revive.ensures.up; armed = c.revive.ensures.armed; since = c.revive.ensures.since; told = c.revive.ensures.told }),
)

pub returns-else-away : goal.returns-else-away
returns-else-away g c = subst (λ b. FellAt b c.args.laid (Down c.fell_back-idle.result)) (sym c.if-away.false) (c.fell_back-idle.result, c.fell_back-idle.ensures, refl)
