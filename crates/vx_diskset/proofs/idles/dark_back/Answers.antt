-- The disks of a site behind a replicated volume group that is not taken up.
use Rattle.std.proofs.Common.{◌∙◌, ap, subst, sym}
use Rattle.vx_untold.specs.Shades.{shade_meaning}
use Rattle.vx_grouped.specs.declared.group_site.GroupSite.TheVariants.{Deported, Down}
use Rattle.vx_grouped.proofs.SinceReturns.{dark_down}
use Rattle.vx_diskset.specs.OverStarts.{DarkBack}
use Rattle.vx_diskset.proofs.idles.dark_back.Goals as goal

pub revive-requires-after_bounds : goal.revive-requires-after_bounds
revive-requires-after_bounds g c = λ κs lives.
    let it = c.fell_dark-idle.ensures in
    ap (λ s. (shade_meaning g.R.Shelf.meaning s).down) it.rack ∙ dark_down g.R.Shelf.meaning it.fell.rack ∙ it.is.stopped.down

pub returns-then-away : goal.returns-then-away
returns-then-away g c = subst (λ b. DarkBack b c.args.rested c.args.laid (Deported c.revive.result)) (sym c.if-away.true) (
  c.fell_dark-idle.result,
  c.fell_dark-idle.ensures,
  record { agreed = c.revive.ensures.agreed; rested = c.revive.ensures.rested; alike = c.revive.ensures.alike; up = c.revive.ensures.up; armed = c.revive.ensures.armed; since = c.revive.ensures.since; told = c.revive.ensures.told },
)

pub returns-else-away : goal.returns-else-away
returns-else-away g c = subst (λ b. DarkBack b c.args.rested c.args.laid (Down c.fell_dark-idle.result)) (sym c.if-away.false) c.fell_dark-idle.ensures
