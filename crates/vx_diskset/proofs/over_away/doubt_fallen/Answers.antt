-- A group behind a call.
use Rattle.std.proofs.Common.{refl, subst, sym}
use Rattle.vx_grouped.specs.declared.group_site.GroupSite.TheVariants.{Down}
use Rattle.vx_diskset.specs.OverAways.{DoubtsFallen}
use Rattle.vx_diskset.proofs.OverDoubted.{doubts_rest}
use Rattle.vx_diskset.proofs.over_away.doubt_fallen.Goals as goal

pub returns-in-Down : goal.returns-in-Down
returns-in-Down g c =
    subst (λ e. DoubtsFallen e (Down c.doubted.result)) (sym c.in-Down.is) (c.doubted.result, refl, record { rack = c.doubted.ensures.rack; agreed = c.doubted.ensures.agreed; rested = c.doubted.ensures.rested })

pub returns-in_default : goal.returns-in_default
returns-in_default g c = doubts_rest c.args.site c.in_default.not-Down
