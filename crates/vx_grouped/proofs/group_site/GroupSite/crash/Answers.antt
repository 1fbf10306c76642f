-- `crash`: the site is down, with the note that it had.
use Rattle.std.proofs.Common.{◌∙◌, refl, subst, sym}
use Rattle.vx_grouped.specs.GroupSites.{CutNoted, UpNoted}
use Rattle.vx_grouped.specs.SiteMaps.{StaysMapped}
use Rattle.vx_grouped.specs.Volumes.{GoesOff}
use Rattle.vx_grouped.specs.declared.group_site.GroupSite.TheVariants.{Down}
use Rattle.vx_untold.specs.Shades.{shade_meaning, rack_of}
use Rattle.vx_grouped.proofs.SiteLemmas.{down_noted}
use Rattle.vx_grouped.proofs.TraceLemmas.{lit_since}
use Rattle.vx_grouped.proofs.VolumeLemmas.{rest_off}
use Rattle.vx_grouped.proofs.UpMapLemmas.{crash_up}
use Rattle.vx_grouped.proofs.group_site.GroupSite.crash.Goals as goal

pub returns-in-Up-clause-crashed : goal.returns-in-Up-clause-crashed
returns-in-Up-clause-crashed g c = λ n note it.
    let up = subst (λ e. UpNoted n note e) c.in-Up.is it in
    down_noted n note c.crash.result.agreed (g.R.Shelf.meaning (rack_of c.crash.result.rack)).tells c.in-Up.group.core.inner.config (shade_meaning g.R.Shelf.meaning c.crash.result.rack) up.noted
    (lit_since note note (g.R.Shelf.meaning (rack_of c.in-Up.group.shelf)).tells (g.R.Shelf.meaning (rack_of c.crash.result.rack)).tells (shade_meaning g.R.Shelf.meaning c.in-Up.group.shelf) (shade_meaning g.R.Shelf.meaning c.crash.result.rack) refl c.crash.ensures.stopped.tells c.crash.ensures.told up.lit)
    (λ tight. c.crash.ensures.agreed ∙ up.at.lies.agreed tight) (record { down = c.crash.ensures.stopped.down; unarmed = c.crash.ensures.stopped.unarmed }) up.spells (c.crash.ensures.away n note up.at.lies)

pub returns-in-Up-clause-cut : goal.returns-in-Up-clause-cut
returns-in-Up-clause-cut g c = λ n note it.
    let fallen = subst (λ e. CutNoted n note e) c.in-Up.is it in
    down_noted n note c.crash.result.agreed (g.R.Shelf.meaning (rack_of c.crash.result.rack)).tells c.in-Up.group.core.inner.config (shade_meaning g.R.Shelf.meaning c.crash.result.rack) fallen.noted
    (lit_since note note (g.R.Shelf.meaning (rack_of c.in-Up.group.shelf)).tells (g.R.Shelf.meaning (rack_of c.crash.result.rack)).tells (shade_meaning g.R.Shelf.meaning c.in-Up.group.shelf) (shade_meaning g.R.Shelf.meaning c.crash.result.rack) refl c.crash.ensures.stopped.tells c.crash.ensures.told fallen.lit)
    (λ tight. c.crash.ensures.agreed ∙ fallen.cut.lies.agreed tight) (record { down = c.crash.ensures.stopped.down; unarmed = c.crash.ensures.stopped.unarmed }) fallen.spells (c.crash.ensures.away n note fallen.cut.lies)

pub returns-in-Up-clause-maps : goal.returns-in-Up-clause-maps
returns-in-Up-clause-maps g c = subst (λ e. StaysMapped e (Down c.crash.result)) (sym c.in-Up.is) (crash_up c.in-Up.group c.crash.result c.crash.ensures.maps c.crash.ensures.rests)

pub returns-in-Up-clause-off : goal.returns-in-Up-clause-off
returns-in-Up-clause-off g c = subst (λ e. GoesOff e (Down c.crash.result)) (sym c.in-Up.is) tt

pub returns-in_default-clause-off : goal.returns-in_default-clause-off
returns-in_default-clause-off g c = rest_off c.args.self (λ l is. c.in_default.not-Up l is)
