-- `fail`: whatever the site is noted as, it still is.
use Rattle.vx_grouped.specs.declared.group_site.GroupSite.TheVariants.{Gone}
use Rattle.vx_grouped.proofs.SiteAlike.{away_stays, down_stays, up_stays}
use Rattle.vx_grouped.proofs.StayMapLemmas.{as_was, deported_same, down_same, marked_same, up_same}
use Rattle.vx_grouped.proofs.group_site.GroupSite.failing.Goals as goal

pub returns-in-Up-clause-stands : goal.returns-in-Up-clause-stands
returns-in-Up-clause-stands g c =
    up_stays c.args.self c.args.disk c.args.on c.in-Up.group c.fail.result c.in-Up.is c.fail.ensures.core c.fail.ensures.alike c.fail.ensures.down c.fail.ensures.armed c.fail.ensures.volumes c.fail.ensures.disks c.fail.ensures.told

pub returns-in-Deported-clause-stands : goal.returns-in-Deported-clause-stands
returns-in-Deported-clause-stands g c =
    away_stays c.args.self c.args.disk c.args.on c.in-Deported.idle c.fail-in-Deported.result c.fail-in-Deported.ensures.alike c.fail-in-Deported.ensures.down c.fail-in-Deported.ensures.armed c.fail-in-Deported.ensures.disks c.fail-in-Deported.ensures.agreed
    c.fail-in-Deported.ensures.told c.in-Deported.is

pub returns-in-Down-clause-stands : goal.returns-in-Down-clause-stands
returns-in-Down-clause-stands g c =
    down_stays c.args.self c.args.disk c.args.on c.in-Down.idle c.fail-in-Down.result c.fail-in-Down.ensures.alike c.fail-in-Down.ensures.down c.fail-in-Down.ensures.armed c.fail-in-Down.ensures.disks c.fail-in-Down.ensures.agreed
    c.fail-in-Down.ensures.told c.in-Down.is

pub returns-in-Up-clause-maps : goal.returns-in-Up-clause-maps
returns-in-Up-clause-maps g c = up_same c.args.self c.in-Up.group c.fail.result c.in-Up.is c.fail.ensures.core c.fail.ensures.logs c.fail.ensures.flags c.fail.ensures.ended

pub returns-in-Deported-clause-maps : goal.returns-in-Deported-clause-maps
returns-in-Deported-clause-maps g c = deported_same c.args.self c.in-Deported.idle c.fail-in-Deported.result c.in-Deported.is c.fail-in-Deported.ensures.rested c.fail-in-Deported.ensures.alike

pub returns-in-Down-clause-maps : goal.returns-in-Down-clause-maps
returns-in-Down-clause-maps g c = down_same c.args.self c.in-Down.idle c.fail-in-Down.result c.in-Down.is c.fail-in-Down.ensures.rested c.fail-in-Down.ensures.alike

pub returns-in-Marked-clause-maps : goal.returns-in-Marked-clause-maps
returns-in-Marked-clause-maps g c = marked_same c.args.self c.in-Marked.rack c.fail-in-Marked.new.self c.in-Marked.is

pub returns-in-Gone-clause-maps : goal.returns-in-Gone-clause-maps
returns-in-Gone-clause-maps g c = as_was c.args.self Gone c.in-Gone.is
