-- `deport`: what it makes of the volumes.
use Rattle.std.proofs.Common.{refl}
use Rattle.vx_disk.specs.Moves.{Nowhere}
use Rattle.vx_grouped.proofs.VolumeLemmas.{rest_closes, rest_goes, site_closes, site_goes}
use Rattle.vx_grouped.proofs.group_site.GroupSite.deport.Goals as goal

pub returns-in-Up-clause-volumes : goal.returns-in-Up-clause-volumes
returns-in-Up-clause-volumes g c = site_goes Nowhere c.args.self c.in-Up.group c.deport_site.result.0 c.in-Up.is c.deport_site.ensures.volumes

pub returns-in-Up-clause-closes : goal.returns-in-Up-clause-closes
returns-in-Up-clause-closes g c = site_closes c.args.self c.in-Up.group c.deport_site.result.0 c.in-Up.is c.deport_site.ensures.closes

pub returns-in_default-clause-volumes : goal.returns-in_default-clause-volumes
returns-in_default-clause-volumes g c = rest_goes Nowhere c.args.self c.args.self refl (λ l is. c.in_default.not-Up l is)

pub returns-in_default-clause-closes : goal.returns-in_default-clause-closes
returns-in_default-clause-closes g c = rest_closes c.args.self (λ l is. c.in_default.not-Up l is)
