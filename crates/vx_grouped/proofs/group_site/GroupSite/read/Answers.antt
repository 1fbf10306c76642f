-- `read`: what it makes of the volumes.
use Rattle.std.proofs.Common.{◌∙◌, sym}
use Rattle.vx_disk.specs.Moves.{Nowhere}
use Rattle.vx_grouped.proofs.VolumeLemmas.{rest_goes, site_goes}
use Rattle.vx_grouped.proofs.group_site.GroupSite.read.Goals as goal

pub returns-in-Up-clause-volumes : goal.returns-in-Up-clause-volumes
returns-in-Up-clause-volumes g c = site_goes Nowhere c.args.self.now c.in-Up.group c.read_site-site.result.0 (sym c.replace.ensures.value ∙ c.in-Up.is) c.read_site-site.ensures.volumes

pub returns-in_default-clause-volumes : goal.returns-in_default-clause-volumes
returns-in_default-clause-volumes g c = rest_goes Nowhere c.args.self.now c.replace.result c.replace.ensures.value (λ l is. c.in_default.not-Up l is)
