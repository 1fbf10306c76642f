-- `write`: what it makes of the volumes.
use Rattle.std.proofs.Common.{◌∙◌, sym}
use Rattle.vx_disk.specs.Shelf.{Covers}
use Rattle.vx_grouped.proofs.VolumeLemmas.{rest_goes, site_goes}
use Rattle.vx_grouped.proofs.group_site.GroupSite.write.Goals as goal

pub returns-in-Up-clause-volumes : goal.returns-in-Up-clause-volumes
returns-in-Up-clause-volumes g c = site_goes (Covers c.args.vol c.args.block c.args.bytes.now) c.args.self.now c.in-Up.group c.write_site-site.result.0 (sym c.replace.ensures.value ∙ c.in-Up.is) c.write_site-site.ensures.volumes

pub returns-in_default-clause-volumes : goal.returns-in_default-clause-volumes
returns-in_default-clause-volumes g c = rest_goes (Covers c.args.vol c.args.block c.args.bytes.now) c.args.self.now c.replace.result c.replace.ensures.value (λ l is. c.in_default.not-Up l is)
