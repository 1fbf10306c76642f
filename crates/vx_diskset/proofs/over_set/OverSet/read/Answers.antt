-- A read, as it is made over the site.
use Rattle.std.proofs.Common.{◌≡◌, subst, sym}
use Rattle.vx_model.specs.Content.{blocks_in}
use Rattle.vx_diskset.specs.DiskSets.{ReadAt}
use Rattle.vx_grouped.specs.GroupSites.{site_disks}
use Rattle.vx_diskset.specs.Aboves.{site_in}
use Rattle.vx_diskset.specs.Noted.{OverCalled}
use Rattle.vx_diskset.specs.Stands.{SiteStands}
use Rattle.vx_diskset.specs.declared.disk_set.DiskSet.TheVariants.{Over}
use Rattle.vx_diskset.proofs.over_set.OverSet.read.Goals as goal

pub returns-clause-read : goal.returns-clause-read
returns-clause-read g c = λ beside n stands can. subst (λ s. ReadAt beside n c.args.volume c.args.start (blocks_in c.args.into.now) c.was_read-over.new.into (Over s) (Over c.was_read-over.result.0) c.was_read-over.result.1) c.replace.ensures.value (c.was_read-over.ensures.read beside n (subst (λ s. SiteStands beside n (Over s)) (sym c.replace.ensures.value) stands) can)

pub returns-clause-called : goal.returns-clause-called
returns-clause-called g c = subst (λ s. OverCalled s c.was_read-over.result.0) c.replace.ensures.value c.was_read-over.ensures.called

pub returns-clause-down : goal.returns-clause-down
returns-clause-down g c = subst (λ s. (site_disks (site_in c.was_read-over.result.0)).down ≡ (site_disks (site_in s)).down) c.replace.ensures.value c.was_read-over.ensures.down
