-- An apply, as it is made over the site.
use Rattle.std.proofs.Common.{subst, sym}
use Rattle.vx_diskset.specs.DiskSets.{AppliedUp}
use Rattle.std.specs.Prelude.{IsFalse}
use Rattle.vx_grouped.specs.GroupSites.{site_disks}
use Rattle.vx_diskset.specs.Aboves.{site_in}
use Rattle.vx_diskset.specs.Noted.{OverCalled}
use Rattle.vx_diskset.specs.Stands.{SiteStands}
use Rattle.vx_diskset.specs.declared.disk_set.DiskSet.TheVariants.{Over}
use Rattle.vx_diskset.proofs.over_set.OverSet.apply.Goals as goal

pub returns-clause-applied : goal.returns-clause-applied
returns-clause-applied g c = λ beside n stands can. subst (λ s. AppliedUp beside n c.args.to (Over s) (Over c.applied-over.result.0) c.applied-over.result.1) c.replace.ensures.value (c.applied-over.ensures.applied beside n (subst (λ s. SiteStands beside n (Over s)) (sym c.replace.ensures.value) stands) can)

pub returns-clause-brought : goal.returns-clause-brought
returns-clause-brought g c = c.applied-over.ensures.brought

pub returns-clause-called : goal.returns-clause-called
returns-clause-called g c = subst (λ s. OverCalled s c.applied-over.result.0) c.replace.ensures.value c.applied-over.ensures.called

pub returns-clause-off : goal.returns-clause-off
returns-clause-off g c = λ up. c.applied-over.ensures.off (subst (λ s. IsFalse (site_disks (site_in s)).down) (sym c.replace.ensures.value) up)
