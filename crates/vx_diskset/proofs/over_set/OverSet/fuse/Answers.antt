-- The fuse of the disks is set.
use Rattle.std.proofs.Common.{◌∙◌, ap, subst, sym}
use Rattle.vx_disk.specs.Causes.{OnDisks}
use Rattle.vx_grouped.specs.GroupSites.{site_disks}
use Rattle.vx_diskset.specs.Aboves.{above_in, site_in}
use Rattle.vx_diskset.specs.Founded.{DisksAlike, FusesFor}
use Rattle.vx_diskset.specs.Noted.{FusesNoted}
use Rattle.vx_diskset.specs.Stands.{OverStands}
use Rattle.vx_diskset.proofs.over_set.OverSet.fuse.Goals as goal

pub returns-clause-fused : goal.returns-clause-fused
returns-clause-fused g c = λ beside n stands up. c.fused-over.ensures.fused beside n (subst (λ s. OverStands beside n s.site) (sym c.replace.ensures.value) stands) up

pub returns-clause-noted : goal.returns-clause-noted
returns-clause-noted g c = subst (λ s. FusesNoted c.args.calls s c.fused-over.result) c.replace.ensures.value c.fused-over.ensures.noted

pub returns-clause-asked : goal.returns-clause-asked
returns-clause-asked g c = λ beside n stands up.
    subst (λ s. OnDisks (site_disks (site_in s)).disks (site_disks (site_in c.fused-over.result)).disks (FusesFor c.args.calls c.args.pick)) c.replace.ensures.value
    (c.fused-over.ensures.asked beside n (subst (λ s. OverStands beside n s.site) (sym c.replace.ensures.value) stands) up)

pub returns-clause-later : goal.returns-clause-later
returns-clause-later g c = subst (λ s. DisksAlike (site_in s) (site_in c.fused-over.result)) c.replace.ensures.value c.fused-over.ensures.later

pub returns-clause-above : goal.returns-clause-above
returns-clause-above g c = c.fused-over.ensures.above ∙ ap (λ s. above_in s) c.replace.ensures.value
