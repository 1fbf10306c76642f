-- One of the disks is made to fail, or no longer.
use Rattle.std.proofs.Common.{◌∙◌, ap, subst, sym}
use Rattle.vx_disk.specs.Causes.{WithDisks}
use Rattle.vx_grouped.specs.GroupSites.{site_disks}
use Rattle.vx_diskset.specs.Aboves.{above_in, site_in}
use Rattle.vx_diskset.specs.Founded.{DisksAlike, FailsOne}
use Rattle.vx_diskset.specs.Noted.{StaysNoted}
use Rattle.vx_diskset.specs.Stands.{OverStands}
use Rattle.vx_diskset.proofs.over_set.OverSet.fail.Goals as goal

pub returns-clause-stands : goal.returns-clause-stands
returns-clause-stands g c = λ beside n stands. c.failing-over.ensures.stands beside n (subst (λ s. OverStands beside n s.site) (sym c.replace.ensures.value) stands)

pub returns-clause-noted : goal.returns-clause-noted
returns-clause-noted g c = subst (λ s. StaysNoted s c.failing-over.result) c.replace.ensures.value c.failing-over.ensures.noted

pub returns-clause-asked : goal.returns-clause-asked
returns-clause-asked g c = λ low. subst (λ s. WithDisks (site_disks (site_in s)).disks (site_disks (site_in c.failing-over.result)).disks (FailsOne c.args.disk c.args.on)) c.replace.ensures.value c.failing-over.ensures.asked

pub returns-clause-later : goal.returns-clause-later
returns-clause-later g c = subst (λ s. DisksAlike (site_in s) (site_in c.failing-over.result)) c.replace.ensures.value c.failing-over.ensures.later

pub returns-clause-above : goal.returns-clause-above
returns-clause-above g c = c.failing-over.ensures.above ∙ ap (λ s. above_in s) c.replace.ensures.value
