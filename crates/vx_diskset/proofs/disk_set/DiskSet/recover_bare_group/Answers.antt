-- `recover_bare_group`: the group that was found on the disks of a bare site.
use Rattle.std.proofs.Common.{subst, sym}
use Rattle.vx_diskset.specs.Asked.{SameFailing}
use Rattle.vx_diskset.specs.DiskSets.{Later}
use Rattle.vx_diskset.specs.GroupFinds.{FindsIs}
use Rattle.vx_diskset.specs.Stands.{SiteStands}
use Rattle.vx_diskset.proofs.GroupFinding.{find_can, finds_is, other_finds, untold_later}
use Rattle.vx_diskset.proofs.disk_set.DiskSet.recover_bare_group.Goals as goal

pub returns-in-Bare-clause-found : goal.returns-in-Bare-clause-found
returns-in-Bare-clause-found g c = λ beside n stands state untold.
    let lawful = (g.met.R.Shelf g.world.𝓛 g.world.𝓜 g.world.𝓡 ((λ s x. x), (λ x. x), (λ x. x), λ x. x)).lawful in
    let clean = subst (λ e. SiteStands beside n e) c.in-Bare.is stands in
    let later = subst (λ e. Later e c.find_on.result.0) (sym c.in-Bare.is) c.find_on.ensures.later in
    subst (λ e. FindsIs c.args.site n e c.find_on.result.0 c.find_on.result.1) (sym c.in-Bare.is)
    (finds_is c.args.site n c.in-Bare.rack clean lawful c.find_on.result.0 c.find_on.result.1 (untold_later c.in-Bare.rack c.args.self c.find_on.result.0 c.in-Bare.is later untold) (c.find_on.ensures.found n (find_can n (g.R.Shelf.meaning c.in-Bare.rack) clean state)))

pub returns-in-Bare-clause-failing : goal.returns-in-Bare-clause-failing
returns-in-Bare-clause-failing g c = subst (λ e. SameFailing e c.find_on.result.0) (sym c.in-Bare.is) c.find_on.ensures.failing

pub returns-in-Bare-clause-later : goal.returns-in-Bare-clause-later
returns-in-Bare-clause-later g c = subst (λ e. Later e c.find_on.result.0) (sym c.in-Bare.is) c.find_on.ensures.later

pub returns-in_default-clause-found : goal.returns-in_default-clause-found
returns-in_default-clause-found g c = λ beside n stands state untold. other_finds c.args.site n state beside c.args.self stands
