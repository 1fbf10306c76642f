-- Disks that came up and can't be kept are those of the bare site again.
use Rattle.std.proofs.Common.{◌∙◌, ap, subst}
use Rattle.vx_diskset.specs.Withdrawn.{Revived}
use Rattle.vx_diskset.proofs.TakenBack.{bare_withdrawn}
use Rattle.vx_diskset.proofs.disk_set.DiskSet.withdraw.Goals as goal
use Rattle.vx_diskset.proofs.Laying.{raw_in}
use Rattle.vx_diskset.proofs.RawSets.{up_there, receiver_there}

pub returns-in-Up-clause-bare : goal.returns-in-Up-clause-bare
returns-in-Up-clause-bare g c = λ beside n k stands up apart of untold other.
    let lawful = (g.met.R.Shelf g.world.𝓛 g.world.𝓜 g.world.𝓡 ((λ s x. x), (λ x. x), (λ x. x), λ x. x)).lawful in
    bare_withdrawn n k (g.R.Shelf.meaning c.in-Up.rvg.shelf) (g.R.Shelf.meaning c.revived.result) (lawful c.revived.result) (raw_in k (g.R.Shelf.meaning c.in-Up.rvg.shelf) apart (up_there beside k c.args.self c.in-Up.rvg c.in-Up.is stands).1.lies)
    (subst (λ r. Revived (g.R.Shelf.meaning r) (g.R.Shelf.meaning c.revived.result)) c.into_shelf.ensures c.revived.ensures) of untold

pub returns-in-Receives-clause-bare : goal.returns-in-Receives-clause-bare
returns-in-Receives-clause-bare g c = λ beside n k stands up apart of untold other.
    let lawful = (g.met.R.Shelf g.world.𝓛 g.world.𝓜 g.world.𝓡 ((λ s x. x), (λ x. x), (λ x. x), λ x. x)).lawful in
    bare_withdrawn n k (g.R.Shelf.meaning c.in-Receives.site.rvg.shelf) (g.R.Shelf.meaning c.revived-in-Receives.result) (lawful c.revived-in-Receives.result)
    (raw_in k (g.R.Shelf.meaning c.in-Receives.site.rvg.shelf) apart (receiver_there beside k c.args.self c.in-Receives.site c.in-Receives.is stands).1.lies)
    (subst (λ r. Revived (g.R.Shelf.meaning r) (g.R.Shelf.meaning c.revived-in-Receives.result)) (c.into_shelf-in-Receives.ensures ∙ ap (λ r. r.shelf) c.into_rvg.ensures) c.revived-in-Receives.ensures) of untold
