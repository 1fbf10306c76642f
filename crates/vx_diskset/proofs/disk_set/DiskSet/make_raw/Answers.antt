-- `make_raw`: clauses made and failing.
use Rattle.std.proofs.Common.{subst, sym}
use Rattle.vx_diskset.specs.Asked.{SameFailing}
use Rattle.vx_diskset.specs.DiskSets.{MadeIs}
use Rattle.vx_diskset.specs.Stands.{SiteStands}
use Rattle.vx_diskset.proofs.disk_set.DiskSet.make_raw.Goals as goal

pub returns-in-Bare-clause-made : goal.returns-in-Bare-clause-made
returns-in-Bare-clause-made g c = λ beside n stands bare some.
    subst (λ e. MadeIs c.args.site n e c.make_unlabelled.result.0 c.make_unlabelled.result.1) (sym c.in-Bare.is)
    (c.make_unlabelled.ensures.made n (subst (λ e. SiteStands beside n e) c.in-Bare.is stands) some)

pub returns-in-Spoiled-clause-made : goal.returns-in-Spoiled-clause-made
returns-in-Spoiled-clause-made g c = λ beside n stands bare some.
    subst (λ e. MadeIs c.args.site n e c.make_group.result.0 c.make_group.result.1) (sym c.in-Spoiled.is)
    (c.make_group.ensures.made n (subst (λ e. SiteStands beside n e) c.in-Spoiled.is stands) some)

pub returns-in-Bare-clause-failing : goal.returns-in-Bare-clause-failing
returns-in-Bare-clause-failing g c = subst (λ e. SameFailing e c.make_unlabelled.result.0) (sym c.in-Bare.is) c.make_unlabelled.ensures.failing

pub returns-in-Spoiled-clause-failing : goal.returns-in-Spoiled-clause-failing
returns-in-Spoiled-clause-failing g c = subst (λ e. SameFailing e c.make_group.result.0) (sym c.in-Spoiled.is) c.make_group.ensures.failing
