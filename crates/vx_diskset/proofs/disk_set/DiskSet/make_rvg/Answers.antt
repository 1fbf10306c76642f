-- What is left of the disks of a site on which a replicated volume group is made.
use Rattle.vx_diskset.proofs.GroupCalling.{called_rest}
use Rattle.vx_diskset.proofs.KeepsFailing.{failing_same}
use Rattle.vx_diskset.proofs.OverMaking.{called_made, fuse_rest, made_failing, made_fuse, made_later}
use Rattle.vx_diskset.proofs.MakeSites.{made_else, made_of}
use Rattle.vx_diskset.proofs.disk_set.DiskSet.make_rvg.Goals as goal

pub returns-in-OfGroup-clause-made : goal.returns-in-OfGroup-clause-made
returns-in-OfGroup-clause-made g c = made_of c.args.site c.args.units.now c.args.self c.in-OfGroup.group c.in-OfGroup.is c.make_in.result.0 c.make_in.result.1 c.make_in.ensures.made

pub returns-in-OfGroup-clause-failing : goal.returns-in-OfGroup-clause-failing
returns-in-OfGroup-clause-failing g c = made_failing c.args.self c.make_in.result.0 c.in-OfGroup.group c.in-OfGroup.is c.make_in.ensures.since

pub returns-in-OfGroup-clause-later : goal.returns-in-OfGroup-clause-later
returns-in-OfGroup-clause-later g c = made_later c.args.self c.make_in.result.0 c.in-OfGroup.group c.in-OfGroup.is c.make_in.ensures.since c.make_in.ensures.told

pub returns-in-OfGroup-clause-fuse : goal.returns-in-OfGroup-clause-fuse
returns-in-OfGroup-clause-fuse g c =
    let is_rack = (g.met.R.Rack g.world.𝓛 g.world.𝓜 g.world.𝓡 ((λ s x. x), (λ x. x), (λ x. x), λ x. x)).rack in
    made_fuse c.args.self c.make_in.result.0 c.in-OfGroup.group c.in-OfGroup.is c.make_in.ensures.since is_rack c.make_in.ensures.calm

pub returns-in_default-clause-made : goal.returns-in_default-clause-made
returns-in_default-clause-made g c = λ n note config noted up first has none may. made_else c.args.site n note c.args.units.now config c.args.self (λ group is. c.in_default.not-OfGroup group is)

pub returns-in_default-clause-failing : goal.returns-in_default-clause-failing
returns-in_default-clause-failing g c = failing_same c.args.self

pub returns-in_default-clause-fuse : goal.returns-in_default-clause-fuse
returns-in_default-clause-fuse g c = fuse_rest c.args.self

pub returns-in-OfGroup-clause-since : goal.returns-in-OfGroup-clause-since
returns-in-OfGroup-clause-since g c = called_made c.args.self c.make_in.result.0 c.in-OfGroup.group c.in-OfGroup.is c.make_in.ensures.since

pub returns-in_default-clause-since : goal.returns-in_default-clause-since
returns-in_default-clause-since g c = called_rest c.args.self
