-- A raw set over disks that were written over.
use Rattle.std.proofs.Common.{ap, refl}
use Rattle.vx_model.specs.declared.errors.Stop.TheVariants.{No}
use Rattle.vx_diskset.specs.declared.disk_set.DiskSet.TheVariants.{Spoiled}
use Rattle.vx_diskset.proofs.KeepsFailing.{failing_then}
use Rattle.vx_diskset.proofs.Unmarked.{made_behind, zeroed_bare, zeroed_failed}
use Rattle.vx_diskset.proofs.starting.make_zeroed.Goals as goal

pub returns-in-Ok-clause-made : goal.returns-in-Ok-clause-made
returns-in-Ok-clause-made g c = λ n it can.
    let m = g.R.Shelf.meaning c.args.rack in
    let new = g.R.Shelf.meaning c.zero_disks.new.rack in
    made_behind {R = g.row.R.Denot} {g = g.R.Shelf} c.args.site n (Spoiled c.args.rack) (Spoiled c.zero_disks.new.rack) c.make_group.result.0 c.make_group.result.1 c.zero_disks.ensures.goes.disk_faults
    (c.make_group.ensures.made n (zeroed_bare n m new c.zero_disks.ensures.goes it c.in-Ok.ensures.ok) can)

pub returns-in-Err-clause-made : goal.returns-in-Err-clause-made
returns-in-Err-clause-made g c = λ n it can.
    zeroed_failed {R = g.row.R.Denot} {g = g.R.Shelf} c.args.site n (Spoiled c.args.rack) c.args.rack c.zero_disks.new.rack c.in-Err.error _ refl (ap No c.refusal.ensures) c.zero_disks.ensures.goes c.in-Err.ensures.cause it

pub returns-in-Ok-clause-failing : goal.returns-in-Ok-clause-failing
returns-in-Ok-clause-failing g c = failing_then (Spoiled c.args.rack) (Spoiled c.zero_disks.new.rack) c.make_group.result.0 (record { told = c.zero_disks.ensures.failing }) c.make_group.ensures.failing

pub returns-in-Err-clause-failing : goal.returns-in-Err-clause-failing
returns-in-Err-clause-failing g c = record { told = c.zero_disks.ensures.failing }
