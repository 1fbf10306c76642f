-- A raw set over clean disks, whose labels were taken off.
use Rattle.std.proofs.Common.{refl}
use Rattle.vx_diskset.specs.declared.disk_set.DiskSet.TheVariants.{Bare, Spoiled}
use Rattle.vx_diskset.proofs.KeepsFailing.{failing_then, same_spent}
use Rattle.vx_diskset.proofs.Unmarked.{made_behind, unlabelled_failed}
use Rattle.vx_diskset.proofs.starting.make_unlabelled.Goals as goal

pub returns-in-Ok-clause-made : goal.returns-in-Ok-clause-made
returns-in-Ok-clause-made g c = λ n it can.
    made_behind {R = g.row.R.Denot} {g = g.R.Shelf} c.args.site n (Bare c.args.rack) (Spoiled c.unlabel_all.new.rack) c.make_group.result.0 c.make_group.result.1 c.unlabel_all.ensures.counts
    (c.make_group.ensures.made n (c.unlabel_all.ensures.clean n it).bare can)

pub returns-in-Err-clause-made : goal.returns-in-Err-clause-made
returns-in-Err-clause-made g c = λ n it can.
    unlabelled_failed {R = g.row.R.Denot} {g = g.R.Shelf} c.args.site n (Bare c.args.rack) c.args.rack c.unlabel_all.new.rack c.in-Err.no refl (c.unlabel_all.ensures.clean n it) c.in-Err.ensures.cause

pub returns-in-Ok-clause-failing : goal.returns-in-Ok-clause-failing
returns-in-Ok-clause-failing g c = failing_then (Bare c.args.rack) (Spoiled c.unlabel_all.new.rack) c.make_group.result.0 (record { told = same_spent (g.R.Shelf.meaning c.args.rack) (g.R.Shelf.meaning c.unlabel_all.new.rack) c.unlabel_all.ensures.spends })
    c.make_group.ensures.failing

pub returns-in-Err-clause-failing : goal.returns-in-Err-clause-failing
returns-in-Err-clause-failing g c = record { told = same_spent (g.R.Shelf.meaning c.args.rack) (g.R.Shelf.meaning c.unlabel_all.new.rack) c.unlabel_all.ensures.spends }
