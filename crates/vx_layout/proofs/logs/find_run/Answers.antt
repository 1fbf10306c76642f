-- `find_run`: its result; what stays true in its loop over `disk`.
use Rattle.vx_layout.proofs.LogLemmas.{none_end, none_hit, none_more, none_start}
use Rattle.vx_layout.proofs.logs.find_run.Goals as goal

pub loop-disk-init : goal.loop-disk-init
loop-disk-init c = none_start c.args.used.now c.args.disks.now c.args.wanted c.requires.some

pub returns-in-Ok : goal.returns-in-Ok
returns-in-Ok c = none_hit c.args.used.now c.args.disks.now c.args.wanted c.loop-disk.disk c.end_of.result c.loop-disk.longest c.in-Ok.start c.requires.some c.end_of.ensures c.loop-disk.invariant c.in-Ok.ensures

pub loop-disk-preserved : goal.loop-disk-preserved
loop-disk-preserved c = none_more c.args.used.now c.args.disks.now c.args.wanted c.loop-disk.disk c.end_of.result c.loop-disk.longest c.in-Err.blocks c.max-longest.result c.end_of.ensures c.loop-disk.invariant c.in-Err.ensures c.max-longest.ensures

pub returns : goal.returns
returns c = none_end c.args.used.now c.args.disks.now c.args.wanted c.loop-disk.disk c.loop-disk.longest c.requires.few c.loop-disk-test.false c.loop-disk.invariant
