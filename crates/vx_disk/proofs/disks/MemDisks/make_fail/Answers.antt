-- `make_fail`: clauses alike, disks, here and elsewhere; the invariant of what it hands on.
use Rattle.std.proofs.Common.{◌∙◌, refl}
use Rattle.vx_disk.proofs.DiskChanges.{same_NoneLoose, fail-Alike, failing_here, failing_elsewhere, fault-SameBlocks}
use Rattle.vx_disk.proofs.disks.MemDisks.make_fail.Goals as goal

pub invariant_of-self-clause-at_rest : goal.invariant_of-self-clause-at_rest
invariant_of-self-clause-at_rest c = λ down. same_NoneLoose _ c.args.disk c.make_fail.new.self _ c.requires c.index_mut.ensures.value c.make_fail.ensures.loose (c.args.self.now.at_rest down)

pub returns-clause-alike : goal.returns-clause-alike
returns-clause-alike c =
    let e = c.make_fail.ensures in
    fail-Alike _ c.args.disk c.make_fail.new.self _ c.requires c.index_mut.ensures.value e.latest e.stable e.loose e.faults _ _ _

pub returns-clause-disks : goal.returns-clause-disks
returns-clause-disks c =
    let e = c.make_fail.ensures in
    record { blocks = fault-SameBlocks _ c.args.disk c.make_fail.new.self _ c.requires c.index_mut.ensures.value _ _ e.latest e.stable e.loose; fuse = refl }

pub returns-clause-here : goal.returns-clause-here
returns-clause-here c =
    let e = c.make_fail.ensures in
    failing_here _ c.args.disk c.make_fail.new.self _ c.requires c.index_mut.ensures.value e.latest e.stable e.loose e.faults ∙ e.failing

pub returns-clause-elsewhere : goal.returns-clause-elsewhere
returns-clause-elsewhere c =
    let e = c.make_fail.ensures in
    failing_elsewhere _ c.args.disk c.make_fail.new.self _ c.requires c.index_mut.ensures.value e.latest e.stable e.loose e.faults
