-- `fault`: clauses goes, rose, others, blocks and failing; the invariant of what it hands on.
use Rattle.std.proofs.Common.{refl}
use Rattle.vx_disk.specs.Shelf.{Nothing}
use Rattle.vx_disk.proofs.Changes.{change-goes, change-fault, fault-Rose, map_other}
use Rattle.vx_disk.proofs.DiskChanges.{fault-SameBlocks, same_failing, same_NoneLoose}
use Rattle.vx_disk.proofs.disks.MemDisks.fault.Goals as goal

pub invariant_of-self-clause-at_rest : goal.invariant_of-self-clause-at_rest
invariant_of-self-clause-at_rest c = λ down. same_NoneLoose _ c.args.unit c.fault.new.self _ c.requires c.index_mut.ensures.value c.fault.ensures.loose (c.args.self.now.at_rest down)

pub returns-clause-goes : goal.returns-clause-goes
returns-clause-goes c =
    let e = c.fault.ensures in
    change-goes Nothing _ _ c.args.self.now.units _ _ _ _
    (change-fault _ c.args.unit c.fault.new.self _ c.requires c.index_mut.ensures.value e.latest e.stable e.loose e.faults _) refl c.note.ensures

pub returns-clause-rose : goal.returns-clause-rose
returns-clause-rose c =
    let e = c.fault.ensures in
    fault-Rose _ c.args.unit c.fault.new.self _ c.requires c.index_mut.ensures.value e.latest e.stable e.loose e.faults

pub returns-clause-others : goal.returns-clause-others
returns-clause-others c =
    λ u not. map_other _ c.args.unit c.fault.new.self _ c.requires c.index_mut.ensures.value (λ m. m.faults) 0 u not

pub returns-clause-blocks : goal.returns-clause-blocks
returns-clause-blocks c =
    let e = c.fault.ensures in
    fault-SameBlocks _ c.args.unit c.fault.new.self _ c.requires c.index_mut.ensures.value _ _ e.latest e.stable e.loose

pub returns-clause-failing : goal.returns-clause-failing
returns-clause-failing c = same_failing _ c.args.unit c.fault.new.self _ c.requires c.index_mut.ensures.value c.fault.ensures.failing
