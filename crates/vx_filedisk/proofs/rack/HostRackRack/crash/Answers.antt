-- `crash`: clause disks.
use Rattle.vx_disk.specs.Meanings.{shelf_meaning}
use Rattle.vx_filedisk.specs.Counting.{counts_of}
use Rattle.vx_filedisk.proofs.Hosts.{host_Crashed}
use Rattle.vx_filedisk.proofs.rack.HostRackRack.crash.Goals as goal

pub returns-clause-disks : goal.returns-clause-disks
returns-clause-disks c =
    let h = c.args.self.now in
    host_Crashed h.files (counts_of h.counts) (shelf_meaning h.memory) c.args.pick _ _ c.crash.ensures.disks
