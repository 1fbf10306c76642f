-- `fit_files`: clause unchanged.
use Rattle.vx_disk.specs.Meanings.{shelf_meaning}
use Rattle.vx_filedisk.specs.Counting.{counts_of}
use Rattle.vx_filedisk.proofs.Hosts.{any_err}
use Rattle.vx_filedisk.proofs.host.HostRack.fit_files.Goals as goal

pub returns-in_err-fit-in-Ok-clause-unchanged : goal.returns-in_err-fit-in-Ok-clause-unchanged
returns-in_err-fit-in-Ok-clause-unchanged c =
    let h = c.args.self.now in
    any_err h.files (counts_of h.counts) (shelf_meaning h.memory) (shelf_meaning c.fit.new.self) _ c.from_residual.result c.in_err-fit-in-Ok.ensures.unchanged
