-- `fit`: clauses fitted and unchanged.
use Rattle.std.proofs.Common.{sym, subst}
use Rattle.vx_disk.specs.Meanings.{shelf_meaning}
use Rattle.vx_disk.specs.Racks.{Fitted}
use Rattle.vx_filedisk.specs.Counting.{counts_of}
use Rattle.vx_filedisk.specs.Hosts.{host_meaning}
use Rattle.vx_filedisk.proofs.Answering.{on_ok}
use Rattle.vx_filedisk.proofs.Hosts.{bare_None, memory_Fitted, same_err}
use Rattle.vx_filedisk.proofs.rack.HostRackRack.fit.Goals as goal

pub returns-in-None-clause-fitted : goal.returns-in-None-clause-fitted
returns-in-None-clause-fitted c =
    let h = c.args.self.now in
    let counts = counts_of h.counts in
    let before = shelf_meaning h.memory in
    let after = shelf_meaning c.fit.new.self in
    let bare = bare_None h.files before h.as_many c.requires.unfitted in
    on_ok c.fit.result c.fit.ensures.fitted (λ fitted.
    subst (λ f. Fitted c.args.disks c.args.blocks (host_meaning f counts before) (host_meaning f counts after)) (sym bare) (memory_Fitted counts before after _ _ fitted))

pub returns-in-None-clause-unchanged : goal.returns-in-None-clause-unchanged
returns-in-None-clause-unchanged c =
    let h = c.args.self.now in
    same_err h.files (counts_of h.counts) (shelf_meaning h.memory) (shelf_meaning c.fit.new.self) c.fit.result c.fit.ensures.unchanged
