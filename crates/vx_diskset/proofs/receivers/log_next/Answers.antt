-- The oldest of what waits is logged, case by case.
use Rattle.std.proofs.Common.{◌+◌, subst, sym}
use Rattle.std.specs.Prelude.{Err, Ok}
use Rattle.std.proofs.lemmas.Result.{err_from_is_err_and}
use Rattle.vx_model.specs.Content.{Write, blocks_in}
use Rattle.vx_model.specs.declared.call.Update.{Update}
use Rattle.vx_secondary.proofs.Writings.{can_parts}
use Rattle.vx_diskset.specs.DiskSets.{CanLog}
use Rattle.vx_diskset.specs.Shelves.{LoggedAs}
use Rattle.vx_diskset.specs.Needs.{HasRoom}
use Rattle.vx_diskset.specs.Received.{reached}
use Rattle.vx_diskset.specs.Stands.{IsReceiverAt}
use Rattle.vx_diskset.proofs.Reaching.{can_next, front_is, next_done, next_failed, room_next}
use Rattle.vx_diskset.proofs.Receiving.{durable_of, receiver_up}
use Rattle.vx_diskset.proofs.receivers.log_next.Goals as goal

pub returns-in_err-write_group-clause-logs : goal.returns-in_err-write_group-clause-logs
returns-in_err-write_group-clause-logs g c = λ beside n r can.
    let lawful = g.met.S.Shelf.lawful in
    let u = (let v : Update = c.in-Some.update.now in v) in
    let front = front_is c.args.waiting.now u c.in-Some.ensures in
    let able = can_next n c.args.rvg.now.core c.args.waiting.now _ u (g.S.Shelf.meaning c.args.rvg.now.shelf) r can front c.requires.waits in
    let up = receiver_up n c.args.rvg.now.core c.args.waiting.now (g.S.Shelf.meaning c.args.rvg.now.shelf) r can.running (lawful c.args.rvg.now.shelf) c.args.rvg.now.sound.log_unit in
    let room = room_next n c.args.rvg.now.core c.args.waiting.now _ u (g.S.Shelf.meaning c.args.rvg.now.shelf) r can front able c.head-last.result c.head-last.ensures in
    let p = err_from_is_err_and c.from_residual.result c.from_residual.ensures.1 in
    rw (p.1, p.2)
    (next_failed n c.args.rvg.now.core c.args.waiting.now _ u (g.S.Shelf.meaning c.args.rvg.now.shelf) r can front c.write_group.new.rvg.core (g.S.Shelf.meaning c.write_group.new.rvg.shelf) c.in_err-write_group.field-0.0
    (c.in_err-write_group.ensures.takes.never c.requires.numbers)
    (subst (λ b. LoggedAs beside (durable_of n) (let w : Write = record { volume = u.vol; start = u.block; bytes = b } in w) (g.S.Shelf.meaning c.args.rvg.now.shelf) c.write_group.new.rvg.core (g.S.Shelf.meaning c.write_group.new.rvg.shelf) (Err c.in_err-write_group.field-0.0)) c.as_bytes-bytes.ensures.bytes
    (c.in_err-write_group.ensures.wrote beside (durable_of n) up (subst (λ b. CanLog (durable_of n) u.vol u.block (blocks_in b)) (sym c.as_bytes-bytes.ensures.bytes) able)
    (subst (λ b. HasRoom beside.links (durable_of n) c.head-last.result (blocks_in b)) (sym c.as_bytes-bytes.ensures.bytes) room))))

pub returns-clause-logs : goal.returns-clause-logs
returns-clause-logs g c = λ beside n r can.
    let lawful = g.met.S.Shelf.lawful in
    let u = (let v : Update = c.in-Some.update.now in v) in
    let front = front_is c.args.waiting.now u c.in-Some.ensures in
    let able = can_next n c.args.rvg.now.core c.args.waiting.now _ u (g.S.Shelf.meaning c.args.rvg.now.shelf) r can front c.requires.waits in
    let up = receiver_up n c.args.rvg.now.core c.args.waiting.now (g.S.Shelf.meaning c.args.rvg.now.shelf) r can.running (lawful c.args.rvg.now.shelf) c.args.rvg.now.sound.log_unit in
    let room = room_next n c.args.rvg.now.core c.args.waiting.now _ u (g.S.Shelf.meaning c.args.rvg.now.shelf) r can front able c.head-last.result c.head-last.ensures in
    subst (λ us. IsReceiverAt beside (reached n (n.safe + 1)) c.write_group.new.rvg.core us (g.S.Shelf.meaning c.write_group.new.rvg.shelf)) (sym c.pop.ensures)
    (next_done n c.args.rvg.now.core c.args.waiting.now _ u (g.S.Shelf.meaning c.args.rvg.now.shelf) r can front c.write_group.new.rvg.core (g.S.Shelf.meaning c.write_group.new.rvg.shelf) c.in_ok-write_group.field-0
    (subst (λ b. LoggedAs beside (durable_of n) (let w : Write = record { volume = u.vol; start = u.block; bytes = b } in w) (g.S.Shelf.meaning c.args.rvg.now.shelf) c.write_group.new.rvg.core (g.S.Shelf.meaning c.write_group.new.rvg.shelf) (Ok c.in_ok-write_group.field-0)) c.as_bytes-bytes.ensures.bytes
    (c.in_ok-write_group.ensures.wrote beside (durable_of n) up (subst (λ b. CanLog (durable_of n) u.vol u.block (blocks_in b)) (sym c.as_bytes-bytes.ensures.bytes) able)
    (subst (λ b. HasRoom beside.links (durable_of n) c.head-last.result (blocks_in b)) (sym c.as_bytes-bytes.ensures.bytes) room))))

pub write_group-requires-clause-volume : goal.write_group-requires-clause-volume
write_group-requires-clause-volume g c =
    (can_parts c.args.rvg.now.core (g.S.Shelf.meaning c.args.rvg.now.shelf).size c.in-Some.update.now (c.requires.waits.fits 0 c.in-Some.update.now (sym c.in-Some.ensures))).0

pub returns-in_err-write_group-clause-blames : goal.returns-in_err-write_group-clause-blames
returns-in_err-write_group-clause-blames g c =
    let p = err_from_is_err_and c.from_residual.result c.from_residual.ensures.1 in
    rw (p.1, p.2) c.in_err-write_group.ensures.blames

pub returns-clause-group : goal.returns-clause-group
returns-clause-group g c = c.in_ok-write_group.ensures.group

pub returns-clause-stamp : goal.returns-clause-stamp
returns-clause-stamp g c = c.in_ok-write_group.ensures.takes.stamp

pub returns-clause-left : goal.returns-clause-left
returns-clause-left g c = c.pop.ensures
