-- The logging of one update, case by case.
use Rattle.std.proofs.Common.{◌+◌, ◌≤◌, ℕ, List, [], ◌∷◌, ap, subst, arith}
use Rattle.std.proofs.lemmas.Result.{err_from_is_err_and}
use Rattle.vx_model.specs.Content.{blocks_in}
use Rattle.vx_rvg.specs.Contents.{write_of_update}
use Rattle.vx_rvg.specs.Views.{unit_of}
use Rattle.vx_secondary.specs.Logging.{LogsAll, Step}
use Rattle.vx_secondary.proofs.Steps.{step_more, step_then, logs_then}
use Rattle.vx_secondary.proofs.Writings.{can_parts, can_same, written_step, written_logs, written_ends, ends_later}
use Rattle.vx_secondary.proofs.logging.log_one.Goals as goal

pub returns-in_err-make_room-clause-step : goal.returns-in_err-make_room-clause-step
returns-in_err-make_room-clause-step g c = step_more [] (write_of_update c.args.update.now ∷ []) c.args.rvg.now.core c.make_room.new.rvg.core (g.S.Shelf.meaning c.args.rvg.now.shelf) (g.S.Shelf.meaning c.make_room.new.rvg.shelf) c.make_room.ensures.step

pub returns-in_err-write-clause-step : goal.returns-in_err-write-clause-step
returns-in_err-write-clause-step g c =
    let can = (can_parts c.make_room.new.rvg.core (g.S.Shelf.meaning c.make_room.new.rvg.shelf).size c.args.update.now (can_same c.args.rvg.now.core c.make_room.new.rvg.core (g.S.Shelf.meaning c.args.rvg.now.shelf).size (g.S.Shelf.meaning c.make_room.new.rvg.shelf).size c.args.update.now c.make_room.ensures.step.same c.make_room.ensures.step.moves.size c.requires.fits)) in
    let fits : blocks_in c.as_bytes-bytes.result.now + 1 ≤ c.make_room.new.rvg.core.log.ring = omega (arith, can.1.0, ap (λ (b : List ℕ). blocks_in b) c.as_bytes-bytes.ensures.bytes) in
    let within : c.args.update.now.block + blocks_in c.as_bytes-bytes.result.now ≤ (g.S.Shelf.meaning c.make_room.new.rvg.shelf).size (unit_of c.make_room.new.rvg.core.units.vols c.args.update.now.vol) = omega (arith, can.1.1, ap (λ (b : List ℕ). blocks_in b) c.as_bytes-bytes.ensures.bytes) in
    subst (λ (b : List ℕ). Step (record { volume = c.args.update.now.vol; start = c.args.update.now.block; bytes = b } ∷ []) c.args.rvg.now.core c.write.new.self.core (g.S.Shelf.meaning c.args.rvg.now.shelf) (g.S.Shelf.meaning c.write.new.self.shelf)) c.as_bytes-bytes.ensures.bytes
    (step_then [] ((record { volume = c.args.update.now.vol; start = c.args.update.now.block; bytes = c.as_bytes-bytes.result.now }) ∷ []) c.args.rvg.now.core c.make_room.new.rvg.core c.write.new.self.core (g.S.Shelf.meaning c.args.rvg.now.shelf) (g.S.Shelf.meaning c.make_room.new.rvg.shelf) (g.S.Shelf.meaning c.write.new.self.shelf) c.make_room.ensures.step c.in_ok-make_room.ensures.logs
    (written_step c.make_room.new.rvg.core c.write.new.self.core c.args.update.now.vol c.args.update.now.block c.as_bytes-bytes.result.now (g.S.Shelf.meaning c.make_room.new.rvg.shelf) (g.S.Shelf.meaning c.write.new.self.shelf) ((g.S.Shelf.meaning c.make_room.new.rvg.shelf).size (unit_of c.make_room.new.rvg.core.units.vols c.args.update.now.vol)) c.in_ok-make_room.ensures.logs.running c.ring-ring.ensures.low fits within c.write.result c.write.ensures.answers c.write.ensures.moves))

pub returns-in_err-write-clause-ends : goal.returns-in_err-write-clause-ends
returns-in_err-write-clause-ends g c =
    let can = (can_parts c.make_room.new.rvg.core (g.S.Shelf.meaning c.make_room.new.rvg.shelf).size c.args.update.now (can_same c.args.rvg.now.core c.make_room.new.rvg.core (g.S.Shelf.meaning c.args.rvg.now.shelf).size (g.S.Shelf.meaning c.make_room.new.rvg.shelf).size c.args.update.now c.make_room.ensures.step.same c.make_room.ensures.step.moves.size c.requires.fits)) in
    let fits : blocks_in c.as_bytes-bytes.result.now + 1 ≤ c.make_room.new.rvg.core.log.ring = omega (arith, can.1.0, ap (λ (b : List ℕ). blocks_in b) c.as_bytes-bytes.ensures.bytes) in
    let within : c.args.update.now.block + blocks_in c.as_bytes-bytes.result.now ≤ (g.S.Shelf.meaning c.make_room.new.rvg.shelf).size (unit_of c.make_room.new.rvg.core.units.vols c.args.update.now.vol) = omega (arith, can.1.1, ap (λ (b : List ℕ). blocks_in b) c.as_bytes-bytes.ensures.bytes) in
    let p = err_from_is_err_and c.from_residual-in_err-write.result c.from_residual-in_err-write.ensures.1 in
    rw (p.1, p.2)
    (ends_later 0 0 c.args.rvg.now.core c.make_room.new.rvg.core c.write.new.self.core (g.S.Shelf.meaning c.args.rvg.now.shelf) (g.S.Shelf.meaning c.make_room.new.rvg.shelf) (g.S.Shelf.meaning c.write.new.self.shelf) c.in_err-write.field-0.0 c.in_ok-make_room.ensures.logs.last c.make_room.ensures.step.moves.disk_faults
    (written_ends c.make_room.new.rvg.core c.write.new.self.core c.args.update.now.vol c.args.update.now.block c.as_bytes-bytes.result.now (g.S.Shelf.meaning c.make_room.new.rvg.shelf) (g.S.Shelf.meaning c.write.new.self.shelf) ((g.S.Shelf.meaning c.make_room.new.rvg.shelf).size (unit_of c.make_room.new.rvg.core.units.vols c.args.update.now.vol)) c.in_ok-make_room.ensures.logs.running c.ring-ring.ensures.low fits within c.in_err-write.field-0.0 c.in_err-write.ensures.answers))

pub returns-clause-step : goal.returns-clause-step
returns-clause-step g c =
    let can = (can_parts c.make_room.new.rvg.core (g.S.Shelf.meaning c.make_room.new.rvg.shelf).size c.args.update.now (can_same c.args.rvg.now.core c.make_room.new.rvg.core (g.S.Shelf.meaning c.args.rvg.now.shelf).size (g.S.Shelf.meaning c.make_room.new.rvg.shelf).size c.args.update.now c.make_room.ensures.step.same c.make_room.ensures.step.moves.size c.requires.fits)) in
    let fits : blocks_in c.as_bytes-bytes.result.now + 1 ≤ c.make_room.new.rvg.core.log.ring = omega (arith, can.1.0, ap (λ (b : List ℕ). blocks_in b) c.as_bytes-bytes.ensures.bytes) in
    let within : c.args.update.now.block + blocks_in c.as_bytes-bytes.result.now ≤ (g.S.Shelf.meaning c.make_room.new.rvg.shelf).size (unit_of c.make_room.new.rvg.core.units.vols c.args.update.now.vol) = omega (arith, can.1.1, ap (λ (b : List ℕ). blocks_in b) c.as_bytes-bytes.ensures.bytes) in
    subst (λ (b : List ℕ). Step (record { volume = c.args.update.now.vol; start = c.args.update.now.block; bytes = b } ∷ []) c.args.rvg.now.core c.write.new.self.core (g.S.Shelf.meaning c.args.rvg.now.shelf) (g.S.Shelf.meaning c.write.new.self.shelf)) c.as_bytes-bytes.ensures.bytes
    (step_then [] ((record { volume = c.args.update.now.vol; start = c.args.update.now.block; bytes = c.as_bytes-bytes.result.now }) ∷ []) c.args.rvg.now.core c.make_room.new.rvg.core c.write.new.self.core (g.S.Shelf.meaning c.args.rvg.now.shelf) (g.S.Shelf.meaning c.make_room.new.rvg.shelf) (g.S.Shelf.meaning c.write.new.self.shelf) c.make_room.ensures.step c.in_ok-make_room.ensures.logs
    (written_step c.make_room.new.rvg.core c.write.new.self.core c.args.update.now.vol c.args.update.now.block c.as_bytes-bytes.result.now (g.S.Shelf.meaning c.make_room.new.rvg.shelf) (g.S.Shelf.meaning c.write.new.self.shelf) ((g.S.Shelf.meaning c.make_room.new.rvg.shelf).size (unit_of c.make_room.new.rvg.core.units.vols c.args.update.now.vol)) c.in_ok-make_room.ensures.logs.running c.ring-ring.ensures.low fits within c.write.result c.write.ensures.answers c.write.ensures.moves))

pub returns-clause-logs : goal.returns-clause-logs
returns-clause-logs g c =
    let can = (can_parts c.make_room.new.rvg.core (g.S.Shelf.meaning c.make_room.new.rvg.shelf).size c.args.update.now (can_same c.args.rvg.now.core c.make_room.new.rvg.core (g.S.Shelf.meaning c.args.rvg.now.shelf).size (g.S.Shelf.meaning c.make_room.new.rvg.shelf).size c.args.update.now c.make_room.ensures.step.same c.make_room.ensures.step.moves.size c.requires.fits)) in
    let fits : blocks_in c.as_bytes-bytes.result.now + 1 ≤ c.make_room.new.rvg.core.log.ring = omega (arith, can.1.0, ap (λ (b : List ℕ). blocks_in b) c.as_bytes-bytes.ensures.bytes) in
    let within : c.args.update.now.block + blocks_in c.as_bytes-bytes.result.now ≤ (g.S.Shelf.meaning c.make_room.new.rvg.shelf).size (unit_of c.make_room.new.rvg.core.units.vols c.args.update.now.vol) = omega (arith, can.1.1, ap (λ (b : List ℕ). blocks_in b) c.as_bytes-bytes.ensures.bytes) in
    subst (λ (b : List ℕ). LogsAll (record { volume = c.args.update.now.vol; start = c.args.update.now.block; bytes = b } ∷ []) c.args.rvg.now.core c.write.new.self.core (g.S.Shelf.meaning c.args.rvg.now.shelf) (g.S.Shelf.meaning c.write.new.self.shelf)) c.as_bytes-bytes.ensures.bytes
    (logs_then [] ((record { volume = c.args.update.now.vol; start = c.args.update.now.block; bytes = c.as_bytes-bytes.result.now }) ∷ []) c.args.rvg.now.core c.make_room.new.rvg.core c.write.new.self.core (g.S.Shelf.meaning c.args.rvg.now.shelf) (g.S.Shelf.meaning c.make_room.new.rvg.shelf) (g.S.Shelf.meaning c.write.new.self.shelf) c.in_ok-make_room.ensures.logs
    (written_logs c.make_room.new.rvg.core c.write.new.self.core c.args.update.now.vol c.args.update.now.block c.as_bytes-bytes.result.now (g.S.Shelf.meaning c.make_room.new.rvg.shelf) (g.S.Shelf.meaning c.write.new.self.shelf) ((g.S.Shelf.meaning c.make_room.new.rvg.shelf).size (unit_of c.make_room.new.rvg.core.units.vols c.args.update.now.vol)) c.in_ok-make_room.ensures.logs.running c.ring-ring.ensures.low fits within c.in_ok-write.field-0 c.in_ok-write.ensures.answers c.make_room.new.rvg.sound c.write.ensures.moves.falls c.in_ok-write.ensures.stands))
