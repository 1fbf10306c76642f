-- A write of a group, case by case.
use Rattle.std.proofs.Common.{◌∙◌, ◌<◌, ℕ, inl, ap, arith, refl, subst, sym}
use Rattle.vx_model.specs.Content.{blocks_in}
use Rattle.std.specs.Prelude.{Err, Option}
use Rattle.std.proofs.lemmas.Result.{err_from_is_err_and}
use Rattle.vx_diskset.proofs.Blamed.{all_blamed_since, unit_blamed}
use Rattle.vx_diskset.proofs.ExactWrite.{hand_here, first_after, cut_less, exact_is, rack_before}
use Rattle.vx_diskset.proofs.WriteGroup.{unroomed, written_as, write_cut, wrote_later, wrote_at, wrote_none}
use Rattle.vx_history.specs.Groups.{GroupNode}
use Rattle.vx_model.specs.declared.limits.TheConstants.{MOST_NUMBER}
use Rattle.vx_model.specs.declared.no.No.TheVariants.{Limit, Down}
use Rattle.vx_model.specs.declared.no.Counted.TheVariants.{Number}
use Rattle.vx_model.specs.declared.units.Units.{Units}
use Rattle.vx_diskset.specs.Burning.{IsLogged}
use Rattle.vx_disk.proofs.Spending.{then_spends}
use Rattle.vx_diskset.proofs.CallsBurn.{burns_by, burns_still, cut_short, is_logged, least_since, never_off, up_not_off, write_off}
use Rattle.vx_disk.proofs.Spending.{spends_none}
use Rattle.vx_rvg.specs.Views.{unit_of}
use Rattle.vx_diskset.specs.Layouts.{units_by}
use Rattle.vx_diskset.specs.Rooms.{IsMore, logged_count}
use Rattle.vx_diskset.proofs.Mores.{more_after, more_down, more_none, more_written}
use Rattle.vx_diskset.proofs.LeavesNumbers.{never_as, write_takes}
use Rattle.vx_diskset.proofs.RvgMoves.{log_moves, no_moves, then_moves}
use Rattle.vx_diskset.proofs.writing.write_group.Goals as goal

pub returns-then-head-ge-MOST_NUMBER-clause-wrote : goal.returns-then-head-ge-MOST_NUMBER-clause-wrote
returns-then-head-ge-MOST_NUMBER-clause-wrote g c = λ beside n stands can has. wrote_none n (record { volume = c.args.volume; start = c.args.start; bytes = c.args.bytes.now }) c.args.rvg.now.core (g.S.Shelf.meaning c.args.rvg.now.shelf) stands (omega (arith, c.if-head-ge-MOST_NUMBER.true, c.head.ensures))

pub returns-in_err-make_room-clause-wrote : goal.returns-in_err-make_room-clause-wrote
returns-in_err-make_room-clause-wrote g c = λ beside n stands can has.
    let p = err_from_is_err_and c.from_residual.result c.from_residual.ensures.1 in
    rw (p.1, p.2)
    (wrote_at beside n (record { volume = c.args.volume; start = c.args.start; bytes = c.args.bytes.now }) c.make_room.new.rvg.core (g.S.Shelf.meaning c.args.rvg.now.shelf) (g.S.Shelf.meaning c.make_room.new.rvg.shelf) (Err c.in_err-make_room.field-0.0) (omega (arith, c.if-head-ge-MOST_NUMBER.false, c.head.ensures, stands.head))
    (unroomed beside n (record { volume = c.args.volume; start = c.args.start; bytes = c.args.bytes.now }) c.make_room.new.rvg.core (g.S.Shelf.meaning c.args.rvg.now.shelf) (g.S.Shelf.meaning c.make_room.new.rvg.shelf) c.in_err-make_room.field-0.0
    (λ origin calls told rack exact. (c.in_err-make_room.ensures.idle (omega (
      arith,
      hand_here n c.args.rvg.now.core (g.S.Shelf.meaning c.args.rvg.now.shelf) c.args.volume c.args.start c.args.bytes.now stands can.running origin c.args.rvg.now.sound
          (c.make_room.ensures.later.told told) (omega (arith, c.requires.some, c.requires.whole)) exact.keeps exact.room,
    ))).0)
    (c.in_err-make_room.ensures.made beside n stands can.running has (omega (arith, c.requires.few)))))

pub returns-then-is_down-clause-wrote : goal.returns-then-is_down-clause-wrote
returns-then-is_down-clause-wrote g c = λ beside n stands can has.
    let lawful = g.met.S.Shelf.lawful in
    let roomy = c.in_ok-make_room.ensures.made beside n stands can.running has (omega (arith, c.requires.few)) in
    let cut = write_cut n c.args.volume c.args.start c.args.bytes.now c.args.rvg.now.core c.make_room.new.rvg.core c.write-answer.new.self.core (g.S.Shelf.meaning c.args.rvg.now.shelf) (g.S.Shelf.meaning c.make_room.new.rvg.shelf) (g.S.Shelf.meaning c.write-answer.new.self.shelf)
    stands can roomy c.make_room.ensures.later.told (lawful c.make_room.new.rvg.shelf) (lawful c.write-answer.new.self.shelf) c.make_room.new.rvg.sound c.write-answer.new.self.sound c.write-answer.ensures.moves
    (sym c.is_down.ensures ∙ c.if-is_down.true) in (
      cut.0,
      cut.1,
      λ origin calls told rack exact.
          cut_less n c.args.rvg.now c.make_room.new.rvg c.args.volume c.args.start c.args.bytes.now stands can.running origin
          (c.make_room.ensures.later.told (sym c.write-answer.ensures.moves.tells ∙ told)) (omega (arith, c.requires.some, c.requires.whole)) (g.S.Shelf.meaning c.write-answer.new.self.shelf) calls
          (rack_before (g.S.Shelf.meaning c.make_room.new.rvg.shelf).disks (g.S.Shelf.meaning c.write-answer.new.self.shelf).disks _ c.write-answer.ensures.spends.told (rack exact.raw)) exact
          (λ hand. (c.in_ok-make_room.ensures.idle hand).1) c.write-answer.ensures.short (sym c.is_down.ensures ∙ c.if-is_down.true),
      omega (arith, c.if-head-ge-MOST_NUMBER.false, c.head.ensures, stands.head),
    )

pub returns-clause-wrote : goal.returns-clause-wrote
returns-clause-wrote g c = λ beside n stands can has.
    let lawful = g.met.S.Shelf.lawful in
    let roomy = c.in_ok-make_room.ensures.made beside n stands can.running has (omega (arith, c.requires.few)) in
    let some : 0 < blocks_in c.args.bytes.now = omega (arith, c.requires.some, c.requires.whole) in
    wrote_at beside n (record { volume = c.args.volume; start = c.args.start; bytes = c.args.bytes.now }) c.write-answer.new.self.core (g.S.Shelf.meaning c.args.rvg.now.shelf) (g.S.Shelf.meaning c.write-answer.new.self.shelf) c.write-answer.result (omega (arith, c.if-head-ge-MOST_NUMBER.false, c.head.ensures, stands.head))
    (wrote_later beside n (record { volume = c.args.volume; start = c.args.start; bytes = c.args.bytes.now }) c.write-answer.new.self.core (g.S.Shelf.meaning c.args.rvg.now.shelf) (g.S.Shelf.meaning c.make_room.new.rvg.shelf) (g.S.Shelf.meaning c.write-answer.new.self.shelf) c.write-answer.result c.make_room.ensures.later.counts
    (written_as n c.args.volume c.args.start c.args.bytes.now c.args.rvg.now.core c.make_room.new.rvg.core c.write-answer.new.self.core (g.S.Shelf.meaning c.args.rvg.now.shelf) (g.S.Shelf.meaning c.make_room.new.rvg.shelf) (g.S.Shelf.meaning c.write-answer.new.self.shelf)
    stands can roomy c.make_room.ensures.later.told (lawful c.make_room.new.rvg.shelf) (lawful c.write-answer.new.self.shelf) c.make_room.new.rvg.sound c.write-answer.new.self.sound c.write-answer.ensures.moves
    (omega (arith, c.if-head-ge-MOST_NUMBER.false, c.head.ensures, stands.head)) (sym c.is_down.ensures ∙ c.if-is_down.false)
    (λ origin told one room. first_after n c.args.rvg.now c.make_room.new.rvg c.args.volume c.args.start c.args.bytes.now stands can.running origin (c.make_room.ensures.later.told told) some (inl one) room (λ hand. (c.in_ok-make_room.ensures.idle hand).1))
    c.write-answer.result c.write-answer.ensures.answers (λ some. ap g.S.Shelf.meaning (c.write-answer.ensures.unchanged some)) c.write-answer.ensures.stands
    (λ origin calls told rack exact. exact_is n c.args.rvg.now c.make_room.new.rvg c.args.volume c.args.start c.args.bytes.now stands can.running origin
    (c.make_room.ensures.later.told (sym c.write-answer.ensures.moves.tells ∙ told)) some (g.S.Shelf.meaning c.write-answer.new.self.shelf) calls (rack exact.raw) exact
    (λ hand. (c.in_ok-make_room.ensures.idle hand).1) c.write-answer.result c.write-answer.ensures.calls)))

pub returns-then-head-ge-MOST_NUMBER-clause-called : goal.returns-then-head-ge-MOST_NUMBER-clause-called
returns-then-head-ge-MOST_NUMBER-clause-called g c = λ beside n up raw. burns_still IsLogged (Limit Number MOST_NUMBER) (g.S.Shelf.meaning c.args.rvg.now.shelf) refl

pub returns-in_err-make_room-clause-called : goal.returns-in_err-make_room-clause-called
returns-in_err-make_room-clause-called g c = λ beside n up raw.
    let p = err_from_is_err_and c.from_residual.result c.from_residual.ensures.1 in
    rw (p.1, p.2) (burns_by IsLogged (Err c.in_err-make_room.field-0.0) (g.S.Shelf.meaning c.args.rvg.now.shelf) (g.S.Shelf.meaning c.make_room.new.rvg.shelf) up.up (c.in_err-make_room.ensures.off up.up) tt c.make_room.ensures.spends)

pub returns-then-is_down-clause-called : goal.returns-then-is_down-clause-called
returns-then-is_down-clause-called g c = λ beside n up raw.
    burns_by IsLogged (Err Down) (g.S.Shelf.meaning c.args.rvg.now.shelf) (g.S.Shelf.meaning c.write-answer.new.self.shelf) up.up (sym c.is_down.ensures ∙ c.if-is_down.true) tt
    (then_spends (g.S.Shelf.meaning c.args.rvg.now.shelf) (g.S.Shelf.meaning c.make_room.new.rvg.shelf) (g.S.Shelf.meaning c.write-answer.new.self.shelf) c.make_room.ensures.spends c.write-answer.ensures.spends)

pub returns-clause-called : goal.returns-clause-called
returns-clause-called g c = λ beside n up raw.
    burns_by IsLogged c.write-answer.result (g.S.Shelf.meaning c.args.rvg.now.shelf) (g.S.Shelf.meaning c.write-answer.new.self.shelf) up.up
    (write_off c.make_room.new.rvg.core c.args.volume _ c.args.start (blocks_in c.args.bytes.now) c.args.bytes.now (g.S.Shelf.meaning c.make_room.new.rvg.shelf) (g.S.Shelf.meaning c.write-answer.new.self.shelf) c.write-answer.new.self.core c.write-answer.result
    (sym c.is_down.ensures ∙ c.if-is_down.false) c.write-answer.ensures.answers)
    (is_logged c.write-answer.result (g.S.Shelf.meaning c.args.rvg.now.shelf) (g.S.Shelf.meaning c.make_room.new.rvg.shelf) (g.S.Shelf.meaning c.write-answer.new.self.shelf) c.make_room.new.rvg.core.log.unit
    (c.make_room.new.rvg.sound.log_unit ∙ ap (λ (u : Units). u.srl) (c.make_room.ensures.units ∙ up.units) ∙ ap (λ (o : Option GroupNode). (units_by o n.disks).srl) raw) c.make_room.ensures.spends
    (least_since 4 c.write-answer.result (g.S.Shelf.meaning c.args.rvg.now.shelf) (g.S.Shelf.meaning c.make_room.new.rvg.shelf) (g.S.Shelf.meaning c.write-answer.new.self.shelf) (c.in_ok-make_room.ensures.off up.up) c.make_room.ensures.spends c.write-answer.ensures.least) c.write-answer.ensures.works)
    (then_spends (g.S.Shelf.meaning c.args.rvg.now.shelf) (g.S.Shelf.meaning c.make_room.new.rvg.shelf) (g.S.Shelf.meaning c.write-answer.new.self.shelf) c.make_room.ensures.spends c.write-answer.ensures.spends)

pub returns-then-head-ge-MOST_NUMBER-clause-cuts : goal.returns-then-head-ge-MOST_NUMBER-clause-cuts
returns-then-head-ge-MOST_NUMBER-clause-cuts g c = λ up hand fits is. absurd (never_off {T = ℕ} (Limit Number MOST_NUMBER) refl is)

pub returns-in_err-make_room-clause-cuts : goal.returns-in_err-make_room-clause-cuts
returns-in_err-make_room-clause-cuts g c = λ up hand fits is. absurd (c.in_err-make_room.ensures.idle (omega (arith, hand))).0

pub returns-then-is_down-clause-cuts : goal.returns-then-is_down-clause-cuts
returns-then-is_down-clause-cuts g c = λ up hand fits is.
    cut_short c.args.rvg.now c.make_room.new.rvg c.args.bytes.now (g.S.Shelf.meaning c.write-answer.new.self.shelf) (c.in_ok-make_room.ensures.idle (omega (arith, hand))).1 c.write-answer.ensures.short fits up (sym c.is_down.ensures ∙ c.if-is_down.true)

pub returns-clause-cuts : goal.returns-clause-cuts
returns-clause-cuts g c = λ up hand fits is.
    absurd (up_not_off c.write-answer.result (g.S.Shelf.meaning c.write-answer.new.self.shelf).down is (sym c.is_down.ensures ∙ c.if-is_down.false)
    (write_off c.make_room.new.rvg.core c.args.volume _ c.args.start (blocks_in c.args.bytes.now) c.args.bytes.now (g.S.Shelf.meaning c.make_room.new.rvg.shelf) (g.S.Shelf.meaning c.write-answer.new.self.shelf) c.write-answer.new.self.core c.write-answer.result
    (sym c.is_down.ensures ∙ c.if-is_down.false) c.write-answer.ensures.answers))

pub returns-then-head-ge-MOST_NUMBER-clause-group : goal.returns-then-head-ge-MOST_NUMBER-clause-group
returns-then-head-ge-MOST_NUMBER-clause-group g c = more_none c.args.rvg.now.core

pub returns-in_err-make_room-clause-group : goal.returns-in_err-make_room-clause-group
returns-in_err-make_room-clause-group g c =
    let p = err_from_is_err_and c.from_residual.result c.from_residual.ensures.1 in
    subst (λ r. IsMore (logged_count r) c.args.rvg.now.core c.make_room.new.rvg.core) (sym p.1) c.make_room.ensures.group

pub returns-then-is_down-clause-group : goal.returns-then-is_down-clause-group
returns-then-is_down-clause-group g c =
    more_after 0 c.args.rvg.now.core c.make_room.new.rvg.core c.write-answer.new.self.core c.make_room.ensures.group
    (more_down c.make_room.new.rvg.core c.write-answer.new.self.core c.args.volume c.args.start c.args.bytes.now (g.S.Shelf.meaning c.make_room.new.rvg.shelf) (g.S.Shelf.meaning c.write-answer.new.self.shelf) c.make_room.new.rvg.sound c.write-answer.ensures.moves.falls c.ring-ring.ensures.low
    ((g.S.Shelf.meaning c.make_room.new.rvg.shelf).size (unit_of c.make_room.new.rvg.core.units.vols c.args.volume)) (blocks_in c.args.bytes.now) c.write-answer.result (sym c.is_down.ensures ∙ c.if-is_down.true) c.write-answer.ensures.answers)

pub returns-clause-group : goal.returns-clause-group
returns-clause-group g c =
    more_after (logged_count c.write-answer.result) c.args.rvg.now.core c.make_room.new.rvg.core c.write-answer.new.self.core c.make_room.ensures.group
    (more_written c.make_room.new.rvg.core c.write-answer.new.self.core c.args.volume c.args.start c.args.bytes.now (g.S.Shelf.meaning c.make_room.new.rvg.shelf) (g.S.Shelf.meaning c.write-answer.new.self.shelf) c.make_room.new.rvg.sound c.write-answer.ensures.moves.falls c.ring-ring.ensures.low
    ((g.S.Shelf.meaning c.make_room.new.rvg.shelf).size (unit_of c.make_room.new.rvg.core.units.vols c.args.volume)) (blocks_in c.args.bytes.now) c.write-answer.result c.write-answer.ensures.answers)

pub returns-then-head-ge-MOST_NUMBER-clause-spends : goal.returns-then-head-ge-MOST_NUMBER-clause-spends
returns-then-head-ge-MOST_NUMBER-clause-spends g c = spends_none (g.S.Shelf.meaning c.args.rvg.now.shelf)

pub returns-in_err-make_room-clause-spends : goal.returns-in_err-make_room-clause-spends
returns-in_err-make_room-clause-spends g c = c.make_room.ensures.spends

pub returns-then-is_down-clause-spends : goal.returns-then-is_down-clause-spends
returns-then-is_down-clause-spends g c = then_spends (g.S.Shelf.meaning c.args.rvg.now.shelf) (g.S.Shelf.meaning c.make_room.new.rvg.shelf) (g.S.Shelf.meaning c.write-answer.new.self.shelf) c.make_room.ensures.spends c.write-answer.ensures.spends

pub returns-clause-spends : goal.returns-clause-spends
returns-clause-spends g c = then_spends (g.S.Shelf.meaning c.args.rvg.now.shelf) (g.S.Shelf.meaning c.make_room.new.rvg.shelf) (g.S.Shelf.meaning c.write-answer.new.self.shelf) c.make_room.ensures.spends c.write-answer.ensures.spends

pub returns-then-head-ge-MOST_NUMBER-clause-off : goal.returns-then-head-ge-MOST_NUMBER-clause-off
returns-then-head-ge-MOST_NUMBER-clause-off g c = λ up. up

pub returns-in_err-make_room-clause-off : goal.returns-in_err-make_room-clause-off
returns-in_err-make_room-clause-off g c = λ up.
    let p = err_from_is_err_and c.from_residual.result c.from_residual.ensures.1 in
    rw (p.1, p.2) (c.in_err-make_room.ensures.off up)

pub returns-then-is_down-clause-off : goal.returns-then-is_down-clause-off
returns-then-is_down-clause-off g c = λ up. sym c.is_down.ensures ∙ c.if-is_down.true

pub returns-clause-off : goal.returns-clause-off
returns-clause-off g c = λ up.
    write_off c.make_room.new.rvg.core c.args.volume _ c.args.start (blocks_in c.args.bytes.now) c.args.bytes.now (g.S.Shelf.meaning c.make_room.new.rvg.shelf) (g.S.Shelf.meaning c.write-answer.new.self.shelf) c.write-answer.new.self.core c.write-answer.result
    (sym c.is_down.ensures ∙ c.if-is_down.false) c.write-answer.ensures.answers

pub returns-then-head-ge-MOST_NUMBER-clause-takes : goal.returns-then-head-ge-MOST_NUMBER-clause-takes
returns-then-head-ge-MOST_NUMBER-clause-takes g c = record { never = λ has. absurd (omega (arith, has.numbers, c.if-head-ge-MOST_NUMBER.true, c.head.ensures)); stamp = tt }

pub returns-in_err-make_room-clause-takes : goal.returns-in_err-make_room-clause-takes
returns-in_err-make_room-clause-takes g c =
    let p = err_from_is_err_and c.from_residual.result c.from_residual.ensures.1 in
    rw (p.1, p.2) (record { never = λ has. never_as (Unit {0}) ℕ c.in_err-make_room.field-0.0 (c.in_err-make_room.ensures.takes.never has); stamp = tt })

pub returns-then-is_down-clause-takes : goal.returns-then-is_down-clause-takes
returns-then-is_down-clause-takes g c = record { never = λ has. tt; stamp = tt }

pub returns-clause-takes : goal.returns-clause-takes
returns-clause-takes g c =
    write_takes c.args.rvg.now.core c.make_room.new.rvg.core c.args.volume ((g.S.Shelf.meaning c.make_room.new.rvg.shelf).size (unit_of c.make_room.new.rvg.core.units.vols c.args.volume)) c.args.start (blocks_in c.args.bytes.now) c.args.bytes.now
    (g.S.Shelf.meaning c.make_room.new.rvg.shelf) (g.S.Shelf.meaning c.write-answer.new.self.shelf) c.write-answer.new.self.core c.write-answer.result (omega (arith, c.make_room.ensures.group.last)) c.in_ok-make_room.ensures.takes.stamp c.write-answer.ensures.answers

pub returns-in_err-make_room-clause-blames : goal.returns-in_err-make_room-clause-blames
returns-in_err-make_room-clause-blames g c =
    let p = err_from_is_err_and c.from_residual.result c.from_residual.ensures.1 in
    rw (p.1, p.2) c.in_err-make_room.ensures.blames

pub returns-clause-blames : goal.returns-clause-blames
returns-clause-blames g c =
    all_blamed_since (g.S.Shelf.meaning c.args.rvg.now.shelf) (g.S.Shelf.meaning c.make_room.new.rvg.shelf) c.write-answer.result c.args.rvg.now.core.units c.make_room.new.rvg.core.units c.make_room.ensures.spends c.make_room.ensures.units
    (unit_blamed c.write-answer.result (g.S.Shelf.meaning c.make_room.new.rvg.shelf) c.make_room.new.rvg.core c.make_room.new.rvg.sound.log_unit c.write-answer.ensures.blames)

pub returns-then-head-ge-MOST_NUMBER-clause-moves : goal.returns-then-head-ge-MOST_NUMBER-clause-moves
returns-then-head-ge-MOST_NUMBER-clause-moves g c = no_moves c.args.rvg.now.core (g.S.Shelf.meaning c.args.rvg.now.shelf)

pub returns-in_err-make_room-clause-moves : goal.returns-in_err-make_room-clause-moves
returns-in_err-make_room-clause-moves g c = c.make_room.ensures.moves

pub returns-then-is_down-clause-moves : goal.returns-then-is_down-clause-moves
returns-then-is_down-clause-moves g c = then_moves c.args.rvg.now.core c.make_room.new.rvg.core (g.S.Shelf.meaning c.args.rvg.now.shelf) (g.S.Shelf.meaning c.make_room.new.rvg.shelf) (g.S.Shelf.meaning c.write-answer.new.self.shelf) c.make_room.ensures.units c.make_room.ensures.moves (log_moves c.make_room.new.rvg.core _ _ _ (g.S.Shelf.meaning c.make_room.new.rvg.shelf) (g.S.Shelf.meaning c.write-answer.new.self.shelf) c.write-answer.ensures.moves)

pub returns-clause-moves : goal.returns-clause-moves
returns-clause-moves g c = then_moves c.args.rvg.now.core c.make_room.new.rvg.core (g.S.Shelf.meaning c.args.rvg.now.shelf) (g.S.Shelf.meaning c.make_room.new.rvg.shelf) (g.S.Shelf.meaning c.write-answer.new.self.shelf) c.make_room.ensures.units c.make_room.ensures.moves (log_moves c.make_room.new.rvg.core _ _ _ (g.S.Shelf.meaning c.make_room.new.rvg.shelf) (g.S.Shelf.meaning c.write-answer.new.self.shelf) c.write-answer.ensures.moves)
