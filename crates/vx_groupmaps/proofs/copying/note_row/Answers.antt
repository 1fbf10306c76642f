-- Notes in the map of a plex of the regions of another one's.
use Rattle.std.proofs.Common.{◌∙◌, Err, sym, arith}
use Rattle.vx_groupmaps.proofs.CopyRows.{device_then, noting_end, noting_pass, noting_start, noting_then, noting_writes, unit_then}
use Rattle.vx_groupmaps.proofs.ReadyLemmas.{same_then}
use Rattle.vx_groupmaps.proofs.copying.note_row.Goals.{then-missed+in-Ok, else-missed}
use Rattle.vx_groupmaps.proofs.copying.note_row.Goals as goal

pub loop-region-init : goal.loop-region-init
loop-region-init g c = noting_start c.args.to c.args.from c.args.count c.args.map.now (g.S.Shelf.meaning c.args.shelf.now)

pub returns-in-Err-clause-writes : goal.returns-in-Err-clause-writes
returns-in-Err-clause-writes g c =
    noting_writes c.args.to c.args.from c.loop-region.region c.args.count c.args.map.now c.loop-region.map c.note.new.self (g.S.Shelf.meaning c.args.shelf.now) (g.S.Shelf.meaning c.loop-region.shelf) (g.S.Shelf.meaning c.note.new.shelf) c.requires.has c.loop-region-test.true c.loop-region.invariant c.note.ensures.writes

pub returns-in-Err-clause-same : goal.returns-in-Err-clause-same
returns-in-Err-clause-same g c = same_then c.args.map.now c.loop-region.map c.note.new.self c.loop-region.invariant.row.same (record { place = c.note.ensures.place; shape = c.note.ensures.shape })

pub returns-in-Err-clause-unit : goal.returns-in-Err-clause-unit
returns-in-Err-clause-unit g c =
    unit_then {T = Unit {0}} c.args.map.now.map.unit c.loop-region.map.map.unit (g.S.Shelf.meaning c.args.shelf.now) (g.S.Shelf.meaning c.loop-region.shelf) (g.S.Shelf.meaning c.note.new.shelf) (Err c.in-Err.no) c.loop-region.invariant.row.same.place.unit c.loop-region.invariant.writes.faults c.loop-region.invariant.up c.in-Err.ensures.unit

pub returns-in-Err-clause-cause : goal.returns-in-Err-clause-cause
returns-in-Err-clause-cause g c =
    device_then (g.S.Shelf.meaning c.args.shelf.now) (g.S.Shelf.meaning c.loop-region.shelf) (g.S.Shelf.meaning c.note.new.shelf) c.in-Err.no c.loop-region.invariant.writes.disk_faults c.in-Err.ensures.cause

pub loop-region-preserved : goal.loop-region-preserved
loop-region-preserved g c =
    elim c.if-missed.branch [
      | then-missed+in-Ok w ↦
          rw (w.map-is, w.shelf-is) (noting_then c.args.to c.args.from c.loop-region.region c.args.count c.args.map.now c.loop-region.map w.note.new.self (g.S.Shelf.meaning c.args.shelf.now) (g.S.Shelf.meaning c.loop-region.shelf) (g.S.Shelf.meaning w.note.new.shelf) c.requires.has c.loop-region-test.true c.loop-region.invariant w.note.ensures.writes
          (sym c.missed.ensures ∙ w.if-missed.true) w.note.ensures.place w.note.ensures.shape w.note.ensures.others w.in-Ok.ensures.changed w.in-Ok.ensures.stands w.in-Ok.ensures.unit)
      | else-missed w ↦
          rw (w.map-is, w.shelf-is) (noting_pass c.args.to c.args.from c.loop-region.region c.args.count c.args.map.now c.loop-region.map (g.S.Shelf.meaning c.args.shelf.now) (g.S.Shelf.meaning c.loop-region.shelf) c.requires.has c.loop-region-test.true (sym c.missed.ensures ∙ w.if-missed.false) c.loop-region.invariant)
    ]

pub returns-clause-ok : goal.returns-clause-ok
returns-clause-ok g c =
    noting_end c.args.to c.args.from c.loop-region.region c.args.count c.args.map.now c.loop-region.map (g.S.Shelf.meaning c.args.shelf.now) (g.S.Shelf.meaning c.loop-region.shelf) (omega (arith, c.loop-region-test.false)) c.loop-region.invariant
