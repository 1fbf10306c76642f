-- The map of a plex that is emptied, and has the regions of another one's then.
use Rattle.std.proofs.Common.{Some}
use Rattle.vx_groupmaps.proofs.CopyRows.{both_blocks, causes_then, copied_ok, emptied_blocks, emptied_has, same_blocks, unit_then}
use Rattle.vx_groupmaps.proofs.ReadyLemmas.{same_then}
use Rattle.vx_groupmaps.proofs.copying.copy_row.Goals as goal

pub note_row-requires : goal.note_row-requires
note_row-requires g c = record { has = emptied_has c.args.to c.args.from c.args.count c.args.map.now c.begin.new.self (g.S.Shelf.meaning c.args.shelf.now) (g.S.Shelf.meaning c.begin.new.shelf) c.requires.has c.begin.ensures.place c.begin.ensures.shape c.begin.ensures.others c.begin.ensures.writes }

pub returns-in-Err-clause-writes : goal.returns-in-Err-clause-writes
returns-in-Err-clause-writes g c = emptied_blocks c.args.to c.args.from c.args.count c.args.map.now c.begin.new.self (g.S.Shelf.meaning c.args.shelf.now) (g.S.Shelf.meaning c.begin.new.shelf) c.requires.has c.begin.ensures.place c.begin.ensures.shape c.begin.ensures.others c.begin.ensures.writes

pub returns-in-Err-clause-same : goal.returns-in-Err-clause-same
returns-in-Err-clause-same g c = record { place = c.begin.ensures.place; shape = c.begin.ensures.shape }

pub returns-clause-writes : goal.returns-clause-writes
returns-clause-writes g c =
    both_blocks (Some c.args.map.now) (g.S.Shelf.meaning c.args.shelf.now) (g.S.Shelf.meaning c.begin.new.shelf) (g.S.Shelf.meaning c.note_row.new.shelf)
    (emptied_blocks c.args.to c.args.from c.args.count c.args.map.now c.begin.new.self (g.S.Shelf.meaning c.args.shelf.now) (g.S.Shelf.meaning c.begin.new.shelf) c.requires.has c.begin.ensures.place c.begin.ensures.shape c.begin.ensures.others c.begin.ensures.writes)
    (same_blocks c.args.map.now c.begin.new.self (g.S.Shelf.meaning c.begin.new.shelf) (g.S.Shelf.meaning c.note_row.new.shelf) (record { place = c.begin.ensures.place; shape = c.begin.ensures.shape }) c.note_row.ensures.writes)

pub returns-clause-same : goal.returns-clause-same
returns-clause-same g c = same_then c.args.map.now c.begin.new.self c.note_row.new.map (record { place = c.begin.ensures.place; shape = c.begin.ensures.shape }) c.note_row.ensures.same

pub returns-clause-ok : goal.returns-clause-ok
returns-clause-ok g c =
    copied_ok c.args.to c.args.from c.args.count c.args.map.now c.begin.new.self c.note_row.new.map (g.S.Shelf.meaning c.args.shelf.now) (g.S.Shelf.meaning c.begin.new.shelf) (g.S.Shelf.meaning c.note_row.new.shelf) c.requires.has c.begin.ensures.place c.begin.ensures.shape c.begin.ensures.others c.begin.ensures.writes
    c.in-Ok.ensures.changed c.in-Ok.ensures.stands c.note_row.result c.note_row.ensures.ok

pub returns-clause-unit : goal.returns-clause-unit
returns-clause-unit g c =
    unit_then c.args.map.now.map.unit c.begin.new.self.map.unit (g.S.Shelf.meaning c.args.shelf.now) (g.S.Shelf.meaning c.begin.new.shelf) (g.S.Shelf.meaning c.note_row.new.shelf) c.note_row.result c.begin.ensures.place.unit c.begin.ensures.writes.faults c.in-Ok.ensures.unit c.note_row.ensures.unit

pub returns-clause-cause : goal.returns-clause-cause
returns-clause-cause g c = causes_then (g.S.Shelf.meaning c.args.shelf.now) (g.S.Shelf.meaning c.begin.new.shelf) (g.S.Shelf.meaning c.note_row.new.shelf) c.note_row.result c.begin.ensures.writes.disk_faults c.note_row.ensures.cause
