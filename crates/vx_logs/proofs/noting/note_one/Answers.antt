-- A note in the map of one plex.
use Rattle.vx_logs.proofs.NoteLemmas.{begin_writes, both_writes, note_writes, ok_both, ok_noted}
use Rattle.vx_logs.proofs.noting.note_one.Goals as goal

pub returns-then-not-anew-clause-writes : goal.returns-then-not-anew-clause-writes
returns-then-not-anew-clause-writes g c =
    note_writes c.args.map.now c.requires.has.kept c.args.plex c.args.first c.args.last c.requires.exists c.requires.has.inside (g.S.Shelf.meaning c.args.shelf.now) (g.S.Shelf.meaning c.note.new.shelf) c.args.anew c.note.ensures.writes

pub returns-then-not-anew-clause-ok : goal.returns-then-not-anew-clause-ok
returns-then-not-anew-clause-ok g c =
    ok_noted c.args.map.now c.note.new.self c.args.plex c.args.first c.args.last (g.S.Shelf.meaning c.args.shelf.now) (g.S.Shelf.meaning c.note.new.shelf) c.args.anew c.if-not-anew.true c.note.ensures.place c.note.ensures.shape c.note.ensures.others
    c.note.result c.note.ensures.changed c.note.ensures.stands

pub returns-in-Ok-clause-writes : goal.returns-in-Ok-clause-writes
returns-in-Ok-clause-writes g c =
    both_writes c.args.map.now c.begin.new.self c.requires.has.kept c.args.plex c.args.first c.args.last c.requires.exists c.requires.has.inside (g.S.Shelf.meaning c.args.shelf.now) (g.S.Shelf.meaning c.begin.new.shelf) (g.S.Shelf.meaning c.note-in-Ok.new.shelf)
    c.begin.ensures.place c.begin.ensures.shape c.begin.ensures.others c.args.anew c.if-not-anew.false c.in-Ok.ensures.changed c.in-Ok.ensures.stands c.begin.ensures.writes c.note-in-Ok.ensures.writes

pub returns-in-Ok-clause-ok : goal.returns-in-Ok-clause-ok
returns-in-Ok-clause-ok g c =
    ok_both c.args.map.now c.begin.new.self c.note-in-Ok.new.self c.requires.has.kept c.args.plex c.args.first c.args.last c.requires.exists c.requires.has.inside (g.S.Shelf.meaning c.args.shelf.now) (g.S.Shelf.meaning c.begin.new.shelf)
    (g.S.Shelf.meaning c.note-in-Ok.new.shelf) c.begin.ensures.place c.begin.ensures.shape c.begin.ensures.others c.args.anew c.if-not-anew.false c.in-Ok.ensures.changed c.in-Ok.ensures.stands c.note-in-Ok.ensures.others c.note-in-Ok.ensures.place
    c.note-in-Ok.ensures.shape c.note-in-Ok.result c.note-in-Ok.ensures.changed c.note-in-Ok.ensures.stands

pub returns-in-Err-clause-writes : goal.returns-in-Err-clause-writes
returns-in-Err-clause-writes g c =
    begin_writes c.args.map.now c.requires.has.kept c.args.plex c.args.first c.args.last c.requires.exists c.requires.has.inside (g.S.Shelf.meaning c.args.shelf.now) (g.S.Shelf.meaning c.begin.new.shelf) c.args.anew c.if-not-anew.false c.begin.ensures.writes
