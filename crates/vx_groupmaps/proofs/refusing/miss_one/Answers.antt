-- A note in the map of one plex.
use Rattle.std.proofs.Common.{false, refl}
use Rattle.vx_logs.proofs.NoteLemmas.{note_writes, ok_noted}
use Rattle.vx_groupmaps.proofs.refusing.miss_one.Goals as goal

pub returns-clause-writes : goal.returns-clause-writes
returns-clause-writes g c =
    note_writes c.args.map.now c.requires.has.kept c.args.plex c.args.first c.args.last c.requires.exists c.requires.has.inside (g.S.Shelf.meaning c.args.shelf.now) (g.S.Shelf.meaning c.note.new.shelf) false c.note.ensures.writes

pub returns-clause-ok : goal.returns-clause-ok
returns-clause-ok g c =
    ok_noted c.args.map.now c.note.new.self c.args.plex c.args.first c.args.last (g.S.Shelf.meaning c.args.shelf.now) (g.S.Shelf.meaning c.note.new.shelf) false refl c.note.ensures.place c.note.ensures.shape c.note.ensures.others
    c.note.result c.note.ensures.changed c.note.ensures.stands
