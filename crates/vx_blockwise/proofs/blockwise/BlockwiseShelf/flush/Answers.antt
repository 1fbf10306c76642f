-- A flush, before which the shelf as it was has joined its past.
use Rattle.vx_disk.specs.Shelf.{DisksFlushed, Nothing}
use Rattle.vx_blockwise.proofs.MixLemmas.{mix_flushed, on_ok, mix_cause, mix_disks, mix_goes}
use Rattle.vx_blockwise.specs.Pasts.{shelves_of}
use Rattle.vx_blockwise.proofs.blockwise.BlockwiseShelf.flush.Goals as goal

pub flush-requires : goal.flush-requires
flush-requires g c = c.requires

pub returns-clause-goes : goal.returns-clause-goes
returns-clause-goes g c =
    mix_goes g.S.Shelf.meaning (shelves_of c.args.self.now.past.value) c.args.self.now.shelf (g.S.Shelf.meaning c.flush.new.self) (shelves_of c.note.new.past.value) c.note.ensures Nothing (g.met.S.Shelf.lawful c.args.self.now.shelf) c.flush.ensures.goes

pub returns-clause-cause : goal.returns-clause-cause
returns-clause-cause g c =
    mix_cause g.S.Shelf.meaning (shelves_of c.args.self.now.past.value) c.args.self.now.shelf (g.S.Shelf.meaning c.flush.new.self) (shelves_of c.note.new.past.value) c.note.ensures c.args.unit c.flush.result c.flush.ensures.cause

pub returns-clause-disks : goal.returns-clause-disks
returns-clause-disks g c =
    mix_disks g.S.Shelf.meaning (shelves_of c.args.self.now.past.value) (g.S.Shelf.meaning c.args.self.now.shelf) (DisksFlushed c.args.unit) (g.S.Shelf.meaning c.args.self.now.shelf).disks (g.S.Shelf.meaning c.flush.new.self).disks c.flush.result
    c.flush.ensures.disks

pub returns-clause-ok : goal.returns-clause-ok
returns-clause-ok g c = on_ok c.flush.result (mix_flushed g.S.Shelf.meaning (shelves_of c.args.self.now.past.value) c.args.self.now.shelf (g.S.Shelf.meaning c.flush.new.self) (shelves_of c.note.new.past.value) c.note.ensures c.args.unit) c.flush.ensures.ok
