-- A read, before which the shelf as it was has joined its past.
use Rattle.std.specs.Prelude.{length}
use Rattle.vx_disk.specs.Shelf.{Nothing}
use Rattle.vx_blockwise.proofs.MixLemmas.{on_ok, mix_cause, mix_fits, mix_goes, mix_read}
use Rattle.vx_blockwise.specs.Pasts.{shelves_of}
use Rattle.vx_blockwise.proofs.blockwise.BlockwiseShelf.read.Goals as goal

pub read-requires : goal.read-requires
read-requires g c = mix_fits g.S.Shelf.meaning (shelves_of c.args.self.now.past.value) c.args.self.now.shelf (g.S.Shelf.meaning c.args.self.now.shelf) c.args.unit c.args.block (length c.args.into.now) c.requires

pub returns-clause-goes : goal.returns-clause-goes
returns-clause-goes g c =
    mix_goes g.S.Shelf.meaning (shelves_of c.args.self.now.past.value) c.args.self.now.shelf (g.S.Shelf.meaning c.read.new.self) (shelves_of c.note.new.past.value) c.note.ensures Nothing (g.met.S.Shelf.lawful c.args.self.now.shelf) c.read.ensures.goes

pub returns-clause-cause : goal.returns-clause-cause
returns-clause-cause g c =
    mix_cause g.S.Shelf.meaning (shelves_of c.args.self.now.past.value) c.args.self.now.shelf (g.S.Shelf.meaning c.read.new.self) (shelves_of c.note.new.past.value) c.note.ensures c.args.unit c.read.result c.read.ensures.cause

pub returns-clause-ok : goal.returns-clause-ok
returns-clause-ok g c = on_ok c.read.result (mix_read g.S.Shelf.meaning (shelves_of c.args.self.now.past.value) c.args.self.now.shelf (g.S.Shelf.meaning c.read.new.self) (shelves_of c.note.new.past.value) c.note.ensures c.args.unit c.args.block c.read.new.into) c.read.ensures.ok
