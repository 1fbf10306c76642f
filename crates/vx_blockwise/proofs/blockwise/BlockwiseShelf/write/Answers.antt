-- A write, before which the shelf as it was has joined its past.
use Rattle.std.specs.Prelude.{length}
use Rattle.vx_disk.specs.Shelf.{DisksWrote, Written}
use Rattle.vx_blockwise.proofs.MixLemmas.{mix_wrote, on_ok, mix_cause, mix_disks, mix_fits, mix_goes}
use Rattle.vx_blockwise.specs.Pasts.{shelves_of}
use Rattle.vx_blockwise.proofs.blockwise.BlockwiseShelf.write.Goals as goal

pub write-requires : goal.write-requires
write-requires g c = mix_fits g.S.Shelf.meaning (shelves_of c.args.self.now.past.value) c.args.self.now.shelf (g.S.Shelf.meaning c.args.self.now.shelf) c.args.unit c.args.block (length c.args.bytes.now) c.requires

pub returns-clause-goes : goal.returns-clause-goes
returns-clause-goes g c =
    mix_goes g.S.Shelf.meaning (shelves_of c.args.self.now.past.value) c.args.self.now.shelf (g.S.Shelf.meaning c.write.new.self) (shelves_of c.note.new.past.value) c.note.ensures (Written c.args.unit c.args.block c.args.bytes.now) (g.met.S.Shelf.lawful c.args.self.now.shelf) c.write.ensures.goes

pub returns-clause-cause : goal.returns-clause-cause
returns-clause-cause g c =
    mix_cause g.S.Shelf.meaning (shelves_of c.args.self.now.past.value) c.args.self.now.shelf (g.S.Shelf.meaning c.write.new.self) (shelves_of c.note.new.past.value) c.note.ensures c.args.unit c.write.result c.write.ensures.cause

pub returns-clause-disks : goal.returns-clause-disks
returns-clause-disks g c =
    mix_disks g.S.Shelf.meaning (shelves_of c.args.self.now.past.value) (g.S.Shelf.meaning c.args.self.now.shelf) (DisksWrote c.args.unit c.args.block c.args.bytes.now) (g.S.Shelf.meaning c.args.self.now.shelf).disks (g.S.Shelf.meaning c.write.new.self).disks c.write.result
    c.write.ensures.disks

pub returns-clause-ok : goal.returns-clause-ok
returns-clause-ok g c = on_ok c.write.result (mix_wrote g.S.Shelf.meaning (shelves_of c.args.self.now.past.value) c.args.self.now.shelf (g.S.Shelf.meaning c.write.new.self) (shelves_of c.note.new.past.value) c.note.ensures c.args.unit c.args.block c.args.bytes.now) c.write.ensures.ok
