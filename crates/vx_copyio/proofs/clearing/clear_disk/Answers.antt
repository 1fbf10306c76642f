-- Both headers of a disk are written over with zeros.
use Rattle.std.proofs.Common.{ℕ, refl}
use Rattle.std.proofs.lemmas.List.{length-replicate}
use Rattle.std.proofs.lemmas.Result.{on_ok_weaker}
use Rattle.vx_wire.specs.Fields.{zero_bytes}
use Rattle.vx_copyio.proofs.Cleared.{all_zero, both_zero, first_zero, zero_left}
use Rattle.vx_copyio.proofs.clearing.clear_disk.Goals as goal

pub returns-in_err-write-clause-goes : goal.returns-in_err-write-clause-goes
returns-in_err-write-clause-goes g c =
    first_zero c.args.disk (zero_bytes 512) refl (length-replicate {A = ℕ} 512 0) (g.S.Shelf.meaning c.args.shelf.now) (g.S.Shelf.meaning c.write.new.self) (g.S.Shelf.meaning c.write.new.self) c.requires.there c.write.ensures.goes

pub returns-in_err-write-2-clause-goes : goal.returns-in_err-write-2-clause-goes
returns-in_err-write-2-clause-goes g c =
    both_zero c.args.disk (zero_bytes 512) refl (length-replicate {A = ℕ} 512 0) (g.S.Shelf.meaning c.args.shelf.now) (g.S.Shelf.meaning c.write.new.self) (g.S.Shelf.meaning c.write-2.new.self) c.requires.there
    c.write.ensures.goes c.write-2.ensures.goes

pub returns-clause-goes : goal.returns-clause-goes
returns-clause-goes g c =
    all_zero c.args.disk (zero_bytes 512) refl (length-replicate {A = ℕ} 512 0) (g.S.Shelf.meaning c.args.shelf.now) (g.S.Shelf.meaning c.write.new.self) (g.S.Shelf.meaning c.write-2.new.self) c.requires.there
    (g.S.Shelf.meaning c.flush.new.self) c.write.ensures.goes c.write-2.ensures.goes c.flush.ensures.goes

pub returns-clause-none : goal.returns-clause-none
returns-clause-none g c =
    on_ok_weaker c.flush.result
    (zero_left c.args.disk (zero_bytes 512) refl (length-replicate {A = ℕ} 512 0) (g.S.Shelf.meaning c.args.shelf.now) (g.S.Shelf.meaning c.write.new.self) (g.S.Shelf.meaning c.write-2.new.self) c.requires.there
    (g.S.Shelf.meaning c.flush.new.self) c.in_ok-write.ensures.ok c.in_ok-write-2.ensures.ok)
    c.flush.ensures.ok
