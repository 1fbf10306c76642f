-- Marks of the regions of a run of blocks.
use Rattle.std.proofs.Common.{◌+◌, ◌-◌, ◌/◌, arith}
use Rattle.vx_grouplogs.proofs.CoverLemmas.{mark_covers, mark_goes, mark_held, mark_memory, mark_stands, others_kept}
use Rattle.vx_grouplogs.proofs.GroupLemmas.{logs_keep}
use Rattle.vx_grouplogs.proofs.running.mark_run.Goals as goal

pub mark-requires-clause-some : goal.mark-requires-clause-some
mark-requires-clause-some g c = omega (arith, c.requires.some)

pub mark-requires-clause-inside : goal.mark-requires-clause-inside
mark-requires-clause-inside g c = omega (arith, c.requires.some, c.requires.within)

pub returns-in-Ok-clause-goes : goal.returns-in-Ok-clause-goes
returns-in-Ok-clause-goes g c =
    mark_goes c.args.config.now c.requires.checked c.args.vol (omega (arith, c.requires.some, c.requires.within)) c.args.logs.now c.requires.fits (g.S.Shelf.meaning c.args.shelf.now) c.requires.disks (c.args.block / 64) ((c.args.block + c.args.count - 1) / 64)
    (g.S.Shelf.meaning c.mark.new.shelf) c.mark.ensures.writes

pub returns-in-Ok-clause-group : goal.returns-in-Ok-clause-group
returns-in-Ok-clause-group g c =
    logs_keep c.args.config.now c.requires.checked c.args.vol (g.S.Shelf.meaning c.args.shelf.now) (g.S.Shelf.meaning c.mark.new.shelf) (g.met.S.Shelf.lawful c.args.shelf.now) (g.met.S.Shelf.lawful c.mark.new.shelf)
    (mark_goes c.args.config.now c.requires.checked c.args.vol (omega (arith, c.requires.some, c.requires.within)) c.args.logs.now c.requires.fits (g.S.Shelf.meaning c.args.shelf.now) c.requires.disks (c.args.block / 64) ((c.args.block + c.args.count - 1) / 64)
    (g.S.Shelf.meaning c.mark.new.shelf) c.mark.ensures.writes)

pub returns-in-Ok-clause-others : goal.returns-in-Ok-clause-others
returns-in-Ok-clause-others g c =
    others_kept c.args.config.now c.requires.checked c.args.vol (g.S.Shelf.meaning c.args.shelf.now) (g.S.Shelf.meaning c.mark.new.shelf) c.requires.disks
    (mark_goes c.args.config.now c.requires.checked c.args.vol (omega (arith, c.requires.some, c.requires.within)) c.args.logs.now c.requires.fits (g.S.Shelf.meaning c.args.shelf.now) c.requires.disks (c.args.block / 64) ((c.args.block + c.args.count - 1) / 64)
    (g.S.Shelf.meaning c.mark.new.shelf) c.mark.ensures.writes)

pub returns-in-Ok-clause-covers : goal.returns-in-Ok-clause-covers
returns-in-Ok-clause-covers g c =
    mark_covers c.args.config.now c.requires.checked c.args.vol (omega (arith, c.requires.some, c.requires.within)) c.args.logs.now c.requires.fits (g.S.Shelf.meaning c.args.shelf.now) c.requires.disks (c.args.block / 64) ((c.args.block + c.args.count - 1) / 64)
    (g.S.Shelf.meaning c.mark.new.shelf) c.mark.ensures.writes

pub returns-in-Err-clause-goes : goal.returns-in-Err-clause-goes
returns-in-Err-clause-goes g c =
    mark_goes c.args.config.now c.requires.checked c.args.vol (omega (arith, c.requires.some, c.requires.within)) c.args.logs.now c.requires.fits (g.S.Shelf.meaning c.args.shelf.now) c.requires.disks (c.args.block / 64) ((c.args.block + c.args.count - 1) / 64)
    (g.S.Shelf.meaning c.mark.new.shelf) c.mark.ensures.writes

pub returns-in-Err-clause-group : goal.returns-in-Err-clause-group
returns-in-Err-clause-group g c =
    logs_keep c.args.config.now c.requires.checked c.args.vol (g.S.Shelf.meaning c.args.shelf.now) (g.S.Shelf.meaning c.mark.new.shelf) (g.met.S.Shelf.lawful c.args.shelf.now) (g.met.S.Shelf.lawful c.mark.new.shelf)
    (mark_goes c.args.config.now c.requires.checked c.args.vol (omega (arith, c.requires.some, c.requires.within)) c.args.logs.now c.requires.fits (g.S.Shelf.meaning c.args.shelf.now) c.requires.disks (c.args.block / 64) ((c.args.block + c.args.count - 1) / 64)
    (g.S.Shelf.meaning c.mark.new.shelf) c.mark.ensures.writes)

pub returns-in-Err-clause-others : goal.returns-in-Err-clause-others
returns-in-Err-clause-others g c =
    others_kept c.args.config.now c.requires.checked c.args.vol (g.S.Shelf.meaning c.args.shelf.now) (g.S.Shelf.meaning c.mark.new.shelf) c.requires.disks
    (mark_goes c.args.config.now c.requires.checked c.args.vol (omega (arith, c.requires.some, c.requires.within)) c.args.logs.now c.requires.fits (g.S.Shelf.meaning c.args.shelf.now) c.requires.disks (c.args.block / 64) ((c.args.block + c.args.count - 1) / 64)
    (g.S.Shelf.meaning c.mark.new.shelf) c.mark.ensures.writes)

pub returns-in-Err-clause-covers : goal.returns-in-Err-clause-covers
returns-in-Err-clause-covers g c =
    mark_covers c.args.config.now c.requires.checked c.args.vol (omega (arith, c.requires.some, c.requires.within)) c.args.logs.now c.requires.fits (g.S.Shelf.meaning c.args.shelf.now) c.requires.disks (c.args.block / 64) ((c.args.block + c.args.count - 1) / 64)
    (g.S.Shelf.meaning c.mark.new.shelf) c.mark.ensures.writes

pub returns-in-Ok-clause-held : goal.returns-in-Ok-clause-held
returns-in-Ok-clause-held g c =
    mark_held c.args.config.now c.requires.checked c.args.vol (omega (arith, c.requires.some, c.requires.within)) c.args.logs.now c.requires.fits (g.S.Shelf.meaning c.args.shelf.now) c.requires.disks (c.args.block / 64) ((c.args.block + c.args.count - 1) / 64)
    (g.S.Shelf.meaning c.mark.new.shelf) c.mark.ensures.writes c.in-Ok.lost c.mark.new.logs c.in-Ok.ensures.marks (omega (arith, c.requires.some, c.requires.within))

pub returns-in-Ok-clause-stands : goal.returns-in-Ok-clause-stands
returns-in-Ok-clause-stands g c =
    mark_stands c.args.config.now c.requires.checked c.args.vol (omega (arith, c.requires.some, c.requires.within)) c.args.logs.now c.requires.fits (g.S.Shelf.meaning c.args.shelf.now) c.requires.disks (c.args.block / 64) ((c.args.block + c.args.count - 1) / 64)
    (g.S.Shelf.meaning c.mark.new.shelf) c.mark.ensures.writes c.in-Ok.lost c.mark.new.logs c.in-Ok.ensures.marks

pub returns-in-Ok-clause-memory : goal.returns-in-Ok-clause-memory
returns-in-Ok-clause-memory g c =
    mark_memory c.args.config.now c.requires.checked c.args.vol (omega (arith, c.requires.some, c.requires.within)) c.args.logs.now c.requires.fits (g.S.Shelf.meaning c.args.shelf.now) c.requires.disks (c.args.block / 64) ((c.args.block + c.args.count - 1) / 64)
    (g.S.Shelf.meaning c.mark.new.shelf) c.mark.ensures.writes c.in-Ok.lost c.mark.new.logs c.in-Ok.ensures.marks
