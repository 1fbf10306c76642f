-- Marks of the regions of a run of blocks.
use Rattle.std.proofs.Common.{◌+◌, ◌-◌, ◌/◌, arith}
use Rattle.vx_groupmaps.proofs.NotedLemmas.{noted_covers, noted_holds, noted_ready}
use Rattle.vx_groupmaps.proofs.marking.mark_maps.Goals as goal

pub mark-requires-clause-some : goal.mark-requires-clause-some
mark-requires-clause-some g c = omega (arith, c.requires.some)

pub mark-requires-clause-inside : goal.mark-requires-clause-inside
mark-requires-clause-inside g c = omega (arith, c.requires.some, c.requires.within)

pub returns-clause-covers : goal.returns-clause-covers
returns-clause-covers g c =
    noted_covers c.args.config.now c.requires.checked c.args.vol (omega (arith, c.requires.some, c.requires.within)) c.args.logs.now c.requires.fits (g.S.Shelf.meaning c.args.shelf.now) c.requires.disks (c.args.block / 64) ((c.args.block + c.args.count - 1) / 64)
    c.mark.new.logs (g.S.Shelf.meaning c.mark.new.shelf) c.mark.ensures.writes c.mark.result c.mark.ensures.marks

pub returns-clause-holds : goal.returns-clause-holds
returns-clause-holds g c =
    noted_holds c.args.config.now c.requires.checked c.args.vol (omega (arith, c.requires.some, c.requires.within)) c.args.logs.now c.requires.fits (g.S.Shelf.meaning c.args.shelf.now) c.requires.disks (c.args.block / 64) ((c.args.block + c.args.count - 1) / 64)
    c.mark.new.logs (g.S.Shelf.meaning c.mark.new.shelf) (omega (arith, c.requires.some, c.requires.within)) c.mark.result c.mark.ensures.marks

pub returns-clause-ready : goal.returns-clause-ready
returns-clause-ready g c =
    noted_ready c.args.config.now c.requires.checked c.args.vol (omega (arith, c.requires.some, c.requires.within)) c.args.logs.now c.requires.fits (g.S.Shelf.meaning c.args.shelf.now) c.requires.disks (c.args.block / 64) ((c.args.block + c.args.count - 1) / 64)
    c.mark.new.logs (g.S.Shelf.meaning c.mark.new.shelf) c.mark.result c.mark.ensures.marks
