-- `copy_region`: clauses moved and copied; what `copy_run` asks.
use Rattle.std.proofs.Common.{◌*◌, arith}
use Rattle.std.proofs.lemmas.List.{length-take}
use Rattle.vx_resync.proofs.CauseLemmas.{ok_by}
use Rattle.vx_group.proofs.RegionLemmas.{run_fits, run_moved, run_region}
use Rattle.vx_group.proofs.copying.copy_region.Goals as goal

pub copy_run-requires-clause-fits : goal.copy_run-requires-clause-fits
copy_run-requires-clause-fits g c =
    run_fits c.args.core.now c.args.vol (c.args.region * 64) c.min-count.result _ c.blocks_of-total.result (g.S.Shelf.meaning c.args.shelf.now) c.requires.there (omega (arith, length-take (512 * c.min-count.result) c.args.buffer.now, c.told-buffer, c.min-count.ensures))
    (omega (arith, c.min-count.ensures, c.blocks_of-total.ensures, c.requires.inside)) (omega (arith, c.min-count.ensures, c.blocks_of-total.ensures, c.requires.inside)) c.blocks_of-total.ensures

pub returns-clause-copied : goal.returns-clause-copied
returns-clause-copied g c =
    ok_by _ _ c.copy_run.result c.copy_run.ensures.copied
    (run_region c.args.core.now c.args.vol c.args.source c.args.region c.blocks_of-total.result c.min-count.result _ c.copy_run.new.core (g.S.Shelf.meaning c.args.shelf.now) (g.S.Shelf.meaning c.copy_run.new.shelf) c.blocks_of-total.ensures (omega (arith, c.blocks_of-total.ensures, c.requires.inside)) c.min-count.ensures
    (omega (arith, length-take (512 * c.min-count.result) c.args.buffer.now, c.told-buffer, c.min-count.ensures)))

pub returns-clause-moved : goal.returns-clause-moved
returns-clause-moved g c =
    run_moved c.args.core.now c.args.vol c.args.source c.args.region c.blocks_of-total.result c.min-count.result _ c.copy_run.new.core (g.S.Shelf.meaning c.args.shelf.now) (g.S.Shelf.meaning c.copy_run.new.shelf) c.blocks_of-total.ensures (omega (arith, c.blocks_of-total.ensures, c.requires.inside)) c.min-count.ensures
    (omega (arith, length-take (512 * c.min-count.result) c.args.buffer.now, c.told-buffer, c.min-count.ensures)) c.copy_run.ensures.moved
