-- `copy_region`: clauses goes and ok.
use Rattle.std.proofs.Common.{◌*◌, arith}
use Rattle.std.proofs.lemmas.List.{length-take}
use Rattle.vx_resync.proofs.CauseLemmas.{ok_by}
use Rattle.vx_resync.proofs.CopyLemmas.{region_run_alike, region_run_goes}
use Rattle.vx_resync.proofs.regions.copy_region.Goals as goal

pub returns-clause-goes : goal.returns-clause-goes
returns-clause-goes g c = region_run_goes c.args.config.now c.args.vol c.args.source c.args.to c.args.region c.blocks_of-total.result c.min-count.result _ (g.S.Shelf.meaning c.args.shelf.now) (g.S.Shelf.meaning c.copy_run.new.shelf) c.blocks_of-total.ensures (omega (arith, c.blocks_of-total.ensures, c.requires.inside)) (omega (arith, c.min-count.ensures)) (omega (arith, length-take (512 * c.min-count.result) c.args.buffer.now, c.told-buffer, c.min-count.ensures)) c.copy_run.ensures.goes

pub returns-clause-ok : goal.returns-clause-ok
returns-clause-ok g c = ok_by _ _ c.copy_run.result c.copy_run.ensures.ok (region_run_alike c.args.config.now c.args.vol c.args.source c.args.to c.args.region c.blocks_of-total.result c.min-count.result _ (g.S.Shelf.meaning c.args.shelf.now) (g.S.Shelf.meaning c.copy_run.new.shelf) c.blocks_of-total.ensures (omega (arith, c.blocks_of-total.ensures, c.requires.inside)) (omega (arith, c.min-count.ensures)) (omega (arith, length-take (512 * c.min-count.result) c.args.buffer.now, c.told-buffer, c.min-count.ensures)))
