-- `new_map`: its clauses; what the calls ask.
use Rattle.vx_logs.specs.Writes.{first_region, last_region}
use Rattle.vx_grouplogs.proofs.MapLemmas.{bare_maps, fit_behind, maps_then}
use Rattle.vx_grouplogs.proofs.mapping.new_map.Goals as goal

pub ready_maps-requires-clause-disks : goal.ready_maps-requires-clause-disks
ready_maps-requires-clause-disks g c = fit_behind c.args.config.now c.args.vol (g.S.Shelf.meaning c.args.shelf.now) (g.S.Shelf.meaning c.zeroed_map-fmr.new.shelf) c.requires.disks c.zeroed_map-fmr.ensures.goes

pub returns-in-Err-clause-goes : goal.returns-in-Err-clause-goes
returns-in-Err-clause-goes g c = (maps_then c.args.config.now c.args.vol (g.S.Shelf.meaning c.args.shelf.now) (g.S.Shelf.meaning c.zeroed_map-fmr.new.shelf) (g.S.Shelf.meaning c.ready_maps.new.shelf) c.zeroed_map-fmr.ensures.goes c.ready_maps.ensures.goes)

pub mark_maps-requires-clause-disks : goal.mark_maps-requires-clause-disks
mark_maps-requires-clause-disks g c = fit_behind c.args.config.now c.args.vol (g.S.Shelf.meaning c.args.shelf.now) (g.S.Shelf.meaning c.ready_maps.new.shelf) c.requires.disks (maps_then c.args.config.now c.args.vol (g.S.Shelf.meaning c.args.shelf.now) (g.S.Shelf.meaning c.zeroed_map-fmr.new.shelf) (g.S.Shelf.meaning c.ready_maps.new.shelf) c.zeroed_map-fmr.ensures.goes c.ready_maps.ensures.goes)

pub returns-in-Err-mark_maps-clause-goes : goal.returns-in-Err-mark_maps-clause-goes
returns-in-Err-mark_maps-clause-goes g c = maps_then c.args.config.now c.args.vol (g.S.Shelf.meaning c.args.shelf.now) (g.S.Shelf.meaning c.ready_maps.new.shelf) (g.S.Shelf.meaning c.mark_maps.new.shelf) (maps_then c.args.config.now c.args.vol (g.S.Shelf.meaning c.args.shelf.now) (g.S.Shelf.meaning c.zeroed_map-fmr.new.shelf) (g.S.Shelf.meaning c.ready_maps.new.shelf) c.zeroed_map-fmr.ensures.goes c.ready_maps.ensures.goes) (bare_maps c.args.config.now c.requires.checked c.args.vol c.requires.some c.ready_maps.new.logs c.ready_maps.ensures.drl c.ready_maps.ensures.fits (g.S.Shelf.meaning c.ready_maps.new.shelf) (fit_behind c.args.config.now c.args.vol (g.S.Shelf.meaning c.args.shelf.now) (g.S.Shelf.meaning c.ready_maps.new.shelf) c.requires.disks (maps_then c.args.config.now c.args.vol (g.S.Shelf.meaning c.args.shelf.now) (g.S.Shelf.meaning c.zeroed_map-fmr.new.shelf) (g.S.Shelf.meaning c.ready_maps.new.shelf) c.zeroed_map-fmr.ensures.goes c.ready_maps.ensures.goes)) (first_region 0) (last_region 0 c.blocks_of-blocks.result) (g.S.Shelf.meaning c.mark_maps.new.shelf) c.mark_maps.ensures.writes)

pub returns-clause-goes : goal.returns-clause-goes
returns-clause-goes g c = maps_then c.args.config.now c.args.vol (g.S.Shelf.meaning c.args.shelf.now) (g.S.Shelf.meaning c.ready_maps.new.shelf) (g.S.Shelf.meaning c.mark_maps.new.shelf) (maps_then c.args.config.now c.args.vol (g.S.Shelf.meaning c.args.shelf.now) (g.S.Shelf.meaning c.zeroed_map-fmr.new.shelf) (g.S.Shelf.meaning c.ready_maps.new.shelf) c.zeroed_map-fmr.ensures.goes c.ready_maps.ensures.goes) (bare_maps c.args.config.now c.requires.checked c.args.vol c.requires.some c.ready_maps.new.logs c.ready_maps.ensures.drl c.ready_maps.ensures.fits (g.S.Shelf.meaning c.ready_maps.new.shelf) (fit_behind c.args.config.now c.args.vol (g.S.Shelf.meaning c.args.shelf.now) (g.S.Shelf.meaning c.ready_maps.new.shelf) c.requires.disks (maps_then c.args.config.now c.args.vol (g.S.Shelf.meaning c.args.shelf.now) (g.S.Shelf.meaning c.zeroed_map-fmr.new.shelf) (g.S.Shelf.meaning c.ready_maps.new.shelf) c.zeroed_map-fmr.ensures.goes c.ready_maps.ensures.goes)) (first_region 0) (last_region 0 c.blocks_of-blocks.result) (g.S.Shelf.meaning c.mark_maps.new.shelf) c.mark_maps.ensures.writes)
