-- `begin_maps`: its clauses.
use Rattle.std.proofs.Common.{refl}
use Rattle.vx_grouplogs.proofs.BegunMaps.{maps_begun}
use Rattle.vx_grouplogs.proofs.CoverLemmas.{others_kept}
use Rattle.vx_grouplogs.proofs.GroupLemmas.{logs_keep}
use Rattle.vx_grouplogs.proofs.MapLemmas.{behind_one, goes_logs, new_knows, on_mapped}
use Rattle.vx_grouplogs.proofs.OnCalls.{on_others}
use Rattle.vx_grouplogs.proofs.mapping.begin_maps.Goals as goal

pub returns-clause-group : goal.returns-clause-group
returns-clause-group g c = logs_keep c.args.config.now c.requires.checked c.args.vol (g.S.Shelf.meaning c.args.shelf.now) (g.S.Shelf.meaning c.new_map.new.shelf) (g.met.S.Shelf.lawful c.args.shelf.now) (g.met.S.Shelf.lawful c.new_map.new.shelf) (goes_logs c.args.config.now c.args.vol (g.S.Shelf.meaning c.args.shelf.now) (g.S.Shelf.meaning c.new_map.new.shelf) c.new_map.ensures.goes)

pub returns-clause-on : goal.returns-clause-on
returns-clause-on g c = on_mapped c.args.config.now c.requires.checked c.args.vol c.requires.some (g.S.Shelf.meaning c.args.shelf.now) (g.S.Shelf.meaning c.new_map.new.shelf) c.requires.disks c.new_map.ensures.goes c.args.logs.now c.new_map.result c.new_map.ensures.fits c.new_map.ensures.stands c.requires.on

pub returns-clause-others : goal.returns-clause-others
returns-clause-others g c = on_others c.args.config.now c.args.vol (g.S.Shelf.meaning c.args.shelf.now) (g.S.Shelf.meaning c.new_map.new.shelf) (others_kept c.args.config.now c.requires.checked c.args.vol (g.S.Shelf.meaning c.args.shelf.now) (g.S.Shelf.meaning c.new_map.new.shelf) c.requires.disks (goes_logs c.args.config.now c.args.vol (g.S.Shelf.meaning c.args.shelf.now) (g.S.Shelf.meaning c.new_map.new.shelf) c.new_map.ensures.goes))

pub returns-clause-knows : goal.returns-clause-knows
returns-clause-knows g c = new_knows c.args.config.now c.args.vol c.new_map.result (g.S.Shelf.meaning c.new_map.new.shelf) c.requires.all (behind_one c.args.config.now c.requires.checked c.args.vol (g.S.Shelf.meaning c.args.shelf.now) (g.S.Shelf.meaning c.new_map.new.shelf) c.new_map.ensures.goes c.requires.one) c.new_map.ensures.holds (record { drl = c.args.logs.now.drl; fmr = c.new_map.result }) refl

pub returns-clause-begun : goal.returns-clause-begun
returns-clause-begun g c = maps_begun c.args.config.now c.args.vol (record { drl = c.args.logs.now.drl; fmr = c.new_map.result }) c.requires.all c.requires.some c.new_map.ensures.fits (record { so = λ f at. c.new_map.ensures.holds.so f at }) (record { so = λ f at. c.new_map.ensures.ready.so f at })
