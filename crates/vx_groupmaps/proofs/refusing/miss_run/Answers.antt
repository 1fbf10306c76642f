-- Notes in the maps of all plexes of a volume.
use Rattle.std.proofs.Common.{◌+◌, ◌-◌, ◌/◌, ℕ, false, sym, subst, arith}
use Rattle.vx_logs.specs.Noting.{FmrAnswers, is_one}
use Rattle.vx_groupmaps.specs.Refusing.{AreMissedMaps, all_plexes, first_plexes}
use Rattle.vx_groupmaps.proofs.RefusedLemmas.{maps_there, noted_blocks}
use Rattle.vx_volume.proofs.PlaceLemmas.{count_few}
use Rattle.vx_groupmaps.proofs.refusing.miss_run.Goals as goal

pub miss_maps-requires-clause-has : goal.miss_maps-requires-clause-has
miss_maps-requires-clause-has g c = subst (λ (n : ℕ). AreMissedMaps n ((c.args.block + c.args.count - 1) / 64) c.args.logs.now.fmr (g.S.Shelf.meaning c.args.shelf.now)) (sym c.plex_count.ensures)
    (maps_there c.args.config.now c.requires.checked c.args.vol (omega (arith, c.requires.some, c.requires.within)) c.args.logs.now c.requires.fits (g.S.Shelf.meaning c.args.shelf.now) c.requires.disks ((c.args.block + c.args.count - 1) / 64) (omega (arith, c.requires.some, c.requires.within)))

pub miss_maps-requires-clause-few : goal.miss_maps-requires-clause-few
miss_maps-requires-clause-few g c = omega (arith, c.plex_count.ensures, count_few c.args.config.now c.requires.checked c.args.vol)

pub miss_maps-requires-clause-some : goal.miss_maps-requires-clause-some
miss_maps-requires-clause-some g c = omega (arith, c.requires.some)

pub returns-clause-goes : goal.returns-clause-goes
returns-clause-goes g c = noted_blocks (is_one all_plexes) (c.args.block / 64) ((c.args.block + c.args.count - 1) / 64) c.args.logs.now.fmr (g.S.Shelf.meaning c.args.shelf.now) (g.S.Shelf.meaning c.miss_maps.new.shelf) c.miss_maps.ensures.writes

pub returns-clause-answers : goal.returns-clause-answers
returns-clause-answers g c = subst (λ (n : ℕ). FmrAnswers (first_plexes n) false (c.args.block / 64) ((c.args.block + c.args.count - 1) / 64) c.args.logs.now.fmr c.miss_maps.new.fmr (g.S.Shelf.meaning c.args.shelf.now) (g.S.Shelf.meaning c.miss_maps.new.shelf) c.miss_maps.result) c.plex_count.ensures c.miss_maps.ensures.answers
