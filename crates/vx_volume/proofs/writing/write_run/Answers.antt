-- `write_run`: clauses goes, ok and cause; what `write` and `find_spot-spot` ask.
use Rattle.std.proofs.Common.{arith, ◌+◌}
use Rattle.vx_volume.proofs.PlaceLemmas.{has_of}
use Rattle.vx_volume.proofs.WriteRuns.{run_Cause, run_Goes, run_Wrote, run_fits}
use Rattle.vx_volume.proofs.writing.write_run.Goals as goal

pub write-requires : goal.write-requires
write-requires g c = run_fits c.args.config.now c.args.vol c.args.plex c.args.block c.args.done c.min-count.result c.find_spot-spot.result.disk c.find_spot-spot.result.at c.find_spot-spot.result.reach c.args.bytes.now (g.S.Shelf.meaning c.args.shelf.now)
    c.requires.asked c.requires.fits c.requires.whole c.requires.more c.find_spot-spot.ensures.some c.find_spot-spot.ensures.run
    (omega (arith, c.min-count.ensures)) (omega (arith, c.min-count.ensures, c.find_spot-spot.ensures.some, c.requires.more)) (omega (arith, c.min-count.ensures, c.requires.more))

pub returns-in-Ok-clause-goes : goal.returns-in-Ok-clause-goes
returns-in-Ok-clause-goes g c = run_Goes c.args.config.now c.args.vol c.args.plex c.args.block c.args.done c.min-count.result c.find_spot-spot.result.disk c.find_spot-spot.result.at c.find_spot-spot.result.reach c.args.bytes.now (g.S.Shelf.meaning c.args.shelf.now)
    c.requires.asked c.requires.fits c.requires.whole c.requires.more c.find_spot-spot.ensures.some c.find_spot-spot.ensures.run
    (omega (arith, c.min-count.ensures)) (omega (arith, c.min-count.ensures, c.find_spot-spot.ensures.some, c.requires.more)) (omega (arith, c.min-count.ensures, c.requires.more)) _ c.write.ensures.goes

pub returns-in-Ok-clause-ok : goal.returns-in-Ok-clause-ok
returns-in-Ok-clause-ok g c = run_Wrote c.args.config.now c.args.vol c.args.plex c.args.block c.args.done c.min-count.result c.find_spot-spot.result.disk c.find_spot-spot.result.at c.find_spot-spot.result.reach c.args.bytes.now (g.S.Shelf.meaning c.args.shelf.now)
    c.requires.asked c.requires.fits c.requires.whole c.requires.more c.find_spot-spot.ensures.some c.find_spot-spot.ensures.run
    (omega (arith, c.min-count.ensures)) (omega (arith, c.min-count.ensures, c.find_spot-spot.ensures.some, c.requires.more)) (omega (arith, c.min-count.ensures, c.requires.more)) _ c.in-Ok.ensures.ok

pub returns-in-Err-clause-goes : goal.returns-in-Err-clause-goes
returns-in-Err-clause-goes g c = run_Goes c.args.config.now c.args.vol c.args.plex c.args.block c.args.done c.min-count.result c.find_spot-spot.result.disk c.find_spot-spot.result.at c.find_spot-spot.result.reach c.args.bytes.now (g.S.Shelf.meaning c.args.shelf.now)
    c.requires.asked c.requires.fits c.requires.whole c.requires.more c.find_spot-spot.ensures.some c.find_spot-spot.ensures.run
    (omega (arith, c.min-count.ensures)) (omega (arith, c.min-count.ensures, c.find_spot-spot.ensures.some, c.requires.more)) (omega (arith, c.min-count.ensures, c.requires.more)) _ c.write.ensures.goes

pub returns-in-Err-clause-cause : goal.returns-in-Err-clause-cause
returns-in-Err-clause-cause g c = run_Cause c.args.config.now c.args.vol c.args.plex c.args.block c.args.done c.min-count.result c.find_spot-spot.result.disk c.find_spot-spot.result.at c.find_spot-spot.result.reach c.args.bytes.now (g.S.Shelf.meaning c.args.shelf.now)
    c.requires.asked c.requires.fits c.requires.whole c.requires.more c.find_spot-spot.ensures.some c.find_spot-spot.ensures.run
    (omega (arith, c.min-count.ensures)) (omega (arith, c.min-count.ensures, c.find_spot-spot.ensures.some, c.requires.more)) (omega (arith, c.min-count.ensures, c.requires.more)) _ c.in-Err.error c.in-Err.ensures.cause

pub find_spot-spot-requires-clause-there : goal.find_spot-spot-requires-clause-there
find_spot-spot-requires-clause-there g c = has_of c.args.config.now c.args.vol c.args.plex (c.args.block + c.args.done) c.requires.asked.is_on (c.requires.asked.inside (c.args.block + c.args.done) (record { first = omega arith; last = omega (arith, c.requires.more) }))
