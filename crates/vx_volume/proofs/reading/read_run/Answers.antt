-- `read_run`: clauses ok and cause; what `find_spot-spot` and `read` ask.
use Rattle.std.proofs.Common.{◌≡◌, ◌+◌, ◌-◌, ◌*◌, ◌∙◌, length, arith, refl}
use Rattle.vx_volume.proofs.PlaceLemmas.{has_of}
use Rattle.vx_volume.proofs.ReadRuns.{part_length, put_length, read_ok}
use Rattle.vx_volume.proofs.WriteRuns.{run_Cause, run_fits}
use Rattle.vx_volume.proofs.reading.read_run.Given
use Rattle.vx_volume.proofs.reading.read_run.Goals as goal

pub find_spot-spot-requires-clause-there : goal.find_spot-spot-requires-clause-there
find_spot-spot-requires-clause-there g c = has_of c.args.config.now c.args.vol c.args.plex (c.args.block + c.args.done) c.requires.asked.is_on (c.requires.asked.inside (c.args.block + c.args.done) (record { first = omega arith; last = omega (arith, c.requires.more) }))

pub read-requires : goal.read-requires
read-requires g c = run_fits c.args.config.now c.args.vol c.args.plex c.args.block c.args.done c.min-count.result c.find_spot-spot.result.disk c.find_spot-spot.result.at c.find_spot-spot.result.reach c.args.into.now (g.S.Shelf.meaning c.args.shelf.now)
    c.requires.asked c.requires.fits c.requires.whole c.requires.more c.find_spot-spot.ensures.some c.find_spot-spot.ensures.run
    (omega (arith, c.min-count.ensures)) (omega (arith, c.min-count.ensures, c.find_spot-spot.ensures.some, c.requires.more)) (omega (arith, c.min-count.ensures, c.requires.more))

long_part : (g : Given.Over) (c : goal.In-Ok g) → length c.read.new.into ≡ 512 * (c.args.done + c.min-count.result) - 512 * c.args.done
long_part g c = c.read.auto.into ∙ part_length c.args.into.now c.args.done c.min-count.result (omega (arith, c.min-count.ensures, c.requires.more))

pub returns-in-Ok-clause-ok : goal.returns-in-Ok-clause-ok
returns-in-Ok-clause-ok g c = read_ok c.args.config.now c.args.vol c.args.plex c.args.block c.args.done c.min-count.result c.find_spot-spot.result.disk c.find_spot-spot.result.at c.find_spot-spot.result.reach c.args.into.now c.read.new.into (g.S.Shelf.meaning c.args.shelf.now)
    c.requires.asked c.requires.fits c.requires.whole c.requires.more c.find_spot-spot.ensures.some c.find_spot-spot.ensures.run
    (omega (arith, c.min-count.ensures)) (omega (arith, c.min-count.ensures, c.find_spot-spot.ensures.some, c.requires.more)) (omega (arith, c.min-count.ensures, c.requires.more))
    (long_part g c) _ refl (put_length (512 * c.args.done) (512 * (c.args.done + c.min-count.result) - 512 * c.args.done) c.args.into.now c.read.new.into (omega (arith, c.min-count.ensures, c.requires.more)) (long_part g c)) c.in-Ok.ensures.ok

pub returns-in-Err-clause-cause : goal.returns-in-Err-clause-cause
returns-in-Err-clause-cause g c = run_Cause c.args.config.now c.args.vol c.args.plex c.args.block c.args.done c.min-count.result c.find_spot-spot.result.disk c.find_spot-spot.result.at c.find_spot-spot.result.reach c.args.into.now (g.S.Shelf.meaning c.args.shelf.now)
    c.requires.asked c.requires.fits c.requires.whole c.requires.more c.find_spot-spot.ensures.some c.find_spot-spot.ensures.run
    (omega (arith, c.min-count.ensures)) (omega (arith, c.min-count.ensures, c.find_spot-spot.ensures.some, c.requires.more)) (omega (arith, c.min-count.ensures, c.requires.more)) _ c.in-Err.error c.in-Err.ensures.cause
