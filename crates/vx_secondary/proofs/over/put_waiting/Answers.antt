-- What waits over blocks of a volume, one update after another.
use Rattle.std.proofs.Common.{sym}
use Rattle.vx_rvg.specs.Contents.{write_of_update}
use Rattle.vx_secondary.specs.Receivers.{writes_of_updates}
use Rattle.vx_secondary.proofs.Overs.{shows_next}
use Rattle.vx_secondary.proofs.Waits.{map_get}
use Rattle.vx_secondary.proofs.over.put_waiting.Goals as goal

pub loop-place-preserved : goal.loop-place-preserved
loop-place-preserved c =
    shows_next (writes_of_updates c.args.waiting.now) c.loop-place.place c.args.vol c.args.start (write_of_update c.in-Some.update.now) c.args.into.now c.loop-place.into c.put_over.new.into c.loop-place.invariant
    (map_get c.args.waiting.now c.loop-place.place c.in-Some.update.now (sym c.in-Some.ensures)) c.put_over.ensures
