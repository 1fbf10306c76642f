-- `flush_volumes`: clauses ends and cause; what `flush_one` asks; what stays true in its loop over `vol`.
use Rattle.std.proofs.Common.{Err, ap, length, arith}
use Rattle.vx_group.proofs.CallLemmas.{blames_later}
use Rattle.vx_group.proofs.QuiesceLemmas.{all_quiesced, none_quiesced, one_less, one_more}
use Rattle.vx_group.proofs.FindingLemmas.{none_finds, then_finds}
use Rattle.vx_group.proofs.TrustStillLemmas.{same_logs, then_logs}
use Rattle.vx_group.proofs.SettleCalls.{same_alike, then_alike}
use Rattle.vx_group.proofs.SettleMore.{alike_ends}
use Rattle.vx_group.proofs.quiescing.flush_volumes.Goals as goal

pub loop-vol-init : goal.loop-vol-init
loop-vol-init g c = (none_quiesced c.args.core.now (g.S.Shelf.meaning c.args.shelf.now) c.requires.stands c.requires.settled c.requires.up c.requires.more, none_finds c.args.core.now (g.S.Shelf.meaning c.args.shelf.now), same_logs c.args.core.now.config, same_alike (g.S.Shelf.meaning c.args.shelf.now))

pub flush_one-requires-clause-there : goal.flush_one-requires-clause-there
flush_one-requires-clause-there g c = let count = ap length c.as_slice-vol-end.ensures.volumes in let same = c.loop-vol.invariant.0.quiesces.shape.volumes in omega (arith, count, same, c.loop-vol-test.true)

pub loop-vol-preserved : goal.loop-vol-preserved
loop-vol-preserved g c = (
  one_more c.args.core.now c.loop-vol.core c.flush_one.new.core c.loop-vol.vol (g.S.Shelf.meaning c.args.shelf.now) (g.S.Shelf.meaning c.loop-vol.shelf) (g.S.Shelf.meaning c.flush_one.new.shelf) c.requires.stands c.loop-vol.invariant.0 c.in-Ok.ensures.ends,
  then_finds c.args.core.now c.loop-vol.core c.flush_one.new.core (g.S.Shelf.meaning c.args.shelf.now) (g.S.Shelf.meaning c.loop-vol.shelf) (g.S.Shelf.meaning c.flush_one.new.shelf) c.loop-vol.invariant.1 c.flush_one.ensures.finds,
  then_logs c.args.core.now.config c.loop-vol.core.config c.flush_one.new.core.config c.loop-vol.invariant.2 c.flush_one.ensures.logs,
  then_alike (g.S.Shelf.meaning c.args.shelf.now) (g.S.Shelf.meaning c.loop-vol.shelf) (g.S.Shelf.meaning c.flush_one.new.shelf) c.loop-vol.invariant.3 c.flush_one.ensures.alikes,
)

pub returns-in-Err-clause-ends : goal.returns-in-Err-clause-ends
returns-in-Err-clause-ends g c = one_less c.args.core.now c.loop-vol.core c.flush_one.new.core c.loop-vol.vol (g.S.Shelf.meaning c.args.shelf.now) (g.S.Shelf.meaning c.loop-vol.shelf) (g.S.Shelf.meaning c.flush_one.new.shelf) c.requires.stands c.loop-vol.invariant.0 c.in-Err.ensures.ends

pub returns-in-Err-clause-cause : goal.returns-in-Err-clause-cause
returns-in-Err-clause-cause g c = blames_later {T = Unit {0}} (Err c.in-Err.error) (g.S.Shelf.meaning c.args.shelf.now) (g.S.Shelf.meaning c.loop-vol.shelf) (g.S.Shelf.meaning c.flush_one.new.shelf) c.loop-vol.invariant.0.quiesces.acts.disk_faults c.in-Err.ensures.cause

pub returns-clause-ends : goal.returns-clause-ends
returns-clause-ends g c = all_quiesced c.args.core.now c.loop-vol.core c.loop-vol.vol (g.S.Shelf.meaning c.args.shelf.now) (g.S.Shelf.meaning c.loop-vol.shelf) (let count = ap length c.as_slice-vol-end.ensures.volumes in omega (arith, count, c.loop-vol-test.false)) c.loop-vol.invariant.0

pub returns-clause-cause : goal.returns-clause-cause
returns-clause-cause g c = c.loop-vol.invariant.0.up

pub returns-clause-finds : goal.returns-clause-finds
returns-clause-finds g c =
    c.loop-vol.invariant.1

pub returns-in-Err-clause-finds : goal.returns-in-Err-clause-finds
returns-in-Err-clause-finds g c =
    then_finds c.args.core.now c.loop-vol.core c.flush_one.new.core (g.S.Shelf.meaning c.args.shelf.now) (g.S.Shelf.meaning c.loop-vol.shelf) (g.S.Shelf.meaning c.flush_one.new.shelf) c.loop-vol.invariant.1 c.flush_one.ensures.finds

pub returns-clause-logs : goal.returns-clause-logs
returns-clause-logs g c = c.loop-vol.invariant.2

pub returns-in-Err-clause-logs : goal.returns-in-Err-clause-logs
returns-in-Err-clause-logs g c = then_logs c.args.core.now.config c.loop-vol.core.config c.flush_one.new.core.config c.loop-vol.invariant.2 c.flush_one.ensures.logs

pub returns-clause-alikes : goal.returns-clause-alikes
returns-clause-alikes g c = c.loop-vol.invariant.3

pub returns-in-Err-clause-alikes : goal.returns-in-Err-clause-alikes
returns-in-Err-clause-alikes g c = then_alike (g.S.Shelf.meaning c.args.shelf.now) (g.S.Shelf.meaning c.loop-vol.shelf) (g.S.Shelf.meaning c.flush_one.new.shelf) c.loop-vol.invariant.3 c.flush_one.ensures.alikes

pub returns-in-Err-clause-settles : goal.returns-in-Err-clause-settles
returns-in-Err-clause-settles g c = alike_ends c.flush_one.new.core (g.S.Shelf.meaning c.args.shelf.now) (g.S.Shelf.meaning c.loop-vol.shelf) (g.S.Shelf.meaning c.flush_one.new.shelf) c.loop-vol.invariant.3 c.in-Err.ensures.settles

pub returns-in-Err-clause-agreed : goal.returns-in-Err-clause-agreed
returns-in-Err-clause-agreed g c = λ is. c.in-Err.ensures.agreed (c.loop-vol.invariant.0.trust is)
