-- `close`: clauses ends, cause and up; what `flush_volumes` and `commit_closed` ask.
use Rattle.std.proofs.Common.{◌∙◌, Err, arith}
use Rattle.vx_group.proofs.DeportLemmas.{back_flushed, blames_stop, closes_later, settled_back, stops_later}
use Rattle.vx_group.proofs.FindingLemmas.{then_finds}
use Rattle.vx_group.proofs.SettleCalls.{headers_missed, settled_behind}
use Rattle.vx_group.proofs.SettleDeport.{closed_told, leaves_sure, reads_behind}
use Rattle.vx_group.proofs.deporting.close.Goals as goal
use Rattle.vx_group.proofs.TrustStillLemmas.{then_logs, volumes_logs}
use Rattle.vx_group.proofs.TrustLemmas.{ok_from, err_from}

pub flush_volumes-requires-clause-more : goal.flush_volumes-requires-clause-more
flush_volumes-requires-clause-more g c = let same = c.settle_headers.ensures.serial in let less = c.requires.more in omega (arith, same, less)

pub returns-in-Err-clause-ends : goal.returns-in-Err-clause-ends
returns-in-Err-clause-ends g c = settled_back c.args.core.now c.settle_headers.new.core (g.S.Shelf.meaning c.args.shelf.now) (g.S.Shelf.meaning c.settle_headers.new.shelf) c.settle_headers.ensures.stands c.settle_headers.ensures.narrows c.settle_headers.ensures.same c.settle_headers.ensures.failing

pub returns-in-Err-clause-cause : goal.returns-in-Err-clause-cause
returns-in-Err-clause-cause g c = blames_stop (g.S.Shelf.meaning c.args.shelf.now) (g.S.Shelf.meaning c.settle_headers.new.shelf) c.in-Err.error c.in-Err.ensures.cause

pub returns-in-Err-flush_volumes-clause-ends : goal.returns-in-Err-flush_volumes-clause-ends
returns-in-Err-flush_volumes-clause-ends g c = back_flushed c.args.core.now c.settle_headers.new.core c.flush_volumes.new.core c.flush_volumes.new.core (g.S.Shelf.meaning c.args.shelf.now) (g.S.Shelf.meaning c.settle_headers.new.shelf) (g.S.Shelf.meaning c.flush_volumes.new.shelf) (g.S.Shelf.meaning c.flush_volumes.new.shelf) c.requires.stands c.settle_headers.ensures.narrows c.settle_headers.ensures.same c.settle_headers.ensures.failing c.in-Ok.ensures.cause c.settle_headers.ensures.trust c.in-Err-flush_volumes.ensures.ends

pub returns-in-Err-flush_volumes-clause-cause : goal.returns-in-Err-flush_volumes-clause-cause
returns-in-Err-flush_volumes-clause-cause g c = stops_later {T = Unit {0}} (Err c.in-Err-flush_volumes.error) (g.S.Shelf.meaning c.args.shelf.now) (g.S.Shelf.meaning c.settle_headers.new.shelf) (g.S.Shelf.meaning c.flush_volumes.new.shelf) c.settle_headers.ensures.narrows.acts.disk_faults (blames_stop (g.S.Shelf.meaning c.settle_headers.new.shelf) (g.S.Shelf.meaning c.flush_volumes.new.shelf) c.in-Err-flush_volumes.error c.in-Err-flush_volumes.ensures.cause)

pub commit_closed-requires-clause-stands : goal.commit_closed-requires-clause-stands
commit_closed-requires-clause-stands g c = c.in-Ok-flush_volumes.ensures.ends.stands

pub commit_closed-requires-clause-settled : goal.commit_closed-requires-clause-settled
commit_closed-requires-clause-settled g c = c.in-Ok-flush_volumes.ensures.ends.settled

pub commit_closed-requires-clause-more : goal.commit_closed-requires-clause-more
commit_closed-requires-clause-more g c = c.in-Ok-flush_volumes.ensures.ends.more

pub returns-clause-ends : goal.returns-clause-ends
returns-clause-ends g c = closes_later c.args.core.now c.settle_headers.new.core c.flush_volumes.new.core c.commit_closed.new.core (g.S.Shelf.meaning c.args.shelf.now) (g.S.Shelf.meaning c.settle_headers.new.shelf) (g.S.Shelf.meaning c.flush_volumes.new.shelf) (g.S.Shelf.meaning c.commit_closed.new.shelf) c.requires.stands c.settle_headers.ensures.narrows c.settle_headers.ensures.same c.settle_headers.ensures.failing c.in-Ok.ensures.cause c.settle_headers.ensures.trust c.in-Ok-flush_volumes.ensures.ends c.commit_closed.result c.commit_closed.ensures.ends

pub returns-clause-cause : goal.returns-clause-cause
returns-clause-cause g c = stops_later c.commit_closed.result (g.S.Shelf.meaning c.args.shelf.now) (g.S.Shelf.meaning c.flush_volumes.new.shelf) (g.S.Shelf.meaning c.commit_closed.new.shelf) (λ u. let one = c.settle_headers.ensures.narrows.acts.disk_faults u in let two = c.in-Ok-flush_volumes.ensures.ends.quiesces.acts.disk_faults u in omega (arith, one, two)) c.commit_closed.ensures.cause

pub returns-clause-up : goal.returns-clause-up
returns-clause-up g c = ok_from c.commit_closed.result (λ keeps. keeps c.in-Ok-flush_volumes.ensures.ends.up) c.commit_closed.ensures.up

pub returns-in-Err-clause-finds : goal.returns-in-Err-clause-finds
returns-in-Err-clause-finds g c =
    c.settle_headers.ensures.finds

pub returns-in-Err-flush_volumes-clause-finds : goal.returns-in-Err-flush_volumes-clause-finds
returns-in-Err-flush_volumes-clause-finds g c =
    then_finds c.args.core.now c.settle_headers.new.core c.flush_volumes.new.core (g.S.Shelf.meaning c.args.shelf.now) (g.S.Shelf.meaning c.settle_headers.new.shelf) (g.S.Shelf.meaning c.flush_volumes.new.shelf) c.settle_headers.ensures.finds c.flush_volumes.ensures.finds

pub returns-clause-finds : goal.returns-clause-finds
returns-clause-finds g c =
    err_from c.commit_closed.result (λ last.
    then_finds c.args.core.now c.flush_volumes.new.core c.commit_closed.new.core (g.S.Shelf.meaning c.args.shelf.now) (g.S.Shelf.meaning c.flush_volumes.new.shelf) (g.S.Shelf.meaning c.commit_closed.new.shelf)
    (then_finds c.args.core.now c.settle_headers.new.core c.flush_volumes.new.core (g.S.Shelf.meaning c.args.shelf.now) (g.S.Shelf.meaning c.settle_headers.new.shelf) (g.S.Shelf.meaning c.flush_volumes.new.shelf) c.settle_headers.ensures.finds c.flush_volumes.ensures.finds) last) c.commit_closed.ensures.finds

pub returns-in-Err-clause-logs : goal.returns-in-Err-clause-logs
returns-in-Err-clause-logs g c = volumes_logs c.args.core.now.config c.settle_headers.new.core.config c.settle_headers.ensures.volumes

pub returns-in-Err-flush_volumes-clause-logs : goal.returns-in-Err-flush_volumes-clause-logs
returns-in-Err-flush_volumes-clause-logs g c =
    then_logs c.args.core.now.config c.settle_headers.new.core.config c.flush_volumes.new.core.config (volumes_logs c.args.core.now.config c.settle_headers.new.core.config c.settle_headers.ensures.volumes) c.flush_volumes.ensures.logs

pub returns-clause-logs : goal.returns-clause-logs
returns-clause-logs g c =
    err_from c.commit_closed.result (λ last. then_logs c.args.core.now.config c.flush_volumes.new.core.config c.commit_closed.new.core.config (then_logs c.args.core.now.config c.settle_headers.new.core.config c.flush_volumes.new.core.config (volumes_logs c.args.core.now.config c.settle_headers.new.core.config c.settle_headers.ensures.volumes) c.flush_volumes.ensures.logs) last) c.commit_closed.ensures.logs

pub returns-in-Err-clause-settles : goal.returns-in-Err-clause-settles
returns-in-Err-clause-settles g c = λ reads.
    headers_missed c.args.core.now c.settle_headers.new.core (g.S.Shelf.meaning c.args.shelf.now) (g.S.Shelf.meaning c.settle_headers.new.shelf) c.requires.stands c.settle_headers.ensures.narrows c.settle_headers.ensures.serial c.settle_headers.ensures.less c.in-Err.ensures.missed

pub returns-in-Err-flush_volumes-clause-settles : goal.returns-in-Err-flush_volumes-clause-settles
returns-in-Err-flush_volumes-clause-settles g c = λ reads.
    settled_behind c.args.core.now c.settle_headers.new.core c.flush_volumes.new.core (g.S.Shelf.meaning c.args.shelf.now) (g.S.Shelf.meaning c.settle_headers.new.shelf) (g.S.Shelf.meaning c.flush_volumes.new.shelf) c.requires.stands c.requires.more c.settle_headers.ensures.narrows c.settle_headers.ensures.less c.in-Err-flush_volumes.ensures.settles

pub returns-clause-settles : goal.returns-clause-settles
returns-clause-settles g c = λ reads.
    err_from c.commit_closed.result (λ closes.
    closed_told c.args.core.now c.settle_headers.new.core c.flush_volumes.new.core c.commit_closed.new.core (g.S.Shelf.meaning c.args.shelf.now) (g.S.Shelf.meaning c.settle_headers.new.shelf) (g.S.Shelf.meaning c.flush_volumes.new.shelf) (g.S.Shelf.meaning c.commit_closed.new.shelf) c.requires.stands c.requires.more c.settle_headers.ensures.narrows c.settle_headers.ensures.less c.flush_volumes.ensures.alikes
    (leaves_sure c.settle_headers.new.core c.flush_volumes.new.core (g.S.Shelf.meaning c.settle_headers.new.shelf) (g.S.Shelf.meaning c.flush_volumes.new.shelf) c.in-Ok-flush_volumes.ensures.ends (reads_behind c.args.core.now c.settle_headers.new.core (g.S.Shelf.meaning c.args.shelf.now) (g.S.Shelf.meaning c.settle_headers.new.shelf) c.requires.stands c.settle_headers.ensures.narrows c.in-Ok.ensures.cause reads)) closes) c.commit_closed.ensures.settles

pub returns-in-Err-clause-agreed : goal.returns-in-Err-clause-agreed
returns-in-Err-clause-agreed g c = λ is. c.settle_headers.ensures.agreed ∙ c.requires.stands.trusts.both is

pub returns-in-Err-flush_volumes-clause-agreed : goal.returns-in-Err-flush_volumes-clause-agreed
returns-in-Err-flush_volumes-clause-agreed g c = λ is. c.in-Err-flush_volumes.ensures.agreed (c.settle_headers.ensures.trust ∙ is)

pub returns-clause-agreed : goal.returns-clause-agreed
returns-clause-agreed g c = err_from c.commit_closed.result (λ keeps is. keeps (c.in-Ok-flush_volumes.ensures.ends.trust (c.settle_headers.ensures.trust ∙ is))) c.commit_closed.ensures.agreed
