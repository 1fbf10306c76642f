-- `flush_each`: clauses ok and cause.
use Rattle.std.proofs.Common.{arith}
use Rattle.vx_volume.specs.Volumes.{PlexFlushed}
use Rattle.vx_resync.proofs.CauseLemmas.{ends_refused, zero_bit}
use Rattle.vx_resync.proofs.flushing.flush_each.Goals as goal

pub returns-then-failed-eq0-clause-ok : goal.returns-then-failed-eq0-clause-ok
returns-then-failed-eq0-clause-ok g c = record { up = c.in-Ok.ensures.ends.0.up; each = λ p on. c.in-Ok.ensures.ends.0.is_done p on (zero_bit c.in-Ok.failed.set p (omega (arith, c.if-failed-eq0.true))) }

pub returns-else-failed-eq0-clause-cause : goal.returns-else-failed-eq0-clause-cause
returns-else-failed-eq0-clause-cause g c = c.in-Ok.ensures.ends.1.rose (omega (arith, c.if-failed-eq0.false))

pub returns-in-Err-clause-cause : goal.returns-in-Err-clause-cause
returns-in-Err-clause-cause g c = ends_refused c.args.config.now c.args.vol (λ p. PlexFlushed c.args.config.now c.args.vol p (g.S.Shelf.meaning c.args.shelf.now) (g.S.Shelf.meaning c.flush_all.new.shelf)) (g.S.Shelf.meaning c.args.shelf.now) (g.S.Shelf.meaning c.flush_all.new.shelf) c.in-Err.no c.in-Err.ensures.ends
