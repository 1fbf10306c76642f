-- `put_all`: clauses goes, ok and cause.
use Rattle.std.proofs.Common.{◌/◌, length, arith}
use Rattle.vx_volume.specs.Volumes.{PlexWrote}
use Rattle.vx_resync.proofs.CauseLemmas.{ends_refused, zero_bit}
use Rattle.vx_resync.proofs.CopyLemmas.{put_all_Goes}
use Rattle.vx_resync.proofs.putting.put_all.Goals as goal

pub returns-then-failed-eq0-clause-goes : goal.returns-then-failed-eq0-clause-goes
returns-then-failed-eq0-clause-goes g c = put_all_Goes c.args.config.now c.args.vol c.args.block _ c.args.bytes.now (g.S.Shelf.meaning c.args.shelf.now) (g.S.Shelf.meaning c.write_all.new.shelf) c.write_all.ensures.goes

pub returns-then-failed-eq0-clause-ok : goal.returns-then-failed-eq0-clause-ok
returns-then-failed-eq0-clause-ok g c = record { up = c.in-Ok.ensures.ends.0.up; each = λ p on. c.in-Ok.ensures.ends.0.is_done p on (zero_bit c.in-Ok.failed.set p (omega (arith, c.if-failed-eq0.true))) }

pub returns-else-failed-eq0-clause-goes : goal.returns-else-failed-eq0-clause-goes
returns-else-failed-eq0-clause-goes g c = put_all_Goes c.args.config.now c.args.vol c.args.block _ c.args.bytes.now (g.S.Shelf.meaning c.args.shelf.now) (g.S.Shelf.meaning c.write_all.new.shelf) c.write_all.ensures.goes

pub returns-else-failed-eq0-clause-cause : goal.returns-else-failed-eq0-clause-cause
returns-else-failed-eq0-clause-cause g c = c.in-Ok.ensures.ends.1.rose (omega (arith, c.if-failed-eq0.false))

pub returns-in-Err-clause-goes : goal.returns-in-Err-clause-goes
returns-in-Err-clause-goes g c = put_all_Goes c.args.config.now c.args.vol c.args.block _ c.args.bytes.now (g.S.Shelf.meaning c.args.shelf.now) (g.S.Shelf.meaning c.write_all.new.shelf) c.write_all.ensures.goes

pub returns-in-Err-clause-cause : goal.returns-in-Err-clause-cause
returns-in-Err-clause-cause g c = ends_refused c.args.config.now c.args.vol (λ p. PlexWrote c.args.config.now c.args.vol p c.args.block (length c.args.bytes.now / 512) c.args.block (length c.args.bytes.now / 512) c.args.bytes.now (g.S.Shelf.meaning c.args.shelf.now) (g.S.Shelf.meaning c.write_all.new.shelf)) (g.S.Shelf.meaning c.args.shelf.now) (g.S.Shelf.meaning c.write_all.new.shelf) c.in-Err.no c.in-Err.ensures.ends
