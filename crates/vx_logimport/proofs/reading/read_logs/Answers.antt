-- `read_logs`: its clauses; what stays true in its loop over `vol`; what `read_log` asks.
use Rattle.std.proofs.Common.{◌∙◌, ◌+◌, ℕ, List, length, ap, sym, subst, arith}
use Rattle.vx_group.proofs.CallLemmas.{not_down}
use Rattle.vx_logs.specs.declared.logs.Logs.{Logs}
use Rattle.vx_resync.proofs.CopyLemmas.{disks_after}
use Rattle.vx_volume.proofs.ReadRuns.{still}
use Rattle.vx_logimport.specs.Marked.{AreDirtyLogs}
use Rattle.vx_logimport.proofs.ReadLemmas.{ReadSoFar, none_so_far, one_so_far}
use Rattle.vx_logimport.proofs.reading.read_logs.Goals as goal

pub loop-vol-init : goal.loop-vol-init
loop-vol-init g c = subst (λ (ls : List Logs). ReadSoFar c.args.good c.args.told.now c.args.config.now 0 ls (g.S.Shelf.meaning c.args.shelf.now) (g.S.Shelf.meaning c.args.shelf.now)) (sym c.new-logs.ensures.items) (none_so_far c.args.good c.args.told.now c.args.config.now (g.S.Shelf.meaning c.args.shelf.now))

pub read_log-requires-clause-inside : goal.read_log-requires-clause-inside
read_log-requires-clause-inside g c = let low = c.loop-vol-test.true in let count = ap length c.as_slice.ensures.volumes in let few = c.requires.few in omega (arith, low, count, few)

pub read_log-requires-clause-disks : goal.read_log-requires-clause-disks
read_log-requires-clause-disks g c = disks_after c.args.config.now (g.S.Shelf.meaning c.args.shelf.now) (g.S.Shelf.meaning c.loop-vol.shelf) c.loop-vol.invariant.goes.units c.loop-vol.invariant.goes.size c.requires.disks

pub loop-vol-preserved : goal.loop-vol-preserved
loop-vol-preserved g c =
    subst (λ (ls : List Logs). ReadSoFar c.args.good c.args.told.now c.args.config.now (c.loop-vol.vol + 1) ls (g.S.Shelf.meaning c.args.shelf.now) (g.S.Shelf.meaning c.read_log.new.shelf)) (sym c.in-Ok-push.ensures.items)
    (one_so_far c.args.good c.args.told.now c.args.config.now c.loop-vol.vol c.loop-vol.logs.items c.in-Ok.drl (g.S.Shelf.meaning c.args.shelf.now) (g.S.Shelf.meaning c.loop-vol.shelf) (g.S.Shelf.meaning c.read_log.new.shelf) c.loop-vol.invariant c.in-Ok.ensures.up c.in-Ok.ensures.read c.read_log.ensures.goes)

pub returns-in-Err-push-clause-goes : goal.returns-in-Err-push-clause-goes
returns-in-Err-push-clause-goes g c = still (g.S.Shelf.meaning c.args.shelf.now) (g.S.Shelf.meaning c.loop-vol.shelf) (g.S.Shelf.meaning c.read_log.new.shelf) c.loop-vol.invariant.goes c.read_log.ensures.goes

pub returns-in-Err-clause-goes : goal.returns-in-Err-clause-goes
returns-in-Err-clause-goes g c = still (g.S.Shelf.meaning c.args.shelf.now) (g.S.Shelf.meaning c.loop-vol.shelf) (g.S.Shelf.meaning c.read_log.new.shelf) c.loop-vol.invariant.goes c.read_log.ensures.goes

pub returns-in-Err-clause-cause : goal.returns-in-Err-clause-cause
returns-in-Err-clause-cause g c = c.in-Err.ensures.cause

pub returns-then-is_down-clause-goes : goal.returns-then-is_down-clause-goes
returns-then-is_down-clause-goes g c = c.loop-vol.invariant.goes

pub returns-then-is_down-clause-cause : goal.returns-then-is_down-clause-cause
returns-then-is_down-clause-cause g c = sym c.is_down.ensures ∙ c.if-is_down.true

pub returns-clause-read : goal.returns-clause-read
returns-clause-read g c = c.loop-vol.invariant.read

pub returns-clause-logs : goal.returns-clause-logs
returns-clause-logs g c = subst (λ (n : ℕ). AreDirtyLogs n c.loop-vol.logs.items) (let count = ap length c.as_slice.ensures.volumes in omega (arith, count, c.loop-vol-test.false)) c.loop-vol.invariant.are

pub returns-clause-up : goal.returns-clause-up
returns-clause-up g c = not_down c.is_down.result (g.S.Shelf.meaning c.loop-vol.shelf).down c.is_down.ensures c.if-is_down.false

pub returns-clause-goes : goal.returns-clause-goes
returns-clause-goes g c = c.loop-vol.invariant.goes
