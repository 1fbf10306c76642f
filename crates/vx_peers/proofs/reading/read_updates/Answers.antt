-- `read_updates`: clauses cause, blames, core, goes, down, disks, spends and read; what `fetch` and `stop_of` ask; what stays true in its loop over `past`.
use Rattle.std.proofs.Common.{◌∙◌, ◌+◌, length, ap, sym, subst, arith, List, [], ◌∷◌, length-append}
use Rattle.vx_model.specs.declared.call.Update.{Update}
use Rattle.vx_model.specs.declared.errors.Stop.{Stop}
use Rattle.vx_rvg.specs.Views.{Core, last_of}
use Rattle.vx_srl.specs.Calls.{FetchCause}
use Rattle.vx_peers.specs.Senders.{AreRead, BlamesStop, ReadCause}
use Rattle.vx_peers.proofs.Looking.{fetched_more, is_other, not_looked, read_blames, read_stops, stands_on}
use Rattle.vx_peers.proofs.Updates.{none_read, read_more}
use Rattle.vx_peers.proofs.reading.read_updates.Goals as goal

pub loop-past-init : goal.loop-past-init
loop-past-init g c = (
  not_looked c.args.rvg.now.core (g.S.Shelf.meaning c.args.rvg.now.shelf),
  ap (λ (us : List Update). length us) c.in_ok-updates.ensures.items,
  λ h stands tells. (subst (AreRead h c.args.rvg.now.core.log.header.state.line c.args.first) (sym c.in_ok-updates.ensures.items) (none_read h c.args.rvg.now.core.log.header.state.line c.args.first), stands),
)

pub fetch-requires : goal.fetch-requires
fetch-requires g c = record { held = omega (arith, c.requires.held, c.loop-past-test.true, ap (λ (x : Core). last_of x) c.loop-past.invariant.0.core) }

pub stop_of-requires : goal.stop_of-requires
stop_of-requires g c =
    is_other c.loop-past.rvg.core (g.S.Shelf.meaning c.loop-past.rvg.shelf) (g.S.Shelf.meaning c.fetch.new.self.shelf) c.in-Err.why
    (c.in-Err.ensures.cause (ap (λ (x : Core). x.halted) c.loop-past.invariant.0.core ∙ c.requires.running) (omega (arith, c.requires.low, ap (λ (x : Core). x.log.header.low) c.loop-past.invariant.0.core)))

pub returns-in-Err-clause-cause : goal.returns-in-Err-clause-cause
returns-in-Err-clause-cause g c =
    let was = c.loop-past.invariant in
    let m0 = g.S.Shelf.meaning c.args.rvg.now.shelf in
    let m1 = g.S.Shelf.meaning c.loop-past.rvg.shelf in
    let m2 = g.S.Shelf.meaning c.fetch.new.self.shelf in
    let cause : FetchCause c.loop-past.rvg.core.log m1 m2 c.in-Err.why
    = c.in-Err.ensures.cause (ap (λ (x : Core). x.halted) was.0.core ∙ c.requires.running) (omega (arith, c.requires.low, ap (λ (x : Core). x.log.header.low) was.0.core)) in
    subst (λ (s : Stop). ReadCause c.args.rvg.now.core m0 m2 s) (sym c.stop_of.ensures)
    (read_stops c.args.rvg.now.core m0 m1 m2 c.in-Err.why was.0.goes.disk_faults was.0.goes.tells (λ h stands tells. (was.2 h stands tells).1) (subst (λ (x : Core). FetchCause x.log m1 m2 c.in-Err.why) was.0.core cause))

pub returns-in-Err-clause-blames : goal.returns-in-Err-clause-blames
returns-in-Err-clause-blames g c =
    let was = c.loop-past.invariant in
    let m0 = g.S.Shelf.meaning c.args.rvg.now.shelf in
    subst (λ (s : Stop). BlamesStop m0.disks c.args.rvg.now.core.log.unit s) (sym c.stop_of.ensures)
    (read_blames c.args.rvg.now.core c.loop-past.rvg.core m0 (g.S.Shelf.meaning c.loop-past.rvg.shelf) c.in-Err.why was.0.disks was.0.core c.in-Err.ensures.blames)

pub returns-in-Err-clause-core : goal.returns-in-Err-clause-core
returns-in-Err-clause-core g c = c.fetch.ensures.core ∙ c.loop-past.invariant.0.core

pub returns-in-Err-clause-goes : goal.returns-in-Err-clause-goes
returns-in-Err-clause-goes g c = (fetched_more c.args.rvg.now.core c.loop-past.rvg.core c.fetch.new.self.core (g.S.Shelf.meaning c.args.rvg.now.shelf) (g.S.Shelf.meaning c.loop-past.rvg.shelf) (g.S.Shelf.meaning c.fetch.new.self.shelf) c.loop-past.invariant.0 c.fetch.ensures.core c.fetch.ensures.goes c.fetch.ensures.down c.fetch.ensures.disks c.fetch.ensures.spends).goes

pub returns-in-Err-clause-down : goal.returns-in-Err-clause-down
returns-in-Err-clause-down g c = c.fetch.ensures.down ∙ c.loop-past.invariant.0.down

pub returns-in-Err-clause-disks : goal.returns-in-Err-clause-disks
returns-in-Err-clause-disks g c = (fetched_more c.args.rvg.now.core c.loop-past.rvg.core c.fetch.new.self.core (g.S.Shelf.meaning c.args.rvg.now.shelf) (g.S.Shelf.meaning c.loop-past.rvg.shelf) (g.S.Shelf.meaning c.fetch.new.self.shelf) c.loop-past.invariant.0 c.fetch.ensures.core c.fetch.ensures.goes c.fetch.ensures.down c.fetch.ensures.disks c.fetch.ensures.spends).disks

pub returns-in-Err-clause-spends : goal.returns-in-Err-clause-spends
returns-in-Err-clause-spends g c = (fetched_more c.args.rvg.now.core c.loop-past.rvg.core c.fetch.new.self.core (g.S.Shelf.meaning c.args.rvg.now.shelf) (g.S.Shelf.meaning c.loop-past.rvg.shelf) (g.S.Shelf.meaning c.fetch.new.self.shelf) c.loop-past.invariant.0 c.fetch.ensures.core c.fetch.ensures.goes c.fetch.ensures.down c.fetch.ensures.disks c.fetch.ensures.spends).spends

pub returns-in_err-push-clause-core : goal.returns-in_err-push-clause-core
returns-in_err-push-clause-core g c = c.fetch.ensures.core ∙ c.loop-past.invariant.0.core

pub returns-in_err-push-clause-goes : goal.returns-in_err-push-clause-goes
returns-in_err-push-clause-goes g c = (fetched_more c.args.rvg.now.core c.loop-past.rvg.core c.fetch.new.self.core (g.S.Shelf.meaning c.args.rvg.now.shelf) (g.S.Shelf.meaning c.loop-past.rvg.shelf) (g.S.Shelf.meaning c.fetch.new.self.shelf) c.loop-past.invariant.0 c.fetch.ensures.core c.fetch.ensures.goes c.fetch.ensures.down c.fetch.ensures.disks c.fetch.ensures.spends).goes

pub returns-in_err-push-clause-down : goal.returns-in_err-push-clause-down
returns-in_err-push-clause-down g c = c.fetch.ensures.down ∙ c.loop-past.invariant.0.down

pub returns-in_err-push-clause-disks : goal.returns-in_err-push-clause-disks
returns-in_err-push-clause-disks g c = (fetched_more c.args.rvg.now.core c.loop-past.rvg.core c.fetch.new.self.core (g.S.Shelf.meaning c.args.rvg.now.shelf) (g.S.Shelf.meaning c.loop-past.rvg.shelf) (g.S.Shelf.meaning c.fetch.new.self.shelf) c.loop-past.invariant.0 c.fetch.ensures.core c.fetch.ensures.goes c.fetch.ensures.down c.fetch.ensures.disks c.fetch.ensures.spends).disks

pub returns-in_err-push-clause-spends : goal.returns-in_err-push-clause-spends
returns-in_err-push-clause-spends g c = (fetched_more c.args.rvg.now.core c.loop-past.rvg.core c.fetch.new.self.core (g.S.Shelf.meaning c.args.rvg.now.shelf) (g.S.Shelf.meaning c.loop-past.rvg.shelf) (g.S.Shelf.meaning c.fetch.new.self.shelf) c.loop-past.invariant.0 c.fetch.ensures.core c.fetch.ensures.goes c.fetch.ensures.down c.fetch.ensures.disks c.fetch.ensures.spends).spends

pub loop-past-preserved : goal.loop-past-preserved
loop-past-preserved g c =
    let was = c.loop-past.invariant in
    let m0 = g.S.Shelf.meaning c.args.rvg.now.shelf in
    let m1 = g.S.Shelf.meaning c.loop-past.rvg.shelf in
    let m2 = g.S.Shelf.meaning c.fetch.new.self.shelf in
    let push = c.in_ok-push.ensures.items in (
      fetched_more c.args.rvg.now.core c.loop-past.rvg.core c.fetch.new.self.core m0 m1 m2 was.0 c.fetch.ensures.core c.fetch.ensures.goes c.fetch.ensures.down c.fetch.ensures.disks c.fetch.ensures.spends,
      ap (λ (us : List Update). length us) push ∙ omega (arith, was.1, length-append c.loop-past.updates.items (c.fetch.new.into ∷ [])),
      (λ h stands tells.
          let before = was.2 h stands tells in
          let one = stands_on c.args.rvg.now.core c.loop-past.rvg.core c.fetch.new.self.core m0 m1 m2 (c.args.first + c.loop-past.past) c.fetch.new.into was.0 tells h before.1 c.in_default.ensures.gives c.in_default.ensures.up c.fetch.ensures.stands c.fetch.ensures.core in (
            subst (AreRead h c.args.rvg.now.core.log.header.state.line c.args.first) (sym push)
                (read_more h c.args.rvg.now.core.log.header.state.line c.args.first (c.args.first + c.loop-past.past) c.loop-past.updates.items c.fetch.new.into one.x (omega (arith, was.1)) before.0 one.there one.is),
            one.stands,
          )),
    )

pub returns-clause-read : goal.returns-clause-read
returns-clause-read g c = (omega (arith, c.loop-past.invariant.1, c.loop-past-test.false, c.loop-past.auto.past-end), c.loop-past.invariant.2)

pub returns-clause-core : goal.returns-clause-core
returns-clause-core g c = c.loop-past.invariant.0.core

pub returns-clause-goes : goal.returns-clause-goes
returns-clause-goes g c = c.loop-past.invariant.0.goes

pub returns-clause-down : goal.returns-clause-down
returns-clause-down g c = c.loop-past.invariant.0.down

pub returns-clause-disks : goal.returns-clause-disks
returns-clause-disks g c = c.loop-past.invariant.0.disks

pub returns-clause-spends : goal.returns-clause-spends
returns-clause-spends g c = c.loop-past.invariant.0.spends
