-- `keep_up`: clauses called, headed and kept.
use Rattle.vx_diskset.specs.Burning.{NoMore}
use Rattle.vx_diskset.specs.Keeps.{KeptUp, done_by}
use Rattle.vx_diskset.specs.declared.disk_set.DiskSet.TheVariants.{Up}
use Rattle.vx_diskset.proofs.CallsBurn.{called_up, done_called}
use Rattle.vx_diskset.proofs.HeadCalls.{head_called, head_received, head_up, log_place}
use Rattle.std.proofs.Common.{refl, subst, sym}
use Rattle.vx_diskset.proofs.KeepGroup.{kept_at}
use Rattle.vx_diskset.proofs.RawSets.{receiver_there, up_there}
use Rattle.vx_diskset.proofs.Receiving.{durable_of, kept_received, receiver_as}
use Rattle.vx_diskset.specs.Asked.{IsRawSet}
use Rattle.vx_diskset.proofs.disk_set.DiskSet.keep_up.Goals as goal

pub returns-in-Up-clause-called : goal.returns-in-Up-clause-called
returns-in-Up-clause-called g c = λ beside n stands.
    called_up NoMore (done_by c.keep_group.result) beside n c.args.self.now (Up c.keep_group.new.rvg) c.in-Up.rvg c.in-Up.is stands
    (λ up. done_called c.keep_group.result c.in-Up.rvg c.keep_group.new.rvg up.up (c.keep_group.ensures.off up.up) c.keep_group.ensures.spends)

pub returns-in-Up-clause-headed : goal.returns-in-Up-clause-headed
returns-in-Up-clause-headed g c = λ beside n stands.
    head_up 2 (done_by c.keep_group.result) beside n c.args.self.now (Up c.keep_group.new.rvg) c.in-Up.rvg c.in-Up.is stands
    (λ raw up. head_called 2 c.keep_group.result c.in-Up.rvg c.keep_group.new.rvg (log_place c.in-Up.rvg n raw.0 up.units) up.up (c.keep_group.ensures.off up.up) c.keep_group.ensures.calls c.keep_group.ensures.short c.keep_group.ensures.works c.keep_group.ensures.spends)

pub returns-in-Receives-clause-headed : goal.returns-in-Receives-clause-headed
returns-in-Receives-clause-headed g c = λ beside n stands.
    head_received 2 (done_by c.keep_group-in-Receives.result) beside n c.args.self.now c.in-Receives.site
    (record { rvg = c.keep_group-in-Receives.new.rvg; waiting = c.in-Receives.site.waiting; waits = c.site-in-Receives-2-1.given.0 }) c.in-Receives.is stands
    (λ raw at.
    head_called 2 c.keep_group-in-Receives.result c.in-Receives.site.rvg c.keep_group-in-Receives.new.rvg (log_place c.in-Receives.site.rvg n raw.0 at.units) at.up (c.keep_group-in-Receives.ensures.off at.up) c.keep_group-in-Receives.ensures.calls
    c.keep_group-in-Receives.ensures.short c.keep_group-in-Receives.ensures.works c.keep_group-in-Receives.ensures.spends)

pub returns-in-Receives-clause-kept : goal.returns-in-Receives-clause-kept
returns-in-Receives-clause-kept g c = λ beside n stands raw can.
    let is_rack = (g.met.R.Rack g.world.𝓛 g.world.𝓜 g.world.𝓡 ((λ s x. x), (λ x. x), (λ x. x), λ x. x)).rack in
    let lawful = (g.met.R.Shelf g.world.𝓛 g.world.𝓜 g.world.𝓡 ((λ s x. x), (λ x. x), (λ x. x), λ x. x)).lawful in
    kept_received beside n c.args.self.now c.in-Receives.site
    (record { rvg = c.keep_group-in-Receives.new.rvg; waiting = c.in-Receives.site.waiting; waits = c.keep_group-in-Receives.ensures.waiting c.in-Receives.site.waiting c.in-Receives.site.waits }) c.in-Receives.is stands can.running refl c.args.state.now can.role c.keep_group-in-Receives.result
    (kept_at beside (durable_of n) c.args.state.now c.in-Receives.site.rvg c.keep_group-in-Receives.new.rvg c.keep_group-in-Receives.result (receiver_there beside n c.args.self.now c.in-Receives.site c.in-Receives.is stands).0 (is_rack c.in-Receives.site.rvg.shelf)
    (c.keep_group-in-Receives.ensures.kept beside (durable_of n) (receiver_as beside n c.args.self.now c.in-Receives.site c.in-Receives.is stands can.running (lawful c.in-Receives.site.rvg.shelf))
    (record { up = can.up; running = can.running; apart = can.apart; line = can.line; role = can.role; needs = can.needs })))

pub returns-in-Up-clause-kept : goal.returns-in-Up-clause-kept
returns-in-Up-clause-kept g c = λ beside n stands raw can.
    let is_rack = (g.met.R.Rack g.world.𝓛 g.world.𝓜 g.world.𝓡 ((λ s x. x), (λ x. x), (λ x. x), λ x. x)).rack in
    let at = up_there beside n c.args.self.now c.in-Up.rvg c.in-Up.is stands in
    subst (λ e. KeptUp beside n c.args.state.now e (Up c.keep_group.new.rvg) c.keep_group.result) (sym c.in-Up.is)
    (kept_at beside n c.args.state.now c.in-Up.rvg c.keep_group.new.rvg c.keep_group.result at.0 (is_rack c.in-Up.rvg.shelf) (c.keep_group.ensures.kept beside n at.1 can))

pub returns-in-Over-clause-kept : goal.returns-in-Over-clause-kept
returns-in-Over-clause-kept g c = λ beside n stands raw can. absurd (subst (λ e. IsRawSet e) c.in-Over.is raw)
