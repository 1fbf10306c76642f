-- Each case of a start.
use Rattle.std.proofs.Common.{subst, sym, rules}
use Rattle.vx_diskset.specs.Asked.{SameFailing}
use Rattle.vx_diskset.specs.declared.disk_set.DiskSet.TheVariants.{Up, Down}
use Rattle.vx_disk.specs.Disks.{Crashed, Untouched}
use Rattle.vx_diskset.proofs.KeepsFailing.{same_on, same_spent, same_then}
use Rattle.vx_diskset.specs.Stands.{SiteStands}
use Rattle.vx_diskset.proofs.StartGroup.{can_start, start_needs, came_at, refused_at}
use Rattle.vx_diskset.proofs.StaysUp.{never_both}
use Rattle.vx_diskset.proofs.disk_set.DiskSet.recover.Goals as goal

pub start_in-requires : goal.start_in-requires
start_in-requires g c =
    let needs = start_needs c.units.result c.args.room c.raw_units-units.result (g.R.Shelf.meaning c.in-Down.rack) (g.R.Shelf.meaning c.revive.new.self) (c.can_start.ensures.is (search rules))
    c.revive.ensures.alike c.raw_units-units.ensures c.units.ensures in
    record { placed = needs.0; large = needs.1; room = needs.2; maps = needs.3 }

pub returns-in-Ok-clause-recovered : goal.returns-in-Ok-clause-recovered
returns-in-Ok-clause-recovered g c = λ beside n stands down apart ring.
    let lawful = (g.met.R.Shelf g.world.𝓛 g.world.𝓜 g.world.𝓡 ((λ s x. x), (λ x. x), (λ x. x), λ x. x)).lawful in
    came_at n c.units.result c.raw_units-units.result c.in-Down.rack c.revive.new.self c.in-Ok.rvg c.raw_units-units.ensures c.units.ensures (subst (λ e. SiteStands beside n e) c.in-Down.is stands)
    c.revive.ensures.alike c.revive.ensures.up c.revive.ensures.armed (lawful c.revive.new.self) (lawful c.in-Ok.rvg.shelf) c.in-Ok.ensures.starts c.in-Ok.ensures.moves

pub returns-in-Err-clause-recovered : goal.returns-in-Err-clause-recovered
returns-in-Err-clause-recovered g c = λ beside n stands down apart ring.
    let lawful = (g.met.R.Shelf g.world.𝓛 g.world.𝓜 g.world.𝓡 ((λ s x. x), (λ x. x), (λ x. x), λ x. x)).lawful in
    let is_rack = (g.met.R.Rack g.world.𝓛 g.world.𝓜 g.world.𝓡 ((λ s x. x), (λ x. x), (λ x. x), λ x. x)).rack in
    refused_at n c.units.result c.raw_units-units.result c.args.self c.in-Down.rack c.revive.new.self c.in-Err.rack c.crash.new.self c.in-Err.no c.in-Down.is c.raw_units-units.ensures c.units.ensures
    (subst (λ e. SiteStands beside n e) c.in-Down.is stands) c.revive.ensures.alike c.revive.ensures.up c.revive.ensures.armed (lawful c.revive.new.self) (lawful c.in-Err.rack)
    c.in-Err.ensures.cause c.in-Err.ensures.limit c.in-Err.ensures.left c.crash.ensures.stopped (lawful c.crash.new.self) (is_rack c.crash.new.self)

pub returns-in-Ok-clause-failing : goal.returns-in-Ok-clause-failing
returns-in-Ok-clause-failing g c = subst (λ e. SameFailing e (Up c.in-Ok.rvg)) (sym c.in-Down.is) (record {
  told = same_then (g.R.Shelf.meaning c.in-Down.rack).disks (g.R.Shelf.meaning c.revive.new.self).disks (g.R.Shelf.meaning c.in-Ok.rvg.shelf).disks (same_on Untouched (g.R.Shelf.meaning c.in-Down.rack).disks (g.R.Shelf.meaning c.revive.new.self).disks c.revive.ensures.disks) (same_spent (g.R.Shelf.meaning c.revive.new.self) (g.R.Shelf.meaning c.in-Ok.rvg.shelf) c.in-Ok.ensures.spends);
})

pub returns-in-Err-clause-failing : goal.returns-in-Err-clause-failing
returns-in-Err-clause-failing g c = subst (λ e. SameFailing e (Down c.crash.new.self)) (sym c.in-Down.is) (record {
  told = same_then (g.R.Shelf.meaning c.in-Down.rack).disks (g.R.Shelf.meaning c.revive.new.self).disks (g.R.Shelf.meaning c.crash.new.self).disks (same_on Untouched (g.R.Shelf.meaning c.in-Down.rack).disks (g.R.Shelf.meaning c.revive.new.self).disks c.revive.ensures.disks)
      (same_then (g.R.Shelf.meaning c.revive.new.self).disks (g.R.Shelf.meaning c.in-Err.rack).disks (g.R.Shelf.meaning c.crash.new.self).disks (same_spent (g.R.Shelf.meaning c.revive.new.self) (g.R.Shelf.meaning c.in-Err.rack) c.in-Err.ensures.spent) (same_on (Crashed (g.R.Shelf.meaning c.in-Err.rack).size 0xffff_ffff_ffff_ffff) (g.R.Shelf.meaning c.in-Err.rack).disks (g.R.Shelf.meaning c.crash.new.self).disks c.crash.ensures.disks));
})

pub returns-then-not-can_start-clause-recovered : goal.returns-then-not-can_start-clause-recovered
returns-then-not-can_start-clause-recovered g c = λ beside n stands down apart ring.
    absurd (never_both c.can_start.result
    (c.can_start.ensures.all (can_start n (g.R.Shelf.meaning c.in-Down.rack) c.args.room (subst (λ e. SiteStands beside n e) c.in-Down.is stands) ring)) c.if-not-can_start.true)
