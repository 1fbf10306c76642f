-- Each case of the start of a bare site.
use Rattle.std.proofs.Common.{◌∙◌, ◌*◌, ◌≤◌, ℕ, IsTrue, sym, subst, refl, rules, arith}
use Rattle.vx_disk.specs.Maps.{maps_of}
use Rattle.vx_model.specs.declared.units.Units.{Units}
use Rattle.vx_model.specs.declared.limits.TheConstants.{LINK_PLACES}
use Rattle.vx_rvg.proofs.MapStands.{room_as}
use Rattle.vx_rvg.proofs.WriteSound.{maps_fit_as}
use Rattle.vx_rvg.specs.Views.{UnitsPlaced}
use Rattle.vx_diskset.specs.Layouts.{raw_units}
use Rattle.vx_diskset.proofs.StartBare.{clean_read, clean_untold, bare_came, bare_refused, bare_unread, start_rose}
use Rattle.vx_diskset.proofs.MakeGroup.{placed_raw}
use Rattle.vx_diskset.proofs.StaysUp.{never_both}
use Rattle.vx_disk.specs.Disks.{Crashed, Untouched}
use Rattle.vx_diskset.proofs.KeepsFailing.{same_on, same_spent, same_then}
use Rattle.vx_diskset.proofs.starting.start_bare.Goals as goal

pub returns-in-Ok-false-clause-found : goal.returns-in-Ok-false-clause-found
returns-in-Ok-false-clause-found g c = λ n clean some ring beside. clean_read n (g.R.Shelf.meaning c.args.rack) (g.R.Shelf.meaning c.has_log.new.rack) c.has_log.ensures.goes clean

pub returns-in-Err-clause-found : goal.returns-in-Err-clause-found
returns-in-Err-clause-found g c = λ n clean some ring.
    bare_unread {R = g.row.R.Denot} {g = g.R.Shelf} n _ c.args.rack c.has_log.new.rack c.in-Err.no refl
    (clean_read n (g.R.Shelf.meaning c.args.rack) (g.R.Shelf.meaning c.has_log.new.rack) c.has_log.ensures.goes clean) c.in-Err.ensures.cause

pub start_in-requires-clause-placed : goal.start_in-requires-clause-placed
start_in-requires-clause-placed g c =
    let can = c.can_hold.ensures.is (search rules) in
    subst (λ (u : Units). UnitsPlaced u (g.R.Shelf.meaning c.has_log.new.rack)) (sym c.raw_units-units.ensures)
    (placed_raw c.units.result (g.R.Shelf.meaning c.has_log.new.rack) (c.units.ensures ∙ sym c.has_log.ensures.goes.units) (omega (arith, c.units.ensures, can.some))
    (subst (λ (k : ℕ). LINK_PLACES * maps_of (raw_units k).vols (g.R.Shelf.meaning c.has_log.new.rack) ≤ (g.R.Shelf.meaning c.has_log.new.rack).size (raw_units k).maps) (sym c.units.ensures)
    (maps_fit_as (raw_units (g.R.Shelf.meaning c.args.rack).units) (g.R.Shelf.meaning c.args.rack) (g.R.Shelf.meaning c.has_log.new.rack) c.has_log.ensures.goes.size can.maps)))

pub start_in-requires-clause-maps : goal.start_in-requires-clause-maps
start_in-requires-clause-maps g c =
    let can = c.can_hold.ensures.is (search rules) in
    subst (λ (u : Units). LINK_PLACES * maps_of u.vols (g.R.Shelf.meaning c.has_log.new.rack) ≤ c.args.room.maps) (sym c.raw_units-units.ensures)
    (subst (λ (k : ℕ). LINK_PLACES * maps_of (raw_units k).vols (g.R.Shelf.meaning c.has_log.new.rack) ≤ c.args.room.maps) (sym c.units.ensures)
    (room_as (raw_units (g.R.Shelf.meaning c.args.rack).units) c.args.room.maps (g.R.Shelf.meaning c.args.rack) (g.R.Shelf.meaning c.has_log.new.rack) c.has_log.ensures.goes.size can.takes))

pub returns-in-Ok-clause-found : goal.returns-in-Ok-clause-found
returns-in-Ok-clause-found g c = λ n clean some ring.
    let lawful = (g.met.R.Shelf g.world.𝓛 g.world.𝓜 g.world.𝓡 ((λ s x. x), (λ x. x), (λ x. x), λ x. x)).lawful in
    bare_came n c.units.result c.raw_units-units.result (g.R.Shelf.meaning c.args.rack) c.has_log.new.rack c.in-Ok.rvg c.raw_units-units.ensures c.units.ensures clean some c.has_log.ensures.goes
    (lawful c.in-Ok.rvg.shelf)
    (λ told. never_both c.in-Ok-true.field-0 c.in-Ok-true.field-0-test
    (c.in-Ok-true.ensures.none (sym c.has_log.ensures.goes.tells ∙ sym c.in-Ok.ensures.moves.tells ∙ told) (λ b low. clean.front b (omega (arith, low, clean.bare.some)))))
    c.in-Ok.ensures.starts c.in-Ok.ensures.moves c.in-Ok.ensures.up

pub returns-in-Err-start_in-clause-found : goal.returns-in-Err-start_in-clause-found
returns-in-Err-start_in-clause-found g c = λ n clean some ring.
    let lawful = (g.met.R.Shelf g.world.𝓛 g.world.𝓜 g.world.𝓡 ((λ s x. x), (λ x. x), (λ x. x), λ x. x)).lawful in
    let goes = c.has_log.ensures.goes in
    let left = c.in-Err-start_in.ensures.left in
    let stopped = c.crash.ensures.stopped in
    let alike = c.revive.ensures.alike in
    let untold : IsTrue (g.R.Shelf.meaning c.revive.new.self).tells → ⊥ = λ told. never_both c.in-Ok-true.field-0 c.in-Ok-true.field-0-test
    (c.in-Ok-true.ensures.none (sym goes.tells ∙ sym left.tells ∙ sym stopped.tells ∙ sym alike.contents.tells ∙ told) (λ b low. clean.front b (omega (arith, low, clean.bare.some)))) in
    bare_refused {R = g.row.R.Denot} {g = g.R.Shelf} n _ c.args.rack c.revive.new.self c.in-Err-start_in.no refl
    (clean_untold n (g.R.Shelf.meaning c.args.rack) (g.R.Shelf.meaning c.revive.new.self) (lawful c.revive.new.self) untold clean
    (alike.contents.units ∙ stopped.units ∙ left.units ∙ goes.units) (λ u. alike.contents.size u ∙ stopped.size u ∙ left.size u ∙ goes.size u) c.revive.ensures.up (c.revive.ensures.armed ∙ stopped.unarmed))
    untold
    (λ disk is. start_rose c.raw_units-units.result (g.R.Shelf.meaning c.args.rack) (g.R.Shelf.meaning c.has_log.new.rack) (g.R.Shelf.meaning c.in-Err-start_in.rack) (g.R.Shelf.meaning c.crash.new.self) (g.R.Shelf.meaning c.revive.new.self) c.in-Err-start_in.no
    goes c.in-Err-start_in.ensures.cause stopped alike disk is)

pub returns-in-Ok-false-clause-failing : goal.returns-in-Ok-false-clause-failing
returns-in-Ok-false-clause-failing g c = record { told = same_spent (g.R.Shelf.meaning c.args.rack) (g.R.Shelf.meaning c.has_log.new.rack) c.has_log.ensures.spends }

pub returns-in-Err-clause-failing : goal.returns-in-Err-clause-failing
returns-in-Err-clause-failing g c = record { told = same_spent (g.R.Shelf.meaning c.args.rack) (g.R.Shelf.meaning c.has_log.new.rack) c.has_log.ensures.spends }

pub returns-in-Ok-clause-failing : goal.returns-in-Ok-clause-failing
returns-in-Ok-clause-failing g c = record {
  told = same_then (g.R.Shelf.meaning c.args.rack).disks (g.R.Shelf.meaning c.has_log.new.rack).disks (g.R.Shelf.meaning c.in-Ok.rvg.shelf).disks (same_spent (g.R.Shelf.meaning c.args.rack) (g.R.Shelf.meaning c.has_log.new.rack) c.has_log.ensures.spends) (same_spent (g.R.Shelf.meaning c.has_log.new.rack) (g.R.Shelf.meaning c.in-Ok.rvg.shelf) c.in-Ok.ensures.spends);
}

pub returns-in-Err-start_in-clause-failing : goal.returns-in-Err-start_in-clause-failing
returns-in-Err-start_in-clause-failing g c = record {
  told = same_then (g.R.Shelf.meaning c.args.rack).disks (g.R.Shelf.meaning c.has_log.new.rack).disks (g.R.Shelf.meaning c.revive.new.self).disks (same_spent (g.R.Shelf.meaning c.args.rack) (g.R.Shelf.meaning c.has_log.new.rack) c.has_log.ensures.spends)
      (same_then (g.R.Shelf.meaning c.has_log.new.rack).disks (g.R.Shelf.meaning c.in-Err-start_in.rack).disks (g.R.Shelf.meaning c.revive.new.self).disks (same_spent (g.R.Shelf.meaning c.has_log.new.rack) (g.R.Shelf.meaning c.in-Err-start_in.rack) c.in-Err-start_in.ensures.spent)
      (same_then (g.R.Shelf.meaning c.in-Err-start_in.rack).disks (g.R.Shelf.meaning c.crash.new.self).disks (g.R.Shelf.meaning c.revive.new.self).disks (same_on (Crashed (g.R.Shelf.meaning c.in-Err-start_in.rack).size 0xffff_ffff_ffff_ffff) (g.R.Shelf.meaning c.in-Err-start_in.rack).disks (g.R.Shelf.meaning c.crash.new.self).disks c.crash.ensures.disks) (same_on Untouched (g.R.Shelf.meaning c.crash.new.self).disks (g.R.Shelf.meaning c.revive.new.self).disks c.revive.ensures.disks)));
}
