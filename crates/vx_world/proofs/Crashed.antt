-- A crash of a halted site, whatever its disks kept of the event that failed, is a crash of one of the two worlds that it may be.
use Rattle.std.proofs.Common.{◌≡◌, ℕ, ◌<◌, sym, subst, refl, arith, Bool, true, false, Option, Some}
use Rattle.std.specs.Prelude.{leb}
use Rattle.std.proofs.lemmas.Bool.Decides.{nat_tests}
use Rattle.vx_history.specs.Events.{crash_at, kept_of}
use Rattle.vx_history.specs.Step.{outcome_of, step}
use Rattle.vx_history.specs.World.{World}
use Rattle.vx_history.specs.declared.event.Event.TheVariants.{Crash}
use Rattle.vx_model.specs.declared.site.SiteState.TheVariants.{Up}
use Rattle.vx_world.proofs.Moves.{sound_headers}
use Rattle.vx_world.proofs.Whole.{step_good}
use Rattle.vx_history.specs.GoodWorld.{GoodWorld}
use Rattle.vx_history.specs.Doubts.{After, Doubted, resolved, taken_up, crashed_as}
use Rattle.vx_world.specs.Twins.{GoodTwin}

pub not_past : (a b : ℕ) → b < a → leb a b ≡ false
not_past a b h = grind (arith, nat_tests)

pub crash_is : (w : World) (s kept : ℕ) → s < w.sites → (w.nodes s).state ≡ Up → (outcome_of w (Crash s kept)).world ≡ crash_at w s (kept_of (w.nodes s) kept)
crash_is w s kept here up = rw (not_past w.sites s here) (rw up refl)

-- a world is good whatever headers are counted
uncounted : (w : World) (h : ℕ → ℕ) → GoodWorld (record w { headers = h }) → GoodWorld w
uncounted w h g = record {
  sound = sound_headers (record w { headers = h }) w.headers g.sound;
  fits = record { sized = g.fits.sized; logs = g.fits.logs; held = g.fits.held; alike = g.fits.alike; alone = g.fits.alone };
  gathers = record { parts = g.gathers.parts; each = g.gathers.each };
  places = g.places;
}

crash_good : (w : World) (s kept : ℕ) → s < w.sites → (w.nodes s).state ≡ Up → GoodWorld w → GoodWorld (crash_at w s (kept_of (w.nodes s) kept))
crash_good w s kept here up g =
    subst GoodWorld (crash_is w s kept here up)
    (uncounted (outcome_of w (Crash s kept)).world (step w (Crash s kept)).world.headers (step_good w (Crash s kept) g))

pub crashed_good : (d : Doubted) (s kept : ℕ) (taken : Bool) (a : After) → d.after s ≡ Some a → GoodTwin s d.world (resolved d.world s a)
    → GoodWorld (crashed_as d s kept taken).world
crashed_good d s kept true a is t =
    let v : World = resolved d.world s a in
    subst (λ (o : Option After). let x = taken_up d.world s o in GoodWorld (crash_at x s (kept_of (x.nodes s) kept))) (sym is)
    (crash_good v s kept t.twin.here t.twin.up_too t.good_too)
crashed_good d s kept false a is t = crash_good d.world s kept t.twin.here t.twin.up t.good
