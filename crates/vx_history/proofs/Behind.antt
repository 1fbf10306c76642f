-- What holds of a world, and of the one that an event makes of it, holds behind the tests of the event, whatever they say.
use Rattle.std.proofs.Common.{◌≡◌, ℕ, Bool, refl}
use Rattle.std.specs.Prelude.{None, Option, Some, leb, not}
use Rattle.vx_model.specs.Sites.{is_up}
use Rattle.vx_model.specs.declared.no.Named.TheVariants.{Number as ByNumber}
use Rattle.vx_model.specs.declared.no.No.{No}
use Rattle.vx_model.specs.declared.no.No.TheVariants.{Down as NotUp, Role as WrongRole, Unknown}
use Rattle.vx_history.specs.declared.event.Event.{Event}
use Rattle.vx_history.specs.Doubts.{After, Doubted}
use Rattle.vx_history.specs.Refusals.{Outcome, at_site, at_work, keeps_links, on_link, unless, unless_halted}
use Rattle.vx_history.specs.Sends.{is_linked}
use Rattle.vx_history.specs.Step.{step}
use Rattle.vx_history.specs.Steps.{stopped_by}
use Rattle.vx_history.specs.World.{World}
use Rattle.vx_history.proofs.Updates.{by_test}

pub unless_by : (P : World → Type 0) (b : Bool) (why : No) (w : World) (o : Outcome) → P w → P o.world → P (unless b why w o).world
unless_by P b why w o here there = by_test (λ (r : Outcome). P r.world) b _ o (λ _. here) (λ _. there)

pub site_by : (P : World → Type 0) (w : World) (p : ℕ) (o : Outcome) → P w → P o.world → P (at_site w p o).world
site_by P w p o here there = unless_by P (leb w.sites p) (Unknown (ByNumber p)) w o here there

pub work_by : (P : World → Type 0) (w : World) (p : ℕ) (o : Outcome) → P w → P o.world → P (at_work w p o).world
work_by P w p o here there = unless_by P (not (is_up (w.nodes p).state)) NotUp w (unless_halted (w.nodes p).halted w o) here (halted (w.nodes p).halted)
  where
    halted : (h : Option ℕ) → P (unless_halted h w o).world
    halted None = there
    halted (Some disk) = here

pub link_by : (P : World → Type 0) (w : World) (p s : ℕ) (o : Outcome) → P w → P o.world → P (on_link w p s o).world
link_by P w p s o here there =
    let linked : Outcome = unless (not (is_linked (w.links p s))) (Unknown (ByNumber s)) w o in
    let led : Outcome = unless (not (keeps_links (w.nodes p).role)) WrongRole w linked in
    site_by P w p (at_site w s (at_work w p led)) here
    (site_by P w s (at_work w p led) here
    (work_by P w p led here
    (unless_by P (not (keeps_links (w.nodes p).role)) WrongRole w linked here (unless_by P (not (is_linked (w.links p s))) (Unknown (ByNumber s)) w o here there))))

pub runs : (halted : Option ℕ) (w : World) (o : Outcome) → halted ≡ None → unless_halted halted w o ≡ o
runs None w o e = refl
runs (Some disk) w o e = absurd (cc)

-- what a halted site may be
abbrev pub after_of : Doubted → Event → (site disk : ℕ) → After
after_of d e site disk = record { node = (stopped_by (step d.world e).world site disk).nodes site; row = (step d.world e).world.links site }
