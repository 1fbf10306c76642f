-- What is said of a number that no test of it refuses.
use Rattle.std.specs.Prelude.{ℕ, ◌||◌, not, eqb, ltb, if◌then◌else◌}
use Rattle.vx_history.specs.World.{World}
use Rattle.vx_model.specs.Sites.{is_origin}
use Rattle.vx_history.specs.Refusals.{Outcome, says, unless, some_below, holds_back, is_unconfirmed}
use Rattle.vx_history.specs.Sends.{promising}
use Rattle.vx_history.specs.Events.{promises_of}
use Rattle.vx_model.specs.declared.no.No.TheVariants.{Unknown, Role as WrongRole, Unconfirmed}
use Rattle.vx_model.specs.declared.no.Named.TheVariants.{Number as ByNumber}
use Rattle.vx_history.specs.declared.event.Said.TheVariants.{Pending, DoneAt}

-- the tests of the number, at a site that is at work
abbrev pub may_confirm : World → ℕ → (number : ℕ) → Outcome → Outcome
may_confirm w p number o =
    unless (not (is_origin (w.nodes p).role)) WrongRole w
    (unless (eqb number 0 || ltb (w.nodes p).safe number) (Unknown (ByNumber number)) w
    (unless (some_below w.sites (λ k. is_unconfirmed number k (w.links p k))) (Unconfirmed number) w o))

-- pending where a link holds the number back, and done with what the links promise where none does
abbrev pub confirmed : World → ℕ → (number : ℕ) → Outcome
confirmed w p number =
    if some_below w.sites (λ k. holds_back number k (w.links p k))
    then says w (Pending number)
    else says (promising w (promises_of (w.nodes p) number (w.links p) w.sites)) (DoneAt number)
