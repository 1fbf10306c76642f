-- What events set of links.
use Rattle.std.specs.Prelude.{◌≡◌, List, [], ◌∷◌}
use Rattle.vx_model.specs.declared.link.Prot.TheVariants.{Fail as FailsWhenFull}
use Rattle.vx_history.specs.declared.event.Event.{Event}
use Rattle.vx_history.specs.declared.event.Event.TheVariants.{Link, Set}

-- a link that the event makes or sets fails the writes for which a log has no room
abbrev pub SetsFail : Event → Type 0
SetsFail (Link p s sync prot part) = prot ≡ FailsWhenFull
SetsFail (Set p s sync prot) = prot ≡ FailsWhenFull
SetsFail other = Unit {0}

abbrev pub AllSetFail : List Event → Type 0
AllSetFail [] = Unit {0}
AllSetFail (e ∷ es) = SetsFail e × AllSetFail es
