-- The packets of a link that is settled, one by one.
use Rattle.std.specs.Prelude.{ℕ, suc, Bool, true, false, List, [], ◌∷◌, Option, Some, None, if◌then◌else◌, slice_get}
use Rattle.vx_history.specs.Settling.{is_between}
use Rattle.vx_history.specs.World.{Packet}
use Rattle.vx_history.specs.declared.event.Event.{Event}
use Rattle.vx_history.specs.declared.event.Event.TheVariants.{Deliver}

-- what is done of the packet behind so many: it is delivered where it goes between the two sites
abbrev pub handed_by : (a b past : ℕ) → Option Packet → List Event
handed_by a b past None = []
handed_by a b past (Some q) = if is_between a b q then Deliver (suc past) ∷ [] else []

abbrev pub handing_over : (a b past : ℕ) → List Packet → List Event
handing_over a b past ps = handed_by a b past (slice_get ps past)

-- Whether a packet goes between two sites as settling has it: an update to the second of them, or what is none to the first. None where it goes otherwise
-- between them.
abbrev pub way_by : (forth back update : Bool) → Option Bool
way_by true back true = Some true
way_by true back false = None
way_by false true true = None
way_by false true false = Some true
way_by false false update = Some false
