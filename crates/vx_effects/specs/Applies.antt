-- What an apply makes of a site that receives.
use Rattle.std.specs.Prelude.{ℕ, ◌-◌, length}
use Rattle.vx_model.specs.declared.site.Mark.{Mark}
use Rattle.vx_history.specs.Events.{applied}
use Rattle.vx_history.specs.LinkForms.{plain_receiver}
use Rattle.vx_history.specs.Receiving.{marked_by}
use Rattle.vx_history.specs.World.{Node}
use Rattle.vx_events.specs.Stamps.{waiting_of}

-- the number up to which its records are applied, behind the next of them, so many
abbrev pub applied_up_to : Node → (count : ℕ) → ℕ
applied_up_to n count = length n.log - (waiting_of n - count)

abbrev pub mark_behind : Node → (count : ℕ) → Mark
mark_behind n count = (marked_by (record (plain_receiver n) { waiting = waiting_of n - count }) (applied_up_to n count)).mark

abbrev pub behind_apply : Node → (count : ℕ) → Node
behind_apply n count = applied n (applied_up_to n count) (mark_behind n count)
