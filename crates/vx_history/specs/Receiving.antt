-- What each event makes of a site that receives writes, and what then is to be done.
use Rattle.std.specs.Prelude.{ℕ, ◌+◌, ◌-◌, min, Bool, true, false, ◌&&◌, eqb, ltb, leb, if◌then◌else◌}
use Rattle.vx_model.specs.Sites.{same_line}
use Rattle.vx_model.specs.declared.history.Line.{Line}
use Rattle.vx_model.specs.declared.limits.TheConstants.{MOST_WAITING}
use Rattle.vx_model.specs.declared.site.Mark.TheVariants.{Consistent}
use Rattle.vx_model.specs.declared.site.SPhase.{SPhase}
use Rattle.vx_model.specs.declared.site.SPhase.TheVariants.{Quiet, Regions, Log, ForkKept}
use Rattle.vx_history.specs.declared.receiver.RState.{RState}
use Rattle.vx_history.specs.declared.receiver.REvent.{REvent}
use Rattle.vx_history.specs.declared.receiver.REvent.TheVariants.{Update, Applied, Restart}
use Rattle.vx_history.specs.declared.receiver.RAction.{RAction}
use Rattle.vx_history.specs.declared.receiver.RAction.TheVariants.{Nothing, Ignored, IgnoredAck, Take, DataAck}

-- a receiver after an event, and what it then does
pub record Received : Type 0 where
  pub state : RState
  pub action : RAction

-- updates are taken outside a replay, and in its phase Log
abbrev pub phase_takes : SPhase → Bool
phase_takes Quiet = true
phase_takes Regions = false
phase_takes Log = true
phase_takes ForkKept = false

abbrev pub is_log_phase : SPhase → Bool
is_log_phase Quiet = false
is_log_phase Regions = false
is_log_phase Log = true
is_log_phase ForkKept = false

-- the next number of its line, while there is room for a further record that waits
abbrev pub takes : RState → Line → (number : ℕ) → Bool
takes s line number = same_line line s.line && (eqb number (s.last + 1) && (ltb s.waiting MOST_WAITING && phase_takes s.phase))

-- a number of its line that it has already
abbrev pub repeats : RState → Line → (number : ℕ) → Bool
repeats s line number = same_line line s.line && leb number s.last

abbrev pub with_next : RState → RState
with_next s = record s { last = s.last + 1; waiting = s.waiting + 1 }

abbrev pub update_heard : RState → Line → (number : ℕ) → Received
update_heard s line number =
    if takes s line number
    then record { state = with_next s; action = Take number }
    else record { state = s; action = if repeats s line number then IgnoredAck s.last else Ignored }

-- after a replay a receiver is consistent once it has applied the records up to its end
abbrev pub marked_by : RState → (applied : ℕ) → RState
marked_by s applied = if is_log_phase s.phase && leb s.end applied then record s { mark = Consistent } else s

-- the number up to which the records are applied where so many wait
abbrev pub applied_to : (last waiting : ℕ) → ℕ
applied_to last waiting = last - waiting

abbrev pub with_applied : RState → (left : ℕ) → Received
with_applied s left =
    record {
      state = marked_by (record s { waiting = left }) (applied_to s.last left);
      action = DataAck (applied_to s.last left);
    }

-- the next waiting records, or all of them where they are fewer, are applied; where none was nothing happens
abbrev pub records_applied : RState → (count : ℕ) → Received
records_applied s count =
    if eqb (min count s.waiting) 0 then record { state = s; action = Nothing } else with_applied s (s.waiting - count)

-- a crash loses the waiting records
abbrev pub site_restarted : RState → (last session : ℕ) → RState
site_restarted s last session = marked_by (record s { last = last; waiting = 0; session = session }) last

-- what this event makes of a receiver
abbrev pub received_step : RState → REvent → Received
received_step s (Update line number) = update_heard s line number
received_step s (Applied count) = records_applied s count
received_step s (Restart last session) = record { state = site_restarted s last session; action = Nothing }
