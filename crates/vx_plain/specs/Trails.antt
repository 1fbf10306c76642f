-- What an engine without volumes stands for.
use Rattle.std.specs.Prelude.{◌≡◌, ℕ, ◌<◌, false, List, [], ◌∷◌, ◌++◌, Option, Some, None, slice_get}
use Rattle.vx_model.specs.Answer.{answer_of}
use Rattle.vx_model.specs.declared.call.Call.{Call}
use Rattle.vx_model.specs.declared.call.Reply.TheVariants.{Refused}
use Rattle.vx_model.specs.declared.no.No.{No}
use Rattle.vx_turn.specs.declared.ask.Ask.{Ask}
use Rattle.vx_turn.specs.declared.ask.Said.{Said}
use Rattle.vx_turn.specs.declared.ask.Job.{Job}
use Rattle.vx_turn.specs.declared.ask.JobReply.{JobReply}
use Rattle.vx_model.specs.declared.call.Update.{Update}
use Rattle.vx_turn.specs.declared.meaning.Counts.{Counts}
use Rattle.vx_turn.specs.declared.meaning.State.{State}
use Rattle.vx_turn.specs.declared.slot.Last.{Last}
use Rattle.vx_turn.specs.Acting.{RepliesBy, NamesLink, SaysJob}
use Rattle.vx_turn.specs.Turning.{ask_in, said_in}
use Rattle.vx_turn.specs.Volumes.{as_content}
use Rattle.vx_settle.specs.Bringing.{Events}
use Rattle.vx_plain.specs.declared.peer.Idle.{Idle}
use Rattle.vx_plain.specs.declared.trail.Note.{Note, Note', Held-Note-before-1, None', Some'}

-- what was asked and said
abbrev pub event : Last → Ask × Said
event l = (ask_in l, said_in l)

abbrev pub events_in : Held-Note-before-1 → Events
events_in None' = []
events_in (Some' (Note' l marker held)) = events_in held ++ event l ∷ []

-- all that was asked and said, the first of it first
abbrev pub trail_of : Option Note → Events
trail_of None = []
trail_of (Some (Note' l marker held)) = events_in held ++ event l ∷ []

abbrev pub no_counts : Counts
no_counts = record { faults = 0; held = 0 }

-- an engine without volumes and with two links, behind these events
abbrev pub shut : Events → State
shut events = record { volumes = []; ring = 0; head = 0; applied = 0; line = record { generation = 0; origin = 0 }; kept = []; nets = 0 ∷ 0 ∷ []; counts = no_counts; halted = false; trail = events }

-- a call on no volumes is refused so
abbrev pub IsRefusedCall : Call → No → Type 0
IsRefusedCall call cause = RepliesBy (answer_of (as_content []) 0 call) 0 call (Refused cause) no_counts no_counts

-- a job whose link is one of the two is answered so
abbrev pub IsSaid : Job → JobReply → Type 0
IsSaid j reply = (xs ys : Events) (into : Update) → NamesLink 2 j → SaysJob (shut xs) j reply into (shut ys)

-- each is of one of two links
abbrev pub AreOfTwo : List Idle → Type 0
AreOfTwo peers = (i : ℕ) (p : Idle) → slice_get peers i ≡ Some p → p.link < 2
