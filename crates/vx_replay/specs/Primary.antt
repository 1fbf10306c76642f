-- What each event of a replay makes of a link at its sending end, and what then is to be done.
use Rattle.std.specs.Prelude.{ℕ, ◌-◌, Bool, true, false, ◌&&◌, eqb, leb, if◌then◌else◌}
use Rattle.vx_history.specs.KeptLinks.{kept_start}
use Rattle.vx_history.specs.Sending.{phase_overtaken, phase_logs}
use Rattle.vx_model.specs.declared.link.Link.{Link}
use Rattle.vx_model.specs.declared.link.Phase.{Phase}
use Rattle.vx_model.specs.declared.link.Phase.TheVariants.{Start, Regions, Done, Log as ByLogAgain}
use Rattle.vx_model.specs.declared.link.Mode.{Mode}
use Rattle.vx_model.specs.declared.link.Mode.TheVariants.{Log, Dcm, Replay, Fork, Stale}
use Rattle.vx_replay.specs.declared.event.PEvent.{PEvent}
use Rattle.vx_replay.specs.declared.event.PEvent.TheVariants.{Begin, Ack, Read, Stored, Pump, Restart}
use Rattle.vx_replay.specs.declared.event.PAction.{PAction}
use Rattle.vx_replay.specs.declared.event.PAction.TheVariants.{Nothing, Ignored, SendStart, SendDone, Finished}

-- a link after an event, and what its site then does
pub record AtPrimary : Type 0 where
  pub link : Link
  pub action : PAction

abbrev pub as_it_was : Link → PAction → AtPrimary
as_it_was l action = record { link = l; action = action }

abbrev pub in_mode : Link → Mode → PAction → AtPrimary
in_mode l mode action = record { link = record l { mode = mode }; action = action }

-- a replay begins from a change map, or from nothing
abbrev pub can_begin : Mode → Bool
can_begin Log = false
can_begin Dcm = true
can_begin (Replay id phase left start end) = false
can_begin (Fork maps) = false
can_begin Stale = true

abbrev pub begun : Link → (id head regions : ℕ) → AtPrimary
begun l id head regions = if can_begin l.mode then in_mode l (Replay id Start regions head head) SendStart else as_it_was l Nothing

abbrev pub phase_copies : Phase → Bool
phase_copies Start = false
phase_copies Regions = true
phase_copies Done = false
phase_copies ByLogAgain = false

abbrev pub phase_ends : Phase → Bool
phase_ends Start = false
phase_ends Regions = false
phase_ends Done = true
phase_ends ByLogAgain = false

-- with no region left the end of the copying follows
abbrev pub copying : (id left start end : ℕ) → Mode
copying id left start end = if eqb left 0 then Replay id Done left start end else Replay id Regions left start end

-- the receiver began this replay
abbrev pub start_heard : Link → (id : ℕ) → Mode → AtPrimary
start_heard l id Log = as_it_was l Ignored
start_heard l id Dcm = as_it_was l Ignored
start_heard l id (Replay of phase left start end) = if eqb id of && phase_overtaken phase then in_mode l (copying of left start end) Nothing else as_it_was l Ignored
start_heard l id (Fork maps) = as_it_was l Ignored
start_heard l id Stale = as_it_was l Ignored

-- it stored a region, of which the map tells whether it is still marked
abbrev pub region_heard : Link → (id : ℕ) → (marked : Bool) → Mode → AtPrimary
region_heard l id marked Log = as_it_was l Ignored
region_heard l id marked Dcm = as_it_was l Ignored
region_heard l id marked (Replay of phase left start end) =
    if eqb id of && (phase_copies phase && marked) then in_mode l (copying of (left - 1) start end) Nothing else as_it_was l Ignored
region_heard l id marked (Fork maps) = as_it_was l Ignored
region_heard l id marked Stale = as_it_was l Ignored

abbrev pub at_start : Link → (start : ℕ) → Mode → Link
at_start l start mode = record l { net = start; stored = start; sent = start; mode = mode }

-- the receiver stands at the start and goes on by the log, and the replay is over where no region was read later
abbrev pub filling : Link → (id left start end : ℕ) → AtPrimary
filling l id left start end =
    if leb end start
    then record { link = at_start l start Log; action = Finished }
    else record { link = at_start l start (Replay id ByLogAgain left start end); action = Nothing }

-- it has every region
abbrev pub done_heard : Link → (id : ℕ) → Mode → AtPrimary
done_heard l id Log = as_it_was l Ignored
done_heard l id Dcm = as_it_was l Ignored
done_heard l id (Replay of phase left start end) = if eqb id of && phase_ends phase then filling l of left start end else as_it_was l Ignored
done_heard l id (Fork maps) = as_it_was l Ignored
done_heard l id Stale = as_it_was l Ignored

abbrev pub acked : Link → (id kind : ℕ) → (marked : Bool) → AtPrimary
acked l id kind marked =
    if eqb kind 0
    then start_heard l id l.mode
    else if eqb kind 1 then region_heard l id marked l.mode else if eqb kind 2 then done_heard l id l.mode else as_it_was l Ignored

-- a region that is read while regions are copied puts the end to the site's last number
abbrev pub mode_read : (head : ℕ) → Mode → Mode
mode_read head Log = Log
mode_read head Dcm = Dcm
mode_read head (Replay id phase left start end) = Replay id phase left start (if phase_copies phase then head else end)
mode_read head (Fork maps) = Fork maps
mode_read head Stale = Stale

-- whether what is stored up to this number ends the replay
abbrev pub ends_at : (number : ℕ) → Mode → Bool
ends_at number Log = false
ends_at number Dcm = false
ends_at number (Replay id phase left start end) = phase_logs phase && leb end number
ends_at number (Fork maps) = false
ends_at number Stale = false

abbrev pub stored_up_to : Link → (number : ℕ) → AtPrimary
stored_up_to l number = if ends_at number l.mode then in_mode l Log Finished else as_it_was l Nothing

abbrev pub phase_sends : Phase → PAction
phase_sends Start = SendStart
phase_sends Regions = Nothing
phase_sends Done = SendDone
phase_sends ByLogAgain = Nothing

abbrev pub mode_sends : Mode → PAction
mode_sends Log = Nothing
mode_sends Dcm = Nothing
mode_sends (Replay id phase left start end) = phase_sends phase
mode_sends (Fork maps) = Nothing
mode_sends Stale = Nothing

-- a replay falls back to its map
abbrev pub mode_fallen : Mode → Mode
mode_fallen Log = Log
mode_fallen Dcm = Dcm
mode_fallen (Replay id phase left start end) = Dcm
mode_fallen (Fork maps) = Fork maps
mode_fallen Stale = Stale

-- what this event makes of a link
abbrev pub primary_step : Link → PEvent → AtPrimary
primary_step l (Begin id head regions) = begun l id head regions
primary_step l (Ack id kind marked) = acked l id kind marked
primary_step l (Read head) = in_mode l (mode_read head l.mode) Nothing
primary_step l (Stored number) = stored_up_to l number
primary_step l Pump = as_it_was l (mode_sends l.mode)
primary_step l Restart = in_mode l (mode_fallen l.mode) Nothing

-- the id of the replay of a link, its start and its end; 0 where there is none
abbrev pub id_in : Mode → ℕ
id_in Log = 0
id_in Dcm = 0
id_in (Replay id phase left start end) = id
id_in (Fork maps) = 0
id_in Stale = 0

abbrev pub end_in : Mode → ℕ
end_in Log = 0
end_in Dcm = 0
end_in (Replay id phase left start end) = end
end_in (Fork maps) = 0
end_in Stale = 0

-- the number up to which the receiver has all on disk, as an event tells: an answer tells no more than the replay's start
abbrev pub told_stored : Mode → PEvent → ℕ
told_stored mode (Begin id head regions) = 0
told_stored mode (Ack id kind marked) = kept_start mode
told_stored mode (Read head) = 0
told_stored mode (Stored number) = number
told_stored mode Pump = 0
told_stored mode Restart = 0
