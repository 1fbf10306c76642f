-- What each event makes of a link at its sending end, and what then is to be done.
use Rattle.std.specs.Prelude.{ℕ, ◌+◌, max, min, Bool, true, false, ◌&&◌, eqb, ltb, if◌then◌else◌}
use Rattle.vx_history.specs.Admission.{is_live_link}
use Rattle.vx_model.specs.declared.limits.TheConstants.{MOST_AHEAD}
use Rattle.vx_model.specs.declared.link.Link.{Link}
use Rattle.vx_model.specs.declared.link.Phase.{Phase}
use Rattle.vx_model.specs.declared.link.Phase.TheVariants.{Start, Regions, Done, Log as ByLogAgain}
use Rattle.vx_model.specs.declared.link.Mode.{Mode}
use Rattle.vx_model.specs.declared.link.Mode.TheVariants.{Log, Dcm, Replay, Fork, Stale}
use Rattle.vx_history.specs.declared.sender.SEvent.{SEvent}
use Rattle.vx_history.specs.declared.sender.SEvent.TheVariants.{Pump, Tick, Hello, NetAck, DataAck, Connect, Cut, Pause, Resume, Restart}
use Rattle.vx_history.specs.declared.sender.SFacts.{SFacts}
use Rattle.vx_history.specs.declared.sender.Action.{Action}
use Rattle.vx_history.specs.declared.sender.Action.TheVariants.{Nothing, Ignored, Taken, Updates}

-- a link after an event, and what its site then does
pub record Sent : Type 0 where
  pub link : Link
  pub action : Action

abbrev pub with_nothing : Link → Sent
with_nothing l = record { link = l; action = Nothing }

abbrev pub with_taken : Link → Sent
with_taken l = record { link = l; action = Taken }

abbrev pub with_ignored : Link → Sent
with_ignored l = record { link = l; action = Ignored }

abbrev pub phase_logs : Phase → Bool
phase_logs Start = false
phase_logs Regions = false
phase_logs Done = false
phase_logs ByLogAgain = true

-- whether the link's writes go by the log: in mode Log, and in a replay's phase Log
abbrev pub by_log : Mode → Bool
by_log Log = true
by_log Dcm = false
by_log (Replay id phase left start end) = phase_logs phase
by_log (Fork maps) = false
by_log Stale = false

-- A live link by the log sends what its receiver may lack, so many numbers past the last acknowledged one at most, and nothing that is not
-- durable.
abbrev pub pumped_up_to : Link → (low high : ℕ) → Sent
pumped_up_to l low high =
    if ltb low high
    then record { link = record l { sent = high }; action = Updates (low + 1) high }
    else with_nothing (record l { sent = low })

abbrev pub pumped : Link → (safe : ℕ) → Sent
pumped l safe = if is_live_link l && by_log l.mode then pumped_up_to l (max l.sent l.stored) (min safe (l.net + MOST_AHEAD)) else with_nothing l

-- sending begins again behind what is acknowledged
abbrev pub ticked : Link → Link
ticked l = record l { sent = l.net; trimmed = 0 }

-- by the log: a new session forgets what the former one had in memory
abbrev pub greeted_anew : Link → (session number stored : ℕ) → Link
greeted_anew l session number stored = record l { session = session; stored = stored; net = max number stored; sent = max number stored }

abbrev pub greeted_by_log : Link → (session number stored : ℕ) → Link
greeted_by_log l session number stored =
    if ltb l.session session
    then greeted_anew l session number (max l.stored stored)
    else record l { net = max l.net number; stored = max l.stored stored }

abbrev pub phase_overtaken : Phase → Bool
phase_overtaken Start = true
phase_overtaken Regions = false
phase_overtaken Done = false
phase_overtaken ByLogAgain = false

-- a replay that has not begun to copy falls back to its map where its receiver came further than its start by another way
abbrev pub mode_overtaken : Mode → (number : ℕ) → Mode
mode_overtaken Log number = Log
mode_overtaken Dcm number = Dcm
mode_overtaken (Replay id phase left start end) number = if phase_overtaken phase && ltb start number then Dcm else Replay id phase left start end
mode_overtaken (Fork maps) number = Fork maps
mode_overtaken Stale number = Stale

-- by no log: of what a new session tells only the session itself is kept
abbrev pub greeted_apart : Link → (session number : ℕ) → Link
greeted_apart l session number =
    if ltb l.session session
    then record l { session = session; net = l.stored; mode = mode_overtaken l.mode number }
    else record l { mode = mode_overtaken l.mode number }

abbrev pub greeted : Link → (session number stored : ℕ) → Sent
greeted l session number stored =
    if ltb session l.session
    then with_ignored l
    else with_taken (if by_log l.mode then greeted_by_log l session number stored else greeted_apart l session number)

-- an acknowledgement from memory counts in its session alone, and where it tells something new
abbrev pub memory_acknowledged : Link → (session number : ℕ) → Sent
memory_acknowledged l session number =
    if by_log l.mode && (eqb session l.session && ltb l.net number) then with_taken (record l { net = number }) else with_ignored l

abbrev pub disk_acknowledged : Link → (number : ℕ) → Sent
disk_acknowledged l number =
    if by_log l.mode && ltb l.stored number then with_taken (record l { stored = number; net = max l.net number }) else with_ignored l

-- what a recovery of the sending site makes of a mode: a replay begins again from its map, and the maps of a fork come again
abbrev pub mode_restarted : Mode → Mode
mode_restarted Log = Log
mode_restarted Dcm = Dcm
mode_restarted (Replay id phase left start end) = Dcm
mode_restarted (Fork maps) = Fork 0
mode_restarted Stale = Stale

abbrev pub restarted : Link → Link
restarted l =
    record l {
      connected = false;
      paused = false;
      session = 0;
      net = l.stored;
      sent = l.stored;
      trimmed = 0;
      mode = mode_restarted l.mode;
    }

-- a message of another line is ignored
abbrev pub if_on_line : SFacts → Link → Sent → Sent
if_on_line facts l heard = if facts.line_ok then heard else with_ignored l

-- what this event makes of a link
abbrev pub sent_step : Link → SEvent → SFacts → Sent
sent_step l Pump facts = pumped l facts.safe
sent_step l Tick facts = with_nothing (ticked l)
sent_step l (Hello session number stored) facts = if_on_line facts l (greeted l session number stored)
sent_step l (NetAck session number) facts = if_on_line facts l (memory_acknowledged l session number)
sent_step l (DataAck number) facts = if_on_line facts l (disk_acknowledged l number)
sent_step l Connect facts = with_nothing (record l { connected = true })
sent_step l Cut facts = with_nothing (record l { connected = false })
sent_step l Pause facts = with_nothing (record l { paused = true })
sent_step l Resume facts = with_nothing (record l { paused = false })
sent_step l Restart facts = with_nothing (restarted l)
