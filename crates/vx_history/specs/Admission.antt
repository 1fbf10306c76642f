-- Whether a write is let in: by the links of its site in the order of their making, and the room that each leaves in the log.
use Rattle.std.specs.Prelude.{ℕ, ◌+◌, Bool, true, false, not, ◌&&◌, ltb, List, [], ◌∷◌, zip, Option, Some, None, if◌then◌else◌}
use Rattle.vx_history.specs.declared.admission.FullLog.{FullLog}
use Rattle.vx_history.specs.declared.admission.FullLog.TheVariants.{Stalls, Fails, TurnsStale, TurnsDcm}
use Rattle.vx_history.specs.declared.admission.Change.{Change}
use Rattle.vx_history.specs.declared.admission.Change.TheVariants.{Stays, ToStale, ToDcm}
use Rattle.vx_model.specs.declared.link.Link.{Link}
use Rattle.vx_model.specs.declared.link.SyncMode.{SyncMode}
use Rattle.vx_model.specs.declared.link.SyncMode.TheVariants.{Off as NeverWaits, Override as WaitsIfLive, Fail as FailsIfNotLive}
use Rattle.vx_model.specs.declared.link.Prot.{Prot}
use Rattle.vx_model.specs.declared.link.Prot.TheVariants.{Off, Override, Fail, Dcm as MapIfCut, Autodcm}
use Rattle.vx_model.specs.declared.link.Phase.{Phase}
use Rattle.vx_model.specs.declared.link.Phase.TheVariants.{Start, Regions, Done, Log as ByLogAgain}
use Rattle.vx_model.specs.declared.link.Mode.{Mode}
use Rattle.vx_model.specs.declared.link.Mode.TheVariants.{Log, Dcm, Replay, Fork, Stale}

-- attached, connected and not paused
abbrev pub is_live_link : Link → Bool
is_live_link l = l.attached && (l.connected && not l.paused)

abbrev pub is_log : Mode → Bool
is_log Log = true
is_log Dcm = false
is_log (Replay id phase left start end) = false
is_log (Fork maps) = false
is_log Stale = false

abbrev pub is_fail : SyncMode → Bool
is_fail NeverWaits = false
is_fail WaitsIfLive = false
is_fail FailsIfNotLive = true

-- whether a write can't be confirmed as the link says it has to be: attached, synchronous=fail, and not live or not in mode Log
abbrev pub is_down : Link → Bool
is_down l = l.attached && (is_fail l.sync && not (is_live_link l && is_log l.mode))

-- in these modes an attached link needs the numbers above its hold from the log
abbrev pub mode_holds : Mode → Bool
mode_holds Log = true
mode_holds Dcm = false
mode_holds (Replay id phase left start end) = true
mode_holds (Fork maps) = false
mode_holds Stale = false

abbrev pub is_holding : Link → Bool
is_holding l = l.attached && mode_holds l.mode

-- the hold of a replay in this phase, which began at `start`, where its site has stored up to `stored`
abbrev pub replay_hold : Phase → (start stored : ℕ) → ℕ
replay_hold Start start stored = start
replay_hold Regions start stored = start
replay_hold Done start stored = start
replay_hold ByLogAgain start stored = stored

-- the number up to which a link has no need of the log
abbrev pub mode_hold : Mode → (stored : ℕ) → ℕ
mode_hold Log stored = stored
mode_hold Dcm stored = stored
mode_hold (Replay id phase left start end) stored = replay_hold phase start stored
mode_hold (Fork maps) stored = stored
mode_hold Stale stored = stored

abbrev pub hold : Link → ℕ
hold l = mode_hold l.mode l.stored

-- the link leaves too little room: the write needs more than is left of the log's room beside the numbers above the hold
abbrev pub blocks : (need room : ℕ) → Link → (used : ℕ) → Bool
blocks need room l used = is_holding l && ltb room (need + used)

-- by what the link says of a full log, and whether it is live
abbrev pub full_log : Prot → (live : Bool) → FullLog
full_log Off live = TurnsStale
full_log Override true = Stalls
full_log Override false = TurnsStale
full_log Fail true = Stalls
full_log Fail false = Fails
full_log MapIfCut true = Stalls
full_log MapIfCut false = TurnsDcm
full_log Autodcm live = TurnsDcm

abbrev pub full_log_of : Link → FullLog
full_log_of l = full_log l.prot (is_live_link l)

-- why a write is not let in, and the number of the link's site
pub data Held : Type 0 where
  Link_is_down : (site : ℕ) → Held
  Log_is_full : (site : ℕ) → Held
  Log_stalls : (site : ℕ) → Held

-- a write is held, or it is let in with these changes of the links, in their order
pub data Admitted : Type 0 where
  Held_by : (why : Held) → Admitted
  Goes : (changes : List Change) → Admitted

-- the first link that is down
abbrev pub first_down : List Link → Option Held
first_down [] = None
first_down (l ∷ ls) = if is_down l then Some (Link_is_down l.site) else first_down ls

abbrev pub held_when_full : FullLog → (site : ℕ) → Option Held
held_when_full Stalls site = Some (Log_stalls site)
held_when_full Fails site = Some (Log_is_full site)
held_when_full TurnsStale site = None
held_when_full TurnsDcm site = None

abbrev pub held_by_room : (need room : ℕ) → Link → (used : ℕ) → Option Held
held_by_room need room l used = if blocks need room l used then held_when_full (full_log_of l) l.site else None

abbrev pub or_else : Option Held → Option Held → Option Held
or_else (Some why) other = Some why
or_else None other = other

-- the first link that blocks and that says stall or fail; each link stands beside the blocks of the numbers above its hold
abbrev pub first_full : (need room : ℕ) → List (Link × ℕ) → Option Held
first_full need room [] = None
first_full need room ((l, used) ∷ rest) = or_else (held_by_room need room l used) (first_full need room rest)

-- a bunker keeps no map
abbrev pub change_by : FullLog → (bunker : Bool) → Change
change_by Stalls bunker = Stays
change_by Fails bunker = Stays
change_by TurnsStale bunker = ToStale
change_by TurnsDcm true = ToStale
change_by TurnsDcm false = ToDcm

abbrev pub change : (need room : ℕ) → Link → (used : ℕ) → Change
change need room l used = if blocks need room l used then change_by (full_log_of l) l.bunker else Stays

abbrev pub changes : (need room : ℕ) → List (Link × ℕ) → List Change
changes need room [] = []
changes need room ((l, used) ∷ rest) = change need room l used ∷ changes need room rest

-- with no refusal the write goes, and these links change
abbrev pub unless_held : Option Held → Admitted → Admitted
unless_held (Some why) other = Held_by why
unless_held None other = other

-- The rule: first a link that is down holds the write, then a link without room that says so; else all links without
-- room are changed, and the write is let in. `need` is the blocks of the write and one more, `room` those of the ring.
abbrev pub admit : (need room : ℕ) → List Link → (used : List ℕ) → Admitted
admit need room links used =
    unless_held (first_down links)
    (unless_held (first_full need room (zip links used)) (Goes (changes need room (zip links used))))

-- the mode of a link after a write was let in
abbrev pub changed_mode : Change → Mode → Mode
changed_mode Stays mode = mode
changed_mode ToStale mode = Stale
changed_mode ToDcm mode = Dcm

abbrev pub changed : Change → Link → Link
changed c l = record l { mode = changed_mode c l.mode }
