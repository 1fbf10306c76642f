-- What the messages of a replay make of the group that receives it.
use Rattle.std.specs.Prelude.{◌≡◌, ◌⊎◌, ℕ, ◌+◌, ◌≤◌, Bool, true, false, ◌&&◌, leb, List, length, take, None}
use Rattle.vx_model.specs.Content.{Write}
use Rattle.vx_model.specs.declared.call.Update.{Update}
use Rattle.vx_model.specs.declared.site.Mark.{Mark}
use Rattle.vx_model.specs.declared.site.Mark.TheVariants.{Consistent, Inconsistent}
use Rattle.vx_model.specs.declared.state.State.{State as SiteState}
use Rattle.vx_history.specs.Receiving.{is_log_phase}
use Rattle.vx_history.specs.declared.receiver.RState.{RState}
use Rattle.vx_disk.specs.Moves.{Moves}
use Rattle.vx_disk.specs.Shelf.{Image, Meaning}
use Rattle.vx_replay.specs.Secondary.{AtReceiver, secondary_step}
use Rattle.vx_replay.specs.declared.event.QEvent.{QEvent}
use Rattle.vx_rvg.specs.Holdings.{Holding}
use Rattle.vx_rvg.specs.Stands.{FoundGroup, Stands}
use Rattle.vx_rvg.specs.Views.{Core, last_of}
use Rattle.vx_secondary.specs.Logging.{Grows, Own}
use Rattle.vx_secondary.specs.Receivers.{receiver_of}

-- what the rule makes of the group with its waiting updates
abbrev pub replay_heard : Core → List Update → QEvent → AtReceiver
replay_heard c us e = secondary_step (receiver_of c us) e

-- what the log keeps of the site, with the marks of a receiver
abbrev pub told_state : SiteState → RState → SiteState
told_state s r = record s { mark = r.mark; phase = r.phase; replay = r.replay; end = r.end }

-- An image has the group with a first part of these writes under the state that it had, or with all of them under this one.
abbrev pub FoundBegun : Core → List Write → SiteState → (stamp count : ℕ) → Image → Holding → Type 0
FoundBegun c xs state stamp count i k =
    FoundGroup c.units c.log.ring c.log.header.state c.log.header.incarnation stamp i k ⊎ ((length xs ≤ count) × FoundGroup c.units c.log.ring state c.log.header.incarnation stamp i k)

-- Of whatever the group held: an image in the begin of a replay has it with a first part of these writes, and the new state only behind all
-- of them.
pub record CopyBegin (c : Core) (xs : List Write) (state : SiteState) (stamp : ℕ) (m : Meaning) (i : Image) : Type 0 where
  pub each : (h : Holding) → Stands c h m → (n : ℕ) × ((k : Holding) × (Grows (take n xs) h k × FoundBegun c xs state stamp n i k))

-- whatever the begin of a replay answers
pub record BeginsCopy (xs : List Write) (state : SiteState) (c c' : Core) (m m' : Meaning) : Type 0 where
  pub units : c'.units ≡ c.units
  pub ring : c'.log.ring ≡ c.log.ring
  pub session : c'.log.header.incarnation ≡ c.log.header.incarnation
  pub stamp : c.log.header.stamp ≤ c'.log.header.stamp
  pub moves : Moves (Own c) (CopyBegin c xs state (c'.log.header.stamp + 1) m) m m'

-- and where it is begun: all of these writes are logged, and the log keeps the state
pub record BegunCopy (xs : List Write) (state : SiteState) (c c' : Core) (m m' : Meaning) : Type 0 where
  pub state_is : c'.log.header.state ≡ state
  pub last : last_of c' ≡ last_of c + length xs
  pub running : c'.halted ≡ None
  pub holds : (h : Holding) → Stands c h m → (k : Holding) × (Grows xs h k × Stands c' k m')

abbrev pub is_inconsistent : Mark → Bool
is_inconsistent Consistent = false
is_inconsistent Inconsistent = true

-- whether a group that goes by its log behind a replay has all up to the replay's end, and its log does not keep yet that it is consistent
abbrev pub mark_is_due : SiteState → (last : ℕ) → Bool
mark_is_due s last = is_log_phase s.phase && (leb s.end last && is_inconsistent s.mark)

-- with the mark that says so
abbrev pub consistent_state : SiteState → SiteState
consistent_state s = record s { mark = Consistent }
