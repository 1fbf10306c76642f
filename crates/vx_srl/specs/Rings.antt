-- A log that stands on the shelf, and what a call leaves of it.
use Rattle.std.specs.Prelude.{◌≡◌, ◌+◌, ◌%◌, List, map}
use Rattle.vx_srlfmt.specs.declared.record.RecordHead.{RecordHead}
use Rattle.vx_disk.specs.Moves.{Moves, Run}
use Rattle.vx_disk.specs.Shelf.{Meaning, Image}
use Rattle.vx_ringlog.specs.Logs.{State, Call, IsLog, Found, behind_call}
use Rattle.vx_ringlog.specs.Records.{Record}
use Rattle.vx_ringio.specs.Classes.{classes}
use Rattle.vx_ringio.specs.Tracks.{Tracks}
use Rattle.vx_srl.specs.Views.{Log}
use Rattle.vx_srl.specs.declared.kept.Kept.{Kept}

abbrev pub heads_of : List Record → List RecordHead
heads_of rs = map (λ r. r.head) rs

abbrev pub kept_heads : List Kept → List RecordHead
kept_heads ks = map (λ k. k.head) ks

-- what is kept of the log in memory is what stands on its unit
pub record Describes (l : Log) (s : State) : Type 0 where
  pub header : s.header ≡ l.header
  pub here : s.here ≡ l.header.stamp % 2
  pub other : s.other ≡ (l.header.stamp + 1) % 2
  pub place : s.base % l.ring ≡ l.header.place
  pub held : heads_of s.held ≡ kept_heads l.held
  pub staged : heads_of s.staged ≡ kept_heads l.staged

-- the log stands on the shelf
pub record RingOn (l : Log) (s : State) (m : Meaning) : Type 0 where
  pub is_log : IsLog l.ring s
  pub tracks : Tracks l.unit l.ring s.unit m
  pub describes : Describes l s

-- of every log that stood there: an image in the call has it, or what the call makes of it
pub record Finding (l : Log) (call : State → Call) (m : Meaning) (i : Image) : Type 0 where
  pub each : (s : State) → RingOn l s m → Found l.ring s (call s) (classes l.unit l.ring i)

-- what a call may change, and what a crash in it leaves
abbrev pub RingGoes : Log → (State → Call) → Meaning → Meaning → Type 0
RingGoes l call old new = Moves (Run l.unit 0 (l.ring + 2)) (Finding l call old) old new

-- behind the call every log that stood there is what the call makes of it
pub record LeadsTo (l : Log) (call : State → Call) (after : Log) (old new : Meaning) : Type 0 where
  pub each : (s : State) → RingOn l s old → RingOn after (behind_call l.ring s (call s)) new
