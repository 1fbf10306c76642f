-- The numbers of its log that the links of a site need, and the room that its writes take there.
use Rattle.std.specs.Prelude.{◌≡◌, ℕ, ◌+◌, ◌-◌, ◌≤◌, min, Bool, true, false, ◌&&◌, List, drop, Some, slice_get}
use Rattle.vx_model.specs.Content.{Write}
use Rattle.vx_model.specs.declared.state.KeptLink.{KeptLink}
use Rattle.vx_model.specs.declared.state.KeptMode.{KeptMode}
use Rattle.vx_model.specs.declared.state.KeptMode.TheVariants.{Log as ByLog, Dcm, Replay, Fork, Stale}
use Rattle.vx_history.specs.Events.{logged_blocks}
use Rattle.vx_history.specs.World.{Node}
use Rattle.vx_srl.specs.Views.{Log, widths}

-- in these modes an attached link needs the numbers above its hold from the log
abbrev pub mode_needs : KeptMode → Bool
mode_needs ByLog = true
mode_needs Dcm = false
mode_needs Replay = true
mode_needs Fork = false
mode_needs Stale = false

-- the number up to which a link in this mode needs nothing of the log: a replay may need all above its start, or all that is not stored
abbrev pub kept_mode_hold : KeptMode → (start stored : ℕ) → ℕ
kept_mode_hold ByLog start stored = stored
kept_mode_hold Dcm start stored = stored
kept_mode_hold Replay start stored = min start stored
kept_mode_hold Fork start stored = stored
kept_mode_hold Stale start stored = stored

-- whether a link needs numbers of the log
abbrev pub is_needing : KeptLink → Bool
is_needing l = l.attached && mode_needs l.mode

abbrev pub hold_of : KeptLink → ℕ
hold_of l = kept_mode_hold l.mode l.start l.stored

-- none of these links needs a number up to this one
pub record NoneNeeds (links : List KeptLink) (number : ℕ) : Type 0 where
  pub each : (k : ℕ) (l : KeptLink) → slice_get links k ≡ Some l → is_needing l ≡ true → number ≤ hold_of l

-- from each number on that a log holds its records take as many blocks as these writes, of which the first has number 1
pub record TakesAs (l : Log) (xs : List Write) : Type 0 where
  pub each : (above : ℕ) → l.header.low ≤ above + 1 → widths (drop (above + 1 - l.header.low) l.held) ≡ logged_blocks (drop above xs)

-- the log of a site has room for a write of so many blocks beside all numbers above this one, and no link needs one up to it
pub record HasRoom (links : List KeptLink) (n : Node) (hold count : ℕ) : Type 0 where
  pub unneeded : NoneNeeds links hold
  pub room : count + 1 + logged_blocks (drop hold n.log) ≤ n.ring
