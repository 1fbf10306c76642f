-- A group that receives, and the updates that wait in memory behind its last durable write.
use Rattle.std.specs.Prelude.{◌≡◌, ℕ, ◌+◌, ◌≤◌, Bool, true, ◌&&◌, leb, ltb, List, length, map, Some, slice_get}
use Rattle.vx_model.specs.Content.{Write, blocks_in}
use Rattle.vx_model.specs.declared.call.Update.{Update}
use Rattle.vx_model.specs.declared.limits.TheConstants.{MOST_WAITING}
use Rattle.vx_history.specs.declared.receiver.RState.{RState}
use Rattle.vx_rvg.specs.Contents.{write_of_update}
use Rattle.vx_rvg.specs.Views.{Core, last_of, unit_of}

abbrev pub writes_of_updates : List Update → List Write
writes_of_updates us = map write_of_update us

-- the group as the rule of receivers sees it, behind which these updates wait
abbrev pub receiver_of : Core → List Update → RState
receiver_of c us = record {
  line = c.log.header.state.line;
  last = last_of c + length us;
  waiting = length us;
  session = c.log.header.incarnation;
  mark = c.log.header.state.mark;
  phase = c.log.header.state.phase;
  replay = c.log.header.state.replay;
  end = c.log.header.state.end;
}

-- whether the group can log the write of an update: its volume is there, and its blocks lie within it and fit the ring
abbrev pub can_log : Core → (size : ℕ → ℕ) → Update → Bool
can_log c size u =
    ltb u.vol (length c.units.vols)
    && (leb (blocks_in u.bytes + 1) c.log.ring && leb (u.block + blocks_in u.bytes) (size (unit_of c.units.vols u.vol)))

-- updates that wait behind a group: they are of its line, their numbers follow its last one, and it can log each of them
pub record Wait (c : Core) (size : ℕ → ℕ) (us : List Update) : Type 0 where
  pub few : length us ≤ MOST_WAITING
  pub line : (k : ℕ) (u : Update) → slice_get us k ≡ Some u → u.line ≡ c.log.header.state.line
  pub number : (k : ℕ) (u : Update) → slice_get us k ≡ Some u → u.number ≡ last_of c + k + 1
  pub fits : (k : ℕ) (u : Update) → slice_get us k ≡ Some u → can_log c size u ≡ true
