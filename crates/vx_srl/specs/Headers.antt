-- The headers that a log writes.
use Rattle.std.specs.Prelude.{ℕ, ◌+◌, take}
use Rattle.vx_model.specs.declared.state.State.{State}
use Rattle.vx_srlfmt.specs.declared.header.Header.{Header}
use Rattle.vx_srl.specs.Views.{Log, count_to, place_after, last_incarnation}

-- that of a new log, behind a record of this number; the other header block has the same with stamp 1
abbrev pub new_header : State → ℕ → Header
new_header state head = record { stamp = 2; state = state; incarnation = 1; floor = 0; run = 1; low = head + 1; place = 0; applied = head }

-- with a new state
abbrev pub with_header_state : Log → State → Header
with_header_state l state = record l.header { stamp = l.header.stamp + 1; state = state }

-- without the records up to a number
abbrev pub without : Log → ℕ → Header
without l to = record l.header {
  stamp = l.header.stamp + 1;
  low = to + 1;
  place = place_after l.ring l.header.place (take (count_to l to) l.held);
  floor = last_incarnation l.header.floor (take (count_to l to) l.held);
  applied = to;
}

-- of an emptied log, behind a record of this number
abbrev pub emptied_header : Log → State → ℕ → Header
emptied_header l state head = record l.header {
  stamp = l.header.stamp + 1;
  state = state;
  floor = l.header.incarnation;
  run = l.header.run + 1;
  low = head + 1;
  place = 0;
  applied = head;
}

-- of a log that is started: the next incarnation, and a stamp that is so much greater
abbrev pub raised : Header → ℕ → Header
raised h by = record h { stamp = h.stamp + by; incarnation = h.incarnation + 1 }
