-- Which packets an event has sent.
use Rattle.std.specs.Prelude.{ℕ, ◌+◌, ltb, List, length, Option, Some, None, if◌then◌else◌}
use Rattle.vx_history.specs.World.{Packet}

-- the first and the last number of the packets that came to these, if any did
abbrev pub numbers_sent : (old new : List Packet) → Option (ℕ × ℕ)
numbers_sent old new = if ltb (length old) (length new) then Some (length old + 1, length new) else None
