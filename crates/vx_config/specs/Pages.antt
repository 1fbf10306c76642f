-- Bytes put behind others, as far as there is room.
use Rattle.std.specs.Prelude.{ℕ, List, ◌++◌, take}
use Rattle.vx_model.specs.declared.limits.TheConstants.{MOST_CONFIG_BYTES}

-- the room of a page: that of the body of an area
abbrev pub room : ℕ
room = MOST_CONFIG_BYTES

-- some bytes with others behind them, cut off where the page ends
unfoldable pub onto : List ℕ → List ℕ → List ℕ
onto front text = take room (front ++ text)
