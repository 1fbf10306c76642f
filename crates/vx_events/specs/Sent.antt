-- The packets that a line puts into the network.
use Rattle.std.specs.Prelude.{ℕ, suc, length, Option, Some, None, nat_lt, if◌then◌else◌}
use Rattle.vx_history.specs.World.{World}

-- the numbers of the first and the last packet that were sent between two worlds, the second of which comes of the first
abbrev pub sent_between : World → World → Option (ℕ × ℕ)
sent_between w new = if nat_lt (length w.packets) (length new.packets) then Some (suc (length w.packets), length new.packets) else None
