-- What the disks did of a line that makes a site or crashes it, as the events of the world.
use Rattle.std.proofs.Common.{ℕ}
use Rattle.vx_events.specs.Lists.{Choice}

abbrev pub first_choice : Choice
first_choice = record { kept = 0; reached = 0 }

abbrev pub keeps_k : ℕ → Choice
keeps_k k = record { kept = k; reached = 0 }
