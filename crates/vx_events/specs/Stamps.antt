-- How often a site may have written the header of its log, and how many numbers an event of it may take.
use Rattle.std.specs.Prelude.{ℕ, ◌+◌, ◌-◌, ◌*◌, length}
use Rattle.vx_history.specs.World.{Node, World}
use Rattle.vx_history.specs.declared.event.Event.{Event}
use Rattle.vx_history.specs.declared.event.Event.TheVariants.{Apply}

-- no header of its log has a greater stamp, but for those that changes of its links wrote
abbrev pub most_stamp : Node → ℕ
most_stamp n = 4 * n.session + n.safe + 3

-- nor any header of the log of this site, of whatever kind
abbrev pub most_stamp_at : World → (site : ℕ) → ℕ
most_stamp_at w s = most_stamp (w.nodes s) + w.headers s

-- how many records wait at a site
abbrev pub waiting_of : Node → ℕ
waiting_of n = length n.log - n.safe

-- so many stamps at most are taken by an event that writes a header of this site's log, or by an apply of what waits there
abbrev pub stamps_of : Event → World → (site : ℕ) → ℕ
stamps_of (Apply s count reached) w site = waiting_of (w.nodes site)
stamps_of other w site = 2
