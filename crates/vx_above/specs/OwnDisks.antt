-- A world with the disks of one of its sites as they are made to fail in another world.
use Rattle.std.specs.Prelude.{ℕ, Bool}
use Rattle.vx_history.specs.Doubts.{Doubted}
use Rattle.vx_history.specs.World.{World}
use Rattle.vx_events.specs.Doubts.{with_disks}

-- this world with the disks of a site that are made to fail, where it turned out to be what it was in doubt of
abbrev pub own_disks : (taken : Bool) → (s : ℕ) → World → Doubted → Doubted
own_disks taken s w h = record h { world = with_disks taken s w h.world }
