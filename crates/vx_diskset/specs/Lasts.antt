-- A log on disk that has the last of a site's writes.
use Rattle.std.specs.Prelude.{◌≡◌, ℕ, ◌+◌, ◌-◌, ◌<◌, ◌≤◌, List, length, drop}
use Rattle.vx_model.specs.declared.limits.TheConstants.{MOST_CALL_BLOCKS}
use Rattle.vx_model.specs.Content.{Content, Write}
use Rattle.vx_model.specs.declared.state.State.{State}
use Rattle.vx_model.specs.declared.units.Units.{Units}
use Rattle.vx_history.specs.Events.{logged_blocks}
use Rattle.vx_disk.specs.Shelf.{Meaning, Image}
use Rattle.vx_rvg.specs.Holdings.{Holding}
use Rattle.vx_rvg.specs.Stands.{FoundGroup, LeftGroup, Stands}
use Rattle.vx_rvg.specs.Views.{Core}
use Rattle.vx_diskset.specs.Needs.{NoneNeeds}

-- a group with so many ring blocks holds this content, and of these writes, of which the first has number 1, the last ones
pub record HasLast (ring : ℕ) (xs : List Write) (c : Content) (h : Holding) : Type 0 where
  pub some : 0 < h.low
  pub last : h.low + length h.writes ≡ length xs + 1
  pub writes : h.writes ≡ drop (h.low - 1) xs
  pub content : h.content ≡ c
  -- while there is room for the largest write beside all of them, it holds all, from the beginning of the ring on
  pub whole : logged_blocks xs + (MOST_CALL_BLOCKS + 1) ≤ ring → (h.low ≡ 1) × (h.place ≡ 0)

-- a group that stands with them, and with all that its links need
pub record StandsHolding (core : Core) (xs : List Write) (c : Content) (m : Meaning) : Type 0 where
  pub held : Holding
  pub has : HasLast core.log.ring xs c held
  pub needs : NoneNeeds core.log.header.state.links (held.low - 1)
  pub stands : Stands core held m

-- an image has them
pub record FoundWith (units : Units) (ring : ℕ) (state : State) (session stamp : ℕ) (i : Image) (xs : List Write) (c : Content) : Type 0 where
  pub held : Holding
  pub has : HasLast ring xs c held
  pub needs : NoneNeeds state.links (held.low - 1)
  pub found : FoundGroup units ring state session stamp i held

-- a crash left them
pub record LeftWith (units : Units) (ring : ℕ) (state : State) (session stamp : ℕ) (xs : List Write) (c : Content) (m : Meaning) : Type 0 where
  pub held : Holding
  pub has : HasLast ring xs c held
  pub needs : NoneNeeds state.links (held.low - 1)
  pub left : LeftGroup units ring state session stamp held m
