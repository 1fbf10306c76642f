-- What holds of the messages that sites put together.
use Rattle.std.specs.Prelude.{◌≡◌, ◌<◌, ℕ, false, List, length, slice_get, Option, Some, None}
use Rattle.std.specs.List.{AllByRecursion}
use Rattle.vx_model.specs.declared.site.SiteState.TheVariants.{Up}
use Rattle.vx_history.specs.World.{Node, Packet, Gathering, World}
use Rattle.vx_history.specs.Gatherings.{key_of, all_came}
use Rattle.vx_history.specs.Sends.{parts_of}

-- a packet carries one of the parts of its message
abbrev pub IsPart : Packet → Type 0
IsPart p = p.part < parts_of p.message

-- a part of a message with this key was sent to the site
pub record WasSent (i : ℕ) (ps : List Packet) (g : Gathering) : Type 0 where
  pub place : ℕ
  pub packet : Packet
  pub is : slice_get ps place ≡ Some packet
  pub target : packet.target ≡ i
  pub key : key_of packet ≡ g.key

-- Fact 13. A message in assembly is one that was sent to its site, which is up; it has a place for each of its parts, of which some has
-- not come. So a message that is sent from its first part on is whole with its last part, if it was not before.
pub record GoodGathering (i : ℕ) (n : Node) (ps : List Packet) (g : Gathering) : Type 0 where
  pub up : n.state ≡ Up
  pub places : length g.came ≡ g.key.parts
  pub missing : all_came g.came ≡ false
  pub sent : WasSent i ps g

abbrev pub MayGather : ℕ → Node → List Packet → Option Gathering → Type 0
MayGather i n ps None = Unit {0}
MayGather i n ps (Some g) = GoodGathering i n ps g

pub record Gathers (w : World) : Type 0 where
  pub parts : AllByRecursion IsPart w.packets
  pub each : (i : ℕ) → MayGather i (w.nodes i) w.packets (w.gathering i)
