-- How the message in assembly at a site stands for that of the world.
use Rattle.std.specs.Prelude.{◌≡◌, ℕ, List, Option, Some, slice_get, true, false}
use Rattle.vx_model.specs.Content.{Write}
use Rattle.vx_history.specs.Gatherings.{completes, left_by}
use Rattle.vx_history.specs.World.{Gathering, Packet, Update}
use Rattle.vx_packet.specs.Assemblies.{Assembled, HeldParts}
use Rattle.vx_packet.specs.Takings.{HoldsSome, key_of_message}
use Rattle.vx_packet.specs.declared.assembly.Taken.{Taken}
use Rattle.vx_packet.specs.declared.assembly.Taken.TheVariants as taken
use Rattle.vx_parts.specs.Spelling.{IsTied, spelled_message}
use Rattle.vx_courier.specs.UnderWay.{way_of}

-- what is in assembly are parts of a message that was sent to the site
pub record ComesFrom (ps : List Packet) (site : ℕ) (a : Assembled) (h : HeldParts) : Type 0 where
  pub place : ℕ
  pub packet : Packet
  pub there : slice_get ps place ≡ Some packet
  pub target : packet.target ≡ site
  pub key : h.key ≡ key_of_message (way_of packet) (spelled_message packet.message)
  pub some : HoldsSome (way_of packet) (spelled_message packet.message) a

-- it is what the world has there
pub record AssemblyStands (ps : List Packet) (site : ℕ) (g : Option Gathering) (a : Assembled) : Type 0 where
  pub tied : IsTied a.held g
  pub each : (h : HeldParts) → a.held ≡ Some h → ComesFrom ps site a h

-- all updates of one line and number carry one write, as in every good world
pub record AreOne (ps : List Packet) : Type 0 where
  pub each : (j k number : ℕ) (p q : Packet) (x y : Write) → slice_get ps j ≡ Some p → slice_get ps k ≡ Some q → p.line ≡ q.line
      → p.message ≡ Update number x → q.message ≡ Update number y → x ≡ y

-- A packet that was put to what is in assembly: another part is missing, or its message is whole.
abbrev pub IsPutTo : List Packet → (site : ℕ) → Option Gathering → Packet → Taken → Assembled → Type 0
IsPutTo ps site g p taken.Kept new = (completes g p ≡ false) × AssemblyStands ps site (left_by g p) new
IsPutTo ps site g p taken.Whole new = (completes g p ≡ true) × AssemblyStands ps site (left_by g p) new × (new.whole ≡ Some (spelled_message p.message))
IsPutTo ps site g p taken.Bad new = ⊥
