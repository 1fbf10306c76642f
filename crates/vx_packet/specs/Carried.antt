-- What an assembly has, where all of it came in packets.
use Rattle.std.specs.Prelude.{◌≡◌, ℕ, ◌+◌, ◌<◌, ◌≤◌, List, length, Option, Some, None, slice_index_or}
use Rattle.vx_model.specs.declared.limits.TheConstants.{PART_BYTES}
use Rattle.vx_packet.specs.Assemblies.{HeldParts, Assembled}
use Rattle.vx_packet.specs.declared.message.Envelope.{Envelope}
use Rattle.vx_packet.specs.declared.part.Part.{Part}

-- a payload as long as the k-th of so many parts is
pub record IsCarried (count k : ℕ) (payload : List ℕ) : Type 0 where
  pub full : k + 1 < count → length payload ≡ PART_BYTES
  pub few : length payload ≤ PART_BYTES
  pub some : 1 < count → 0 < length payload

abbrev pub MayCarry : ℕ → ℕ → Option (List ℕ) → Type 0
MayCarry count k None = Unit {0}
MayCarry count k (Some payload) = IsCarried count k payload

-- the parts of the message in assembly are as many as its key says, and as long as packets carry them
pub record CameInPackets (a : Assembled) : Type 0 where
  pub count : (h : HeldParts) → a.held ≡ Some h → length h.parts ≡ h.key.parts
  pub lengths : (h : HeldParts) → a.held ≡ Some h → (k : ℕ) → k < 65 → MayCarry h.key.parts k (slice_index_or h.parts k None)

-- the sites and the line of a part
abbrev pub envelope_of : Part → Envelope
envelope_of p = record { source = p.source; target = p.target; line = p.line }
