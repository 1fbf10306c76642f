-- The parts of one message, taken one after the other.
use Rattle.std.specs.Prelude.{◌≡◌, ℕ, ◌<◌, ◌⊎◌, false, List, [], ◌∷◌, length, Option, Some, None, slice_index_or}
use Rattle.vx_packet.specs.Assemblies.{Assembled, parts_before, TakesPart}
use Rattle.vx_packet.specs.Gathering.{Parts, all_parts_came}
use Rattle.vx_packet.specs.Messages.{row, payload_of, count_of_parts, chunk}
use Rattle.vx_packet.specs.Packets.{part_numbered}
use Rattle.vx_packet.specs.declared.assembly.Taken.{Taken}
use Rattle.vx_packet.specs.declared.assembly.Taken.TheVariants as taken
use Rattle.vx_packet.specs.declared.key.Key.{Key}
use Rattle.vx_packet.specs.declared.message.Envelope.{Envelope}
use Rattle.vx_packet.specs.declared.message.Message.{Message}

-- the key of a message's parts
unfoldable pub key_of_message : Envelope → Message → Key
key_of_message e m = record { source = e.source; kind = (row m).kind; line = e.line; session = (row m).session; number = (row m).number; parts = count_of_parts m }

-- the parts of a message that an assembly has
abbrev pub parts_in : Envelope → Message → Assembled → Parts
parts_in e m a = parts_before a.held (key_of_message e m)

-- what has come of a part is that part of the payload
abbrev pub IsChunk : List ℕ → ℕ → Option (List ℕ) → Type 0
IsChunk payload k None = Unit {0}
IsChunk payload k (Some bytes) = bytes ≡ chunk k payload

-- what an assembly has under the key of a message are parts of that message, and not all of them
pub record HoldsSome (e : Envelope) (m : Message) (a : Assembled) : Type 0 where
  pub count : length (parts_in e m a) ≡ count_of_parts m
  pub only : (k : ℕ) → k < count_of_parts m → IsChunk (payload_of m) k (slice_index_or (parts_in e m a) k None)
  pub missing : all_parts_came (parts_in e m a) ≡ false

-- these parts of a message are taken in this order, with these answers
abbrev pub Takings : Envelope → Message → Assembled → List ℕ → List Taken → Assembled → Type 0
Takings e m old [] [] new = old ≡ new
Takings e m old [] (t ∷ ts) new = ⊥
Takings e m old (k ∷ ks) [] new = ⊥
Takings e m old (k ∷ ks) (t ∷ ts) new = (middle : Assembled) × TakesPart old (part_numbered e m k) (chunk k (payload_of m)) t middle × Takings e m middle ks ts new

-- each is the number of a part
abbrev pub AreNumbers : ℕ → List ℕ → Type 0
AreNumbers count [] = Unit {0}
AreNumbers count (k ∷ ks) = (k < count) × AreNumbers count ks

-- the part is among them
abbrev pub Includes : List ℕ → ℕ → Type 0
Includes [] k = ⊥
Includes (n ∷ ks) k = (n ≡ k) ⊎ Includes ks k

-- none of the answers is Bad
abbrev pub NoneBad : List Taken → Type 0
NoneBad [] = Unit {0}
NoneBad (taken.Whole ∷ ts) = NoneBad ts
NoneBad (taken.Kept ∷ ts) = NoneBad ts
NoneBad (taken.Bad ∷ ts) = ⊥

-- one of the answers is Whole
abbrev pub SomeWhole : List Taken → Type 0
SomeWhole [] = ⊥
SomeWhole (taken.Whole ∷ ts) = Unit {0}
SomeWhole (taken.Kept ∷ ts) = SomeWhole ts
SomeWhole (taken.Bad ∷ ts) = SomeWhole ts
