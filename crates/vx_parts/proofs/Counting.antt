-- Both counts of parts are one.
use Rattle.std.proofs.Common.{◌≡◌, ◌∙◌, ℕ, zero, suc, ◌+◌, ◌/◌, [], ◌∷◌, length, max, ap, refl, arith, length-append}
use Rattle.std.specs.Prelude.{pred}
use Rattle.vx_model.specs.declared.history.Line.{Line}
use Rattle.vx_history.specs.World.{Message, Key, Hello, Update, NetAck, DataAck}
use Rattle.vx_history.specs.Sends.{payload_size, parts_of}
use Rattle.vx_history.specs.Gatherings.{message_key}
use Rattle.vx_packet.specs.Messages.{payload_of, part_count, count_of_parts as parts_in_bytes}
use Rattle.vx_packet.specs.Takings.{key_of_message as key_of_bytes}
use Rattle.vx_wire.specs.Fields.{spelled as spelled_fields}
use Rattle.vx_wire.specs.Numbers.{be_bytes}
use Rattle.vx_wire.specs.declared.field.Field.TheVariants.{U32, U64}
use Rattle.vx_parts.specs.Spelling.{spelled_message, key_in_bytes}

-- the numbers of an update's payload are 16 bytes
fields_long : (volume start blocks : ℕ) → length (spelled_fields (U32 volume ∷ U64 start ∷ U32 blocks ∷ [])) ≡ 16
unfolding spelled_fields be_bytes
fields_long volume start blocks = refl

one_long : (n : ℕ) → length (spelled_fields (U64 n ∷ [])) ≡ 8
unfolding spelled_fields be_bytes
one_long n = refl

none_long : length (spelled_fields []) ≡ 0
unfolding spelled_fields
none_long = refl

-- a payload is as long as the world says
size_is : (m : Message) → length (payload_of (spelled_message m)) ≡ payload_size m
unfolding payload_of
size_is (Hello session number stored) = omega (arith, length-append {A = ℕ} (spelled_fields (U64 stored ∷ [])) [], one_long stored)
size_is (Update number x) =
    omega (
      arith,
      length-append (spelled_fields (U32 x.volume ∷ U64 x.start ∷ U32 (length x.bytes / 512) ∷ [])) x.bytes,
      fields_long x.volume x.start (length x.bytes / 512),
    )
size_is (NetAck session number) = omega (arith, length-append {A = ℕ} (spelled_fields []) [], none_long)
size_is (DataAck number) = omega (arith, length-append {A = ℕ} (spelled_fields []) [], none_long)

-- a count of parts that is at least one
at_least_one : (n : ℕ) → max 1 n ≡ suc (pred n)
at_least_one zero = refl
at_least_one (suc n) = let e : max 1 (suc n) ≡ suc n = omega arith in e

pub parts_are : (m : Message) → parts_in_bytes (spelled_message m) ≡ parts_of m
unfolding parts_in_bytes
parts_are m = ap part_count (size_is m) ∙ at_least_one ((payload_size m + 1023) / 1024)

pub key_is : (source target : ℕ) (line : Line) (m : Message) → key_in_bytes source target line m ≡ message_key source line m
unfolding key_of_bytes
key_is source target line (Hello session number stored) =
    ap (λ (n : ℕ). let k : Key = record { source = source; kind = 1; line = line; session = session; number = number; parts = n } in k)
    (parts_are (Hello session number stored))
key_is source target line (Update number x) =
    ap (λ (n : ℕ). let k : Key = record { source = source; kind = 2; line = line; session = 0; number = number; parts = n } in k) (parts_are (Update number x))
key_is source target line (NetAck session number) =
    ap (λ (n : ℕ). let k : Key = record { source = source; kind = 3; line = line; session = session; number = number; parts = n } in k)
    (parts_are (NetAck session number))
key_is source target line (DataAck number) =
    ap (λ (n : ℕ). let k : Key = record { source = source; kind = 4; line = line; session = 0; number = number; parts = n } in k) (parts_are (DataAck number))
