-- Keys, and the message that one stands for.
use Rattle.std.proofs.Common.{◌≡◌, ℕ, Bool, true, false, length, refl, arith, Option, Some, None}
use Rattle.std.specs.Prelude.{◌&&◌, ◌==◌}
use Rattle.std.proofs.lemmas.Bool.Decides.{nat_tests}
use Rattle.vx_packet.specs.Gathering.{Parts}
use Rattle.vx_packet.specs.Assemblies.{HeldParts, same_part_key, held_parts, HasParts}
use Rattle.vx_packet.specs.declared.key.Key.{Key}
use Rattle.vx_packet.proofs.Numbers.{not_both}

both : (a b : Bool) → (a && b) ≡ true → (a ≡ true) × (b ≡ true)
both true b h = (refl, h)
both false b h = absurd (not_both h)

same_number : (a b : ℕ) → (a == b) ≡ true → a ≡ b
same_number a b h = grind (arith, nat_tests)

-- keys that are one
pub same_key-is : (a b : Key) → same_part_key a b ≡ true → a ≡ b
same_key-is a b h =
    let h1 = both (a.source == b.source) _ h in
    let h2 = both (a.kind == b.kind) _ h1.1 in
    let h3 = both (a.line.generation == b.line.generation) _ h2.1 in
    let h4 = both (a.line.origin == b.line.origin) _ h3.1 in
    let h5 = both (a.session == b.session) _ h4.1 in
    let h6 = both (a.number == b.number) (a.parts == b.parts) h5.1 in
    let source : a.source ≡ b.source = same_number a.source b.source h1.0 in
    let kind : a.kind ≡ b.kind = same_number a.kind b.kind h2.0 in
    let generation : a.line.generation ≡ b.line.generation = same_number a.line.generation b.line.generation h3.0 in
    let origin : a.line.origin ≡ b.line.origin = same_number a.line.origin b.line.origin h4.0 in
    let session : a.session ≡ b.session = same_number a.session b.session h5.0 in
    let number : a.number ≡ b.number = same_number a.number b.number h6.0 in
    let parts : a.parts ≡ b.parts = same_number a.parts b.parts h6.1 in
    rw (source, kind, generation, origin, session, number, parts) refl

-- what is held, by the key and the parts
pub held_of-key : (k : Option Key) (parts : Parts) (h : HeldParts) → held_parts k parts ≡ Some h → k ≡ Some h.key
held_of-key None parts h is = absurd cc
held_of-key (Some key) parts h is = cc

pub held_of-parts : (k : Option Key) (parts : Parts) (h : HeldParts) → held_parts k parts ≡ Some h → parts ≡ h.parts
held_of-parts None parts h is = absurd cc
held_of-parts (Some key) parts h is = cc

pub HasParts-held : (k : Option Key) (parts : Parts) (h : HeldParts) → held_parts k parts ≡ Some h → HasParts k parts → length h.parts ≡ h.key.parts
HasParts-held None parts h is has = absurd cc
HasParts-held (Some key) parts h is has = cc
