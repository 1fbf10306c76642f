-- A message is whole with a packet of the world exactly where it is with its bytes.
use Rattle.std.proofs.Common.{◌≡◌, ◌∙◌, ℕ, zero, suc, Bool, true, false, List, [], ◌∷◌, map, replicate, ap, refl}
use Rattle.std.specs.Prelude.{Option, None, Some, ◌&&◌, ◌==◌, set, if◌then◌else◌}
use Rattle.std.specs.List.{list_all}
use Rattle.std.specs.Option.{is_some}
use Rattle.std.proofs.lemmas.List.{map-set}
use Rattle.vx_model.specs.declared.history.Line.{Line}
use Rattle.vx_history.specs.World.{Key, Gathering, Message}
use Rattle.vx_history.specs.Sends.{packet}
use Rattle.vx_history.specs.Gatherings.{same_key, came_before, came_after, completes}
use Rattle.vx_packet.specs.Assemblies.{HeldParts, same_part_key as same_in_bytes, parts_before, parts_after}
use Rattle.vx_packet.specs.Gathering.{Parts, all_parts_came, kept_payload}
use Rattle.vx_packet.specs.Packets.{part_numbered}
use Rattle.vx_packet.specs.Takings.{key_of_message as key_of_bytes}
use Rattle.vx_packet.specs.declared.key.Key.{Key as KeyInBytes}
use Rattle.vx_packet.specs.declared.message.Envelope.{Envelope}
use Rattle.vx_parts.specs.Spelling.{spelled_message, plain, IsTied}
use Rattle.vx_parts.proofs.Counting.{key_is}

all_map : (ps : Parts) → list_all is_some ps ≡ list_all (λ c. c) (map is_some ps)
all_map [] = refl
all_map (p ∷ ps) = ap (λ (b : Bool). is_some p && b) (all_map ps)

none_map : (n : ℕ) → map is_some (replicate {A = Option (List ℕ)} n None) ≡ replicate n false
none_map zero = refl
none_map (suc n) = ap (λ (bs : List Bool). false ∷ bs) (none_map n)

keys_same : (a b : KeyInBytes) → same_in_bytes a b ≡ same_key (plain a) (plain b)
keys_same a b = by_tests (a.source == b.source) (a.kind == b.kind) (a.line.generation == b.line.generation) (a.line.origin == b.line.origin) _
  where
    by_tests : (p q r s t : Bool) → (p && (q && (r && (s && t)))) ≡ (p && (q && ((r && s) && t)))
    by_tests true true true s t = refl
    by_tests true true false s t = refl
    by_tests true false r s t = refl
    by_tests false q r s t = refl

-- which parts have come is the same
before_same : (h : Option HeldParts) (g : Option Gathering) → IsTied h g → (key : KeyInBytes) → map is_some (parts_before h key) ≡ came_before g (plain key)
before_same None None tied key = none_map key.parts
before_same None (Some g) tied key = absurd tied
before_same (Some h) None tied key = absurd tied
before_same (Some h) (Some g) tied key =
    either (same_in_bytes h.key key)
    ∙ ap (λ (b : Bool). if b then g.came else replicate key.parts false) (keys_same h.key key)
    ∙ ap (λ (k : Key). if same_key k (plain key) then g.came else replicate key.parts false) tied.0
  where
    either : (b : Bool) → map is_some (if b then h.parts else replicate key.parts None) ≡ (if b then g.came else replicate key.parts false)
    either true = tied.1
    either false = none_map key.parts

-- with a packet too
pub after_same : (h : Option HeldParts) (g : Option Gathering) → IsTied h g → (source target : ℕ) (line : Line) (m : Message) (k : ℕ) (payload : List ℕ)
    → map is_some (parts_after h (part_numbered (record { source = source; target = target; line = line }) (spelled_message m) k) payload) ≡ came_after g (packet source target line m k)
unfolding part_numbered key_of_bytes
after_same h g tied source target line m k payload =
    let e : Envelope = record { source = source; target = target; line = line } in
    let key : KeyInBytes = key_of_bytes e (spelled_message m) in
    map-set is_some (parts_before h key) k (Some (kept_payload k payload))
    ∙ ap (λ (bs : List Bool). set bs k true) (before_same h g tied key)
    ∙ ap (λ (x : Key). set (came_before g x) k true) (key_is source target line m)

pub whole_same : (h : Option HeldParts) (g : Option Gathering) → IsTied h g → (source target : ℕ) (line : Line) (m : Message) (k : ℕ) (payload : List ℕ)
    → all_parts_came (parts_after h (part_numbered (record { source = source; target = target; line = line }) (spelled_message m) k) payload) ≡ completes g
    (packet source target line m k)
whole_same h g tied source target line m k payload =
    all_map (parts_after h (part_numbered (record { source = source; target = target; line = line }) (spelled_message m) k) payload)
    ∙ ap (λ (bs : List Bool). list_all (λ c. c) bs) (after_same h g tied source target line m k payload)
