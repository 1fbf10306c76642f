-- The parts of one message come whole.
use Rattle.std.proofs.Common.{◌≡◌, ◌≤◌, ◌<◌, ℕ, zero, suc, ◌+◌, ◌*◌, true, false, List, [], ◌∷◌, ◌++◌, length, take, drop, set, get_or, replicate, refl, ap, sym, subst, ◌∙◌, arith, Option, Some, None, inl, inr, get_or-set_same, get_or-set_other}
use Rattle.std.specs.Prelude.{◌==◌, ◌⊎◌}
use Rattle.std.specs.Option.{is_some}
use Rattle.std.proofs.lemmas.List.{drop-drop, take_all, length-set, length-replicate, get_or-replicate}
use Rattle.std.proofs.lemmas.Bool.{cases_Bool, cases_eq}
use Rattle.std.proofs.lemmas.Bool.Decides.{nat_tests}
use Rattle.vx_wire.specs.Fields.{spelled}
use Rattle.vx_wire.specs.Numbers.{be_bytes}
use Rattle.vx_packet.specs.Assemblies.{HeldParts, Assembled, key_in_part, same_part_key, parts_before, parts_after, IsPartKept, IsMessageWhole, IsBad}
use Rattle.vx_packet.specs.Gathering.{Parts, kept_payload, all_parts_came, joined_parts}
use Rattle.vx_packet.specs.Messages.{payload_of, count_of_parts, chunk, CanSpellMessage, IsTyped, IsMessage}
use Rattle.vx_packet.specs.Packets.{part_numbered}
use Rattle.vx_packet.specs.Takings.{key_of_message, parts_in, IsChunk, HoldsSome, Takings, AreNumbers, Includes, NoneBad, SomeWhole}
use Rattle.vx_packet.specs.declared.assembly.Taken.{Taken}
use Rattle.vx_packet.specs.declared.assembly.Taken.TheVariants as taken
use Rattle.vx_packet.specs.declared.key.Key.{Key}
use Rattle.vx_packet.specs.declared.message.Envelope.{Envelope}
use Rattle.vx_packet.specs.declared.message.Message.{Message}
use Rattle.vx_packet.specs.declared.message.Message.TheVariants.{Hello, Update, NetAck, DataAck, ReplayStart, Region, RegionsDone, RegionAck, Fork, ForkMap, Handover, Trim}
use Rattle.vx_packet.specs.declared.part.Part.{Part}
use Rattle.vx_packet.proofs.GatherLemmas.{take-sum, kept-in}
use Rattle.vx_packet.proofs.KeyLemmas.{same_key-is}
use Rattle.vx_packet.proofs.MessageAgain.{message_in-is}
use Rattle.vx_packet.proofs.Numbers.{not_both}
use Rattle.vx_packet.proofs.PacketLemmas.{parts_of-few, same_parts}

-- no payload has more than 65,544 bytes
pub payload-few : (m : Message) → CanSpellMessage m → length (payload_of m) ≤ 65544
unfolding payload_of spelled be_bytes
payload-few (Hello session number stored) can = omega arith
payload-few (Update number vol block bytes) can = omega (arith, can.1.few)
payload-few (NetAck session number) can = omega arith
payload-few (DataAck number) can = omega arith
payload-few (ReplayStart id start) can = omega arith
payload-few (Region id vol region bytes) can = omega (arith, can.1.few)
payload-few (RegionsDone id start end) can = omega arith
payload-few (RegionAck id vol region kind) can = omega arith
payload-few (Fork fork parent) can = omega arith
payload-few (ForkMap vol regions bytes) can = omega (arith, can.few)
payload-few (Handover head) can = omega arith
payload-few (Trim number) can = omega arith

most : (m : Message) → CanSpellMessage m → count_of_parts m ≤ 65
most m can = parts_of-few m (omega (arith, payload-few m can))

-- parts in order are the front of the payload
IsChunk-rest : (payload : List ℕ) (k : ℕ) (o : Option (List ℕ)) → IsChunk payload (suc k) o → IsChunk (drop 1024 payload) k o
IsChunk-rest payload k None is = tt
IsChunk-rest payload k (Some bytes) is =
    let at : 1024 * suc k ≡ 1024 + 1024 * k = omega arith in
    let start : drop (1024 * suc k) payload ≡ drop (1024 * k) (drop 1024 payload) = ap (λ (n : ℕ). drop n payload) at ∙ sym (drop-drop (1024 * k) 1024 payload) in
    is ∙ ap (take 1024) start

joined-chunks : (ps : Parts) (payload : List ℕ) → all_parts_came ps ≡ true → ((k : ℕ) → k < length ps → IsChunk payload k (get_or ps k None)) → joined_parts ps ≡ take (1024 * length ps) payload
joined-chunks [] payload all is = refl
joined-chunks (None ∷ ps) payload all is = absurd (not_both all)
joined-chunks (Some bytes ∷ ps) payload all is =
    let first : bytes ≡ take 1024 payload = is 0 (omega arith) in
    let rest : joined_parts ps ≡ take (1024 * length ps) (drop 1024 payload) =
    joined-chunks ps (drop 1024 payload) all (λ k lt. IsChunk-rest payload k (get_or ps k None) (is (suc k) (omega arith))) in
    let at : 1024 + 1024 * length ps ≡ 1024 * suc (length ps) = omega arith in
    ap (λ (t : List ℕ). t ++ joined_parts ps) first ∙ ap (λ (t : List ℕ). take 1024 payload ++ t) rest ∙ take-sum 1024 (1024 * length ps) payload ∙ ap (λ (n : ℕ). take n payload) at

all-came : (ps : Parts) → ((k : ℕ) → k < length ps → is_some (get_or ps k None) ≡ true) → all_parts_came ps ≡ true
all-came [] is = refl
all-came (None ∷ ps) is = absurd (not_both (is 0 (omega arith)))
all-came (Some bytes ∷ ps) is = all-came ps (λ k lt. is (suc k) (omega arith))

-- keys
pub key-part : (e : Envelope) (m : Message) (k : ℕ) → key_in_part (part_numbered e m k) ≡ key_of_message e m
unfolding part_numbered key_of_message
key-part e m k = refl

pub parts-key : (e : Envelope) (m : Message) → (key_of_message e m).parts ≡ count_of_parts m
unfolding key_of_message
parts-key e m = refl

number-part : (e : Envelope) (m : Message) (k : ℕ) → (part_numbered e m k).part ≡ k
unfolding part_numbered
number-part e m k = refl

same_number : (n : ℕ) → (n == n) ≡ true
same_number n = grind (arith, nat_tests)

pub same_key-refl : (k : Key) → same_part_key k k ≡ true
same_key-refl k = rw (same_number k.source, same_number k.kind, same_number k.line.generation, same_number k.line.origin, same_number k.session, same_number k.number, same_number k.parts) refl

-- the parts with one more of the message
abbrev with : Envelope → Message → Assembled → ℕ → Parts
with e m a k = set (parts_in e m a) k (Some (chunk k (payload_of m)))

after-is : (e : Envelope) (m : Message) (a : Assembled) (k : ℕ) → k < 65 → parts_after a.held (part_numbered e m k) (chunk k (payload_of m)) ≡ with e m a k
after-is e m a k lt =
    ap (λ (key : Key). set (parts_before a.held key) (part_numbered e m k).part (Some (kept_payload (part_numbered e m k).part (chunk k (payload_of m))))) (key-part e m k)
    ∙ ap (λ (n : ℕ). set (parts_in e m a) n (Some (kept_payload n (chunk k (payload_of m))))) (number-part e m k)
    ∙ ap (λ (t : List ℕ). set (parts_in e m a) k (Some t)) (kept-in k (chunk k (payload_of m)) lt)

-- each of them is a part of the message still
with-only : (e : Envelope) (m : Message) (a : Assembled) (k : ℕ) → k < count_of_parts m → HoldsSome e m a → (j : ℕ) → j < count_of_parts m → IsChunk (payload_of m) j (get_or (with e m a k) j None)
with-only e m a k lt holds j below =
    let within : k < length (parts_in e m a) = omega (arith, holds.count) in
    let payload : List ℕ = payload_of m in
    elim (cases_eq j k) [
      | inl same ↦
          let is : get_or (with e m a k) j None ≡ Some (chunk k payload) = ap (λ (i : ℕ). get_or (with e m a k) i None) same ∙ get_or-set_same (parts_in e m a) k (Some (chunk k payload)) None within in
          subst (λ (o : Option (List ℕ)). IsChunk payload j o) (sym is) (ap (λ (i : ℕ). chunk i payload) (sym same))
      | inr other ↦
          subst (λ (o : Option (List ℕ)). IsChunk payload j o) (sym (get_or-set_other (parts_in e m a) k j (Some (chunk k payload)) None other)) (holds.only j below)
    ]

length-with : (e : Envelope) (m : Message) (a : Assembled) (k : ℕ) → HoldsSome e m a → length (with e m a k) ≡ count_of_parts m
length-with e m a k holds = length-set (parts_in e m a) k (Some (chunk k (payload_of m))) ∙ holds.count

-- where all have come they are the payload
joined-with : (e : Envelope) (m : Message) (a : Assembled) (k : ℕ) → k < count_of_parts m → HoldsSome e m a → all_parts_came (with e m a k) ≡ true → joined_parts (with e m a k) ≡ payload_of m
joined-with e m a k lt holds all =
    let payload : List ℕ = payload_of m in
    let long : length (with e m a k) ≡ count_of_parts m = length-with e m a k holds in
    let room : length payload ≤ 1024 * length (with e m a k) = omega (arith, same_parts m, long) in
    joined-chunks (with e m a k) payload all (λ j below. with-only e m a k lt holds j (omega (arith, long))) ∙ take_all (1024 * length (with e m a k)) payload room

joined-after : (e : Envelope) (m : Message) (a : Assembled) (k : ℕ) → CanSpellMessage m → k < count_of_parts m → HoldsSome e m a → all_parts_came (parts_after a.held (part_numbered e m k) (chunk k (payload_of m))) ≡ true
    → joined_parts (parts_after a.held (part_numbered e m k) (chunk k (payload_of m))) ≡ payload_of m
joined-after e m a k can lt holds all =
    let is = after-is e m a k (omega (arith, most m can)) in
    ap joined_parts is ∙ joined-with e m a k lt holds (sym (ap all_parts_came is) ∙ all)

-- a message is spelled by its parts
IsMessage-self : (e : Envelope) (m : Message) (k : ℕ) → CanSpellMessage m → IsTyped m → IsMessage (part_numbered e m k).kind (part_numbered e m k).session (part_numbered e m k).number (payload_of m) m
unfolding part_numbered
IsMessage-self e m k can typed = record { can = can; typed = typed; spelled = record { kind_is = refl; session_is = refl; number_is = refl; payload_is = refl } }

-- what is in assembly after a part that is kept
in-kept : (e : Envelope) (m : Message) (a new : Assembled) (k : ℕ) → k < 65 → IsPartKept (part_numbered e m k) (parts_after a.held (part_numbered e m k) (chunk k (payload_of m))) new → parts_in e m new ≡ with e m a k
in-kept e m a new k lt is =
    let key : Key = key_of_message e m in
    let parts : Parts = parts_after a.held (part_numbered e m k) (chunk k (payload_of m)) in
    let held : new.held ≡ Some (record { key = key; parts = parts }) = is.held ∙ ap (λ (q : Key). Some (record { key = q; parts = parts })) (key-part e m k) in
    let same : parts_before (Some (record { key = key; parts = parts })) key ≡ parts = rw (same_key-refl key) refl in
    ap (λ (h : Option HeldParts). parts_before h key) held ∙ same ∙ after-is e m a k lt

pub step-kept : (e : Envelope) (m : Message) (a new : Assembled) (k : ℕ) → CanSpellMessage m → k < count_of_parts m → HoldsSome e m a
    → IsPartKept (part_numbered e m k) (parts_after a.held (part_numbered e m k) (chunk k (payload_of m))) new → HoldsSome e m new
step-kept e m a new k can lt holds is =
    let few : k < 65 = omega (arith, most m can) in
    let now : parts_in e m new ≡ with e m a k = in-kept e m a new k few is in record {
      count = ap length now ∙ length-with e m a k holds;
      only = λ j below. subst (λ (ps : Parts). IsChunk (payload_of m) j (get_or ps j None)) (sym now) (with-only e m a k lt holds j below);
      missing = ap all_parts_came now ∙ sym (ap all_parts_came (after-is e m a k few)) ∙ is.missing;
    }

pub step-whole : (e : Envelope) (m : Message) (a new : Assembled) (k : ℕ) → CanSpellMessage m → IsTyped m → HoldsSome e m a → k < count_of_parts m
    → IsMessageWhole (part_numbered e m k) (parts_after a.held (part_numbered e m k) (chunk k (payload_of m))) new → new.whole ≡ Some m
step-whole e m a new k can typed holds lt is =
    let p : Part = part_numbered e m k in
    let payload : joined_parts (parts_after a.held p (chunk k (payload_of m))) ≡ payload_of m = joined-after e m a k can lt holds is.all in
    let found : IsMessage p.kind p.session p.number (payload_of m) is.message = subst (λ (t : List ℕ). IsMessage p.kind p.session p.number t is.message) payload is.is in
    let self : IsMessage p.kind p.session p.number (payload_of m) m = IsMessage-self e m k can typed in
    is.whole ∙ sym (message_in-is p.kind p.session p.number (payload_of m) is.message found) ∙ message_in-is p.kind p.session p.number (payload_of m) m self

step-bad : (e : Envelope) (m : Message) (a new : Assembled) (k : ℕ) → CanSpellMessage m → IsTyped m → HoldsSome e m a → k < count_of_parts m
    → IsBad (part_numbered e m k) (parts_after a.held (part_numbered e m k) (chunk k (payload_of m))) new → ⊥
step-bad e m a new k can typed holds lt is =
    let p : Part = part_numbered e m k in
    let payload : joined_parts (parts_after a.held p (chunk k (payload_of m))) ≡ payload_of m = joined-after e m a k can lt holds is.all in
    is.none m (subst (λ (t : List ℕ). IsMessage p.kind p.session p.number t m) (sym payload) (IsMessage-self e m k can typed))

some-part : (m : Message) → 0 < count_of_parts m
unfolding count_of_parts
some-part m = omega arith

missing-replicate : (n : ℕ) → 0 < n → all_parts_came (replicate n None) ≡ false
missing-replicate zero h = absurd (omega arith)
missing-replicate (suc n) h = refl

none-before : (o : Option HeldParts) (key : Key) → ((h : HeldParts) → o ≡ Some h → h.key ≡ key → ⊥) → parts_before o key ≡ replicate key.parts None
none-before None key other = refl
none-before (Some h) key other = elim (cases_Bool (same_part_key h.key key)) [ inl same ↦ absurd (other h refl (same_key-is h.key key same)) | inr unlike ↦ rw unlike refl ]

pub fresh : (e : Envelope) (m : Message) (a : Assembled) → ((h : HeldParts) → a.held ≡ Some h → h.key ≡ key_of_message e m → ⊥) → HoldsSome e m a
fresh e m a other =
    let now : parts_in e m a ≡ replicate (count_of_parts m) None = none-before a.held (key_of_message e m) other ∙ ap (λ (n : ℕ). replicate n None) (parts-key e m) in record {
      count = ap length now ∙ length-replicate {A = Option (List ℕ)} (count_of_parts m) None;
      only = λ k below.
          subst (λ (o : Option (List ℕ)). IsChunk (payload_of m) k o) (sym (ap (λ (ps : Parts). get_or ps k None) now ∙ get_or-replicate {A = Option (List ℕ)} (count_of_parts m) k None None below)) tt;
      missing = ap all_parts_came now ∙ missing-replicate (count_of_parts m) (some-part m);
    }

-- an empty place holds no other message
pub nothing-held : (o : Option HeldParts) (key : Key) → o ≡ None → (h : HeldParts) → o ≡ Some h → h.key ≡ key → ⊥
nothing-held o key none h some same = absurd cc

pub none-bad : (e : Envelope) (m : Message) (old new : Assembled) (ks : List ℕ) (ts : List Taken) → CanSpellMessage m → IsTyped m → HoldsSome e m old → AreNumbers (count_of_parts m) ks → Takings e m old ks ts new → NoneBad ts
none-bad e m old new [] [] can typed holds numbers run = tt
none-bad e m old new [] (t ∷ ts) can typed holds numbers run = absurd run
none-bad e m old new (k ∷ ks) [] can typed holds numbers run = absurd run
none-bad e m old new (k ∷ ks) (taken.Whole ∷ ts) can typed holds numbers run =
    none-bad e m run.0 new ks ts can typed (fresh e m run.0 (nothing-held run.0.held (key_of_message e m) run.1.held)) numbers.1 run.2
none-bad e m old new (k ∷ ks) (taken.Kept ∷ ts) can typed holds numbers run =
    none-bad e m run.0 new ks ts can typed (step-kept e m old run.0 k can numbers.0 holds run.1) numbers.1 run.2
none-bad e m old new (k ∷ ks) (taken.Bad ∷ ts) can typed holds numbers run = step-bad e m old run.0 k can typed holds numbers.0 run.1

-- each part has come or is to be taken
abbrev Covered : Envelope → Message → Assembled → List ℕ → Type 0
Covered e m a ks = (j : ℕ) → j < count_of_parts m → (is_some (get_or (parts_in e m a) j None) ≡ true) ⊎ Includes ks j

covered-kept : (e : Envelope) (m : Message) (a new : Assembled) (k : ℕ) (ks : List ℕ) → CanSpellMessage m → k < count_of_parts m → HoldsSome e m a
    → IsPartKept (part_numbered e m k) (parts_after a.held (part_numbered e m k) (chunk k (payload_of m))) new → Covered e m a (k ∷ ks) → Covered e m new ks
covered-kept e m a new k ks can lt holds is covered j below =
    let within : k < length (parts_in e m a) = omega (arith, holds.count) in
    let now : parts_in e m new ≡ with e m a k = in-kept e m a new k (omega (arith, most m can)) is in
    let piece : Option (List ℕ) = Some (chunk k (payload_of m)) in
    let here : k ≡ j → is_some (get_or (parts_in e m new) j None) ≡ true =
    λ (same : k ≡ j). ap (λ (ps : Parts). is_some (get_or ps j None)) now ∙ ap (λ (i : ℕ). is_some (get_or (with e m a k) i None)) (sym same) ∙ ap is_some (get_or-set_same (parts_in e m a) k piece None within) in
    elim (cases_eq j k) [
      | inl same ↦ inl (here (sym same))
      | inr other ↦
          let still : is_some (get_or (parts_in e m new) j None) ≡ is_some (get_or (parts_in e m a) j None) =
          ap (λ (ps : Parts). is_some (get_or ps j None)) now ∙ ap is_some (get_or-set_other (parts_in e m a) k j piece None other) in
          elim (covered j below) [ inl came ↦ inl (still ∙ came) | inr later ↦ elim later [ inl same ↦ absurd (other (sym same)) | inr rest ↦ inr rest ] ]
    ]

nothing-left : (e : Envelope) (m : Message) (a : Assembled) → HoldsSome e m a → Covered e m a [] → ⊥
nothing-left e m a holds covered =
    not_both (sym holds.missing ∙ all-came (parts_in e m a) (λ j below. elim (covered j (omega (arith, holds.count))) [ inl came ↦ came | inr none ↦ absurd none ]))

some-whole : (e : Envelope) (m : Message) (old new : Assembled) (ks : List ℕ) (ts : List Taken) → CanSpellMessage m → IsTyped m → HoldsSome e m old → AreNumbers (count_of_parts m) ks → Covered e m old ks → Takings e m old ks ts new → SomeWhole ts
some-whole e m old new [] [] can typed holds numbers covered run = nothing-left e m old holds covered
some-whole e m old new [] (t ∷ ts) can typed holds numbers covered run = absurd run
some-whole e m old new (k ∷ ks) [] can typed holds numbers covered run = absurd run
some-whole e m old new (k ∷ ks) (taken.Whole ∷ ts) can typed holds numbers covered run = tt
some-whole e m old new (k ∷ ks) (taken.Kept ∷ ts) can typed holds numbers covered run =
    some-whole e m run.0 new ks ts can typed (step-kept e m old run.0 k can numbers.0 holds run.1) numbers.1 (covered-kept e m old run.0 k ks can numbers.0 holds run.1 covered) run.2
some-whole e m old new (k ∷ ks) (taken.Bad ∷ ts) can typed holds numbers covered run = absurd (step-bad e m old run.0 k can typed holds numbers.0 run.1)

pub whole-comes : (e : Envelope) (m : Message) (old new : Assembled) (ks : List ℕ) (ts : List Taken) → CanSpellMessage m → IsTyped m → HoldsSome e m old → AreNumbers (count_of_parts m) ks → ((k : ℕ) → k < count_of_parts m → Includes ks k)
    → Takings e m old ks ts new → SomeWhole ts
whole-comes e m old new ks ts can typed holds numbers all run = some-whole e m old new ks ts can typed holds numbers (λ j below. inr (all j below)) run
