-- A packet that is put to what is in assembly at its target.
use Rattle.std.proofs.Common.{◌≡◌, ◌∙◌, ◌⊎◌, inl, inr, ◌<◌, ℕ, zero, suc, List, [], ◌∷◌, ◌++◌, length, map, ap, sym, subst, refl, arith, true, false}
use Rattle.std.proofs.lemmas.Bool.{cases_Bool}
use Rattle.std.proofs.lemmas.Option.{same_Some}
use Rattle.std.specs.Prelude.{Option, Some, None, slice_get, slice_index_or}
use Rattle.std.specs.Option.{is_some}
use Rattle.vx_model.specs.Content.{Write}
use Rattle.vx_model.specs.declared.history.Line.{Line}
use Rattle.vx_model.proofs.Lists.{found_more}
use Rattle.vx_history.specs.Gatherings.{came_after, completes, key_of as world_key, left_by}
use Rattle.vx_history.specs.Sends.{parts_of as parts_in}
use Rattle.vx_history.specs.World.{DataAck, Gathering, Hello, Message, NetAck, Packet, Update}
use Rattle.vx_packet.specs.Assemblies.{Assembled, HeldParts, TakesPart, key_in_part, parts_after, parts_before, same_part_key}
use Rattle.vx_packet.specs.Gathering.{Parts, all_parts_came}
use Rattle.vx_packet.specs.Messages.{chunk, count_of_parts, payload_of, row}
use Rattle.vx_packet.specs.Packets.{payload_in}
use Rattle.vx_packet.specs.Takings.{HoldsSome, IsChunk, key_of_message}
use Rattle.vx_packet.specs.declared.assembly.Taken.{Taken}
use Rattle.vx_packet.specs.declared.assembly.Taken.TheVariants as taken
use Rattle.vx_packet.specs.declared.key.Key.{Key}
use Rattle.vx_packet.specs.declared.message.Envelope.{Envelope}
use Rattle.vx_packet.specs.declared.message.Message.{Message as Spelled}
use Rattle.vx_packet.proofs.KeyLemmas.{same_key-is}
use Rattle.vx_packet.proofs.PacketLemmas.{payload_in-packet_of}
use Rattle.vx_packet.proofs.TakingLemmas.{fresh, key-part, none-bad, parts-key, same_key-refl, step-kept, step-whole}
use Rattle.vx_parts.specs.Spelling.{IsTied, plain, spelled_message}
use Rattle.vx_parts.proofs.Counting.{key_is, parts_are}
use Rattle.vx_parts.proofs.Wholes.{after_same, whole_same}
use Rattle.vx_courier.specs.Together.{AreOne, AssemblyStands, ComesFrom, IsPutTo}
use Rattle.vx_courier.specs.UnderWay.{CanFly, carrier, part_carried, way_of}

-- ---- keys, field by field

key_kind : (e : Envelope) (m : Spelled) → (key_of_message e m).kind ≡ (row m).kind
unfolding key_of_message
key_kind e m = refl

key_number : (e : Envelope) (m : Spelled) → (key_of_message e m).number ≡ (row m).number
unfolding key_of_message
key_number e m = refl

key_line : (e : Envelope) (m : Spelled) → (key_of_message e m).line ≡ e.line
unfolding key_of_message
key_line e m = refl

key_source : (e : Envelope) (m : Spelled) → (key_of_message e m).source ≡ e.source
unfolding key_of_message
key_source e m = refl

plain_key : (p : Packet) → plain (key_in_part (part_carried p)) ≡ world_key p
plain_key p = ap plain (key-part (way_of p) (spelled_message p.message) p.part) ∙ key_is p.source p.target p.line p.message

-- ---- a message of one part

-- of one part that has not come nothing has
one_missing : (xs : Parts) (payload : List ℕ) (k : ℕ) → length xs ≡ 1 → all_parts_came xs ≡ false → k < 1 → IsChunk payload k (slice_index_or xs k None)
one_missing [] payload k long missing low = absurd (omega (arith, long))
one_missing (None ∷ xs) payload zero long missing low = tt
one_missing (Some bytes ∷ []) payload zero long missing low = absurd (cc)
one_missing (Some bytes ∷ x ∷ xs) payload zero long missing low = absurd (omega (arith, long))
one_missing (x ∷ xs) payload (suc k) long missing low = absurd (omega (arith, low))

-- what is in assembly under the key of a message of one part is as good as a part of it
alone : (e f : Envelope) (m n : Spelled) (a : Assembled) → key_of_message f n ≡ key_of_message e m → count_of_parts m ≡ 1 → HoldsSome f n a → HoldsSome e m a
alone e f m n a keys one some =
    let same : parts_before a.held (key_of_message f n) ≡ parts_before a.held (key_of_message e m) = ap (parts_before a.held) keys in
    let count : count_of_parts n ≡ count_of_parts m = sym (parts-key f n) ∙ ap (λ (k : Key). k.parts) keys ∙ parts-key e m in
    let long : length (parts_before a.held (key_of_message e m)) ≡ count_of_parts m = sym (ap length same) ∙ some.count ∙ count in
    let missing : all_parts_came (parts_before a.held (key_of_message e m)) ≡ false = sym (ap all_parts_came same) ∙ some.missing in
    record {
      count = long;
      only = λ k low. one_missing (parts_before a.held (key_of_message e m)) (payload_of m) k (long ∙ one) missing (omega (arith, low, one));
      missing = missing;
    }

module _ (ps : List Packet) (site place : ℕ) (p : Packet) (one : AreOne ps) (there : slice_get ps place ≡ Some p) (target : p.target ≡ site) (fly : CanFly p) (g : Option Gathering) (a : Assembled) (stands : AssemblyStands ps site g a) where
  abbrev e : Envelope
  e = way_of p

  abbrev m : Spelled
  m = spelled_message p.message

  module _ (h : HeldParts) (from : ComesFrom ps site a h) (key : h.key ≡ key_of_message e m) where
    abbrev q : Packet
    q = from.packet

    keys : key_of_message (way_of q) (spelled_message q.message) ≡ key_of_message e m
    keys = sym from.key ∙ key

    kinds : (row (spelled_message q.message)).kind ≡ (row m).kind
    kinds = sym (key_kind (way_of q) (spelled_message q.message)) ∙ ap (λ (k : Key). k.kind) keys ∙ key_kind e m

    numbers : (row (spelled_message q.message)).number ≡ (row m).number
    numbers = sym (key_number (way_of q) (spelled_message q.message)) ∙ ap (λ (k : Key). k.number) keys ∙ key_number e m

    lines : q.line ≡ p.line
    lines = sym (key_line (way_of q) (spelled_message q.message)) ∙ ap (λ (k : Key). k.line) keys ∙ key_line e m

    ways : way_of q ≡ e
    ways =
        let source : q.source ≡ p.source = sym (key_source (way_of q) (spelled_message q.message)) ∙ ap (λ (k : Key). k.source) keys ∙ key_source e m in
        let targets : q.target ≡ p.target = from.target ∙ sym target in
        let one_way : (s t s' t' : ℕ) (l l' : Line) → s ≡ s' → t ≡ t' → l ≡ l' → (let w : Envelope = record { source = s; target = t; line = l } in w) ≡ record { source = s'; target = t'; line = l' } = λ s t s' t' l l' a b c. rw (a, b, c) refl in
        one_way q.source q.target p.source p.target q.line p.line source targets lines

    -- the message of an update is the one in assembly
    same_update : (number : ℕ) (x : Write) → p.message ≡ Update number x → (n : Message) → q.message ≡ n → n ≡ p.message
    same_update number x is (Hello session k stored) at = let two : 1 ≡ 2 = sym (ap (λ (t : Message). (row (spelled_message t)).kind) at) ∙ kinds ∙ ap (λ (t : Message). (row (spelled_message t)).kind) is in absurd (omega (arith, two))
    same_update number x is (NetAck session k) at = let two : 3 ≡ 2 = sym (ap (λ (t : Message). (row (spelled_message t)).kind) at) ∙ kinds ∙ ap (λ (t : Message). (row (spelled_message t)).kind) is in absurd (omega (arith, two))
    same_update number x is (DataAck k) at = let two : 4 ≡ 2 = sym (ap (λ (t : Message). (row (spelled_message t)).kind) at) ∙ kinds ∙ ap (λ (t : Message). (row (spelled_message t)).kind) is in absurd (omega (arith, two))
    same_update number x is (Update k y) at =
        let same : k ≡ number = sym (ap (λ (t : Message). (row (spelled_message t)).number) at) ∙ numbers ∙ ap (λ (t : Message). (row (spelled_message t)).number) is in
        let write : y ≡ x = one.each from.place place number q p y x from.there there lines (at ∙ ap (λ (n : ℕ). Update n y) same) is in
        ap (λ (n : ℕ). Update n y) same ∙ ap (λ (z : Write). Update number z) write ∙ sym is

    by_key : HoldsSome e m a
    by_key = by_message p.message refl
      where
        single : parts_in p.message ≡ 1 → HoldsSome e m a
        single is = alone e (way_of q) m (spelled_message q.message) a keys (parts_are p.message ∙ is) from.some

        by_message : (n : Message) → p.message ≡ n → HoldsSome e m a
        by_message (Hello session k stored) is = single (ap parts_in is)
        by_message (NetAck session k) is = single (ap parts_in is)
        by_message (DataAck k) is = single (ap parts_in is)
        by_message (Update number x) is =
            let same : q.message ≡ p.message = same_update number x is q.message refl in
            subst (λ (f : Envelope). HoldsSome f m a) ways (subst (λ (t : Message). HoldsSome (way_of q) (spelled_message t) a) same from.some)

  -- what is in assembly under its key are parts of it
  holds : HoldsSome e m a
  holds = by_held a.held refl
    where
      by_held : (o : Option HeldParts) → a.held ≡ o → HoldsSome e m a
      by_held None is = fresh e m a (λ h some same. absurd (cc))
      by_held (Some h) is = elim (cases_Bool (same_part_key h.key (key_of_message e m))) [
        | inl same ↦ by_key h (stands.each h is) (same_key-is h.key (key_of_message e m) same)
        | inr apart ↦ fresh e m a (λ k some same.
            let both : h ≡ k = same_Some h k (sym is ∙ some) in
            let key : h.key ≡ key_of_message e m = ap (λ (i : HeldParts). i.key) both ∙ same in
            let self : same_part_key (key_of_message e m) (key_of_message e m) ≡ true = same_key-refl (key_of_message e m) in
            let other : same_part_key (key_of_message e m) (key_of_message e m) ≡ false = sym (ap (λ (i : Key). same_part_key i (key_of_message e m)) key) ∙ apart in
            absurd (cc))
      ]

  abbrev payload : List ℕ
  payload = chunk p.part (payload_of m)

  within : p.part < count_of_parts m
  within = omega (arith, fly.within, parts_are p.message)

  whole_is : all_parts_came (parts_after a.held (part_carried p) payload) ≡ completes g p
  whole_is = whole_same a.held g stands.tied p.source p.target p.line p.message p.part payload

  by_taken : (t : Taken) (new : Assembled) → TakesPart a (part_carried p) payload t new → IsPutTo ps site g p t new
  by_taken taken.Kept new is =
      let missing : completes g p ≡ false = sym whole_is ∙ is.missing in
      let came : map is_some (parts_after a.held (part_carried p) payload) ≡ came_after g p = after_same a.held g stands.tied p.source p.target p.line p.message p.part payload in
      let left : left_by g p ≡ Some (record { key = world_key p; came = came_after g p }) = rw missing refl in (
        missing,
        record {
          tied = subst (λ (o : Option Gathering). IsTied new.held o) (sym left) (subst (λ (o : Option HeldParts). IsTied o (Some (record { key = world_key p; came = came_after g p }))) (sym is.held) (plain_key p, came));
          each = λ h some. record {
            place = place;
            packet = p;
            there = there;
            target = target;
            key = ap (λ (i : HeldParts). i.key) (same_Some h _ (sym some ∙ is.held)) ∙ key-part e m p.part;
            some = step-kept e m a new p.part fly.can within holds is;
          };
        },
      )
  by_taken taken.Whole new is =
      let all : completes g p ≡ true = sym whole_is ∙ is.all in
      let left : left_by g p ≡ None = rw all refl in (
        all,
        record {
          tied = subst (λ (o : Option Gathering). IsTied new.held o) (sym left) (subst (λ (o : Option HeldParts). IsTied o None) (sym is.held) tt);
          each = λ h some. let none : None ≡ Some h = sym is.held ∙ some in absurd (cc);
        },
        step-whole e m a new p.part fly.can fly.typed holds within is,
      )
  by_taken taken.Bad new is = none-bad e m a new (p.part ∷ []) (taken.Bad ∷ []) fly.can fly.typed holds (within, tt) (new, is, refl)

  pub put_together : (t : Taken) (new : Assembled) → TakesPart a (part_carried p) (payload_in (part_carried p) (carrier p)) t new → IsPutTo ps site g p t new
  put_together t new takes = by_taken t new (subst (λ (bs : List ℕ). TakesPart a (part_carried p) bs t new) (payload_in-packet_of e m p.part) takes)

-- what stands in assembly stands there whatever is sent
pub stands_later : (ps more : List Packet) (site : ℕ) (g : Option Gathering) (a : Assembled) → AssemblyStands ps site g a → AssemblyStands (ps ++ more) site g a
stands_later ps more site g a was = record {
  tied = was.tied;
  each = λ h some. let from = was.each h some in record {
    place = from.place;
    packet = from.packet;
    there = found_more ps more from.place from.packet from.there;
    target = from.target;
    key = from.key;
    some = from.some;
  };
}
