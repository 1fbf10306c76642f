-- Updates that are read one after another, and sent one after another.
use Rattle.std.proofs.Common.{◌≡◌, ◌∙◌, ◌⊎◌, inl, inr, ◌+◌, ◌-◌, ◌<◌, ◌≤◌, ℕ, zero, suc, List, [], ◌∷◌, ◌++◌, length, map, drop, ap, sym, subst, refl, arith, length-append}
use Rattle.std.specs.Prelude.{Some, slice_get, get_or}
use Rattle.std.proofs.lemmas.List.{append_assoc, append-nil}
use Rattle.std.proofs.lemmas.Option.{get_or_from_slice_get, slice_get_within}
use Rattle.circular_buffer.proofs.Places.{slice_get-some, slice_get-append_left, slice_get-last}
use Rattle.vx_model.specs.Content.{Write}
use Rattle.vx_model.specs.declared.call.Update.{Update}
use Rattle.vx_model.specs.declared.history.Line.{Line}
use Rattle.vx_history.specs.Sends.{packets_of, updates}
use Rattle.vx_history.specs.World.{Packet, Update as PlainUpdate}
use Rattle.vx_courier.specs.UnderWay.{FlightStands}
use Rattle.vx_net.specs.Flights.{Flying}
use Rattle.vx_packet.specs.declared.message.Envelope.{Envelope}
use Rattle.vx_rvg.specs.Contents.{write_of_update}
use Rattle.vx_rvg.specs.Holdings.{Holding, update_of}
use Rattle.vx_peers.specs.Senders.{AreRead}

-- the packets that were sent by now, and those that are still to be sent, are these behind the former ones
pub record OnTheWay (old all rest : List Packet) (f : Flying) : Type 0 where
  pub now : List Packet
  pub flight : FlightStands now f
  pub is : now ++ rest ≡ old ++ all

drop_there : {A : Type 0} (xs : List A) (k : ℕ) (x : A) → slice_get xs k ≡ Some x → drop k xs ≡ x ∷ drop (suc k) xs
drop_there [] k x is = absurd (cc)
drop_there (y ∷ xs) zero x is = let e : y ≡ x = cc in ap (λ z. z ∷ xs) e
drop_there (y ∷ xs) (suc k) x is = drop_there xs k x is

pub drop_at : {A : Type 0} (xs : List A) (k j : ℕ) (x : A) → slice_get xs k ≡ Some x → j ≡ suc k → drop k xs ≡ x ∷ drop j xs
drop_at xs k j x there next = drop_there xs k x there ∙ ap (λ (i : ℕ). x ∷ drop i xs) (sym next)

-- one more update is on its way
pub one_sent : (ps all : List Packet) (e : Envelope) (first past next : ℕ) (us : List Update) (u : Update) (f f' : Flying)
    → OnTheWay ps all (updates e.source e.target e.line (first + past) (map write_of_update (drop past us))) f → slice_get us past ≡ Some u → next ≡ suc past
    → ((qs : List Packet) → FlightStands qs f → FlightStands (qs ++ packets_of e.source e.target e.line (PlainUpdate (first + past) (write_of_update u))) f')
    → OnTheWay ps all (updates e.source e.target e.line (first + next) (map write_of_update (drop next us))) f'
one_sent ps all e first past next us u f f' on there follows sends_it =
    let rest : drop past us ≡ u ∷ drop next us = drop_at us past next u there follows in
    let number : first + past + 1 ≡ first + next = omega (arith, follows) in
    let split : updates e.source e.target e.line (first + past) (map write_of_update (drop past us))
    ≡ packets_of e.source e.target e.line (PlainUpdate (first + past) (write_of_update u)) ++ updates e.source e.target e.line (first + next) (map write_of_update (drop next us))
    = ap (λ (vs : List Update). updates e.source e.target e.line (first + past) (map write_of_update vs)) rest
    ∙ ap (λ (i : ℕ). packets_of e.source e.target e.line (PlainUpdate (first + past) (write_of_update u)) ++ updates e.source e.target e.line i (map write_of_update (drop next us))) number in record {
      now = on.now ++ packets_of e.source e.target e.line (PlainUpdate (first + past) (write_of_update u));
      flight = sends_it on.now on.flight;
      is = append_assoc on.now (packets_of e.source e.target e.line (PlainUpdate (first + past) (write_of_update u))) (updates e.source e.target e.line (first + next) (map write_of_update (drop next us)))
          ∙ ap (λ (xs : List Packet). on.now ++ xs) (sym split) ∙ on.is;
    }

-- an item of a list, by its place
pub at_place_of : {A : Type 0} (xs : List A) (k : ℕ) (x : A) → k < length xs → x ≡ get_or xs k x → slice_get xs k ≡ Some x
at_place_of xs k x within is =
    let found = slice_get-some xs k within in
    let same : get_or xs k x ≡ found.0 = get_or_from_slice_get xs k found.0 x found.1 in
    found.1 ∙ ap (λ z. Some z) (sym (is ∙ same))

-- one more was read
pub read_more : (h : Holding) (line : Line) (first number : ℕ) (us : List Update) (u : Update) (x : Write) → number ≡ first + length us → AreRead h line first us
    → slice_get h.writes (number - h.low) ≡ Some x → u ≡ update_of line number x → AreRead h line first (us ++ u ∷ [])
read_more h line first number us u x at read there is = record { each = λ k v got. by_place k v got (last_or k v got) }
  where
    last_or : (k : ℕ) (v : Update) → slice_get (us ++ u ∷ []) k ≡ Some v → (k < length us) ⊎ (k ≡ length us)
    last_or k v got =
        let low = slice_get_within (us ++ u ∷ []) k v got in
        let long = length-append us (u ∷ []) in
        by_less (arith-cases k (length us) (omega (arith, low, long)))
      where
        arith-cases : (a b : ℕ) → a ≤ b → (a < b) ⊎ (a ≡ b)
        arith-cases a b le = search (arith, le)

        by_less : (k < length us) ⊎ (k ≡ length us) → (k < length us) ⊎ (k ≡ length us)
        by_less c = c

    by_place : (k : ℕ) (v : Update) → slice_get (us ++ u ∷ []) k ≡ Some v → (k < length us) ⊎ (k ≡ length us) → (y : Write) × (slice_get h.writes (first + k - h.low) ≡ Some y) × (v ≡ update_of line (first + k) y)
    by_place k v got (inl low) = read.each k v (sym (slice_get-append_left us (u ∷ []) k low) ∙ got)
    by_place k v got (inr last) =
        let some : Some v ≡ Some u = sym got ∙ slice_get-last us u k last in
        let same : v ≡ u = cc in
        let here : number ≡ first + k = omega (arith, at, last) in
        (x, ap (λ (n : ℕ). slice_get h.writes (n - h.low)) (sym here) ∙ there, same ∙ is ∙ ap (λ (n : ℕ). update_of line n x) here)

pub none_read : (h : Holding) (line : Line) (first : ℕ) → AreRead h line first []
none_read h line first = record { each = λ k u is. absurd (cc) }

-- nothing is sent yet, and all is
pub start_of : (ps : List Packet) (e : Envelope) (first : ℕ) (us : List Update) (f : Flying) → FlightStands ps f
    → OnTheWay ps (updates e.source e.target e.line first (map write_of_update us)) (updates e.source e.target e.line (first + 0) (map write_of_update (drop 0 us))) f
start_of ps e first us f stands =
    let number : first + 0 ≡ first = omega arith in
    record { now = ps; flight = stands; is = ap (λ (n : ℕ). ps ++ updates e.source e.target e.line n (map write_of_update us)) number }

past_all : {A : Type 0} (xs : List A) (n : ℕ) → length xs ≤ n → drop n xs ≡ []
past_all [] zero le = refl
past_all [] (suc n) le = refl
past_all (x ∷ xs) zero le = absurd (omega (arith, le))
past_all (x ∷ xs) (suc n) le = past_all xs n (omega (arith, le))

pub all_sent : (ps : List Packet) (e : Envelope) (first past : ℕ) (us : List Update) (f : Flying) → length us ≤ past
    → OnTheWay ps (updates e.source e.target e.line first (map write_of_update us)) (updates e.source e.target e.line (first + past) (map write_of_update (drop past us))) f
    → FlightStands (ps ++ updates e.source e.target e.line first (map write_of_update us)) f
all_sent ps e first past us f all on =
    let none : updates e.source e.target e.line (first + past) (map write_of_update (drop past us)) ≡ [] = ap (λ (vs : List Update). updates e.source e.target e.line (first + past) (map write_of_update vs)) (past_all us past all) in
    let list : on.now ≡ ps ++ updates e.source e.target e.line first (map write_of_update us) = sym (append-nil on.now) ∙ ap (λ (qs : List Packet). on.now ++ qs) (sym none) ∙ on.is in
    subst (λ (qs : List Packet). FlightStands qs f) list on.flight
