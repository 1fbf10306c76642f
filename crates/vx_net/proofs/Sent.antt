-- What stands after some packets were sent: their number, and the newest of them.
use Rattle.std.proofs.Common.{◌≡◌, ℕ, ◌+◌, ◌-◌, ◌≤◌, ◌<◌, true, false, List, [], ◌∷◌, ◌++◌, length, drop, slice_get, None, refl, sym, ap, ◌∙◌, arith, length-append, length-drop, ltb}
use Rattle.std.proofs.lemmas.List.{drop-append-le, drop-drop, append_assoc, append-nil}
use Rattle.circular_buffer.proofs.Places.{slice_get-drop}
use Rattle.vx_net.specs.Flights.{Flying, most_kept, greatest_packet, nothing_sent, oldest_of, newest_packets, sent, kept_packet, sent_all}

abbrev pub after : List (List ℕ) → Flying
after xs = record { count = length xs; kept = newest_packets xs }

-- the newest of the newest and one more are the newest of all and one more
newest-more : (xs : List (List ℕ)) (x : List ℕ) → newest_packets (newest_packets xs ++ x ∷ []) ≡ newest_packets (xs ++ x ∷ [])
newest-more xs x =
    let n : ℕ = length xs in
    let j : ℕ = n - most_kept in
    let all : List (List ℕ) = xs ++ x ∷ [] in
    let joined : newest_packets xs ++ x ∷ [] ≡ drop j all = sym (drop-append-le j xs (x ∷ []) (omega arith)) in
    let long : length all ≡ n + 1 = length-append xs (x ∷ []) in
    let rest : length (drop j all) ≡ n + 1 - j = length-drop j all ∙ ap (λ (k : ℕ). k - j) long in
    let places : j + (length (drop j all) - most_kept) ≡ length all - most_kept = omega (arith, rest, long) in
    ap newest_packets joined ∙ drop-drop (length (drop j all) - most_kept) j all ∙ ap (λ (k : ℕ). drop k all) places

sent-after : (xs : List (List ℕ)) (x : List ℕ) → length xs < greatest_packet → sent (after xs) x ≡ after (xs ++ x ∷ [])
sent-after xs x h =
    let more : newest_packets (newest_packets xs ++ x ∷ []) ≡ newest_packets (xs ++ x ∷ []) = newest-more xs x in
    let long : length (xs ++ x ∷ []) ≡ length xs + 1 = length-append xs (x ∷ []) in
    let room : ltb (length xs) greatest_packet ≡ true = search (arith, h) in
    rw room (ap (λ (kept : List (List ℕ)). record { count = length xs + 1; kept = kept }) more
    ∙ ap (λ (count : ℕ). record { count = count; kept = newest_packets (xs ++ x ∷ []) }) (sym long))

all-after : (xs ys : List (List ℕ)) → length (xs ++ ys) ≤ greatest_packet → sent_all (after xs) ys ≡ after (xs ++ ys)
all-after xs [] h = sym (ap after (append-nil xs))
all-after xs (y ∷ ys) h =
    let joined : (xs ++ y ∷ []) ++ ys ≡ xs ++ y ∷ ys = append_assoc xs (y ∷ []) ys in
    let room : length xs < greatest_packet = omega (arith, length-append xs (y ∷ ys), h) in
    let below : length ((xs ++ y ∷ []) ++ ys) ≤ greatest_packet = rw joined h in
    ap (λ (f : Flying). sent_all f ys) (sent-after xs y room) ∙ all-after (xs ++ y ∷ []) ys below ∙ ap after joined

pub all-sent : (xs : List (List ℕ)) → length xs ≤ greatest_packet → sent_all nothing_sent xs ≡ after xs
all-sent xs h = all-after [] xs h

first-after : (xs : List (List ℕ)) → oldest_of (after xs) ≡ length xs - most_kept + 1
first-after xs =
    let rest : length (newest_packets xs) ≡ length xs - (length xs - most_kept) = length-drop (length xs - most_kept) xs in
    omega (arith, rest)

pub given-after : (xs : List (List ℕ)) (k : ℕ) → length xs ≤ k + most_kept → kept_packet (after xs) (k + 1) ≡ slice_get xs k
given-after xs k h =
    let first : oldest_of (after xs) ≡ length xs - most_kept + 1 = first-after xs in
    let there : ltb (k + 1) (length xs - most_kept + 1) ≡ false = grind (arith, h) in
    let place : k ≡ length xs - most_kept + (k + 1 - (length xs - most_kept + 1)) = omega (arith, h) in
    rw first (rw there (slice_get-drop (length xs - most_kept) xs (k + 1 - (length xs - most_kept + 1)) k place))

pub dropped-after : (xs : List (List ℕ)) (k : ℕ) → k + most_kept ≤ length xs → kept_packet (after xs) k ≡ None
dropped-after xs k h =
    let first : oldest_of (after xs) ≡ length xs - most_kept + 1 = first-after xs in
    let below : ltb k (length xs - most_kept + 1) ≡ true = grind (arith, h) in
    rw first (rw below refl)
