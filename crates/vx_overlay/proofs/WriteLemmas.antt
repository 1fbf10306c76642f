-- What the last write that covers a block puts there, and the blocks of writes as those that wait.
use Rattle.std.proofs.Common.{IsSome, ◌≡◌, ℕ, zero, suc, ◌+◌, ◌-◌, ◌*◌, ◌/◌, ◌%◌, ◌<◌, ◌≤◌, ◌&&◌, Bool, true, false, eqb, leb, ltb, if◌then◌else◌, List, [], ◌∷◌, ◌++◌, length, take, drop, Option, Some, None, All, Contains, refl, ap, sym, ◌∙◌, arith, ⊎_elim, append_assoc, length-append}
use Rattle.std.specs.Prelude.{unwrap_or}
use Rattle.std.proofs.lemmas.Bool.{both_ways, cases_lt}
use Rattle.std.proofs.lemmas.Bool.Decides.{nat_tests}
use Rattle.std.proofs.lemmas.Option.{none-some}
use Rattle.std.proofs.lemmas.List.{take-append-drop, drop-drop, drop_at}
use Rattle.std.proofs.lemmas.List.Elements.{All-nil, All-cons, All-head, All-tail, All-contains, All-contains_itself, All-weaker}
use Rattle.vx_model.specs.Content.{Write, Content, blocks_in, block_of, touches, put, fold_writes}
use Rattle.vx_model.proofs.Tests.{shows, tells}
use Rattle.vx_overlay.specs.declared.entry.Entry.{Entry}
use Rattle.vx_overlay.specs.Pending.{newest, newer_or, bytes_for, entry_of}
use Rattle.vx_overlay.specs.Writes.{IsWholeWrite, put_there, newest_of, entries_at, entries_of, blocks_within_of}
use Rattle.vx_overlay.proofs.Newest.{or-assoc, or-none, newest-append, bytes-same, bytes-other}

by_outcome : (o : Option (List ℕ)) (t : Bool) (new : List ℕ) → (t ≡ true → o ≡ Some new) → (t ≡ false → o ≡ None) → o ≡ (if t then Some new else None)
by_outcome o true new there not_there = there refl
by_outcome o false new there not_there = not_there refl

both_hold : (w t : Bool) (new bytes : List ℕ) → (if w && t then Some new else None) ≡ Some bytes → (w ≡ true) × (t ≡ true) × (bytes ≡ new)
both_hold true true new bytes h = (refl, refl, sym (ap (λ (o : Option (List ℕ)). unwrap_or o new) h))
both_hold true false new bytes h = absurd (none-some bytes h)
both_hold false t new bytes h = absurd (none-some bytes h)

-- content after writes

put_by : (w t : Bool) (new old : List ℕ) → (if w then (if t then new else old) else old) ≡ unwrap_or (if w && t then Some new else None) old
put_by true true new old = refl
put_by true false new old = refl
put_by false t new old = refl

-- a block after one write
pub put_block : (c : Content) (x : Write) (v b : ℕ) → (put c x).block v b ≡ unwrap_or (put_there c.size x v b) (c.block v b)
put_block c x v b = put_by (leb (x.start + blocks_in x.bytes) (c.size x.volume)) (touches x v b) (block_of x.bytes (b - x.start)) (c.block v b)

or_there : (later here : Option (List ℕ)) (old : List ℕ) → unwrap_or later (unwrap_or here old) ≡ unwrap_or (newer_or later here) old
or_there (Some bytes) here old = refl
or_there None here old = refl

-- a block after writes
pub fold_newest : (c : Content) (xs : List Write) (v b : ℕ) → (fold_writes c xs).block v b ≡ unwrap_or (newest_of c.size xs v b) (c.block v b)
fold_newest c [] v b = refl
fold_newest c (x ∷ xs) v b =
    fold_newest (put c x) xs v b ∙ ap (λ (old : List ℕ). unwrap_or (newest_of c.size xs v b) old) (put_block c x v b)
    ∙ or_there (newest_of c.size xs v b) (put_there c.size x v b) (c.block v b)

-- what one write puts

fits_whole : (len start b : ℕ) → len % 512 ≡ 0 → start ≤ b → 512 * (b - start) < len → b < start + len / 512
fits_whole len start b whole low high = omega (arith, whole, low, high)

lies_whole : (len start b : ℕ) → len % 512 ≡ 0 → start ≤ b → b < start + len / 512 → 512 * (b - start) < len
lies_whole len start b whole low high = omega (arith, whole, low, high)

within_is : (a b : ℕ) → leb a b ≡ true → a ≤ b
within_is a b h = grind (arith, nat_tests)

is_within : (a b : ℕ) → a ≤ b → leb a b ≡ true
is_within a b h = grind (arith, nat_tests)

-- a write puts bytes only into its own blocks, and only where it ends within its volume
pub put_there_in : (size : ℕ → ℕ) (x : Write) (v b : ℕ) (bytes : List ℕ) → IsWholeWrite x → put_there size x v b ≡ Some bytes
    → (v ≡ x.volume) × (x.start ≤ b) × (b < x.start + blocks_in x.bytes) × (x.start + blocks_in x.bytes ≤ size x.volume) × (bytes ≡ block_of x.bytes (b - x.start))
put_there_in size x v b bytes whole h =
    let both : _ = both_hold (leb (x.start + blocks_in x.bytes) (size x.volume)) (touches x v b) (block_of x.bytes (b - x.start)) bytes h in
    let it : _ = tells v x.volume x.start b (512 * (b - x.start)) (length x.bytes) both.1 in
    (it.0, it.1, fits_whole (length x.bytes) x.start b whole it.1 it.2, within_is (x.start + blocks_in x.bytes) (size x.volume) both.0, both.2)

-- and it puts them into each of these
pub put_there_at : (size : ℕ → ℕ) (x : Write) (v b : ℕ) → IsWholeWrite x → v ≡ x.volume → x.start ≤ b → b < x.start + blocks_in x.bytes → x.start + blocks_in x.bytes ≤ size x.volume
    → put_there size x v b ≡ Some (block_of x.bytes (b - x.start))
put_there_at size x v b whole same low high ends =
    let within : leb (x.start + blocks_in x.bytes) (size x.volume) ≡ true = is_within (x.start + blocks_in x.bytes) (size x.volume) ends in
    let touched : touches x v b ≡ true = shows v x.volume x.start b (512 * (b - x.start)) (length x.bytes) same low (lies_whole (length x.bytes) x.start b whole low high) in
    ap (λ (w : Bool). if w && touches x v b then Some (block_of x.bytes (b - x.start)) else None) within
    ∙ ap (λ (t : Bool). if t then Some (block_of x.bytes (b - x.start)) else None) touched

is_none : (o : Option (List ℕ)) → ((bytes : List ℕ) → o ≡ Some bytes → ⊥) → o ≡ None
is_none (Some bytes) h = absurd (h bytes refl)
is_none None h = refl

-- and into no other
pub put_there_none : (size : ℕ → ℕ) (x : Write) (v b : ℕ) → IsWholeWrite x
    → (v ≡ x.volume → x.start ≤ b → b < x.start + blocks_in x.bytes → x.start + blocks_in x.bytes ≤ size x.volume → ⊥) → put_there size x v b ≡ None
put_there_none size x v b whole h =
    is_none (put_there size x v b) (λ bytes puts. let it : _ = put_there_in size x v b bytes whole puts in h it.0 it.1 it.2 it.3)

-- the newest of writes

-- the last of two lists of writes is that of the later one, if it has any
pub newest_append : (size : ℕ → ℕ) (xs ys : List Write) (v b : ℕ) → newest_of size (xs ++ ys) v b ≡ newer_or (newest_of size ys v b) (newest_of size xs v b)
newest_append size [] ys v b = sym (or-none (newest_of size ys v b))
newest_append size (x ∷ xs) ys v b =
    ap (λ (o : Option (List ℕ)). newer_or o (put_there size x v b)) (newest_append size xs ys v b)
    ∙ or-assoc (newest_of size ys v b) (newest_of size xs v b) (put_there size x v b)

dropped : (size : ℕ → ℕ) (k : ℕ) (xs : List Write) (v b : ℕ) → newest_of size xs v b ≡ newer_or (newest_of size (drop k xs) v b) (newest_of size (take k xs) v b)
dropped size k xs v b = ap (λ (l : List Write). newest_of size l v b) (sym (take-append-drop k xs)) ∙ newest_append size (take k xs) (drop k xs) v b

-- without the oldest
pub newest_drop : (size : ℕ → ℕ) (k : ℕ) (xs : List Write) (v b : ℕ) (bytes : List ℕ) → newest_of size (drop k xs) v b ≡ Some bytes → newest_of size xs v b ≡ Some bytes
newest_drop size k xs v b bytes h = dropped size k xs v b ∙ ap (λ (o : Option (List ℕ)). newer_or o (newest_of size (take k xs) v b)) h

pub neither : (later here : Option (List ℕ)) → newer_or later here ≡ None → (later ≡ None) × (here ≡ None)
neither (Some bytes) here h = absurd (none-some bytes (sym h))
neither None here h = (refl, h)

pub newest_drop_none : (size : ℕ → ℕ) (k : ℕ) (xs : List Write) (v b : ℕ) → newest_of size xs v b ≡ None → newest_of size (drop k xs) v b ≡ None
newest_drop_none size k xs v b h = (neither (newest_of size (drop k xs) v b) (newest_of size (take k xs) v b) (sym (dropped size k xs v b) ∙ h)).0

none_each : (size : ℕ → ℕ) (xs : List Write) (v b : ℕ) → newest_of size xs v b ≡ None → All (λ (x : Write). put_there size x v b ≡ None) xs
none_each size [] v b h = All-nil (λ (x : Write). put_there size x v b ≡ None)
none_each size (x ∷ xs) v b h =
    let both : _ = neither (newest_of size xs v b) (put_there size x v b) h in
    All-cons (λ (x : Write). put_there size x v b ≡ None) x xs both.1 (none_each size xs v b both.0)

each_none : (size : ℕ → ℕ) (xs : List Write) (v b : ℕ) → All (λ (x : Write). put_there size x v b ≡ None) xs → newest_of size xs v b ≡ None
each_none size [] v b h = refl
each_none size (x ∷ xs) v b h =
    ap (λ (o : Option (List ℕ)). newer_or o (put_there size x v b)) (each_none size xs v b (All-tail (λ (x : Write). put_there size x v b ≡ None) x xs h))
    ∙ All-head (λ (x : Write). put_there size x v b ≡ None) x xs h

is_there : (o : Option (List ℕ)) → (o ≡ None → ⊥) → IsSome o
is_there (Some bytes) h = refl
is_there None h = absurd (h refl)

-- a block into which one of the writes puts bytes has some
pub covered : (size : ℕ → ℕ) (xs : List Write) (v b : ℕ) (x : Write) (bytes : List ℕ) → Contains xs x → put_there size x v b ≡ Some bytes → IsSome (newest_of size xs v b)
covered size xs v b x bytes among puts =
    is_there (newest_of size xs v b)
    (λ none. none-some bytes (sym (All-contains (λ (x : Write). put_there size x v b ≡ None) xs x (none_each size xs v b none) among) ∙ puts))

-- and a block into which none does has none
pub uncovered : (size : ℕ → ℕ) (xs : List Write) (v b : ℕ) → ((x : Write) → Contains xs x → put_there size x v b ≡ None) → newest_of size xs v b ≡ None
uncovered size xs v b h =
    each_none size xs v b (All-weaker (Contains xs) (λ (x : Write). put_there size x v b ≡ None) h xs (All-contains_itself xs))

-- the blocks of one write

next_block : (bytes : List ℕ) (n : ℕ) → block_of (drop 512 bytes) n ≡ block_of bytes (suc n)
next_block bytes n =
    let at : 512 + 512 * n ≡ 512 * suc n = omega arith in
    ap (λ (rest : List ℕ). take 512 rest) (drop-drop (512 * n) 512 bytes ∙ ap (λ (m : ℕ). drop m bytes) at)

-- one more block at the end
pub entries_at_snoc : (v b n : ℕ) (bytes : List ℕ) → entries_at v b (n + 1) bytes ≡ entries_at v b n bytes ++ entry_of v (b + n) (block_of bytes n) ∷ []
entries_at_snoc v b zero bytes =
    let at : b ≡ b + 0 = omega arith in
    ap (λ (k : ℕ). entry_of v k (take 512 bytes) ∷ []) at
entries_at_snoc v b (suc n) bytes =
    let more : suc n + 1 ≡ suc (n + 1) = omega arith in
    let at : b + 1 + n ≡ b + suc n = omega arith in
    let first : Entry = entry_of v b (take 512 bytes) in
    let rest : List Entry = entries_at v (b + 1) n (drop 512 bytes) in
    ap (λ (m : ℕ). entries_at v b m bytes) more
    ∙ ap (λ (l : List Entry). first ∷ l) (entries_at_snoc v (b + 1) n (drop 512 bytes))
    ∙ ap (λ (k : ℕ). first ∷ (rest ++ entry_of v k (block_of (drop 512 bytes) n) ∷ [])) at
    ∙ ap (λ (l : List ℕ). first ∷ (rest ++ entry_of v (b + suc n) l ∷ [])) (next_block bytes n)

pub entries_at_length : (v b n : ℕ) (bytes : List ℕ) → length (entries_at v b n bytes) ≡ n
entries_at_length v b zero bytes = refl
entries_at_length v b (suc n) bytes = ap suc (entries_at_length v (b + 1) n (drop 512 bytes))

-- the bytes of another block are not among them
pub entries_at_miss : (v b n : ℕ) (bytes : List ℕ) (w k : ℕ) → (w ≡ v → b ≤ k → k < b + n → ⊥) → newest (entries_at v b n bytes) w k ≡ None
entries_at_miss v b zero bytes w k h = refl
entries_at_miss v b (suc n) bytes w k h =
    ap (λ (o : Option (List ℕ)). newer_or o (bytes_for (entry_of v b (take 512 bytes)) w k))
    (entries_at_miss v (b + 1) n (drop 512 bytes) w k (λ same low high. h same (omega (arith, low)) (omega (arith, high))))
    ∙ bytes-other v b w k (take 512 bytes) (λ same at. h same (omega (arith, at)) (omega (arith, at)))

-- and of each of these blocks they are
pub entries_at_hit : (v b n : ℕ) (bytes : List ℕ) (w k : ℕ) → w ≡ v → b ≤ k → k < b + n → newest (entries_at v b n bytes) w k ≡ Some (block_of bytes (k - b))
entries_at_hit v b zero bytes w k same low high = absurd (omega (arith, low, high))
entries_at_hit v b (suc n) bytes w k same low high =
    ⊎_elim (λ past. behind past (entries_at_hit v (b + 1) n (drop 512 bytes) w k same (omega (arith, past)) (omega (arith, high)))) here (cases_lt b k)
  where
    behind : b < k → newest (entries_at v (b + 1) n (drop 512 bytes)) w k ≡ Some (block_of (drop 512 bytes) (k - (b + 1)))
        → newest (entries_at v b (suc n) bytes) w k ≡ Some (block_of bytes (k - b))
    behind past rest =
        let at : suc (k - (b + 1)) ≡ k - b = omega (arith, past) in
        ap (λ (o : Option (List ℕ)). newer_or o (bytes_for (entry_of v b (take 512 bytes)) w k)) rest
        ∙ ap (λ (l : List ℕ). Some l) (next_block bytes (k - (b + 1)) ∙ ap (λ (m : ℕ). block_of bytes m) at)

    here : k ≤ b → newest (entries_at v b (suc n) bytes) w k ≡ Some (block_of bytes (k - b))
    here up =
        let at : b ≡ k = omega (arith, low, up) in
        let first : 0 ≡ k - b = omega (arith, up) in
        ap (λ (o : Option (List ℕ)). newer_or o (bytes_for (entry_of v b (take 512 bytes)) w k))
        (entries_at_miss v (b + 1) n (drop 512 bytes) w k (λ _ past _. omega (arith, up, past)))
        ∙ ap (λ (u : ℕ). bytes_for (entry_of v b (take 512 bytes)) u k) same
        ∙ ap (λ (u : ℕ). bytes_for (entry_of v b (take 512 bytes)) v u) (sym at)
        ∙ bytes-same v b (take 512 bytes)
        ∙ ap (λ (m : ℕ). Some (block_of bytes m)) first

pub newest_entries_at : (v b n : ℕ) (bytes : List ℕ) (w k : ℕ)
    → newest (entries_at v b n bytes) w k ≡ (if eqb w v && (leb b k && ltb k (b + n)) then Some (block_of bytes (k - b)) else None)
newest_entries_at v b n bytes w k =
    let test : Bool = eqb w v && (leb b k && ltb k (b + n)) in
    by_outcome (newest (entries_at v b n bytes) w k) test (block_of bytes (k - b))
    (λ right. let it : _ = tells w v b k k (b + n) right in entries_at_hit v b n bytes w k it.0 it.1 it.2)
    (λ wrong. entries_at_miss v b n bytes w k (λ same low high. both_ways test wrong (shows w v b k k (b + n) same low high)))

-- the blocks of writes

-- those of one write, or none where it does not end within its volume
abbrev pub its_entries : (ℕ → ℕ) → Write → List Entry
its_entries size x = if leb (x.start + blocks_in x.bytes) (size x.volume) then entries_at x.volume x.start (blocks_in x.bytes) x.bytes else []

newest_within : (w t : Bool) (es : List Entry) (new : List ℕ) (v b : ℕ) → newest es v b ≡ (if t then Some new else None)
    → newest (if w then es else []) v b ≡ (if w && t then Some new else None)
newest_within true t es new v b h = h
newest_within false t es new v b h = refl

-- the newest bytes among its blocks are those that it puts
pub its_newest : (size : ℕ → ℕ) (x : Write) (v b : ℕ) → IsWholeWrite x → newest (its_entries size x) v b ≡ put_there size x v b
its_newest size x v b whole =
    newest_within (leb (x.start + blocks_in x.bytes) (size x.volume)) (touches x v b) (entries_at x.volume x.start n x.bytes) (block_of x.bytes (b - x.start)) v b
    (by_outcome (newest (entries_at x.volume x.start n x.bytes) v b) (touches x v b) (block_of x.bytes (b - x.start)) there not_there)
  where
    n : ℕ
    n = blocks_in x.bytes

    there : touches x v b ≡ true → newest (entries_at x.volume x.start (blocks_in x.bytes) x.bytes) v b ≡ Some (block_of x.bytes (b - x.start))
    there touched =
        let it : _ = tells v x.volume x.start b (512 * (b - x.start)) (length x.bytes) touched in
        entries_at_hit x.volume x.start (blocks_in x.bytes) x.bytes v b it.0 it.1 (fits_whole (length x.bytes) x.start b whole it.1 it.2)

    not_there : touches x v b ≡ false → newest (entries_at x.volume x.start (blocks_in x.bytes) x.bytes) v b ≡ None
    not_there untouched =
        entries_at_miss x.volume x.start (blocks_in x.bytes) x.bytes v b
        (λ same low high. both_ways (touches x v b) untouched
        (shows v x.volume x.start b (512 * (b - x.start)) (length x.bytes) same low (lies_whole (length x.bytes) x.start b whole low high)))

pub newest_of_entries_append : (es fs : List Entry) (v b : ℕ) → newest (es ++ fs) v b ≡ newer_or (newest fs v b) (newest es v b)
newest_of_entries_append es fs v b = newest-append es fs v b

-- the blocks of writes wait with the bytes that the last write puts
pub newest_entries : (size : ℕ → ℕ) (xs : List Write) (v b : ℕ) → All IsWholeWrite xs → newest (entries_of size xs) v b ≡ newest_of size xs v b
newest_entries size [] v b whole = refl
newest_entries size (x ∷ xs) v b whole =
    newest-append (its_entries size x) (entries_of size xs) v b
    ∙ ap (λ (o : Option (List ℕ)). newer_or o (newest (its_entries size x) v b)) (newest_entries size xs v b (All-tail IsWholeWrite x xs whole))
    ∙ ap (λ (o : Option (List ℕ)). newer_or (newest_of size xs v b) o) (its_newest size x v b (All-head IsWholeWrite x xs whole))

pub entries_append : (size : ℕ → ℕ) (xs ys : List Write) → entries_of size (xs ++ ys) ≡ entries_of size xs ++ entries_of size ys
entries_append size [] ys = refl
entries_append size (x ∷ xs) ys =
    ap (λ (l : List Entry). its_entries size x ++ l) (entries_append size xs ys) ∙ sym (append_assoc (its_entries size x) (entries_of size xs) (entries_of size ys))

counted : (w : Bool) (es : List Entry) (n : ℕ) → length es ≡ n → length (if w then es else []) ≡ (if w then n else 0)
counted true es n h = h
counted false es n h = refl

-- how many they are, whatever the lengths of the writes
pub entries_count : (size : ℕ → ℕ) (xs : List Write) → length (entries_of size xs) ≡ blocks_within_of size xs
entries_count size [] = refl
entries_count size (x ∷ xs) =
    let here : length (its_entries size x) ≡ (if leb (x.start + blocks_in x.bytes) (size x.volume) then blocks_in x.bytes else 0) =
    counted (leb (x.start + blocks_in x.bytes) (size x.volume)) (entries_at x.volume x.start (blocks_in x.bytes) x.bytes) (blocks_in x.bytes)
    (entries_at_length x.volume x.start (blocks_in x.bytes) x.bytes) in
    length-append (its_entries size x) (entries_of size xs)
    ∙ ap (λ (n : ℕ). n + length (entries_of size xs)) here
    ∙ ap (λ (n : ℕ). (if leb (x.start + blocks_in x.bytes) (size x.volume) then blocks_in x.bytes else 0) + n) (entries_count size xs)

pub entries_length : (size : ℕ → ℕ) (xs : List Write) → All IsWholeWrite xs → length (entries_of size xs) ≡ blocks_within_of size xs
entries_length size xs _ = entries_count size xs

-- without the blocks of the first writes those of the others are left
pub entries_drop : (size : ℕ → ℕ) (xs ys : List Write) → drop (length (entries_of size xs)) (entries_of size (xs ++ ys)) ≡ entries_of size ys
entries_drop size xs ys =
    ap (λ (l : List Entry). drop (length (entries_of size xs)) l) (entries_append size xs ys)
    ∙ drop_at (entries_of size xs) (entries_of size ys) (length (entries_of size xs)) refl
