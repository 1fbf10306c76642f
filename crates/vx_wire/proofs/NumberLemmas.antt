-- Bytes and the number that they are read as.
use Rattle.std.proofs.Common.{◌≡◌, ℕ, zero, suc, ◌+◌, ◌*◌, ◌^◌, ◌<◌, ◌≤◌, ◌%◌, List, [], ◌∷◌, ◌++◌, length, take, drop, slice_index, refl, sym, ap, ◌∙◌, arith, inl, inr, add-zero}
use Rattle.std.proofs.lemmas.Bool.{cases_lt}
use Rattle.std.proofs.lemmas.List.{get_or-take, get_or_past, get_or-drop, drop_at, length-take, length-drop, append-nil}
use Rattle.std.proofs.lemmas.Nat.{same_from_place}
use Rattle.std.specs.Int.{byte_at, bytes_high_first}
use Rattle.byteorder.specs.Endian.{big_from, big_number}
use Rattle.byteorder.specs.Numbers.{big_from-cons, big_from-lt, big_from-take, big_number-reads_back, length-bytes_high_first}
use Rattle.vx_wire.specs.Numbers.{be_bytes, number_at, AreBytes}
use Rattle.vx_wire.specs.Places.{cut}

pub length-be_bytes : (w n : ℕ) → length (be_bytes w n) ≡ w
unfolding be_bytes
length-be_bytes w n = length-bytes_high_first w n

pub AreBytes-rest : (x : ℕ) (xs : List ℕ) → AreBytes (x ∷ xs) → AreBytes xs
AreBytes-rest x xs h i = h (suc i)

pub AreBytes-drop : (n : ℕ) (bytes : List ℕ) → AreBytes bytes → AreBytes (drop n bytes)
AreBytes-drop n bytes h i = rw get_or-drop (h (n + i))

-- two lists of bytes that are one number are one list
same_from_number : (xs ys : List ℕ) → AreBytes xs → AreBytes ys → length ys ≡ length xs → big_from 0 (length xs) xs ≡ big_from 0 (length xs) ys → xs ≡ ys
same_from_number [] [] a b len e = refl
same_from_number [] (y ∷ ys) a b len e = absurd (omega arith)
same_from_number (x ∷ xs) [] a b len e = absurd (omega arith)
same_from_number (x ∷ xs) (y ∷ ys) a b len e =
    let n : ℕ = length xs in
    let rest : length ys ≡ length xs = omega arith in
    let p : big_from 0 n xs < 256 ^ n = big_from-lt 0 n xs (AreBytes-rest x xs a) in
    let q : big_from 0 n ys < 256 ^ n = big_from-lt 0 n ys (AreBytes-rest y ys b) in
    let f : big_from 1 n (x ∷ xs) ≡ big_from 0 n xs = big_from-cons 0 n x xs in
    let g : big_from 1 n (y ∷ ys) ≡ big_from 0 n ys = big_from-cons 0 n y ys in
    let both : x * 256 ^ n + big_from 0 n xs ≡ y * 256 ^ n + big_from 0 n ys =
    ap (λ (r : ℕ). x * 256 ^ n + r) (sym f) ∙ e ∙ ap (λ (r : ℕ). y * 256 ^ n + r) g in
    let parts = same_from_place x (big_from 0 n xs) y (big_from 0 n ys) (256 ^ n) p q both in
    let tails : xs ≡ ys = same_from_number xs ys (AreBytes-rest x xs a) (AreBytes-rest y ys b) rest parts.1 in
    ap (λ (h : ℕ). h ∷ xs) parts.0 ∙ ap (λ (t : List ℕ). y ∷ t) tails

byte_at-lt : (k n : ℕ) → byte_at k n < 256
byte_at-lt zero n = omega arith
byte_at-lt (suc k) n = omega arith

AreBytes-high_first : (w n : ℕ) → AreBytes (bytes_high_first w n)
AreBytes-high_first zero n i = omega arith
AreBytes-high_first (suc w) n zero = byte_at-lt w n
AreBytes-high_first (suc w) n (suc i) = AreBytes-high_first w n i

pub AreBytes-be_bytes : (w n : ℕ) → AreBytes (be_bytes w n)
unfolding be_bytes
AreBytes-be_bytes w n = AreBytes-high_first w n

-- the bytes that are read as a number are its spelling
pub be_bytes-number : (bytes : List ℕ) → AreBytes bytes → be_bytes (length bytes) (number_at (length bytes) 0 bytes) ≡ bytes
unfolding be_bytes number_at
be_bytes-number bytes h =
    let w : ℕ = length bytes in
    let n : ℕ = big_from 0 w bytes in
    let fits : n < 256 ^ w = big_from-lt 0 w bytes h in
    let back : big_from 0 w (bytes_high_first w n ++ []) ≡ n = big_number-reads_back w n [] fits in
    let again : big_from 0 w (bytes_high_first w n) ≡ n = ap (big_from 0 w) (sym (append-nil (bytes_high_first w n))) ∙ back in
    sym (same_from_number bytes (bytes_high_first w n) h (AreBytes-high_first w n) (length-bytes_high_first w n) (sym again))

-- a number that is spelled is read again
pub number_at-be_bytes : (w n : ℕ) (before rest : List ℕ) → n < 256 ^ w → number_at w (length before) (before ++ (be_bytes w n ++ rest)) ≡ n
unfolding be_bytes number_at
number_at-be_bytes w n before rest h = rw (drop_at before (bytes_high_first w n ++ rest) (length before) refl) (big_number-reads_back w n rest h)

-- the number at a place is that of the bytes cut there
pub number_at-cut : (w at : ℕ) (bytes : List ℕ) → number_at w at bytes ≡ number_at w 0 (cut at w bytes)
unfolding number_at
number_at-cut w at bytes = sym (big_from-take 0 w w (drop at bytes) (omega arith))

pub AreBytes-cut : (at w : ℕ) (bytes : List ℕ) → AreBytes bytes → AreBytes (cut at w bytes)
AreBytes-cut at w bytes h i =
    elim (cases_lt i w) [
      | inl lt ↦ rw (get_or-take w (drop at bytes) i 0 lt) (AreBytes-drop at bytes h i)
      | inr le ↦ rw (get_or_past (cut at w bytes) i 0 (omega (arith, length-take w (drop at bytes)))) (omega arith)
    ]

-- the bytes at a place are the spelling of the number there
pub number_at-spelled : (w at : ℕ) (bytes : List ℕ) → AreBytes bytes → at + w ≤ length bytes → be_bytes w (number_at w at bytes) ≡ cut at w bytes
number_at-spelled w at bytes h fits =
    let len : length (cut at w bytes) ≡ w = omega (arith, length-take w (drop at bytes), length-drop at bytes) in
    rw (number_at-cut w at bytes) (ap (λ (v : ℕ). be_bytes v (number_at v 0 (cut at w bytes))) (sym len) ∙ be_bytes-number (cut at w bytes) (AreBytes-cut at w bytes h))

pub number_at-lt : (w at : ℕ) (bytes : List ℕ) → AreBytes bytes → number_at w at bytes < 256 ^ w
unfolding number_at
number_at-lt w at bytes h = big_from-lt 0 w (drop at bytes) (AreBytes-drop at bytes h)

-- one byte
pub number_at-byte : (at : ℕ) (bytes : List ℕ) → number_at 1 at bytes ≡ slice_index bytes at
unfolding number_at
number_at-byte at bytes =
    let same : slice_index (drop at bytes) 0 ≡ slice_index bytes at = get_or-drop at bytes 0 0 ∙ ap (λ (i : ℕ). slice_index bytes i) (add-zero at) in
    omega (arith, same)

pub be_bytes-byte : (n : ℕ) → n < 256 → be_bytes 1 n ≡ n ∷ []
unfolding be_bytes
be_bytes-byte n h = let e : n % 256 ≡ n = omega arith in rw e refl

-- what a read of the slice of w bytes from place at on gives
pub number_at-is : (w at k : ℕ) (bytes : List ℕ) (n : ℕ) → k ≡ w → n ≡ big_number w (take k (drop at bytes)) → n ≡ number_at w at bytes
unfolding number_at
number_at-is w at k bytes n same is = is ∙ ap (λ (j : ℕ). big_number w (take j (drop at bytes))) same ∙ sym (number_at-cut w at bytes)

pub ruleset widths = length-be_bytes

-- a number that is spelled is read
pub reads_back : (w n : ℕ) → n < 256 ^ w → number_at w 0 (be_bytes w n ++ []) ≡ n
reads_back w n lt = number_at-be_bytes w n [] [] lt

-- a block that begins with these eight bytes has this number there
pub magic_is : (n m : ℕ) (block : List ℕ) → n < 256 ^ 8 → m < 256 ^ 8 → be_bytes 8 n ≡ take 8 block → take 8 block ≡ be_bytes 8 m → n ≡ m
magic_is n m block small low first second =
    sym (reads_back 8 n small) ∙ ap (λ (b : List ℕ). number_at 8 0 (b ++ [])) (first ∙ second) ∙ reads_back 8 m low
