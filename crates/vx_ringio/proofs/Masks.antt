-- The first bytes of a body's blocks, put in and taken out one after another.
use Rattle.std.proofs.Common.{◌≡◌, ℕ, zero, suc, ◌+◌, ◌-◌, ◌*◌, ◌/◌, ◌%◌, ◌<◌, ◌≤◌, List, [], ◌∷◌, ◌++◌, length, take, drop, get_or, set, refl, sym, ◌∙◌, ap, arith, length-drop, length-set}
use Rattle.std.specs.Prelude.{slice_index}
use Rattle.std.specs.List.{concat}
use Rattle.std.proofs.lemmas.List.{drop-drop, get_or-take, get_or-drop, take-set-le, drop-set-lt, drop-set-add}
use Rattle.vx_wire.specs.Fields.{zero_bytes}
use Rattle.vx_ringlog.specs.Records.{with_firsts, as_on_disk, first_bytes, firsts_of, first_blocks}
use Rattle.vx_ringlog.proofs.Blocks.{cut_count}
use Rattle.vx_ringio.specs.Bodies.{all_blocks}
use Rattle.vx_ringio.proofs.Bodies.{concat_blocks}

-- the first k blocks with these bytes first
abbrev pub put_firsts : ℕ → List ℕ → List (List ℕ) → List (List ℕ)
put_firsts zero firsts bs = bs
put_firsts (suc k) firsts [] = []
put_firsts (suc k) firsts (b ∷ bs) = (slice_index firsts 0 ∷ drop 1 b) ∷ put_firsts k (drop 1 firsts) bs

-- the first k blocks with this byte first
abbrev pub put_byte : ℕ → ℕ → List (List ℕ) → List (List ℕ)
put_byte v zero bs = bs
put_byte v (suc k) [] = []
put_byte v (suc k) (b ∷ bs) = (v ∷ drop 1 b) ∷ put_byte v k bs

-- the first bytes of the first k blocks
abbrev pub some_firsts : ℕ → List (List ℕ) → List ℕ
some_firsts zero bs = []
some_firsts (suc k) [] = []
some_firsts (suc k) (b ∷ bs) = slice_index b 0 ∷ some_firsts k bs

-- ---- one byte

-- block k of these bytes
block_k : (n k : ℕ) (bytes : List ℕ) → k < n → get_or (first_blocks n bytes) k [] ≡ take 512 (drop (512 * k) bytes)
block_k zero k bytes low = absurd (omega arith)
block_k (suc n) zero bytes low = refl
block_k (suc n) (suc k) bytes low =
    let at : 512 + 512 * k ≡ 512 * suc k = omega arith in
    block_k n k (drop 512 bytes) (omega arith) ∙ ap (λ (xs : List ℕ). take 512 xs) (drop-drop (512 * k) 512 bytes ∙ ap (λ (m : ℕ). drop m bytes) at)

pub first_of : (n k : ℕ) (bytes : List ℕ) → k < n → slice_index (get_or (first_blocks n bytes) k []) 0 ≡ slice_index bytes (512 * k)
first_of n k bytes low =
    ap (λ (b : List ℕ). slice_index b 0) (block_k n k bytes low) ∙ get_or-take 512 (drop (512 * k) bytes) 0 0 (omega arith) ∙ get_or-drop (512 * k) bytes 0 0
    ∙ ap (λ (m : ℕ). slice_index bytes m) (omega arith)

set_front : (bytes : List ℕ) (v : ℕ) → 512 ≤ length bytes → take 512 (set bytes 0 v) ≡ v ∷ drop 1 (take 512 bytes)
set_front [] v long = absurd (omega arith)
set_front (x ∷ bytes) v long = refl

-- its block, where it is written
pub block_set : (n k v : ℕ) (bytes : List ℕ) → k < n → length bytes ≡ 512 * n → first_blocks n (set bytes (512 * k) v) ≡ set (first_blocks n bytes) k (v ∷ drop 1 (get_or (first_blocks n bytes) k []))
block_set zero k v bytes low size = absurd (omega arith)
block_set (suc n) zero v bytes low size =
    ap (λ (b : List ℕ). b ∷ first_blocks n (drop 512 (set bytes 0 v))) (set_front bytes v (omega (arith, size)))
    ∙ ap (λ (xs : List ℕ). (v ∷ drop 1 (take 512 bytes)) ∷ first_blocks n xs) (drop-set-lt 512 bytes 0 v (omega arith))
block_set (suc n) (suc k) v bytes low size =
    let at : 512 * suc k ≡ 512 + 512 * k = omega arith in
    ap (λ (m : ℕ). first_blocks (suc n) (set bytes m v)) at
    ∙ ap (λ (b : List ℕ). b ∷ first_blocks n (drop 512 (set bytes (512 + 512 * k) v))) (take-set-le 512 bytes (512 + 512 * k) v (omega arith))
    ∙ ap (λ (xs : List ℕ). take 512 bytes ∷ first_blocks n xs) (drop-set-add 512 bytes (512 * k) v)
    ∙ ap (λ (bs : List (List ℕ)). take 512 bytes ∷ bs) (block_set n k v (drop 512 bytes) (omega arith) (omega (arith, size, length-drop 512 bytes)))

-- ---- one block more

byte_more : (v k : ℕ) (bs : List (List ℕ)) → k < length bs → set (put_byte v k bs) k (v ∷ drop 1 (get_or (put_byte v k bs) k [])) ≡ put_byte v (suc k) bs
byte_more v k [] low = absurd (omega arith)
byte_more v zero (b ∷ bs) low = refl
byte_more v (suc k) (b ∷ bs) low = ap (λ (rest : List (List ℕ)). (v ∷ drop 1 b) ∷ rest) (byte_more v k bs (omega arith))

firsts_more : (k : ℕ) (firsts : List ℕ) (bs : List (List ℕ)) → k < length bs
    → set (put_firsts k firsts bs) k (slice_index firsts k ∷ drop 1 (get_or (put_firsts k firsts bs) k [])) ≡ put_firsts (suc k) firsts bs
firsts_more k firsts [] low = absurd (omega arith)
firsts_more zero firsts (b ∷ bs) low = refl
firsts_more (suc k) firsts (b ∷ bs) low =
    let later : slice_index firsts (suc k) ≡ slice_index (drop 1 firsts) k = ap (λ (m : ℕ). slice_index firsts m) (omega arith) ∙ sym (get_or-drop 1 firsts k 0) in
    ap
    (λ (v : ℕ). (slice_index firsts 0 ∷ drop 1 b) ∷ set (put_firsts k (drop 1 firsts) bs) k (v ∷ drop 1 (get_or (put_firsts k (drop 1 firsts) bs) k [])))
    later
    ∙ ap (λ (rest : List (List ℕ)). (slice_index firsts 0 ∷ drop 1 b) ∷ rest) (firsts_more k (drop 1 firsts) bs (omega arith))

same_first : (v k : ℕ) (bs : List (List ℕ)) → get_or (put_byte v k bs) k [] ≡ get_or bs k []
same_first v zero bs = refl
same_first v (suc k) [] = refl
same_first v (suc k) (b ∷ bs) = same_first v k bs

some_more : (k m : ℕ) (bs : List (List ℕ)) → k < length bs → set (some_firsts k bs ++ zero_bytes (suc m)) k (slice_index (get_or bs k []) 0) ≡ some_firsts (suc k) bs ++ zero_bytes m
some_more k m [] low = absurd (omega arith)
some_more zero m (b ∷ bs) low = refl
some_more (suc k) m (b ∷ bs) low = ap (λ (rest : List ℕ). slice_index b 0 ∷ rest) (some_more k m bs (omega arith))

-- ---- all blocks

byte_all : (k : ℕ) (bs : List (List ℕ)) → length bs ≤ k → put_byte 0x42 k bs ≡ as_on_disk bs
byte_all zero [] all = refl
byte_all (suc k) [] all = refl
byte_all zero (b ∷ bs) all = absurd (omega arith)
byte_all (suc k) (b ∷ bs) all = ap (λ (rest : List (List ℕ)). (0x42 ∷ drop 1 b) ∷ rest) (byte_all k bs (omega arith))

some_all : (k : ℕ) (bs : List (List ℕ)) → length bs ≤ k → some_firsts k bs ≡ first_bytes bs
some_all zero [] all = refl
some_all (suc k) [] all = refl
some_all zero (b ∷ bs) all = absurd (omega arith)
some_all (suc k) (b ∷ bs) all = ap (λ (rest : List ℕ). slice_index b 0 ∷ rest) (some_all k bs (omega arith))

firsts_all : (k : ℕ) (firsts : List ℕ) (bs : List (List ℕ)) → length bs ≤ k → concat (put_firsts k firsts bs) ≡ with_firsts firsts bs
firsts_all zero firsts [] all = refl
firsts_all (suc k) firsts [] all = refl
firsts_all zero firsts (b ∷ bs) all = absurd (omega arith)
firsts_all (suc k) firsts (b ∷ bs) all = ap (λ (rest : List ℕ). (slice_index firsts 0 ∷ drop 1 b) ++ rest) (firsts_all k (drop 1 firsts) bs (omega arith))

-- ---- the loops

-- the first k blocks are masked
pub record Masked (k : ℕ) (given bytes firsts : List ℕ) : Type 0 where
  pub blocks : first_blocks (length given / 512) bytes ≡ put_byte 0x42 k (all_blocks given)
  pub taken : firsts ≡ some_firsts k (all_blocks given) ++ zero_bytes (16 - k)
  pub size : length bytes ≡ length given

pub mask_none : (given : List ℕ) → Masked 0 given given (zero_bytes 16)
mask_none given = record { blocks = refl; taken = refl; size = refl }

pub mask_more : (k : ℕ) (given bytes firsts : List ℕ) → k < length given / 512 → length given % 512 ≡ 0 → length given ≤ 8192 → Masked k given bytes firsts
    → Masked (k + 1) given (set bytes (512 * k) 0x42) (set firsts k (slice_index bytes (512 * k)))
mask_more k given bytes firsts low whole few masked =
    let n : ℕ = length given / 512 in
    let next : suc k ≡ k + 1 = omega arith in
    let count : length (all_blocks given) ≡ n = cut_count n given in
    let more : 16 - k ≡ suc (16 - suc k) = omega (arith, low, few) in
    let byte : slice_index bytes (512 * k) ≡ slice_index (get_or (all_blocks given) k []) 0 =
    sym (first_of n k bytes low) ∙ ap (λ (bs : List (List ℕ)). slice_index (get_or bs k []) 0) masked.blocks ∙ ap (λ (b : List ℕ). slice_index b 0) (same_first 0x42 k (all_blocks given)) in
    record {
      blocks = block_set n k 0x42 bytes low (omega (arith, whole, masked.size)) ∙ ap (λ (bs : List (List ℕ)). set bs k (0x42 ∷ drop 1 (get_or bs k []))) masked.blocks
          ∙ byte_more 0x42 k (all_blocks given) (omega (arith, low, count)) ∙ ap (λ (m : ℕ). put_byte 0x42 m (all_blocks given)) next;
      taken = ap (λ (v : ℕ). set firsts k v) byte
          ∙ ap (λ (fs : List ℕ). set fs k (slice_index (get_or (all_blocks given) k []) 0)) (masked.taken ∙ ap (λ (m : ℕ). some_firsts k (all_blocks given) ++ zero_bytes m) more)
          ∙ some_more k (16 - suc k) (all_blocks given) (omega (arith, low, count))
          ∙ ap (λ (m : ℕ). some_firsts m (all_blocks given) ++ zero_bytes (16 - m)) next;
      size = length-set bytes (512 * k) 0x42 ∙ masked.size;
    }

module _ (k : ℕ) (given bytes firsts : List ℕ) (all : length given / 512 ≤ k) (few : k ≤ length given / 512) (masked : Masked k given bytes firsts) where
  count : length (all_blocks given) ≡ length given / 512
  count = cut_count (length given / 512) given

  pub masked_blocks : all_blocks bytes ≡ as_on_disk (all_blocks given)
  masked_blocks =
      ap (λ (n : ℕ). first_blocks (n / 512) bytes) masked.size ∙ masked.blocks ∙ byte_all k (all_blocks given) (omega (arith, all, count))

  pub masked_firsts : firsts ≡ firsts_of (all_blocks given)
  masked_firsts =
      let same : k ≡ length (all_blocks given) = omega (arith, all, few, count) in
      masked.taken ∙ ap (λ (fs : List ℕ). fs ++ zero_bytes (16 - k)) (some_all k (all_blocks given) (omega (arith, all, count)))
      ∙ ap (λ (m : ℕ). first_bytes (all_blocks given) ++ zero_bytes (16 - m)) same

-- the first k blocks have their bytes again
pub record Unmasked (k : ℕ) (firsts disk bytes : List ℕ) : Type 0 where
  pub blocks : first_blocks (length disk / 512) bytes ≡ put_firsts k firsts (all_blocks disk)
  pub size : length bytes ≡ length disk

pub unmask_none : (firsts disk : List ℕ) → Unmasked 0 firsts disk disk
unmask_none firsts disk = record { blocks = refl; size = refl }

pub unmask_more : (k : ℕ) (firsts disk bytes : List ℕ) → k < length disk / 512 → length disk % 512 ≡ 0 → Unmasked k firsts disk bytes → Unmasked (k + 1) firsts disk (set bytes (512 * k) (slice_index firsts k))
unmask_more k firsts disk bytes low whole unmasked =
    let n : ℕ = length disk / 512 in
    let next : suc k ≡ k + 1 = omega arith in
    let count : length (all_blocks disk) ≡ n = cut_count n disk in
    record {
      blocks = block_set n k (slice_index firsts k) bytes low (omega (arith, whole, unmasked.size))
          ∙ ap (λ (bs : List (List ℕ)). set bs k (slice_index firsts k ∷ drop 1 (get_or bs k []))) unmasked.blocks
          ∙ firsts_more k firsts (all_blocks disk) (omega (arith, low, count)) ∙ ap (λ (m : ℕ). put_firsts m firsts (all_blocks disk)) next;
      size = length-set bytes (512 * k) (slice_index firsts k) ∙ unmasked.size;
    }

pub unmasked_all : (k : ℕ) (firsts disk bytes : List ℕ) → length disk / 512 ≤ k → length disk % 512 ≡ 0 → Unmasked k firsts disk bytes → bytes ≡ with_firsts firsts (all_blocks disk)
unmasked_all k firsts disk bytes all whole unmasked =
    sym (concat_blocks (length disk / 512) bytes (omega (arith, whole, unmasked.size)))
    ∙ ap (λ (bs : List (List ℕ)). concat bs) unmasked.blocks ∙ firsts_all k firsts (all_blocks disk) (omega (arith, all, cut_count (length disk / 512) disk))
