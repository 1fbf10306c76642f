-- The body that stands in a run of blocks.
use Rattle.std.proofs.Common.{◌≡◌, ℕ, zero, suc, ◌+◌, ◌-◌, ◌*◌, ◌<◌, ◌≤◌, List, [], ◌∷◌, ◌++◌, length, take, drop, refl, ap, sym, ◌∙◌, append_assoc, arith}
use Rattle.std.proofs.lemmas.List.{take-append-drop, take-append-le, drop-drop, length-drop}
use Rattle.vx_copyfmt.specs.Copies.{Disk, run_of}

pub run_of-more : (d : Disk) (b k m : ℕ) → run_of d b (k + m) ≡ run_of d b k ++ run_of d (b + k) m
run_of-more d b zero m =
    let none : 0 + m ≡ m = omega arith in
    let same : b + 0 ≡ b = omega arith in
    rw (none, same) refl
run_of-more d b (suc k) m =
    let count : suc k + m ≡ suc (k + m) = omega arith in
    let place : b + 1 + k ≡ b + suc k = omega arith in
    rw count
    (ap (λ (t : List ℕ). d b ++ t) (run_of-more d (b + 1) k m) ∙ sym (append_assoc (d b) (run_of d (b + 1) k) (run_of d (b + 1 + k) m))
    ∙ ap (λ (p : ℕ). (d b ++ run_of d (b + 1) k) ++ run_of d p m) place)

-- blocks that are the pieces of some bytes
pub run_of-pieces : (d : Disk) (k b : ℕ) (bytes : List ℕ) → length bytes ≡ 512 * k → ((j : ℕ) → j < k → d (b + j) ≡ take 512 (drop (512 * j) bytes)) → run_of d b k ≡ bytes
run_of-pieces d zero b [] len pieces = refl
run_of-pieces d zero b (x ∷ bytes) len pieces = absurd (omega (arith, len))
run_of-pieces d (suc k) b bytes len pieces =
    let here : b + 0 ≡ b = omega arith in
    let first : d b ≡ take 512 bytes = ap d (sym here) ∙ pieces 0 (omega arith) in
    let shorter : length (drop 512 bytes) ≡ 512 * k = omega (arith, len, length-drop 512 bytes) in
    let rest : run_of d (b + 1) k ≡ drop 512 bytes =
    run_of-pieces d k (b + 1) (drop 512 bytes) shorter
    (λ j lt.
    let place : b + 1 + j ≡ b + suc j = omega arith in
    let at : 512 + 512 * j ≡ 512 * suc j = omega arith in
    ap d place ∙ pieces (suc j) (omega (arith, lt)) ∙ ap (λ (n : ℕ). take 512 (drop n bytes)) (sym at) ∙ ap (take 512) (sym (drop-drop (512 * j) 512 bytes))) in
    ap (λ (t : List ℕ). t ++ run_of d (b + 1) k) first ∙ ap (λ (t : List ℕ). take 512 bytes ++ t) rest ∙ take-append-drop 512 bytes

-- the first n bytes of a run that begins with these bytes
pub body_is : (d : Disk) (b k n : ℕ) (bytes : List ℕ) → length bytes ≡ 512 * k → k ≤ 127 → n ≤ length bytes → ((j : ℕ) → j < k → d (b + j) ≡ take 512 (drop (512 * j) bytes))
    → take n (run_of d b 127) ≡ take n bytes
body_is d b k n bytes len few fits pieces =
    let whole : 127 ≡ k + (127 - k) = omega (arith, few) in
    ap (λ (m : ℕ). take n (run_of d b m)) whole ∙ ap (take n) (run_of-more d b k (127 - k))
    ∙ ap (λ (t : List ℕ). take n (t ++ run_of d (b + k) (127 - k))) (run_of-pieces d k b bytes len pieces) ∙ take-append-le n bytes (run_of d (b + k) (127 - k)) fits
