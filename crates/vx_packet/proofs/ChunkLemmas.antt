-- Parts of a payload that is two runs of bytes.
use Rattle.std.proofs.Common.{◌≡◌, ◌≤◌, ℕ, ◌+◌, ◌-◌, ◌*◌, min, List, ◌++◌, length, take, drop, ap, sym, ◌∙◌, arith}
use Rattle.std.proofs.lemmas.List.{take_min, length-take, length-drop}
use Rattle.std.proofs.Math.Seq.{take-append-add, drop-append-add}
use Rattle.vx_packet.specs.Messages.{chunk}

-- the first part is the first run and the front of the second
pub first_chunk : (k end : ℕ) (front bytes : List ℕ) → k ≡ 0 → length front ≤ 1024 → end ≡ min (length bytes) (1024 - length front) → chunk k (front ++ bytes) ≡ front ++ take end bytes
first_chunk k end front bytes zero few is =
    let at : 1024 * k ≡ 0 = omega arith in
    let room : 1024 ≡ length front + (1024 - length front) = omega arith in
    let short : end ≡ min (1024 - length front) (length bytes) = omega arith in
    ap (λ (n : ℕ). take 1024 (drop n (front ++ bytes))) at
    ∙ ap (λ (n : ℕ). take n (front ++ bytes)) room
    ∙ take-append-add front bytes (1024 - length front)
    ∙ ap (λ (t : List ℕ). front ++ t) (sym (take_min (1024 - length front) bytes) ∙ ap (λ (n : ℕ). take n bytes) (sym short))

-- a later part is of the second run alone
pub later_chunk : (k from end : ℕ) (front bytes : List ℕ) → from + length front ≡ 1024 * k → from ≤ length bytes → end ≡ min (length bytes) (from + 1024)
    → chunk k (front ++ bytes) ≡ take (end - from) (drop from bytes)
later_chunk k from end front bytes at within is =
    let behind : 1024 * k ≡ length front + from = omega arith in
    let short : end - from ≡ min 1024 (length (drop from bytes)) = omega (arith, length-drop from bytes) in
    ap (λ (n : ℕ). take 1024 (drop n (front ++ bytes))) behind
    ∙ ap (take 1024) (drop-append-add front bytes from)
    ∙ sym (take_min 1024 (drop from bytes))
    ∙ ap (λ (n : ℕ). take n (drop from bytes)) (sym short)

pub length-chunk : (k : ℕ) (payload : List ℕ) → length (chunk k payload) ≡ min 1024 (length payload - 1024 * k)
length-chunk k payload = omega (arith, length-take 1024 (drop (1024 * k) payload), length-drop (1024 * k) payload)
