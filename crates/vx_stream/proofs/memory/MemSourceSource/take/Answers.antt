-- `take`: clause bytes.
use Rattle.std.proofs.Common.{refl, ◌≡◌, ◌≤◌, take, drop, ℕ, ◌+◌, ◌-◌, length, List, ◌++◌, arith, ap, sym, ◌∙◌, length-append, length-drop}
use Rattle.std.proofs.lemmas.List.{take_at, take-append-drop, drop-drop, drop_all, length-take}
use Rattle.vx_stream.proofs.memory.MemSourceSource.take.Goals as goal

-- The bytes that were left are those that were handed out, and those that are left now.
split : (bytes piece rest : List ℕ) (next n : ℕ) → n ≤ length bytes - next → piece ≡ take n (drop next bytes)
    → drop next bytes ≡ take n (piece ++ rest) ++ drop (next + n) bytes
split bytes piece rest next n fits is =
    let len : length piece ≡ n = omega (arith, ap length is, length-take n (drop next bytes), length-drop next bytes) in
    rw (take_at piece rest n len, is, ← drop-drop n next bytes) (sym (take-append-drop n (drop next bytes)))

pub returns-clause-bytes : goal.returns-clause-bytes
returns-clause-bytes c =
    let piece : c.copy_from_slice.new.self ≡ take c.min-count.result (drop c.self.inside.next c.self.inside.bytes.items) =
    let gap : c.self.inside.next + c.min-count.result - c.self.inside.next ≡ c.min-count.result = omega arith in
    rw (c.copy_from_slice.ensures.after, gap, c.deref-2.ensures.value) refl in
    let fits : c.min-count.result ≤ length c.self.inside.bytes.items - c.self.inside.next = omega arith in (
      ap (λ v. v.left) (sym c.self.view_is) ∙ split _ _ _ _ _ fits piece,
      λ none some. drop_all (c.self.inside.next + c.min-count.result) c.self.inside.bytes.items (omega (arith, length-append c.copy_from_slice.new.self (drop c.min-count.result c.args.into.now), length-drop c.min-count.result c.args.into.now)),
    )
