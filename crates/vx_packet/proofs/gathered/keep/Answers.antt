-- `keep`: clauses came and full.
use Rattle.std.proofs.Common.{arith, ◌≡◌, ◌<◌, ◌+◌, ◌∙◌, ap, sym, subst, List, ℕ, Option, Some, length, take, set}
use Rattle.std.proofs.Math.Seq.{take-set-lt}
use Rattle.std.proofs.lemmas.List.{length-take}
use Rattle.vx_packet.specs.Gathering.{parts_came, AreFull}
use Rattle.vx_packet.proofs.GatherLemmas.{came-put, came-told, kept-in, kept-past, AreFull-set}
use Rattle.vx_packet.proofs.gathered.keep.Goals as goal

-- the first so many lengths stay full
full_still : (lengths : List (Option ℕ)) (count part n : ℕ) → part < count → n < 1025 → (part + 1 < count → n ≡ 1024) → AreFull (take count lengths) → AreFull (take count (set lengths part (Some n)))
full_still lengths count part n lt few whole full =
    subst AreFull (sym (take-set-lt count lengths part (Some n) lt)) (AreFull-set (take count lengths) part n (omega arith) (λ h. whole (omega (arith, length-take count lengths))) full)

pub returns-then-part-lt-MOST_PARTS-clause-came : goal.returns-then-part-lt-MOST_PARTS-clause-came
returns-then-part-lt-MOST_PARTS-clause-came c =
    let payload : List ℕ = c.args.payload.now in
    let front : List (Option ℕ) = take c.args.count c.args.lengths.now in
    ap (λ (ls : List (Option ℕ)). parts_came ls c.put_bytes.new.bytes) (take-set-lt c.args.count c.args.lengths.now c.args.part (Some (length payload)) c.requires.part)
    ∙ ap (parts_came (set front c.args.part (Some (length payload)))) c.put_bytes.ensures
    ∙ came-put front c.args.part payload c.args.buffer.now c.requires.few (omega (arith, c.requires.room, c.requires.few, c.if-part-lt-MOST_PARTS.true))
    ∙ ap (λ (t : List ℕ). set (parts_came front c.args.buffer.now) c.args.part (Some t)) (sym (kept-in c.args.part payload c.if-part-lt-MOST_PARTS.true))

pub returns-then-part-lt-MOST_PARTS-clause-full : goal.returns-then-part-lt-MOST_PARTS-clause-full
returns-then-part-lt-MOST_PARTS-clause-full c full =
    full_still c.args.lengths.now c.args.count c.args.part (length c.args.payload.now) c.requires.part (omega (arith, c.requires.few)) c.requires.whole full

pub returns-else-part-lt-MOST_PARTS-clause-came : goal.returns-else-part-lt-MOST_PARTS-clause-came
returns-else-part-lt-MOST_PARTS-clause-came c =
    let payload : List ℕ = c.args.payload.now in
    let front : List (Option ℕ) = take c.args.count c.args.lengths.now in
    ap (λ (ls : List (Option ℕ)). parts_came ls c.args.buffer.now) (take-set-lt c.args.count c.args.lengths.now c.args.part (Some (length payload)) c.requires.part)
    ∙ came-told front c.args.part (length payload) c.args.buffer.now (omega (arith, c.requires.room))
    ∙ ap (λ (t : List ℕ). set (parts_came front c.args.buffer.now) c.args.part (Some t)) (sym (kept-past c.args.part payload (omega arith)))

pub returns-else-part-lt-MOST_PARTS-clause-full : goal.returns-else-part-lt-MOST_PARTS-clause-full
returns-else-part-lt-MOST_PARTS-clause-full c full =
    full_still c.args.lengths.now c.args.count c.args.part (length c.args.payload.now) c.requires.part (omega (arith, c.requires.few)) c.requires.whole full
