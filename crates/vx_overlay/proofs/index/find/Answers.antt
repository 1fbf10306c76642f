-- Each step of the search.
use Rattle.std.proofs.Common.{◌≡◌, ◌<◌, ◌+◌, ◌-◌, min, ℕ, length, take, get_or, refl, sym, ◌∙◌, ap, arith}
use Rattle.std.proofs.lemmas.Option.{slice_get_read}
use Rattle.vx_overlay.specs.Pending.{newest}
use Rattle.vx_overlay.proofs.Indexing.{begins, begins_all, goes_along_at, goes_back_at, hit_at}
use Rattle.vx_overlay.proofs.index.find.Goals as goal
use Rattle.vx_overlay.proofs.index.find.Goals.{then-kept, else-kept, else-entry-vol-via-then-entry-vol+else-entry-block, else-entry-vol-via-else-entry-vol}

pub loop-at-init : goal.loop-at-init
loop-at-init c =
    let many : c.len.result ≡ length c.args.entries.now.items = omega (arith, c.len.ensures) in
    elim c.if-kept.branch [
      | then-kept w ↦ (
        omega (arith, w.at-is, w.min-at.ensures, many),
        begins c.args.entries.now.items c.args.vol c.args.block c.args.earlier.now c.args.last.now c.args.base (c.requires.index w.if-kept.true) c.bucket-own.result c.if-kept.at c.bucket-own.ensures.is
            (w.at-is ∙ w.min-at.ensures ∙ ap (λ (n : ℕ). min (get_or c.args.last.now c.bucket-own.result 0) (c.args.base + n)) many),
      )
      | else-kept w ↦ (
        omega (arith, w.at-is, many),
        ap (λ (n : ℕ). newest (take (n - c.args.base) c.args.entries.now.items) c.args.vol c.args.block) (w.at-is ∙ ap (λ (n : ℕ). c.args.base + n) many)
            ∙ begins_all c.args.entries.now.items c.args.vol c.args.block c.args.earlier.now c.args.last.now c.args.base,
      )
    ]

pub returns-then-entry-block : goal.returns-then-entry-block
returns-then-entry-block c =
    let low : c.loop-at.at - 1 - c.args.base < length c.args.entries.now.items = omega (arith, c.loop-at-test.true, c.loop-at.invariant.0) in
    hit_at c.args.entries.now.items c.args.vol c.args.block c.loop-at.at c.args.base (omega (arith, c.loop-at-test.true)) c.loop-at.invariant.0 c.index-entry.result.now
    (slice_get_read c.args.entries.now.items (length c.args.entries.now.items) (c.loop-at.at - 1 - c.args.base) c.index-entry.result.now refl low c.index-entry.ensures)
    c.if-entry-vol.true c.if-entry-block.true c.loop-at.invariant.1

pub loop-at-preserved-then-bucket-own : goal.loop-at-preserved-then-bucket-own
loop-at-preserved-then-bucket-own c =
    let low : c.loop-at.at - 1 - c.args.base < length c.args.entries.now.items = omega (arith, c.loop-at-test.true, c.loop-at.invariant.0) in
    let other : c.index-entry.result.now.volume ≡ c.args.vol → c.index-entry.result.now.block ≡ c.args.block → ⊥ = λ p q.
    elim c.else-entry-vol.branch [ else-entry-vol-via-then-entry-vol+else-entry-block w ↦ w.if-entry-block.false q | else-entry-vol-via-else-entry-vol w ↦ w.if-entry-vol.false p ] in (
      omega (arith, c.min-at-then-bucket-own.ensures, c.loop-at.invariant.0),
      goes_along_at c.args.entries.now.items c.args.vol c.args.block c.args.earlier.now c.args.last.now c.args.base c.loop-at.at (omega (arith, c.loop-at-test.true)) c.loop-at.invariant.0 c.index-entry.result.now
          (slice_get_read c.args.entries.now.items (length c.args.entries.now.items) (c.loop-at.at - 1 - c.args.base) c.index-entry.result.now refl low c.index-entry.ensures)
          other c.loop-at.invariant.1 (c.requires.index c.if-kept-2.true) c.min-at-then-bucket-own.result c.bucket-own.result c.bucket-own.ensures.is (sym c.bucket.ensures.is ∙ c.if-bucket-own.true) c.min-at-then-bucket-own.ensures,
    )

pub loop-at-preserved : goal.loop-at-preserved
loop-at-preserved c =
    let low : c.loop-at.at - 1 - c.args.base < length c.args.entries.now.items = omega (arith, c.loop-at-test.true, c.loop-at.invariant.0) in
    let other : c.index-entry.result.now.volume ≡ c.args.vol → c.index-entry.result.now.block ≡ c.args.block → ⊥ = λ p q.
    elim c.else-entry-vol.branch [ else-entry-vol-via-then-entry-vol+else-entry-block w ↦ w.if-entry-block.false q | else-entry-vol-via-else-entry-vol w ↦ w.if-entry-vol.false p ] in (
      omega (arith, c.loop-at.invariant.0),
      goes_back_at c.args.entries.now.items c.args.vol c.args.block c.args.earlier.now c.args.last.now c.args.base c.loop-at.at (omega (arith, c.loop-at-test.true)) c.loop-at.invariant.0 c.index-entry.result.now
          (slice_get_read c.args.entries.now.items (length c.args.entries.now.items) (c.loop-at.at - 1 - c.args.base) c.index-entry.result.now refl low c.index-entry.ensures)
          other c.loop-at.invariant.1,
    )
