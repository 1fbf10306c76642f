-- `strip_return`: its result.
use Rattle.std.proofs.Common.{◌≡◌, ◌<◌, ◌-◌, ℕ, false, length, eqb, get_or, take, arith, subst, sym, ◌∙◌, ap}
use Rattle.std.proofs.lemmas.List.{get_or_read}
use Rattle.vx_cli.proofs.ReaderLemmas.{stripped, unstripped}
use Rattle.vx_cli.proofs.reader.strip_return.Goals as goal
use Rattle.vx_cli.proofs.reader.strip_return.Goals.{else-not-is_empty-via-then-not-is_empty+else-index-eq13, else-not-is_empty-via-else-not-is_empty}

pub returns-then-index-eq13 : goal.returns-then-index-eq13
returns-then-index-eq13 c =
    let some : 0 < length c.args.line.now.items = grind arith in
    let at : c.len.result - 1 ≡ length c.args.line.now.items - 1 = omega arith in
    let read = get_or_read c.args.line.now.items (c.len.result - 1) c.index.result.now (omega arith) c.index.ensures 0 in
    let here = subst (λ (n : ℕ). get_or c.args.line.now.items n 0 ≡ 13) at (sym read ∙ c.if-index-eq13.true) in
    let cut : c.len-then-index-eq13.result - 1 ≡ length c.args.line.now.items - 1 = omega arith in
    stripped c.args.line.now.items _ some here (c.truncate.ensures.items ∙ ap (λ (n : ℕ). take n c.args.line.now.items) cut)

pub returns-else-not-is_empty : goal.returns-else-not-is_empty
returns-else-not-is_empty c =
    elim c.else-not-is_empty.branch [
      | else-not-is_empty-via-then-not-is_empty+else-index-eq13 w ↦
          let some : 0 < length c.args.line.now.items = grind arith in
          let at : w.len.result - 1 ≡ length c.args.line.now.items - 1 = omega arith in
          let read = get_or_read c.args.line.now.items (w.len.result - 1) w.index.result.now (omega arith) w.index.ensures 0 in
          let other : eqb w.index.result.now 13 ≡ false = grind arith in
          let there = subst (λ (n : ℕ). eqb (get_or c.args.line.now.items n 0) 13 ≡ false) at (subst (λ (x : ℕ). eqb x 13 ≡ false) read other) in
          unstripped c.args.line.now.items (λ _. there)
      | else-not-is_empty-via-else-not-is_empty w ↦
          unstripped c.args.line.now.items (λ some. absurd (grind arith))
    ]
