-- Blocks that were read into a place for them.
use Rattle.std.proofs.Common.{◌≡◌, ◌∙◌, ℕ, List, length, ap, arith}
use Rattle.std.proofs.lemmas.Result.{err_from_is_err_and}
use Rattle.vx_model.specs.Content.{blocks_in}
use Rattle.vx_diskset.proofs.ReadGroup.{gave_blocks, gave_none, written_over}
use Rattle.vx_site_lines.proofs.read.blocks_of.Goals as goal

pub returns-in_err-read-clause-read : goal.returns-in_err-read-clause-read
returns-in_err-read-clause-read g c = λ beside n stands can.
    let p = err_from_is_err_and c.from_residual.result c.from_residual.ensures.1 in
    let many : c.args.count ≡ blocks_in c.deref_mut.result.now = omega (arith, ap (λ (xs : List ℕ). length xs) c.deref_mut.ensures.value, c.requires.room) in
    rw (p.1, p.2)
    (gave_none beside n c.args.volume c.args.start c.args.count (blocks_in c.deref_mut.result.now) c.read.new.into c.args.disk_set.now c.read.new.self c.in_err-read.field-0.0 many
    (λ k. c.in_err-read.ensures.read beside n stands k) can)

pub returns-clause-read : goal.returns-clause-read
returns-clause-read g c = λ beside n stands can.
    let many : c.args.count ≡ blocks_in c.deref_mut.result.now = omega (arith, ap (λ (xs : List ℕ). length xs) c.deref_mut.ensures.value, c.requires.room) in
    gave_blocks beside n c.args.volume c.args.start c.args.count (blocks_in c.deref_mut.result.now) c.read.new.into c.new.result c.args.disk_set.now c.read.new.self c.in_ok-read.field-0 many
    (c.new.ensures ∙ written_over c.args.room.len c.read.new.into _ (omega (arith, c.read.auto.into, ap (λ (xs : List ℕ). length xs) c.deref_mut.ensures.value, c.args.room.ok)))
    (omega (arith, c.read.auto.into, ap (λ (xs : List ℕ). length xs) c.deref_mut.ensures.value, c.requires.room))
    (λ k. c.in_ok-read.ensures.read beside n stands k) can
