-- Blocks that were read into a place for them.
use Rattle.std.proofs.Common.{◌≡◌, ◌∙◌, ℕ, List, length, ap, arith}
use Rattle.std.proofs.lemmas.Result.{err_from_is_err_and}
use Rattle.vx_model.specs.Content.{blocks_in}
use Rattle.vx_diskset.proofs.ReadGroup.{written_over}
use Rattle.vx_site_lines.proofs.ShownLine.{shown_blocks, shown_none}
use Rattle.vx_site_lines.proofs.shown.shown_of.Goals as goal

pub returns-in_err-show-clause-shows : goal.returns-in_err-show-clause-shows
returns-in_err-show-clause-shows g c = λ beside n stands can.
    let p = err_from_is_err_and c.from_residual.result c.from_residual.ensures.1 in
    let many : c.args.count ≡ blocks_in c.deref_mut.result.now = omega (arith, ap (λ (xs : List ℕ). length xs) c.deref_mut.ensures.value, c.requires.room) in
    rw (p.1, p.2)
    (shown_none beside n c.args.volume c.args.start c.args.count (blocks_in c.deref_mut.result.now) c.show.new.into c.args.disk_set.now c.show.new.self c.in_err-show.field-0.0 many
    (λ k. c.in_err-show.ensures.shows beside n stands k) can)

pub returns-clause-shows : goal.returns-clause-shows
returns-clause-shows g c = λ beside n stands can.
    let many : c.args.count ≡ blocks_in c.deref_mut.result.now = omega (arith, ap (λ (xs : List ℕ). length xs) c.deref_mut.ensures.value, c.requires.room) in
    shown_blocks beside n c.args.volume c.args.start c.args.count (blocks_in c.deref_mut.result.now) c.show.new.into c.new.result c.args.disk_set.now c.show.new.self c.in_ok-show.field-0 many
    (c.new.ensures ∙ written_over c.args.room.len c.show.new.into _ (omega (arith, c.show.auto.into, ap (λ (xs : List ℕ). length xs) c.deref_mut.ensures.value, c.args.room.ok)))
    (omega (arith, c.show.auto.into, ap (λ (xs : List ℕ). length xs) c.deref_mut.ensures.value, c.requires.room))
    (λ k. c.in_ok-show.ensures.shows beside n stands k) can
