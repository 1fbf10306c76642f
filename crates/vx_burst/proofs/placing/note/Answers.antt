-- `note`: what `note_one` asks; what stays true in its loop over `k`.
use Rattle.std.proofs.Common.{rules, ◌≡◌, ◌<◌, arith, slice_get, Some, slice_index_or, length}
use Rattle.std.proofs.lemmas.Option.{slice_get-get_or}
use Rattle.vx_burst.proofs.Placings.{noted-none, noted-more}
use Rattle.vx_burst.proofs.placing.note.Goals as goal

pub loop-k-init : goal.loop-k-init
loop-k-init c = (noted-none c.args.answers.now c.args.order.items c.requires.0, omega arith)

pub loop-k-preserved : goal.loop-k-preserved
loop-k-preserved c =
    let a = slice_index_or c.args.answers.now c.loop-k.k c.index-answers-k.result in
    let at : slice_get c.args.answers.now c.loop-k.k ≡ Some a = slice_get-get_or c.args.answers.now c.loop-k.k c.index-answers-k.result (search rules) in
    (noted-more c.args.answers.now c.loop-k.k a c.loop-k.order.items c.note_one.new.order.items at c.note_one.ensures.items c.loop-k.invariant.0, (let x = c.loop-k.invariant.1 in let y = c.note_one.ensures.room in omega (arith, x, y)))

pub note_one-requires : goal.note_one-requires
note_one-requires c = let n = c.loop-k.invariant.0.count in let r = c.requires.1 in let x = c.loop-k.invariant.1 in let t : c.loop-k.k < length c.args.answers.now = search rules in omega (arith, n, r, x, t)
