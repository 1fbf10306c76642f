-- `number`: what stays true in its loop over `k`.
use Rattle.std.proofs.Common.{rules, ◌≡◌, ◌+◌, arith, refl, slice_get, Some, slice_index_or}
use Rattle.std.proofs.lemmas.Option.{slice_get-get_or}
use Rattle.vx_burst.proofs.Placings.{numbered-none, numbered-more}
use Rattle.vx_burst.proofs.placing.number.Goals as goal

pub loop-k-init : goal.loop-k-init
loop-k-init c = numbered-none c.args.order.now c.args.answers.now

pub loop-k-preserved : goal.loop-k-preserved
loop-k-preserved c =
    let s = slice_index_or c.args.order.now c.loop-k.k (record { place = 0; at = 0 }) in
    let here : slice_get c.args.order.now c.loop-k.k ≡ Some s = slice_get-get_or c.args.order.now c.loop-k.k (record { place = 0; at = 0 }) (search rules) in
    let inside = c.requires.inside c.loop-k.k s here in let l = c.loop-k.invariant.long in
    let a = slice_index_or c.loop-k.answers s.at c.index-answers-at.result in
    let at : slice_get c.loop-k.answers s.at ≡ Some a = slice_get-get_or c.loop-k.answers s.at c.index-answers-at.result (omega (arith, inside, l)) in
    numbered-more c.args.order.now c.loop-k.k c.args.answers.now c.loop-k.answers s a (record { place = c.loop-k.k + 1; reply = a.reply; waited = a.waited }) c.requires.once here at refl refl c.loop-k.invariant
