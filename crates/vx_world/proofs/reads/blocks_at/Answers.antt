-- `blocks_at`: what stays true in its loop over `k`.
use Rattle.std.proofs.Common.{◌≡◌, ◌∙◌, ℕ, suc, ◌+◌, List, ◌++◌, length, add-one, length-append, ap, sym, arith}
use Rattle.vx_model.specs.Content.{blocks_from}
use Rattle.vx_history.specs.Step.{joined_blocks}
use Rattle.vx_sites.specs.Shapes.{content_of}
use Rattle.vx_world.proofs.Reading.{joined_more}
use Rattle.vx_world.proofs.reads.blocks_at.Goals as goal

pub loop-k-preserved : goal.loop-k-preserved
loop-k-preserved c =
    let d = content_of c.args.content.now in
    let k = c.loop-k.k in
    let came = joined_blocks (blocks_from d c.args.volume c.args.start k) in
    let block : c.block-block.result ≡ d.block c.args.volume (c.args.start + k) = c.block-block.ensures.is ∙ ap
    (λ (n : ℕ). d.block c.args.volume (c.args.start + n)) c.from.ensures in
    let next : suc k ≡ k + 1 = sym (add-one k) in
    let long : length c.block-block.result ≡ 512 = c.block-block.ensures.long in
    let items = c.in_ok-extend_from_slice.ensures.items in (
      items
          ∙ ap (λ (bytes : List ℕ). bytes ++ c.block-block.result) c.loop-k.invariant.0
          ∙ ap (λ (bytes : List ℕ). came ++ bytes) block
          ∙ sym (joined_more d c.args.volume c.args.start k)
          ∙ ap (λ (n : ℕ). joined_blocks (blocks_from d c.args.volume c.args.start n)) next,
      omega (arith, ap (λ (bytes : List ℕ). length bytes) items, length-append c.loop-k.bytes.items c.block-block.result, long, c.loop-k.invariant.1),
    )
