-- `block`: what stays true in its loop over `write`.
use Rattle.std.proofs.Common.{◌≡◌, ◌∙◌, ◌<◌, ℕ, List, length, get_or, take, ap, sym, subst}
use Rattle.vx_model.specs.Content.{Write, Content, zeros, fold_writes}
use Rattle.vx_model.proofs.Contents.{fold_size}
use Rattle.vx_sites.specs.Shapes.{sizes}
use Rattle.vx_sites.proofs.Folds.{fold_more}
use Rattle.vx_sites.proofs.content.Content.block.Goals as goal

pub loop-write-preserved : goal.loop-write-preserved
loop-write-preserved c =
    let xs : List Write = c.args.self.now.writes.items in
    let i : ℕ = c.loop-write.write-index in
    let empty : Content = zeros (sizes c.args.self.now.sizes.items) in
    let before : Content = fold_writes empty (take i xs) in
    let is : c.write-item.result ≡ get_or xs i c.write-item.result = subst (λ (ys : List Write). c.write-item.result ≡ get_or ys i c.write-item.result) c.deref-write-items.ensures.value c.write-item.is in
    let below : i < length xs = subst (λ (ys : List Write). i < length ys) c.deref-write-items.ensures.value c.loop-write-test.true in
    let size : before.size c.args.volume ≡ c.size-size.result =
    ap (λ (f : ℕ → ℕ). f c.args.volume) (fold_size empty (take i xs)) ∙ sym (ap (λ (f : ℕ → ℕ). f c.args.volume) (fold_size empty xs)) ∙ sym c.size-size.ensures in
    (c.put_block.ensures before size (sym c.loop-write.invariant.0) ∙ sym (ap (λ (d : Content). d.block c.args.volume c.args.block) (fold_more empty xs i c.write-item.result below is)), c.put_block.array_long)
