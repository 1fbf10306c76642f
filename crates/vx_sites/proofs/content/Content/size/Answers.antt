-- `size`: its result.
use Rattle.std.proofs.Common.{◌∙◌, ℕ, List, ap, sym}
use Rattle.vx_model.specs.Content.{zeros}
use Rattle.vx_model.proofs.Contents.{fold_size}
use Rattle.vx_sites.specs.Shapes.{sizes}
use Rattle.vx_sites.proofs.content.Content.size.Goals as goal

pub returns : goal.returns
returns c =
    c.size_in.ensures ∙ ap (λ (bs : List ℕ). sizes bs c.args.volume) c.deref.ensures.value
    ∙ sym (ap (λ (f : ℕ → ℕ). f c.args.volume) (fold_size (zeros (sizes c.args.self.now.sizes.items)) c.args.self.now.writes.items))
