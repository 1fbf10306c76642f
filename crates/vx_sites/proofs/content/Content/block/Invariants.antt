-- The loop of `block` over `write`: what stays true.
use Rattle.std.proofs.Common.{◌≡◌, take, length}
use Rattle.vx_model.specs.Content.{zeros, fold_writes}
use Rattle.vx_sites.specs.Shapes.{sizes}
use Rattle.vx_sites.proofs.content.Content.block.Given as goal

abbrev pub invariant-loop-write : goal.invariant-loop-write
invariant-loop-write l = (l.bytes ≡ (fold_writes (zeros (sizes l.self.sizes.items)) (take l.write-index l.self.writes.items)).block l.volume l.block) × (length l.bytes ≡ 512)
