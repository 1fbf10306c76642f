-- `put_all`: its result.
use Rattle.vx_model.specs.Content.{zeros}
use Rattle.vx_history.proofs.GoodLemmas.{fold_append}
use Rattle.vx_sites.specs.Shapes.{sizes}
use Rattle.vx_sites.proofs.content.Content.put_all.Goals as goal

pub returns : goal.returns
returns c =
    rw c.in_ok-extend_from_slice.ensures.items (fold_append (zeros (sizes c.args.self.now.sizes.items)) c.args.self.now.writes.items c.args.writes.now)
