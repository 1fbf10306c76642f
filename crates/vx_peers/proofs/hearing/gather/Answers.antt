-- What waits once an update was put together.
use Rattle.std.proofs.Common.{subst, sym}
use Rattle.std.specs.Prelude.{Bool, Option}
use Rattle.vx_peers.specs.Receivers.{WaitsBy}
use Rattle.vx_peers.proofs.GatherWaits.{waits_by}
use Rattle.vx_peers.proofs.hearing.gather.Goals as goal

pub returns-in_ok-update-in-Whole-clause-waits : goal.returns-in_ok-update-in-Whole-clause-waits
returns-in_ok-update-in-Whole-clause-waits g c =
    subst (λ (r : Option Bool). WaitsBy r c.args.secondary.now.waiting c.take-in-Whole.new.self.waiting) (sym c.waits.ensures)
    (waits_by c.args.secondary.now.rvg.core (g.S.Shelf.meaning c.args.secondary.now.rvg.shelf).size c.args.secondary.now.waiting c.in_ok-update-in-Whole.update c.take-in-Whole.result c.take-in-Whole.new.self.waiting (c.take-in-Whole.ensures.takes c.requires.running))
