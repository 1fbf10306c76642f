-- The room that is left beside the writes that a group holds.
use Rattle.std.proofs.Common.{◌∙◌, ap}
use Rattle.vx_srl.specs.Views.{free_of}
use Rattle.vx_rvg.specs.declared.group.Rvg.{Rvg}
use Rattle.vx_rvg.proofs.FetchGives.{free_beside}
use Rattle.vx_rvg.proofs.group.Rvg.free.Goals as goal

pub returns-clause-holds : goal.returns-clause-holds
returns-clause-holds g c = λ h stands.
    c.free.ensures ∙ ap (λ (r : Rvg g.row.S.Denot g.S.Shelf). free_of r.core.log) c.self.view_is ∙ free_beside c.args.self.now.core h (g.S.Shelf.meaning c.args.self.now.shelf) stands
