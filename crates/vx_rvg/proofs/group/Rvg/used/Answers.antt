-- The room that the writes above a number take.
use Rattle.std.proofs.Common.{◌∙◌, ap}
use Rattle.vx_srl.specs.Views.{blocks_above}
use Rattle.vx_rvg.specs.declared.group.Rvg.{Rvg}
use Rattle.vx_rvg.proofs.FetchGives.{taken_above}
use Rattle.vx_rvg.proofs.group.Rvg.used.Goals as goal

pub returns-clause-holds : goal.returns-clause-holds
returns-clause-holds g c = λ h stands.
    c.used.ensures ∙ ap (λ (r : Rvg g.row.S.Denot g.S.Shelf). blocks_above r.core.log c.args.above) c.self.view_is ∙ taken_above c.args.self.now.core h (g.S.Shelf.meaning c.args.self.now.shelf) stands c.args.above
