-- An apply, by what the site is.
use Rattle.vx_diskset.proofs.OverCalls.{over_applied, over_up}
use Rattle.vx_untold.specs.Shades.{shade_rack}
use Rattle.vx_diskset.proofs.OverCalled.{origin_called}
use Rattle.vx_diskset.proofs.OverIdle.{rest_called, logs_never}
use Rattle.vx_diskset.proofs.over_set.OverSet.applied.Goals as goal

pub returns-in-Origin-clause-applied : goal.returns-in-Origin-clause-applied
returns-in-Origin-clause-applied g c = λ beside n stands can.
    let up = over_up beside n c.args.self c.in-Origin.founded c.apply-founded.result.0 c.args.self.cut c.in-Origin.is stands in
    over_applied beside n c.args.self c.in-Origin.founded c.apply-founded.result.0 c.args.self.cut c.in-Origin.is stands.0 (up.durable can.running) c.args.to c.apply-founded.result.1
    (c.apply-founded.ensures.applied beside n up can.running)

pub returns-in-Origin-clause-brought : goal.returns-in-Origin-clause-brought
returns-in-Origin-clause-brought g c = c.apply-founded.ensures.reached

pub returns-in-Origin-clause-called : goal.returns-in-Origin-clause-called
returns-in-Origin-clause-called g c =
    let is_rack = (g.met.R.Rack g.world.𝓛 g.world.𝓜 g.world.𝓡 ((λ s x. x), (λ x. x), (λ x. x), λ x. x)).rack in
    origin_called c.args.self c.in-Origin.founded c.apply-founded.result.0 c.in-Origin.is (shade_rack g.R.Shelf.meaning is_rack) c.apply-founded.ensures.works

pub returns-in-Origin-clause-off : goal.returns-in-Origin-clause-off
returns-in-Origin-clause-off g c = λ up. c.apply-founded.ensures.off

pub returns-in_default-clause-applied : goal.returns-in_default-clause-applied
returns-in_default-clause-applied g c = λ beside n stands can. absurd (logs_never beside n c.args.self.site c.in_default.not-Origin stands.1 can.up (stands.0).5)

pub returns-in_default-clause-brought : goal.returns-in_default-clause-brought
returns-in_default-clause-brought g c = tt

pub returns-in_default-clause-called : goal.returns-in_default-clause-called
returns-in_default-clause-called g c =
    let is_rack = (g.met.R.Rack g.world.𝓛 g.world.𝓜 g.world.𝓡 ((λ s x. x), (λ x. x), (λ x. x), λ x. x)).rack in
    rest_called (shade_rack g.R.Shelf.meaning is_rack) c.args.self

pub returns-in_default-clause-off : goal.returns-in_default-clause-off
returns-in_default-clause-off g c = λ up. up
