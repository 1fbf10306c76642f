-- `crash_whole`: clause tells; what `crash_told` asks.
use Rattle.vx_logimport.proofs.TellLemmas.{none_tells}
use Rattle.vx_loggroup.proofs.CrashedLogs.{crash_tells}
use Rattle.vx_loggroup.proofs.crashing.crash_whole.Goals as goal

pub crash_told-requires-clause-stands : goal.crash_told-requires-clause-stands
crash_told-requires-clause-stands g c = λ κs within. c.requires.stands.group

pub returns-clause-tells : goal.returns-clause-tells
returns-clause-tells g c = λ going r none.
    let lawful = (g.met.R.Shelf g.world.𝓛 g.world.𝓜 g.world.𝓡 ((λ s x. x), (λ x. x), (λ x. x), λ x. x)).lawful in
    let is_rack = (g.met.R.Rack g.world.𝓛 g.world.𝓜 g.world.𝓡 ((λ s x. x), (λ x. x), (λ x. x), λ x. x)).rack in
    none_tells r (g.R.Shelf.meaning c.crash_told.new.rack) none
    (λ v. crash_tells c.args.core.now c.args.logs.now.items c.args.alike.now c.args.stopped (g.R.Shelf.meaning c.args.rack.now) (g.R.Shelf.meaning c.crash_told.new.rack) c.requires.stands c.crash_told.ensures.stopped (lawful c.crash_told.new.rack) (is_rack c.crash_told.new.rack) going v (c.crash_told.ensures.tells v))
