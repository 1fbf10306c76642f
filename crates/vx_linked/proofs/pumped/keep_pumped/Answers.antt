-- `keep_pumped`: clauses world and facts; what `relink` asks.
use Rattle.std.proofs.Common.{List, subst}
use Rattle.vx_order.specs.declared.facts.SiteFacts.{SiteFacts}
use Rattle.vx_script.specs.declared.line.ScriptLine.TheVariants.{Pump}
use Rattle.vx_linked.specs.Tables.{IsUnrefused}
use Rattle.vx_linked.specs.Turns.{Relinked}
use Rattle.vx_linked.proofs.Finding.{found, pump_tested}
use Rattle.vx_linked.proofs.Pumps.{pump_comes, pump_by_rule}
use Rattle.vx_linked.proofs.pumped.keep_pumped.Goals as goal

pub relink-requires : goal.relink-requires
relink-requires c = record { found = found c.args.sites.now c.args.from.now c.args.to.now (pump_tested c.args.sites.now c.args.from.now c.args.to.now c.requires.free) }

pub returns-clause-world : goal.returns-clause-world
returns-clause-world c = λ w f is link flight.
    let from = c.args.from.now in
    let to = c.args.to.now in
    let free = subst (λ (fs : List SiteFacts). IsUnrefused fs (Pump from to)) is c.requires.free in
    pump_comes w from to free c.relink.new.sites c.args.link.now f (subst (λ (fs : List SiteFacts). Relinked from to c.args.link.now fs c.relink.new.sites) is c.relink.ensures) link flight

pub returns-clause-facts : goal.returns-clause-facts
returns-clause-facts c = λ w is link.
    let from = c.args.from.now in
    let to = c.args.to.now in
    let free = subst (λ (fs : List SiteFacts). IsUnrefused fs (Pump from to)) is c.requires.free in
    pump_by_rule w from to free c.relink.new.sites c.args.link.now (subst (λ (fs : List SiteFacts). Relinked from to c.args.link.now fs c.relink.new.sites) is c.relink.ensures) link
