-- What is looked up before the link is connected.
use Rattle.std.proofs.Common.{ℕ, refl, subst, sym}
use Rattle.std.specs.Prelude.{IfOk}
use Rattle.vx_events.specs.Facts.{site_number}
use Rattle.vx_script.specs.declared.line.ScriptLine.TheVariants.{Settle}
use Rattle.vx_yard.specs.BothSites.{BothSites, SettleBurns}
use Rattle.vx_yard.proofs.OfSites.{all_still}
use Rattle.vx_node.proofs.SettleLine.{begins, still}
use Rattle.vx_node.proofs.settled.settle_line.Goals as goal

pub returns-in_default-clause-leads : goal.returns-in_default-clause-leads
returns-in_default-clause-leads g c = λ d stands carries good. still d (Settle c.args.first.now c.args.second.now) c.args.yard.now stands

pub returns-in_default-clause-asked : goal.returns-in_default-clause-asked
returns-in_default-clause-asked g c = λ d stands carries good. all_still c.args.yard.now c.args.yard.now refl

pub returns-in_default-number_of-clause-leads : goal.returns-in_default-number_of-clause-leads
returns-in_default-number_of-clause-leads g c = λ d stands carries good. still d (Settle c.args.first.now c.args.second.now) c.args.yard.now stands

pub returns-in_default-number_of-clause-asked : goal.returns-in_default-number_of-clause-asked
returns-in_default-number_of-clause-asked g c = λ d stands carries good. all_still c.args.yard.now c.args.yard.now refl

pub returns-clause-leads : goal.returns-clause-leads
returns-clause-leads g c = λ d stands carries good.
    let y = c.args.yard.now in
    let p = c.args.first.now in
    let q = c.args.second.now in
    let a = c.in-Some.here in
    let b = c.in-Some-number_of.there in
    let seat = c.in-Some-number_of.ensures in
    c.settle_begun.ensures.leads d stands carries (begins d y p q a b stands carries good c.requires.free c.in-Some.ensures seat)

pub returns-clause-asked : goal.returns-clause-asked
returns-clause-asked g c = λ d stands carries good.
    let y = c.args.yard.now in
    let p = c.args.first.now in
    let q = c.args.second.now in
    let a = c.in-Some.here in
    let b = c.in-Some-number_of.there in
    let seat = c.in-Some-number_of.ensures in
    c.settle_begun.ensures.asked d (begins d y p q a b stands carries good c.requires.free c.in-Some.ensures seat)

pub returns-in_default-clause-called : goal.returns-in_default-clause-called
returns-in_default-clause-called g c = λ d stands carries good. tt

pub returns-in_default-number_of-clause-called : goal.returns-in_default-number_of-clause-called
returns-in_default-number_of-clause-called g c = λ d stands carries good. tt

pub returns-clause-called : goal.returns-clause-called
returns-clause-called g c = λ d stands carries good.
    let y = c.args.yard.now in
    let new = c.settle_begun.new.yard in
    let p = c.args.first.now in
    let q = c.args.second.now in
    let a = c.in-Some.here in
    let b = c.in-Some-number_of.there in
    let serves = begins d y p q a b stands carries good c.requires.free c.in-Some.ensures c.in-Some-number_of.ensures in
    subst (λ (i : ℕ). IfOk c.settle_begun.result (λ said. BothSites (SettleBurns said) i (site_number d.world q) y new)) (sym serves.from)
    (subst (λ (j : ℕ). IfOk c.settle_begun.result (λ said. BothSites (SettleBurns said) a j y new)) (sym serves.to) (c.settle_begun.ensures.called d stands carries serves))
