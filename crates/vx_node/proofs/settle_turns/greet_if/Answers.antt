-- A greeting where a turn has brought nothing.
use Rattle.std.proofs.Common.{◌∙◌, [], ap, sym}
use Rattle.vx_history.specs.Settling.{greeting_events, is_stuck}
use Rattle.vx_settling.specs.Turning.{greeting_if}
use Rattle.vx_node.proofs.SettleTurns.{greets_not, greets_so}
use Rattle.vx_node.proofs.WentThen.{went_as, went_none, went_short}
use Rattle.vx_node.specs.declared.going.Went.TheVariants.{On}
use Rattle.vx_node.proofs.settle_turns.greet_if.Goals as goal

pub returns-in_default-clause-went : goal.returns-in_default-clause-went
returns-in_default-clause-went g c = λ d serves.
    let p = c.args.first.now in
    let q = c.args.second.now in
    let a = c.args.here in
    let b = c.args.there in
    let y = c.args.yard.now in
    went_short p q a b d (greeting_if c.args.before d.world a b) y serves

pub returns-then-is_stuck-clause-went : goal.returns-then-is_stuck-clause-went
returns-then-is_stuck-clause-went g c = λ d serves.
    let p = c.args.first.now in
    let q = c.args.second.now in
    let a = c.args.here in
    let b = c.args.there in
    let y = c.args.yard.now in
    let is = c.in-Some.ensures d p q serves in
    let stuck = ap (λ k. is_stuck c.args.before k (d.world.nodes a).safe) (sym is.0) ∙ ap (λ k. is_stuck c.args.before c.in-Some.shown.stored k) (sym is.1) ∙ sym c.is_stuck.ensures ∙ c.if-is_stuck.true in
    went_as p q a b d (greeting_events d.world a b) (greeting_if c.args.before d.world a b) y c.greet_anew.new.yard c.greet_anew.result (λ _. greets_so d.world a b c.args.before stuck) (c.greet_anew.ensures.went d serves)

pub returns-clause-went : goal.returns-clause-went
returns-clause-went g c = λ d serves.
    let p = c.args.first.now in
    let q = c.args.second.now in
    let a = c.args.here in
    let b = c.args.there in
    let y = c.args.yard.now in
    let is = c.in-Some.ensures d p q serves in
    let not = ap (λ k. is_stuck c.args.before k (d.world.nodes a).safe) (sym is.0) ∙ ap (λ k. is_stuck c.args.before c.in-Some.shown.stored k) (sym is.1) ∙ sym c.is_stuck.ensures ∙ c.if-is_stuck.false in
    went_as p q a b d [] (greeting_if c.args.before d.world a b) y y On (λ _. greets_not d.world a b c.args.before not) (went_none p q a b d y serves)

pub returns-in_default-clause-told : goal.returns-in_default-clause-told
returns-in_default-clause-told g c = λ told. told

pub returns-then-is_stuck-clause-told : goal.returns-then-is_stuck-clause-told
returns-then-is_stuck-clause-told g c = λ told. c.greet_anew.ensures.told told

pub returns-clause-told : goal.returns-clause-told
returns-clause-told g c = λ told. told
