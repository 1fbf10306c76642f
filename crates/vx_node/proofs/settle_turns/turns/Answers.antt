-- Turn by turn.
use Rattle.std.proofs.Common.{◌+◌, ◌≡◌, ◌∙◌, ◌≤◌, ◌<◌, ℕ, true, false, arith, refl}
use Rattle.std.proofs.lemmas.Bool.Decides.{nat_tests}
use Rattle.std.specs.Prelude.{leb}
use Rattle.vx_node.proofs.SettleTurns.{turns_begin, turns_end, turns_more, turns_out, turns_over_here, turns_short}
use Rattle.vx_node.proofs.settle_turns.turns.Goals as goal

at_most : (a b : ℕ) → a ≤ b → leb a b ≡ true
at_most a b low = grind (arith, nat_tests)

not_most : (a b : ℕ) → b < a → leb a b ≡ false
not_most a b low = grind (arith, nat_tests)

pub loop-past-init : goal.loop-past-init
loop-past-init g c = (λ d serves. turns_begin c.args.first.now c.args.second.now c.args.here c.args.there d c.args.most c.args.yard.now serves, refl, λ told. told)

pub returns-in_default-clause-went : goal.returns-in_default-clause-went
returns-in_default-clause-went g c = λ d serves.
    let p = c.args.first.now in
    let q = c.args.second.now in
    let a = c.args.here in
    let b = c.args.there in
    let y = c.args.yard.now in
    turns_short p q a b d c.args.most c.loop-past.past y c.loop-past.yard (c.loop-past.invariant.0 d serves)

pub returns-then-shown-clause-went : goal.returns-then-shown-clause-went
returns-then-shown-clause-went g c = λ d serves.
    let p = c.args.first.now in
    let q = c.args.second.now in
    let a = c.args.here in
    let b = c.args.there in
    let y = c.args.yard.now in
    let made = c.loop-past.invariant.0 d serves in
    let m = made.on.next.world in
    let is = c.in-Some.ensures made.on.next p q made.on.serves in
    let over = at_most (m.nodes a).safe (m.links a b).stored (omega (arith, is.0, is.1, c.if-shown.true)) in
    turns_over_here p q a b d c.args.most c.loop-past.past y c.loop-past.yard made (omega (arith, c.loop-past-test.true)) over

pub loop-past-preserved : goal.loop-past-preserved
loop-past-preserved g c = (
  λ d serves.
      let p = c.args.first.now in
      let q = c.args.second.now in
      let a = c.args.here in
      let b = c.args.there in
      let y = c.args.yard.now in
      let made = c.loop-past.invariant.0 d serves in
      let m = made.on.next.world in
      let is = c.in-Some.ensures made.on.next p q made.on.serves in
      let short = not_most (m.nodes a).safe (m.links a b).stored (omega (arith, is.0, is.1, c.if-shown.false)) in
      turns_more p q a b d c.args.most c.loop-past.past y c.loop-past.yard made (omega (arith, c.loop-past-test.true)) (c.loop-past.past + 1) (omega arith) short c.turn_from.new.yard (c.in-On.ensures.went made.on.next made.on.serves is.0),
  c.turn_from.ensures.files ∙ c.loop-past.invariant.1,
  λ told. c.loop-past.invariant.2 (c.turn_from.ensures.told told),
)

pub returns-in_default-turn_from-clause-went : goal.returns-in_default-turn_from-clause-went
returns-in_default-turn_from-clause-went g c = λ d serves.
    let p = c.args.first.now in
    let q = c.args.second.now in
    let a = c.args.here in
    let b = c.args.there in
    let y = c.args.yard.now in
    let made = c.loop-past.invariant.0 d serves in
    let m = made.on.next.world in
    let is = c.in-Some.ensures made.on.next p q made.on.serves in
    let short = not_most (m.nodes a).safe (m.links a b).stored (omega (arith, is.0, is.1, c.if-shown.false)) in
    turns_end p q a b d c.args.most c.loop-past.past y c.loop-past.yard made (omega (arith, c.loop-past-test.true)) short c.turn_from.new.yard c.turn_from.result c.in_default-turn_from.not-On
    (c.turn_from.ensures.went made.on.next made.on.serves is.0)

pub returns-clause-went : goal.returns-clause-went
returns-clause-went g c = λ d serves.
    let p = c.args.first.now in
    let q = c.args.second.now in
    let a = c.args.here in
    let b = c.args.there in
    let y = c.args.yard.now in
    let over : c.loop-past.past ≡ c.args.most = omega (arith, c.loop-past-test.false) in
    turns_out p q a b d c.args.most c.loop-past.past y c.loop-past.yard over (c.loop-past.invariant.0 d serves)

pub returns-in_default-clause-told : goal.returns-in_default-clause-told
returns-in_default-clause-told g c = λ told. c.loop-past.invariant.2 told

pub returns-then-shown-clause-told : goal.returns-then-shown-clause-told
returns-then-shown-clause-told g c = λ told. c.loop-past.invariant.2 told

pub returns-in_default-turn_from-clause-told : goal.returns-in_default-turn_from-clause-told
returns-in_default-turn_from-clause-told g c = λ told. c.loop-past.invariant.2 (c.turn_from.ensures.told told)

pub returns-clause-told : goal.returns-clause-told
returns-clause-told g c = λ told. c.loop-past.invariant.2 told
