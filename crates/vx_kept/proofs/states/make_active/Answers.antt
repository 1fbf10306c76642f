-- `make_active`: what stays true in its loop over `turn`.
use Rattle.std.proofs.Common.{◌≡◌, ◌+◌, ◌-◌, ℕ, suc, subst, sym, ◌∙◌, arith}
use Rattle.vx_config.specs.declared.config.Config.{Config}
use Rattle.vx_kept.specs.States.{staled}
use Rattle.vx_kept.proofs.StateLemmas.{back_more, back_same}
use Rattle.vx_kept.proofs.states.make_active.Goals.{then-is_member, else-is_member}
use Rattle.vx_kept.proofs.states.make_active.Goals as goal

pub loop-turn-preserved : goal.loop-turn-preserved
loop-turn-preserved c = λ (old : Config) was those.
    let v = c.args.vol in
    let n : ℕ = 7 - c.loop-turn.turn in
    let here : 8 - c.loop-turn.turn ≡ suc n = omega (arith, c.loop-turn-test.true) in
    let next : n ≡ 8 - (c.loop-turn.turn + 1) = omega (arith, c.loop-turn-test.true) in
    let is : c.loop-turn.config ≡ staled v c.args.set old (suc n) = subst (λ (k : ℕ). c.loop-turn.config ≡ staled v c.args.set old k) here (c.loop-turn.invariant old was those) in
    subst (λ (k : ℕ). c.if-is_member.config ≡ staled v c.args.set old k) next (elim c.if-is_member.branch [
      | then-is_member w ↦
          let bit = sym c.is_member.ensures ∙ w.if-is_member.true in
          w.config-is ∙ back_more v c.args.set n w.whole_of-whole.result old c.loop-turn.config w.set_state.new.self (those.each n bit) bit is w.whole_of-whole.ensures w.set_state.ensures.changed
      | else-is_member w ↦ w.config-is ∙ back_same v c.args.set n old c.loop-turn.config (sym c.is_member.ensures ∙ w.if-is_member.false) is
    ])
