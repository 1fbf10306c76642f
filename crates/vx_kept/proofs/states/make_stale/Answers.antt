-- `make_stale`: what stays true in its loop over `plex`.
use Rattle.std.proofs.Common.{◌≡◌, ◌+◌, ℕ, IsTrue, suc, subst, sym, ◌∙◌, arith}
use Rattle.vx_config.specs.Checks.{is_sound}
use Rattle.vx_config.specs.Configs.{CanSpell}
use Rattle.vx_config.specs.declared.config.Config.{Config}
use Rattle.vx_kept.specs.States.{staled}
use Rattle.vx_kept.proofs.Narrower.{live_by}
use Rattle.vx_kept.proofs.StateLemmas.{staled_more, staled_same}
use Rattle.vx_kept.proofs.states.make_stale.Goals.{then-is_member, else-is_member}
use Rattle.vx_kept.proofs.states.make_stale.Goals as goal

pub loop-plex-preserved : goal.loop-plex-preserved
loop-plex-preserved c =
    let v = c.args.vol in
    let next : suc c.loop-plex.plex ≡ c.loop-plex.plex + 1 = omega arith in
    elim c.if-is_member.branch [
      | then-is_member w ↦
          let set = w.set_state.ensures in
          let is : w.set_state.new.self ≡ staled v c.args.set c.args.config.now (c.loop-plex.plex + 1) =
          subst (λ (n : ℕ). w.set_state.new.self ≡ staled v c.args.set c.args.config.now n) next
          (staled_more v c.args.set c.loop-plex.plex w.whole_of-whole.result c.args.config.now c.loop-plex.config w.set_state.new.self (sym c.is_member.ensures ∙ w.if-is_member.true) c.loop-plex.invariant.0 w.whole_of-whole.ensures set.changed) in
          subst (λ (d : Config). (d ≡ staled v c.args.set c.args.config.now (c.loop-plex.plex + 1)) × (CanSpell c.args.config.now → CanSpell d) × (IsTrue (is_sound c.args.config.now) → IsTrue (is_sound d))) (sym w.config-is)
          (is, (λ can. set.spelled (c.loop-plex.invariant.1 can)), (λ sound. set.sound (c.loop-plex.invariant.2 sound) (live_by v c.args.set c.args.config.now c.requires.left (c.loop-plex.plex + 1) w.set_state.new.self is)))
      | else-is_member w ↦
          let is : c.loop-plex.config ≡ staled v c.args.set c.args.config.now (c.loop-plex.plex + 1) =
          subst (λ (n : ℕ). c.loop-plex.config ≡ staled v c.args.set c.args.config.now n) next
          (staled_same v c.args.set c.loop-plex.plex c.args.config.now c.loop-plex.config (sym c.is_member.ensures ∙ w.if-is_member.false) c.loop-plex.invariant.0) in
          subst (λ (d : Config). (d ≡ staled v c.args.set c.args.config.now (c.loop-plex.plex + 1)) × (CanSpell c.args.config.now → CanSpell d) × (IsTrue (is_sound c.args.config.now) → IsTrue (is_sound d))) (sym w.config-is)
          (is, c.loop-plex.invariant.1, c.loop-plex.invariant.2)
    ]
