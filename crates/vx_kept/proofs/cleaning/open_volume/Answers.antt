-- `open_volume`: clauses back, same, opens, can and sound; what stays true in its loop over `turn`.
use Rattle.std.proofs.Common.{◌≡◌, ◌+◌, ◌-◌, ℕ, IsTrue, refl, ap, sym, ◌∙◌, subst, arith}
use Rattle.std.specs.Prelude.{true, slice_get}
use Rattle.vx_config.specs.Changes.{has_live}
use Rattle.vx_config.specs.Checks.{is_sound}
use Rattle.vx_config.specs.Configs.{CanSpell}
use Rattle.vx_config.specs.declared.config.Config.{Config}
use Rattle.vx_kept.specs.Cleans.{clean_plexes}
use Rattle.vx_kept.proofs.CleanLemmas.{back_open, left_open, made_open, open_at, plexes_none}
use Rattle.vx_kept.specs.Opens.{OpenFrom}
use Rattle.vx_kept.proofs.OpenLemmas.{OneOpen, one_open, open_has, open_start, open_step}
use Rattle.vx_kept.proofs.cleaning.open_volume.Goals.{then-is_clean, else-is_clean}
use Rattle.vx_kept.proofs.cleaning.open_volume.Goals as goal

pub loop-turn-init : goal.loop-turn-init
loop-turn-init c = (((λ (x : Config) is none. is), (λ none. refl)), open_start c.args.vol 8 c.args.config.now refl, (λ can. can), (λ sound. sound))

pub loop-turn-preserved : goal.loop-turn-preserved
loop-turn-preserved c =
    let v = c.args.vol in
    let n : ℕ = 7 - c.loop-turn.turn in
    let old : Config = c.args.config.now in
    let mid : Config = c.loop-turn.config in
    let next : c.if-is_clean.config ≡ open_at v n mid = elim c.if-is_clean.branch [
      | then-is_clean w ↦
          w.config-is ∙ made_open v n mid w.whole_of-whole.result w.set_state.new.self (sym c.is_clean.ensures ∙ w.if-is_clean.true) w.whole_of-whole.ensures w.set_state.ensures.changed
      | else-is_clean w ↦ w.config-is ∙ left_open v n mid (sym c.is_clean.ensures ∙ w.if-is_clean.false)
    ] in
    let keeps : (CanSpell old → CanSpell c.if-is_clean.config) × (IsTrue (is_sound old) → IsTrue (is_sound c.if-is_clean.config)) = elim c.if-is_clean.branch [
      | then-is_clean w ↦
          let set = w.set_state.ensures in
          let has = open_has v n w.whole_of-whole.result mid (sym c.is_clean.ensures ∙ w.if-is_clean.true) in
          subst (λ (d : Config). (CanSpell old → CanSpell d) × (IsTrue (is_sound old) → IsTrue (is_sound d))) (sym w.config-is) (
            (λ can. set.spelled (c.loop-turn.invariant.2 can)),
            (λ sound. set.sound (c.loop-turn.invariant.3 sound) (subst (λ (d : Config). has_live (slice_get d.volumes v) ≡ true) (sym set.changed) has)),
          )
      | else-is_clean w ↦ subst (λ (d : Config). (CanSpell old → CanSpell d) × (IsTrue (is_sound old) → IsTrue (is_sound d))) (sym w.config-is) (c.loop-turn.invariant.2, c.loop-turn.invariant.3)
    ] in (
      back_open v n mid c.loop-turn.turn mid old c.if-is_clean.config c.loop-turn-test.true refl c.loop-turn.invariant.0 next,
      open_step v n (8 - c.loop-turn.turn) (8 - (c.loop-turn.turn + 1)) old mid c.if-is_clean.config (omega (arith, c.loop-turn-test.true)) (omega (arith, c.loop-turn-test.true)) c.loop-turn.invariant.1
          (subst (OneOpen v n mid) (sym next) (one_open v n mid)),
      keeps.0,
      keeps.1,
    )

pub returns-clause-back : goal.returns-clause-back
returns-clause-back c = λ (x : Config) is none.
    let zero : 8 - c.loop-turn.turn ≡ 0 = omega (arith, c.loop-turn-test.false) in
    c.loop-turn.invariant.0.0 x is none ∙ ap (clean_plexes c.args.vol x) zero ∙ plexes_none c.args.vol x

pub returns-clause-same : goal.returns-clause-same
returns-clause-same c = c.loop-turn.invariant.0.1

pub returns-clause-opens : goal.returns-clause-opens
returns-clause-opens c =
    let zero : 8 - c.loop-turn.turn ≡ 0 = omega (arith, c.loop-turn-test.false) in
    subst (λ (k : ℕ). OpenFrom c.args.vol k c.args.config.now c.loop-turn.config) zero c.loop-turn.invariant.1

pub returns-clause-can : goal.returns-clause-can
returns-clause-can c = c.loop-turn.invariant.2

pub returns-clause-sound : goal.returns-clause-sound
returns-clause-sound c = c.loop-turn.invariant.3
