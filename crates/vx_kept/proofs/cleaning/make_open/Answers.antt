-- `make_open`: clauses back, opens, can and sound; what stays true in its loop over `turn`.
use Rattle.std.proofs.Common.{◌≡◌, ◌+◌, ◌-◌, ℕ, List, Bool, length, ap, ◌∙◌, subst, arith}
use Rattle.vx_config.specs.declared.config.Config.{Config}
use Rattle.vx_kept.specs.Cleans.{cleaned}
use Rattle.vx_kept.proofs.CleanLemmas.{cleaned_count, cleaned_none, volume_back}
use Rattle.vx_kept.specs.Opens.{OpenVolumes}
use Rattle.vx_kept.proofs.OpenLemmas.{volumes_start, volumes_step}
use Rattle.vx_kept.proofs.cleaning.make_open.Goals as goal

pub loop-turn-init : goal.loop-turn-init
loop-turn-init c = ((λ (x : Config) (marks : List Bool) is on. let same : length x.volumes ≡ length x.volumes - 0 = omega arith in is ∙ ap (cleaned marks x) same), volumes_start _ c.args.config.now (let count = ap length c.as_slice.ensures.volumes in omega (arith, count)), (λ can. can), (λ sound. sound))

pub loop-turn-preserved : goal.loop-turn-preserved
loop-turn-preserved c = (
  (λ (x : Config) (marks : List Bool) is on.
      let m : ℕ = length x.volumes in
      let count : length c.as_slice.result.now ≡ m = ap length c.as_slice.ensures.volumes ∙ cleaned_count marks x c.args.config.now is in
      let n : ℕ = length c.as_slice.result.now - 1 - c.loop-turn.turn in
      volume_back marks n m c.loop-turn.turn x c.loop-turn.config c.open_volume.new.config on (omega (arith, count, c.loop-turn-test.true)) (omega (arith, count, c.loop-turn-test.true)) (c.loop-turn.invariant.0 x marks is on) c.open_volume.ensures.back c.open_volume.ensures.same),
  volumes_step (length c.as_slice.result.now - 1 - c.loop-turn.turn) (length c.as_slice.result.now - c.loop-turn.turn) (length c.as_slice.result.now - (c.loop-turn.turn + 1)) c.args.config.now c.loop-turn.config c.open_volume.new.config
      (omega (arith, c.loop-turn-test.true)) (omega (arith, c.loop-turn-test.true)) c.loop-turn.invariant.1 c.open_volume.ensures.opens,
  (λ can. c.open_volume.ensures.can (c.loop-turn.invariant.2 can)),
  (λ sound. c.open_volume.ensures.sound (c.loop-turn.invariant.3 sound)),
)

pub returns-clause-back : goal.returns-clause-back
returns-clause-back c = λ (x : Config) (marks : List Bool) is on.
    let count : length c.as_slice.result.now ≡ length x.volumes = ap length c.as_slice.ensures.volumes ∙ cleaned_count marks x c.args.config.now is in
    let none : length x.volumes - c.loop-turn.turn ≡ 0 = omega (arith, count, c.loop-turn-test.false) in
    c.loop-turn.invariant.0 x marks is on ∙ ap (cleaned marks x) none ∙ cleaned_none marks x

pub returns-clause-opens : goal.returns-clause-opens
returns-clause-opens c =
    let zero : length c.as_slice.result.now - c.loop-turn.turn ≡ 0 = omega (arith, c.loop-turn-test.false) in
    subst (λ (k : ℕ). OpenVolumes k c.args.config.now c.loop-turn.config) zero c.loop-turn.invariant.1

pub returns-clause-can : goal.returns-clause-can
returns-clause-can c = c.loop-turn.invariant.2

pub returns-clause-sound : goal.returns-clause-sound
returns-clause-sound c = c.loop-turn.invariant.3
