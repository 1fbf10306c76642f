-- `make_clean`: what stays true in its loop over `vol`.
use Rattle.std.proofs.Common.{◌≡◌, ◌+◌, ℕ, List, Bool, IsTrue, sym, ◌∙◌, subst}
use Rattle.vx_config.specs.Checks.{is_sound}
use Rattle.vx_config.specs.Configs.{CanSpell}
use Rattle.vx_config.specs.declared.config.Config.{Config}
use Rattle.vx_kept.specs.Cleans.{cleaned}
use Rattle.vx_kept.proofs.CleanLemmas.{cleaned_none, volume_more, volume_skip}
use Rattle.vx_kept.proofs.cleaning.make_clean.Goals.{then-not-is_marked, else-not-is_marked}
use Rattle.vx_kept.proofs.cleaning.make_clean.Goals as goal

pub loop-vol-preserved : goal.loop-vol-preserved
loop-vol-preserved c =
    let n : ℕ = c.loop-vol.vol in
    let old : Config = c.args.config.now in
    let mid : Config = c.loop-vol.config in
    let marks : List Bool = c.args.unsure.now in
    elim c.if-not-is_marked.branch [
      | then-not-is_marked w ↦
          subst (λ (d : Config). (d ≡ cleaned marks old (n + 1)) × (CanSpell old → CanSpell d) × (IsTrue (is_sound old) → IsTrue (is_sound d))) (sym w.config-is) (
            volume_more marks n old mid w.clean_volume.new.config c.loop-vol.invariant.0 (sym c.is_marked.ensures ∙ w.if-not-is_marked.true) w.clean_volume.ensures.cleaned,
            (λ can. w.clean_volume.ensures.can (c.loop-vol.invariant.1 can)),
            (λ sound. w.clean_volume.ensures.sound (c.loop-vol.invariant.2 sound)),
          )
      | else-not-is_marked w ↦
          subst (λ (d : Config). (d ≡ cleaned marks old (n + 1)) × (CanSpell old → CanSpell d) × (IsTrue (is_sound old) → IsTrue (is_sound d))) (sym w.config-is) (
            volume_skip marks n old mid c.loop-vol.invariant.0 (sym c.is_marked.ensures ∙ w.if-not-is_marked.false),
            c.loop-vol.invariant.1,
            c.loop-vol.invariant.2,
          )
    ]

pub loop-vol-init : goal.loop-vol-init
loop-vol-init c = (sym (cleaned_none c.args.unsure.now c.args.config.now), (λ can. can), (λ sound. sound))
