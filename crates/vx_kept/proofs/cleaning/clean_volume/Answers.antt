-- `clean_volume`: what stays true in its loop over `plex`.
use Rattle.std.proofs.Common.{◌≡◌, ◌+◌, ℕ, IsTrue, sym, ◌∙◌, subst}
use Rattle.vx_config.specs.Checks.{is_sound}
use Rattle.vx_config.specs.Configs.{CanSpell}
use Rattle.vx_config.specs.declared.config.Config.{Config}
use Rattle.std.specs.Prelude.{true, slice_get}
use Rattle.vx_config.specs.Changes.{has_live}
use Rattle.vx_volume.specs.Plexes.{active}
use Rattle.vx_kept.specs.Cleans.{clean_plexes}
use Rattle.vx_kept.proofs.CleanLemmas.{clean_has, left_clean, made_clean, plexes_none}
use Rattle.vx_kept.proofs.cleaning.clean_volume.Goals.{then-is_active, else-is_active}
use Rattle.vx_kept.proofs.cleaning.clean_volume.Goals as goal

pub loop-plex-preserved : goal.loop-plex-preserved
loop-plex-preserved c =
    let v = c.args.vol in
    let n : ℕ = c.loop-plex.plex in
    let old : Config = c.args.config.now in
    let mid : Config = c.loop-plex.config in
    elim c.if-is_active.branch [
      | then-is_active w ↦
          let set = w.set_state.ensures in
          let is_on : IsTrue (active mid v n) = sym c.is_active.ensures ∙ w.if-is_active.true in
          let has = clean_has v n w.whole_of-whole.result mid is_on in
          subst (λ (d : Config). (d ≡ clean_plexes v old (n + 1)) × (CanSpell old → CanSpell d) × (IsTrue (is_sound old) → IsTrue (is_sound d))) (sym w.config-is) (
            made_clean v n old mid c.loop-plex.invariant.0 w.whole_of-whole.result w.set_state.new.self is_on w.whole_of-whole.ensures set.changed,
            (λ can. set.spelled (c.loop-plex.invariant.1 can)),
            (λ sound. set.sound (c.loop-plex.invariant.2 sound) (subst (λ (d : Config). has_live (slice_get d.volumes v) ≡ true) (sym set.changed) has)),
          )
      | else-is_active w ↦
          subst (λ (d : Config). (d ≡ clean_plexes v old (n + 1)) × (CanSpell old → CanSpell d) × (IsTrue (is_sound old) → IsTrue (is_sound d))) (sym w.config-is) (
            left_clean v n old mid c.loop-plex.invariant.0 (sym c.is_active.ensures ∙ w.if-is_active.false),
            c.loop-plex.invariant.1,
            c.loop-plex.invariant.2,
          )
    ]

pub loop-plex-init : goal.loop-plex-init
loop-plex-init c = (sym (plexes_none c.args.vol c.args.config.now), (λ can. can), (λ sound. sound))
