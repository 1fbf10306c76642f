-- The loop of `open_volume` over `turn`: what stays true.
use Rattle.std.proofs.Common.{◌≡◌, ◌-◌, IsTrue}
use Rattle.vx_config.specs.Checks.{is_sound}
use Rattle.vx_config.specs.Configs.{CanSpell}
use Rattle.vx_config.specs.declared.config.Config.{Config}
use Rattle.vx_kept.specs.Cleans.{NoneClean, clean_plexes}
use Rattle.vx_kept.specs.Opens.{OpenFrom}
use Rattle.vx_kept.proofs.cleaning.open_volume.Given as goal

abbrev pub invariant-loop-turn : goal.invariant-loop-turn
invariant-loop-turn l =
    (((c : Config) → l.fn.config ≡ clean_plexes l.vol c 8 → NoneClean c l.vol → l.config ≡ clean_plexes l.vol c (8 - l.turn)) × (NoneClean l.fn.config l.vol → l.config ≡ l.fn.config))
    × OpenFrom l.vol (8 - l.turn) l.fn.config l.config × (CanSpell l.fn.config → CanSpell l.config) × (IsTrue (is_sound l.fn.config) → IsTrue (is_sound l.config))
