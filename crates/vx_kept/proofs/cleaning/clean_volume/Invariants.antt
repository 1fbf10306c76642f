-- The loop of `clean_volume` over `plex`: what stays true.
use Rattle.std.proofs.Common.{◌≡◌, IsTrue}
use Rattle.vx_config.specs.Checks.{is_sound}
use Rattle.vx_config.specs.Configs.{CanSpell}
use Rattle.vx_kept.specs.Cleans.{clean_plexes}
use Rattle.vx_kept.proofs.cleaning.clean_volume.Given as goal

abbrev pub invariant-loop-plex : goal.invariant-loop-plex
invariant-loop-plex l =
    (l.config ≡ clean_plexes l.vol l.fn.config l.plex) × (CanSpell l.fn.config → CanSpell l.config) × (IsTrue (is_sound l.fn.config) → IsTrue (is_sound l.config))
