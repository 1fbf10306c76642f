-- The loop of `make_stale` over `plex`: what stays true.
use Rattle.std.proofs.Common.{◌≡◌, IsTrue}
use Rattle.vx_config.specs.Checks.{is_sound}
use Rattle.vx_config.specs.Configs.{CanSpell}
use Rattle.vx_kept.specs.States.{staled}
use Rattle.vx_kept.proofs.states.make_stale.Given as goal

abbrev pub invariant-loop-plex : goal.invariant-loop-plex
invariant-loop-plex l =
    (l.config ≡ staled l.vol l.set l.fn.config l.plex) × (CanSpell l.fn.config → CanSpell l.config) × (IsTrue (is_sound l.fn.config) → IsTrue (is_sound l.config))
