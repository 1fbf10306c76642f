-- The loop of `make_active` over `turn`: what stays true.
use Rattle.std.proofs.Common.{◌≡◌, ◌-◌}
use Rattle.vx_config.specs.declared.config.Config.{Config}
use Rattle.vx_kept.specs.States.{AreOn, staled}
use Rattle.vx_kept.proofs.states.make_active.Given as goal

abbrev pub invariant-loop-turn : goal.invariant-loop-turn
invariant-loop-turn l = (c : Config) → l.fn.config ≡ staled l.vol l.set c 8 → AreOn c l.vol l.set → l.config ≡ staled l.vol l.set c (8 - l.turn)
