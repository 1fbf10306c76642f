-- The loop of `make_clean` over `vol`: what stays true.
use Rattle.std.proofs.Common.{◌≡◌, IsTrue}
use Rattle.vx_config.specs.Checks.{is_sound}
use Rattle.vx_config.specs.Configs.{CanSpell}
use Rattle.vx_kept.specs.Cleans.{cleaned}
use Rattle.vx_kept.proofs.cleaning.make_clean.Given as goal

abbrev pub invariant-loop-vol : goal.invariant-loop-vol
invariant-loop-vol l =
    (l.config ≡ cleaned l.unsure l.fn.config l.vol) × (CanSpell l.fn.config → CanSpell l.config) × (IsTrue (is_sound l.fn.config) → IsTrue (is_sound l.config))
