-- The loop of `make_open` over `turn`: what stays true.
use Rattle.std.proofs.Common.{◌≡◌, ◌-◌, List, Bool, length, IsTrue}
use Rattle.vx_config.specs.Checks.{is_sound}
use Rattle.vx_config.specs.Configs.{CanSpell}
use Rattle.vx_config.specs.declared.config.Config.{Config}
use Rattle.vx_kept.specs.Cleans.{cleaned}
use Rattle.vx_kept.specs.Keeping.{AllOn}
use Rattle.vx_kept.specs.Opens.{OpenVolumes}
use Rattle.vx_kept.proofs.cleaning.make_open.Given as goal

abbrev pub invariant-loop-turn : goal.invariant-loop-turn
invariant-loop-turn l =
    ((c : Config) (unsure : List Bool) → l.fn.config ≡ cleaned unsure c (length c.volumes) → AllOn c → l.config ≡ cleaned unsure c (length c.volumes - l.turn))
    × OpenVolumes (l.count - l.turn) l.fn.config l.config × (CanSpell l.fn.config → CanSpell l.config) × (IsTrue (is_sound l.fn.config) → IsTrue (is_sound l.config))
