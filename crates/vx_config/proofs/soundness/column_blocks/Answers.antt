-- `column_blocks`: its result.
use Rattle.std.proofs.Common.{◌≡◌, refl, false}
use Rattle.std.specs.Prelude.{◌==◌}
use Rattle.vx_config.specs.Checks.{column_blocks}
use Rattle.vx_config.proofs.FillLemmas.{not-zero}
use Rattle.vx_config.proofs.soundness.column_blocks.Goals as goal

pub returns-else-volume-eq0-clause-is : goal.returns-else-volume-eq0-clause-is
unfolding column_blocks
returns-else-volume-eq0-clause-is c =
    let striped : (c.args.volume.now.width == 0) ≡ false = not-zero c.args.volume.now.width c.if-volume-eq0.false in
    rw (c.div_ceil.ensures, c.from-blocks.ensures, c.from.ensures, c.from-width.ensures, striped) refl
