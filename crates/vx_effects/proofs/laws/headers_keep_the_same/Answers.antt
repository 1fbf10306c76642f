-- Each clause is part of its theorem.
use Rattle.vx_effects.proofs.Facts.{other_kept}
use Rattle.vx_effects.proofs.Rows.{restarted_kept, row_same, touch_kept}
use Rattle.vx_effects.proofs.laws.headers_keep_the_same.Goals as goal

pub returns : goal.returns
returns c = record { touch = touch_kept; restarted = restarted_kept; others = other_kept; row = row_same }
