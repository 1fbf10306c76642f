-- Each clause is part of its theorem.
use Rattle.vx_effects.proofs.WriteLines.{line_cut, line_halted, line_written}
use Rattle.vx_effects.proofs.laws.leaves_a_written_site.Goals as goal

pub returns : goal.returns
returns c = record { done = line_written; halted = line_halted; cut = line_cut }
