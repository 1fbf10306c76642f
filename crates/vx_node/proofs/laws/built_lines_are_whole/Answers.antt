-- The clause is a law of all lines.
use Rattle.std.proofs.Common.{◌≡◌, true}
use Rattle.vx_events.proofs.Parts.{whole_short}
use Rattle.vx_node.proofs.laws.built_lines_are_whole.Goals as goal

pub returns : goal.returns
returns c = λ told d line new built whole short. whole_short (told ≡ true) d line new whole short
