-- However the line ends, by the worlds that its events lead through and by what it notes.
use Rattle.vx_settling.proofs.BrightLines.{step_bright}
use Rattle.vx_settling.proofs.good_laws.full_lines_stay_known.Goals as goal

pub returns : goal.returns
returns c files d line fails said new b calm agree held step = step_bright (Unit {0}) tt d b fails said new calm files line held agree step
