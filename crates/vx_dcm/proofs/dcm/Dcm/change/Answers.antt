-- Each region of each map has its bit.
use Rattle.vx_dcm.proofs.RunMarks.{all_placed}
use Rattle.vx_dcm.proofs.dcm.Dcm.change.Goals as goal

pub returns-then-on-clause-placed : goal.returns-then-on-clause-placed
returns-then-on-clause-placed g c = all_placed (record { map = c.self.inside.map; sizes = c.self.inside.sizes.items }) c.args.self.now c.self.view_is c.self.inside.stride c.self.invariant

pub returns-else-on-clause-placed : goal.returns-else-on-clause-placed
returns-else-on-clause-placed g c = all_placed (record { map = c.self.inside.map; sizes = c.self.inside.sizes.items }) c.args.self.now c.self.view_is c.self.inside.stride c.self.invariant
