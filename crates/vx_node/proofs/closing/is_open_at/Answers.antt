-- A line that no test refuses.
use Rattle.std.proofs.Common.{◌∙◌, sym}
use Rattle.vx_node.proofs.OpenNames.{open_nowhere}
use Rattle.vx_node.proofs.closing.is_open_at.Goals as goal

pub is_open_from-requires-clause-there : goal.is_open_from-requires-clause-there
is_open_from-requires-clause-there g c = λ κs within. sym c.open_site.ensures ∙ c.in-Some.is

pub returns-in-Some : goal.returns-in-Some
returns-in-Some g c = λ d stands. c.is_open_from.ensures d stands

pub returns-in-None : goal.returns-in-None
returns-in-None g c = λ d stands. sym (open_nowhere d.world c.args.line.now (sym c.open_site.ensures ∙ c.in-None.is))
