-- A line whose first site has no replicated volume group over a group.
use Rattle.std.proofs.Common.{◌∙◌, sym}
use Rattle.vx_node.proofs.OpenNames.{finds_second, open_by_second, open_not}
use Rattle.vx_node.proofs.closing.is_open_beside.Goals as goal

pub has_rvg-requires-clause-named : goal.has_rvg-requires-clause-named
has_rvg-requires-clause-named g c = λ κs within. finds_second c.args.yard.now c.args.line.now c.args.site.now c.in-Some.second c.requires.there (sym c.open_second.ensures ∙ c.in-Some.is) c.requires.free

pub returns-in-Some : goal.returns-in-Some
returns-in-Some g c = λ d stands off.
    c.has_rvg.ensures d stands ∙ open_by_second d.world c.args.line.now c.args.site.now c.in-Some.second c.requires.there (sym c.open_second.ensures ∙ c.in-Some.is) off

pub returns-in-None : goal.returns-in-None
returns-in-None g c = λ d stands off. sym (open_not d.world c.args.line.now c.args.site.now c.requires.there (sym c.open_second.ensures ∙ c.in-None.is) off)
