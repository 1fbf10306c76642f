-- `refuse_members`: its result.
use Rattle.std.proofs.Common.{◌∙◌}
use Rattle.vx_order.proofs.NameLemmas.{three_in_a_row}
use Rattle.vx_order.proofs.replicating.refuse_members.Goals as goal

pub returns : goal.returns
returns c = c.first_of.ensures ∙ three_in_a_row c.refuse_name.ensures c.refuse_name-2.ensures c.refuse_names.ensures
