-- The loop of `refuse_names` over `name`: what stays true.
use Rattle.std.proofs.Common.{◌≡◌, drop}
use Rattle.std.specs.Option.{option_copied}
use Rattle.vx_order.specs.Replicating.{names_unknown}
use Rattle.vx_order.proofs.replicating.refuse_names.Given as goal

abbrev pub invariant-loop-name : goal.invariant-loop-name
invariant-loop-name l = names_unknown (option_copied l.site) (drop l.name-index l.names) ≡ names_unknown (option_copied l.site) l.names
