-- `holds_what_links_need`: its result.
use Rattle.vx_linked.proofs.LeastHolds.{least_by, least_each, least_last}
use Rattle.vx_linked.proofs.laws.holds_what_links_need.Goals as goal

pub returns : goal.returns
returns c = record { each = least_each; last = least_last; held = least_by }
