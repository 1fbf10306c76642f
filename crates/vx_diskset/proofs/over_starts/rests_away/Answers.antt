-- Whether disks are by themselves behind a refusal.
use Rattle.std.proofs.Common.{◌∙◌, ◌&&◌, Bool, ap, sym}
use Rattle.std.specs.Prelude.{not}
use Rattle.vx_grouped.specs.SiteEnds.{stops_down}
use Rattle.vx_diskset.proofs.over_starts.rests_away.Goals as goal

pub returns-then-away : goal.returns-then-away
returns-then-away c = ap (λ (b : Bool). not b) c.is_down_stop.ensures ∙ sym (ap (λ (b : Bool). b && not (stops_down c.args.stop.now)) c.if-away.true)

pub returns-else-away : goal.returns-else-away
returns-else-away c = sym (ap (λ (b : Bool). b && not (stops_down c.args.stop.now)) c.if-away.false)
