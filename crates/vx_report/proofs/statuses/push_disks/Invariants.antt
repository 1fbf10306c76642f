-- The loop of `push_disks` over `number`: what stays true.
use Rattle.std.proofs.Common.{◌≡◌, ◌++◌, drop}
use Rattle.vx_report.specs.Words.{numbered}
use Rattle.vx_report.specs.Statuses.{disk_line}
use Rattle.vx_report.proofs.statuses.push_disks.Given as goal

abbrev pub invariant-loop-number : goal.invariant-loop-number
invariant-loop-number l = l.out.items ++ numbered disk_line l.number (drop l.number l.disks) ≡ l.initial.out.items ++ numbered disk_line 0 l.disks
