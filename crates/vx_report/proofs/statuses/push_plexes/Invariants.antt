-- The loop of `push_plexes` over `number`: what stays true.
use Rattle.std.proofs.Common.{◌≡◌, ◌++◌, drop}
use Rattle.vx_report.specs.Words.{numbered}
use Rattle.vx_report.specs.Statuses.{text_of_plex}
use Rattle.vx_report.proofs.statuses.push_plexes.Given as goal

abbrev pub invariant-loop-number : goal.invariant-loop-number
invariant-loop-number l = l.out.items ++ numbered text_of_plex l.number (drop l.number l.plexes) ≡ l.initial.out.items ++ numbered text_of_plex 0 l.plexes
