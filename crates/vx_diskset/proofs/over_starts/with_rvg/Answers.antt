-- The same of a site.
use Rattle.std.proofs.Common.{subst, sym}
use Rattle.vx_diskset.specs.OverStarts.{WithRvg}
use Rattle.vx_diskset.proofs.OverStarting.{with_none}
use Rattle.vx_diskset.proofs.over_starts.with_rvg.Goals as goal

pub returns-in-Up : goal.returns-in-Up
returns-in-Up g c = record { over = subst (λ e. WithRvg c.args.away e c.args.cut c.with_units.result.0 c.with_units.result.1) (sym c.in-Up.is) c.with_units.ensures.over }

pub returns-in_default : goal.returns-in_default
returns-in_default g c = record { over = with_none c.args.away c.args.site c.args.cut (λ laid is. c.in_default.not-Up laid is) }
