-- The same of a site.
use Rattle.std.proofs.Common.{subst, sym}
use Rattle.vx_diskset.specs.OverStarts.{WithPlain}
use Rattle.vx_diskset.proofs.OverStarting.{plain_none}
use Rattle.vx_diskset.proofs.over_starts.with_plain.Goals as goal

pub returns-in-Up : goal.returns-in-Up
returns-in-Up g c = record { over = subst (λ e. WithPlain c.args.away c.args.rested e c.args.cut c.plain_units.result.0 c.plain_units.result.1) (sym c.in-Up.is) c.plain_units.ensures.over }

pub returns-in_default : goal.returns-in_default
returns-in_default g c = record { over = plain_none c.args.away c.args.rested c.args.site c.args.cut (λ laid is. c.in_default.not-Up laid is) }
