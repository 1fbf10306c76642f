-- The replicated volume group of a configuration.
use Rattle.std.proofs.Common.{◌∙◌, ap, sym}
use Rattle.std.specs.Prelude.{Some}
use Rattle.vx_diskset.proofs.over_starts.units_in.Goals as goal

pub returns-in-Some : goal.returns-in-Some
returns-in-Some c = ap (λ u. Some u) c.copy.ensures ∙ sym c.in-Some.is

pub returns-in-None : goal.returns-in-None
returns-in-None c = sym c.in-None.is
