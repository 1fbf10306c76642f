-- Refusals that no failing disk gives.
use Rattle.vx_model.specs.declared.no.No.{No}
use Rattle.vx_model.specs.declared.no.No.TheVariants.{Device}

abbrev pub IsNoDevice : No → Type 0
IsNoDevice (Device disk) = ⊥
IsNoDevice other = Unit {0}
