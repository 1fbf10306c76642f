-- Calls leave the units of a shelf as they are.
use Rattle.std.proofs.Common.{inl, inr, refl, ◌∙◌}
use Rattle.vx_disk.specs.Moves.{Anything, Says}
use Rattle.vx_disk.specs.Shelf.{Goes, Meaning, Nothing, Values}
use Rattle.vx_kept.specs.Keeping.{Acts}
use Rattle.vx_group.specs.Creates.{SameUnits}
use Rattle.vx_group.specs.Makes.{MakesBeside}
use Rattle.vx_config.specs.declared.config.Config.{Config}

pub same_units : (m : Meaning) → SameUnits m m
same_units m = record { units = refl; size = λ u. refl }

pub then_units : (m0 m1 m2 : Meaning) → SameUnits m0 m1 → SameUnits m1 m2 → SameUnits m0 m2
then_units m0 m1 m2 one two = record { units = two.units ∙ one.units; size = λ u. two.size u ∙ one.size u }

pub goes_units : (W : Values) (m m' : Meaning) → Goes W m m' → SameUnits m m'
goes_units W m m' goes = record { units = goes.units; size = goes.size }

pub acts_units : (W : Values) (P : Says) (m m' : Meaning) → Acts W P m m' → SameUnits m m'
acts_units W P m m' acts = record { units = acts.units; size = acts.size }

pub beside_units : (c : Config) (m m' : Meaning) → MakesBeside c m m' → SameUnits m m'
beside_units c m m' (inl none) = acts_units Nothing Anything m m' none
beside_units c m m' (inr begins) = record { units = begins.acts.units; size = begins.acts.size }
