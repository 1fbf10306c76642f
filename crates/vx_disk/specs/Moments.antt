-- What disks in memory were at earlier moments.
use Rattle.std.specs.Prelude.{List, [], ◌∷◌, ◌++◌, Option, Some, None, Vec}
use Rattle.std.specs.declared.alloc.Global.{Global}
use Rattle.vx_disk.specs.declared.moment.Moment.{Moment, Moment', Held-Moment-before-1, None', Some'}
use Rattle.vx_disk.specs.declared.unit.MemUnit.{MemUnit}

abbrev moments_in : Held-Moment-before-1 → List (Vec MemUnit Global)
moments_in None' = []
moments_in (Some' (Moment' units marker held)) = moments_in held ++ units.value ∷ []

-- the moments, the first of them first
abbrev pub moments_of : Option Moment → List (Vec MemUnit Global)
moments_of None = []
moments_of (Some (Moment' units marker held)) = moments_in held ++ units.value ∷ []
