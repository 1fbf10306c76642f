-- What a shelf was at earlier moments.
use Rattle.std.specs.Prelude.{List, [], ◌∷◌, ◌++◌, Option, Some, None}
use Rattle.vx_blockwise.specs.declared.past.Past.{Past, Past', Held-Past-before-1, None', Some'}

abbrev pub shelves_in : {S : Type 0} → Held-Past-before-1 S → List S
shelves_in None' = []
shelves_in (Some' (Past' shelf marker held)) = shelves_in held ++ shelf.value ∷ []

-- the moments, the first of them first
abbrev pub shelves_of : {S : Type 0} → Option (Past S) → List S
shelves_of None = []
shelves_of (Some (Past' shelf marker held)) = shelves_in held ++ shelf.value ∷ []
