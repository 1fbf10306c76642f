-- What was written of some bytes.
use Rattle.std.specs.Prelude.{◌≡◌, ◌≢◌, ℕ, [], ◌++◌, List, Option, Result, Ok, Err}
use Rattle.std.specs.Io.KnownBytes.{Appends}

-- all of the bytes were written, or a part from the front where the sink failed, and something is missing
abbrev pub SendsBytes : {E : Type 0} → Option (List ℕ) → Option (List ℕ) → Result (Unit {0}) E → List ℕ → Type 0
SendsBytes old new (Ok u) bytes = Appends old new bytes
SendsBytes old new (Err e) bytes = (sent : List ℕ) × (unsent : List ℕ) × (bytes ≡ sent ++ unsent) × (unsent ≢ []) × Appends old new sent
