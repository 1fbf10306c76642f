-- The calls on the shelf that a seal makes.
use Rattle.std.specs.Prelude.{ℕ, List, [], ◌∷◌, ◌++◌}
use Rattle.vx_srlfmt.specs.Kinds.{Front}
use Rattle.vx_ringlog.specs.Cells.{Act, Write, Flush}
use Rattle.vx_ringlog.specs.Chain.{block}
use Rattle.vx_srl.specs.declared.kept.Kept.{Kept}

-- the header of each record, at its place
abbrev pub fronts_written : ℕ → List Kept → List Act
fronts_written ring [] = []
fronts_written ring (k ∷ ks) = Write (block ring k.place) (Front k.head) ∷ fronts_written ring ks

-- between two flushes
abbrev pub seal_written : ℕ → List Kept → List Act
seal_written ring ks = Flush ∷ (fronts_written ring ks ++ Flush ∷ [])
