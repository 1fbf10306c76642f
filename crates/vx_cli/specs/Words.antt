-- The words that a program is called with.
use Rattle.std.specs.Prelude.{ℕ, List, [], ◌∷◌, Bool, true, false, ◌&&◌, Option, Some, None, codes, if◌then◌else◌}
use Rattle.std.specs.Str.{bytes_eq}

-- Words that ask for a run, whose disks are kept in files or not: `run` alone, or `run --dir D`.
abbrev pub run_words : List (List ℕ) → Option Bool
run_words [] = None
run_words (word ∷ []) = if bytes_eq word (codes "run") then Some false else None
run_words (word ∷ option ∷ []) = None
run_words (word ∷ option ∷ dir ∷ []) = if bytes_eq word (codes "run") && bytes_eq option (codes "--dir") then Some true else None
run_words (word ∷ option ∷ dir ∷ other ∷ words) = None
