-- The line on a write to a volume in which the fuse ran out.
use Rattle.std.specs.Prelude.{ℕ, Bool, List, [], ◌∷◌, ◌++◌, codes, take, if◌then◌else◌}
use Rattle.std.specs.Fmt.{decimal}
use Rattle.std.specs.List.{flat_map}
use Rattle.vx_report.specs.declared.view.Kept.{Kept}

-- a block of it: 1 where it has what was to be written
abbrev pub kept_digit : Bool → List ℕ
kept_digit kept = if kept then codes "1" else codes "0"

-- the line
abbrev pub kept_line : Kept → List ℕ
kept_line kept = codes "kept " ++ kept.volume ++ 32 ∷ decimal kept.block ++ 32 ∷ flat_map kept_digit (take kept.count kept.bits) ++ 10 ∷ []
