-- How many blocks the maps of a link take.
use Rattle.std.specs.Prelude.{ℕ, List}
use Rattle.std.specs.List.{sum_by}
use Rattle.vx_model.specs.Sizes.{map_blocks}
use Rattle.vx_disk.specs.Shelf.{Meaning}

-- how many blocks the maps of one link take: those of each volume
abbrev pub maps_of : List ℕ → Meaning → ℕ
maps_of vols m = sum_by (λ u. map_blocks (m.size u)) vols
