-- The volumes that a line names which makes a replicated volume group, by what the tests see of its site.
use Rattle.std.specs.Prelude.{ℕ, List, map, unwrap_or}
use Rattle.vx_model.specs.declared.units.Units.{Units}
use Rattle.vx_order.specs.declared.facts.VolumeFacts.{VolumeFacts}
use Rattle.vx_events.specs.Facts.{place_of}

-- the place of the volume of this name, or 0
abbrev pub seen_number : List VolumeFacts → List ℕ → ℕ
seen_number volumes name = unwrap_or (place_of volumes name) 0

-- the volumes of the log and of the maps, and the data volumes
abbrev pub seen_units : List VolumeFacts → (srl maps : List ℕ) → (names : List (List ℕ)) → Units
seen_units volumes srl maps names = record { srl = seen_number volumes srl; maps = seen_number volumes maps; vols = map (seen_number volumes) names }
