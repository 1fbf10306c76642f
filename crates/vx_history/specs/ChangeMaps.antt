-- What events make of the change map of a link.
use Rattle.std.specs.Prelude.{ℕ, max, List, drop}
use Rattle.vx_model.specs.Content.{Write}
use Rattle.vx_model.specs.declared.link.Mode.{Mode}
use Rattle.vx_model.specs.declared.link.Mode.TheVariants.{Log, Dcm, Replay, Fork, Stale}
use Rattle.vx_history.specs.declared.admission.Change.{Change}
use Rattle.vx_history.specs.declared.admission.Change.TheVariants.{Stays, ToStale, ToDcm}
use Rattle.vx_history.specs.World.{Regions, no_regions}
use Rattle.vx_history.specs.Regions.{joined_maps, marks_of_all}

-- the map with the regions of all numbers of the log above a hold
abbrev pub map_of_late : Regions → List Write → (hold : ℕ) → Regions
map_of_late map log hold = joined_maps map (marks_of_all (drop hold log))

-- what is left of the map of a link that is converted: the regions that a replay has still to copy
abbrev pub map_kept : Mode → Regions → Regions
map_kept Log map = no_regions
map_kept Dcm map = no_regions
map_kept (Replay id phase left start end) map = map
map_kept (Fork maps) map = no_regions
map_kept Stale map = no_regions

-- the map of a link that changes as a write is let in
abbrev pub map_changed : Change → Mode → Regions → List Write → (hold : ℕ) → Regions
map_changed Stays mode map log hold = map
map_changed ToStale mode map log hold = map
map_changed ToDcm mode map log hold = map_of_late (map_kept mode map) log hold

-- the map with the regions of these writes, where one is kept
abbrev pub map_after : Mode → Regions → List Write → Regions
map_after Log map xs = map
map_after Dcm map xs = joined_maps map (marks_of_all xs)
map_after (Replay id phase left start end) map xs = map
map_after (Fork maps) map xs = joined_maps map (marks_of_all xs)
map_after Stale map xs = map

-- the map of a link whose site comes up again: a replay goes back to its map, with the regions of all numbers above its hold
abbrev pub map_again : List Write → Regions → (stored : ℕ) → Mode → Regions
map_again log map stored Log = map
map_again log map stored Dcm = map
map_again log map stored (Replay id phase left start end) = map_of_late map log (max start stored)
map_again log map stored (Fork maps) = map
map_again log map stored Stale = map
