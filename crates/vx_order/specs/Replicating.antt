-- The tests of a replicated volume group that is made of volumes.
use Rattle.std.specs.Prelude.{ℕ, ◌*◌, Bool, true, not, ◌&&◌, nat_le, List, [], ◌∷◌, length, sum_by, Option, Some, None, is_some}
use Rattle.std.specs.List.{list_any}
use Rattle.std.specs.Str.{bytes_eq}
use Rattle.vx_model.specs.declared.limits.TheConstants.{LEAST_BLOCKS, LINK_PLACES, MOST_DATA_VOLUMES}
use Rattle.vx_model.specs.declared.no.No.{No}
use Rattle.vx_model.specs.declared.no.No.TheVariants.{Exists}
use Rattle.vx_model.specs.Sizes.{map_blocks}
use Rattle.vx_order.specs.declared.facts.SiteFacts.{SiteFacts}
use Rattle.vx_order.specs.declared.facts.VolumeFacts.{VolumeFacts}
use Rattle.vx_order.specs.declared.facts.RvgFacts.{RvgFacts}
use Rattle.vx_order.specs.Calls.{call_unknown}
use Rattle.vx_order.specs.Sites.{volume_of}
use Rattle.vx_order.specs.Tests.{when, before}

-- 1 of the first of these names of which the site has no volume
abbrev pub names_unknown : Option SiteFacts → List (List ℕ) → Option No
names_unknown site [] = None
names_unknown site (name ∷ names) = before (call_unknown (volume_of site name) name) (names_unknown site names)

-- 1: of the log, the maps and the data volumes, in this order, the first that the site has not
abbrev pub group_unknown : Option SiteFacts → (srl maps : List ℕ) → (volumes : List (List ℕ)) → Option No
group_unknown site srl maps volumes = before (call_unknown (volume_of site srl) srl) (before (call_unknown (volume_of site maps) maps) (names_unknown site volumes))

-- `rvg`
abbrev pub group_word : List ℕ
group_word = 114 ∷ 118 ∷ 103 ∷ []

-- 2: the site has a replicated volume group
abbrev pub group_taken : Option RvgFacts → Option No
group_taken rvg = when (is_some rvg) (Exists group_word)

-- no name stands among those behind it
abbrev pub are_distinct : List (List ℕ) → Bool
are_distinct [] = true
are_distinct (name ∷ names) = not (list_any (bytes_eq name) names) && are_distinct names

abbrev pub volume_blocks : Option VolumeFacts → ℕ
volume_blocks None = 0
volume_blocks (Some volume) = volume.blocks

-- the blocks of the volume of this name, or 0 where there is none
abbrev pub blocks_named : Option SiteFacts → List ℕ → ℕ
blocks_named site name = volume_blocks (volume_of site name)

-- the map blocks of the volume of this name
abbrev pub maps_named : Option SiteFacts → List ℕ → ℕ
maps_named site name = map_blocks (blocks_named site name)

-- Distinct volumes: 1 to 30 data volumes, a log of at least 8 blocks, and maps of at least eight times the map blocks of the
-- data volumes.
abbrev pub fits_group : Option SiteFacts → (srl maps : List ℕ) → (volumes : List (List ℕ)) → Bool
fits_group site srl maps volumes =
    nat_le 1 (length volumes) && nat_le (length volumes) MOST_DATA_VOLUMES
    && are_distinct (srl ∷ maps ∷ volumes)
    && nat_le LEAST_BLOCKS (blocks_named site srl)
    && nat_le (LINK_PLACES * sum_by (maps_named site) volumes) (blocks_named site maps)
