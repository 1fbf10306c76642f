-- What the tests see of the volumes of a site with a replicated volume group over its group does not change as disks fail: they see how many plexes a volume has, not their states.
use Rattle.std.proofs.Common.{◌≡◌, ◌∙◌, ◌+◌, ◌++◌, ℕ, zero, suc, List, [], ◌∷◌, map, ap, sym, refl}
use Rattle.std.specs.List.{AllByRecursion}
use Rattle.std.specs.Prelude.{Option, Some, None, option_map, slice_get}
use Rattle.std.proofs.lemmas.Option.{slice_get-map}
use Rattle.vx_model.specs.declared.units.Units.{Units}
use Rattle.vx_config.specs.Checks.{blocks_or_none}
use Rattle.vx_config.specs.declared.config.Config.{Config}
use Rattle.vx_config.specs.declared.entry.VolumeEntry.{VolumeEntry}
use Rattle.vx_history.specs.Groups.{GroupNode}
use Rattle.vx_history.specs.World.{Node, Volume}
use Rattle.vx_history.specs.declared.volumes.DataVolume.{DataVolume}
use Rattle.vx_order.specs.declared.facts.VolumeFacts.{VolumeFacts}
use Rattle.vx_events.specs.Facts.{volume_fact}
use Rattle.vx_events.specs.GroupViews.{config_of, plain_fact, volumes_of}
use Rattle.vx_events.specs.RvgFits.{HasVolume, config_rvg, data_at, entries_noted, entry_name, rvg_noted}
use Rattle.vx_events.specs.RvgViews.{data_facts, data_units, is_data_unit, kind_at, kinded, others_by, others_from, others_of, over_table, plexes_in, unless_data}

-- ---- the volumes that are no data volumes, by what the tests see of them in another kind

abbrev others_seen : Units → ℕ → List VolumeFacts → List VolumeFacts
others_seen units place [] = []
others_seen units place (f ∷ fs) = unless_data (is_data_unit units.vols place) (let x : VolumeFacts = record f { kind = kind_at units place } in x) (others_seen units (place + 1) fs)

others_as : (units : Units) (place : ℕ) (vs : List VolumeEntry) → others_from units place vs ≡ others_seen units place (map plain_fact vs)
others_as units place [] = refl
others_as units place (v ∷ vs) = ap (λ (fs : List VolumeFacts). unless_data (is_data_unit units.vols place) (kinded units place v) fs) (others_as units (place + 1) vs)

others_same : (o : Option Units) (us vs : List VolumeEntry) → map plain_fact us ≡ map plain_fact vs → others_by o us ≡ others_by o vs
others_same None us vs same = same
others_same (Some units) us vs same = others_as units 0 us ∙ ap (λ (fs : List VolumeFacts). others_seen units 0 fs) same ∙ sym (others_as units 0 vs)

-- ---- the data volumes

abbrev plexes_seen : Option VolumeFacts → ℕ
plexes_seen None = 0
plexes_seen (Some f) = f.plexes

plexes_as : (o : Option VolumeEntry) → plexes_in o ≡ plexes_seen (option_map plain_fact o)
plexes_as None = refl
plexes_as (Some v) = refl

plexes_at : (vs : List VolumeEntry) (p : ℕ) → plexes_in (slice_get vs p) ≡ plexes_seen (slice_get (map plain_fact vs) p)
plexes_at vs p = plexes_as (slice_get vs p) ∙ ap plexes_seen (sym (slice_get-map plain_fact vs p))

plexes_same : (us vs : List VolumeEntry) (p : ℕ) → map plain_fact us ≡ map plain_fact vs → plexes_in (slice_get us p) ≡ plexes_in (slice_get vs p)
plexes_same us vs p same = plexes_at us p ∙ ap (λ (fs : List VolumeFacts). plexes_seen (slice_get fs p)) same ∙ sym (plexes_at vs p)

data_same : (us vs : List VolumeEntry) (places : List ℕ) (xs : List Volume) → map plain_fact us ≡ map plain_fact vs → data_facts us places xs ≡ data_facts vs places xs
data_same us vs places [] same = refl
data_same us vs [] (x ∷ xs) same = ap (λ (fs : List VolumeFacts). volume_fact x ∷ fs) (data_same us vs [] xs same)
data_same us vs (p ∷ places) (x ∷ xs) same =
    ap (λ (k : ℕ). (let f : VolumeFacts = record (volume_fact x) { plexes = k } in f) ∷ data_facts us places xs) (plexes_same us vs p same)
    ∙ ap (λ (fs : List VolumeFacts). (let f : VolumeFacts = record (volume_fact x) { plexes = plexes_in (slice_get vs p) } in f) ∷ fs) (data_same us vs places xs same)

-- ---- a site

others_is : (o : Option Config) → others_of o ≡ others_by (config_rvg o) (volumes_of o)
others_is None = refl
others_is (Some c) = refl

-- the table by its parts
abbrev table_of : List Volume → Option Units → List VolumeEntry → List VolumeFacts
table_of xs o vs = data_facts vs (data_units o) xs ++ others_by o vs

table_is : (n : Node) (note : GroupNode) → over_table n note ≡ table_of n.volumes (rvg_noted note) (entries_noted note)
table_is n note = ap (λ (fs : List VolumeFacts). data_facts (entries_noted note) (data_units (rvg_noted note)) n.volumes ++ fs) (others_is (config_of note.config))

-- behind another note of the group, with the same replicated volume group and volumes that look the same
pub table_like : (n m : Node) (note next : GroupNode) → m.volumes ≡ n.volumes → rvg_noted next ≡ rvg_noted note → map plain_fact (entries_noted next) ≡ map plain_fact (entries_noted note) → over_table m next ≡ over_table n note
table_like n m note next volumes rvg same =
    table_is m next
    ∙ ap (λ (xs : List Volume). table_of xs (rvg_noted next) (entries_noted next)) volumes
    ∙ ap (λ (o : Option Units). table_of n.volumes o (entries_noted next)) rvg
    ∙ ap (λ (fs : List VolumeFacts). fs ++ others_by (rvg_noted note) (entries_noted next)) (data_same (entries_noted next) (entries_noted note) (data_units (rvg_noted note)) n.volumes same)
    ∙ ap (λ (fs : List VolumeFacts). data_facts (entries_noted note) (data_units (rvg_noted note)) n.volumes ++ fs) (others_same (rvg_noted note) (entries_noted next) (entries_noted note) same)
    ∙ sym (table_is n note)

-- of a site with the same volumes
pub table_again : (n m : Node) (note : GroupNode) → m.volumes ≡ n.volumes → over_table m note ≡ over_table n note
table_again n m note volumes = ap (λ (xs : List Volume). data_facts (entries_noted note) (data_units (rvg_noted note)) xs ++ others_of (config_of note.config)) volumes

-- ---- the data volumes by their places

abbrev name_seen : Option VolumeFacts → List ℕ
name_seen None = []
name_seen (Some f) = f.name

abbrev blocks_seen : Option VolumeFacts → ℕ
blocks_seen None = 0
blocks_seen (Some f) = f.blocks

name_as : (o : Option VolumeEntry) → entry_name o ≡ name_seen (option_map plain_fact o)
name_as None = refl
name_as (Some v) = refl

blocks_as : (o : Option VolumeEntry) → blocks_or_none o ≡ blocks_seen (option_map plain_fact o)
blocks_as None = refl
blocks_as (Some v) = refl

abbrev data_seen : List VolumeFacts → (place : ℕ) → DataVolume
data_seen fs place = record { place = place; name = name_seen (slice_get fs place); blocks = blocks_seen (slice_get fs place) }

-- a data volume is seen with its name and its blocks
data_as : (vs : List VolumeEntry) (p : ℕ) → data_at vs p ≡ data_seen (map plain_fact vs) p
data_as vs p =
    ap (λ (name : List ℕ). (let x : DataVolume = record { place = p; name = name; blocks = blocks_or_none (slice_get vs p) } in x)) (name_as (slice_get vs p) ∙ ap name_seen (sym (slice_get-map plain_fact vs p)))
    ∙ ap (λ (k : ℕ). (let x : DataVolume = record { place = p; name = name_seen (slice_get (map plain_fact vs) p); blocks = k } in x)) (blocks_as (slice_get vs p) ∙ ap blocks_seen (sym (slice_get-map plain_fact vs p)))

-- what is seen in a place stands there
stands_seen : (vs : List VolumeEntry) (p : ℕ) (f : VolumeFacts) → slice_get (map plain_fact vs) p ≡ Some f → HasVolume vs p
stands_seen [] p f at = absurd (cc)
stands_seen (v ∷ vs) zero f at = (v, refl)
stands_seen (v ∷ vs) (suc p) f at = stands_seen vs p f at

pub has_again : (us vs : List VolumeEntry) (p : ℕ) → map plain_fact us ≡ map plain_fact vs → HasVolume us p → HasVolume vs p
has_again us vs p same (e, at) =
    stands_seen vs p (plain_fact e) (ap (λ (fs : List VolumeFacts). slice_get fs p) (sym same) ∙ slice_get-map plain_fact us p ∙ ap (λ (o : Option VolumeEntry). option_map plain_fact o) at)

pub all_again : (us vs : List VolumeEntry) (places : List ℕ) → map plain_fact us ≡ map plain_fact vs → AllByRecursion (HasVolume us) places → AllByRecursion (HasVolume vs) places
all_again us vs [] same all = tt
all_again us vs (p ∷ places) same (here, rest) = (has_again us vs p same here, all_again us vs places same rest)

-- those of volumes that look the same are the same
pub data_again : (us vs : List VolumeEntry) (places : List ℕ) → map plain_fact us ≡ map plain_fact vs → map (data_at us) places ≡ map (data_at vs) places
data_again us vs [] same = refl
data_again us vs (p ∷ places) same =
    ap (λ (x : DataVolume). x ∷ map (data_at us) places) (data_as us p ∙ ap (λ (fs : List VolumeFacts). data_seen fs p) same ∙ sym (data_as vs p))
    ∙ ap (λ (xs : List DataVolume). data_at vs p ∷ xs) (data_again us vs places same)
