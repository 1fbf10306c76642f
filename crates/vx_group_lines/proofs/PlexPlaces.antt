-- The volume of a group that a line on a plex names, below a replicated volume group: it is the only one of its name, and has as many plexes as the tests see.
use Rattle.std.proofs.Common.{◌≡◌, ◌∙◌, ◌+◌, ◌++◌, ℕ, zero, suc, Bool, true, false, List, [], ◌∷◌, length, map, ap, arith, refl, subst, sym}
use Rattle.std.proofs.lemmas.Bool.{and_parts, not-true}
use Rattle.std.proofs.lemmas.Slice.Eq.{bytes_eq-Decides}
use Rattle.std.specs.List.{AllByRecursion, find, list_all}
use Rattle.std.specs.Prelude.{◌&&◌, cond, if◌then◌else◌, nat_le, Option, Some, None, slice_get}
use Rattle.std.specs.Str.{bytes_eq}
use Rattle.vx_model.proofs.Lists.{all_at}
use Rattle.vx_model.specs.declared.limits.TheConstants.{MOST_SUBDISKS}
use Rattle.vx_model.specs.declared.units.Units.{Units}
use Rattle.vx_config.specs.Checks.{are_placed, differ, group_or_none, is_sound, is_volume, pairwise}
use Rattle.vx_config.specs.Configs.{subdisk_count}
use Rattle.vx_config.specs.declared.config.Config.{Config}
use Rattle.vx_config.specs.declared.entry.VolumeEntry.{VolumeEntry}
use Rattle.vx_history.specs.Volumes.{as_volume}
use Rattle.vx_history.specs.World.{Node, Volume}
use Rattle.vx_order.specs.declared.facts.VolumeFacts.{VolumeFacts}
use Rattle.vx_events.proofs.Places.{some_same}
use Rattle.vx_events.specs.Facts.{volume_fact}
use Rattle.vx_events.specs.GroupNotes.{note_at}
use Rattle.vx_events.specs.GroupViews.{config_of, volumes_of}
use Rattle.vx_events.specs.RvgFits.{HasVolume, config_rvg, data_at, data_of, entry_name}
use Rattle.vx_events.specs.RvgViews.{data_facts, data_units, is_data_unit, is_over_rvg, kinded, others_by, others_from, others_of, over_table, plexes_in, table_at, unless_data}

abbrev named : List ℕ → VolumeFacts → Bool
named name v = bytes_eq v.name name

abbrev called : List ℕ → VolumeEntry → Bool
called name v = bytes_eq v.name name

never_found : {A B : Type 0} (x : A) → None ≡ Some x → B
never_found x e = absurd (let clash : None ≡ Some x = e in cc)

-- one of these volumes has the name, and so many plexes
pub record PlexesIn (name : List ℕ) (vs : List VolumeEntry) (x : VolumeFacts) : Type 0 where
  pub place : ℕ
  pub entry : VolumeEntry
  pub there : slice_get vs place ≡ Some entry
  pub named_so : bytes_eq entry.name name ≡ true
  pub plexes : x.plexes ≡ length entry.plexes

-- ---- a data volume, or another one

data_plexes : (name : List ℕ) (vs : List VolumeEntry) (places : List ℕ) (others : List VolumeFacts) (x : VolumeFacts) → AllByRecursion (HasVolume vs) places → (find (named name) others ≡ Some x → PlexesIn name vs x)
    → find (named name) (data_facts vs places (map as_volume (map (data_at vs) places)) ++ others) ≡ Some x → PlexesIn name vs x
data_plexes name vs [] others x has rest e = rest e
data_plexes name vs (p ∷ places) others x (here, has) rest e = by (bytes_eq (entry_name (slice_get vs p)) name) refl (data_plexes name vs places others x has rest) e
  where
    by : (b : Bool) → bytes_eq (entry_name (slice_get vs p)) name ≡ b → (find (named name) (data_facts vs places (map as_volume (map (data_at vs) places)) ++ others) ≡ Some x → PlexesIn name vs x)
        → cond b (Some (record (volume_fact (as_volume (data_at vs p))) { plexes = plexes_in (slice_get vs p) })) (find (named name) (data_facts vs places (map as_volume (map (data_at vs) places)) ++ others)) ≡ Some x → PlexesIn name vs x
    by true is later f = record {
      place = p;
      entry = here.0;
      there = here.1;
      named_so = ap (λ (o : Option VolumeEntry). bytes_eq (entry_name o) name) (sym here.1) ∙ is;
      plexes = ap (λ (v : VolumeFacts). v.plexes) (sym (some_same f)) ∙ ap (λ (o : Option VolumeEntry). plexes_in o) here.1;
    }
    by false is later f = later f

other_plexes : (name : List ℕ) (units : Units) (place : ℕ) (vs all : List VolumeEntry) (x : VolumeFacts) → ((i : ℕ) (v : VolumeEntry) → slice_get vs i ≡ Some v → slice_get all (place + i) ≡ Some v)
    → find (named name) (others_from units place vs) ≡ Some x → PlexesIn name all x
other_plexes name units place [] all x inside e = never_found x e
other_plexes name units place (v ∷ vs) all x inside e =
    by (is_data_unit units.vols place) (bytes_eq v.name name) refl
    (other_plexes name units (place + 1) vs all x (λ i w at. subst (λ (k : ℕ). slice_get all k ≡ Some w) (omega arith) (inside (suc i) w at))) e
  where
    by : (b c : Bool) → bytes_eq v.name name ≡ c → (find (named name) (others_from units (place + 1) vs) ≡ Some x → PlexesIn name all x)
        → find (named name) (unless_data b (kinded units place v) (others_from units (place + 1) vs)) ≡ Some x → PlexesIn name all x
    by true c is later found = later found
    by false true is later found = record {
      place = place;
      entry = v;
      there = subst (λ (k : ℕ). slice_get all k ≡ Some v) (omega arith) (inside 0 v refl);
      named_so = is;
      plexes = ap (λ (f : VolumeFacts). f.plexes) (sym (some_same (sym (ap (λ (b : Bool). cond b (Some (kinded units place v)) (find (named name) (others_from units (place + 1) vs))) is) ∙ found)));
    }
    by false false is later found = later (sym (ap (λ (b : Bool). cond b (Some (kinded units place v)) (find (named name) (others_from units (place + 1) vs))) is) ∙ found)

-- ---- a site

pub plexes_shown : (n : Node) (name : List ℕ) (x : VolumeFacts) (c : Config) (units : Units) → is_over_rvg n ≡ true → config_of (note_at n).config ≡ Some c → c.rvg ≡ Some units → n.volumes ≡ map as_volume (data_of c.volumes units)
    → AllByRecursion (HasVolume c.volumes) units.vols → find (λ (v : VolumeFacts). bytes_eq v.name name) (table_at n) ≡ Some x → PlexesIn name c.volumes x
plexes_shown n name x c units over noted rvg volumes has e =
    data_plexes name c.volumes units.vols (others_from units 0 c.volumes) x has
    (other_plexes name units 0 c.volumes c.volumes x (λ i v at. subst (λ (k : ℕ). slice_get c.volumes k ≡ Some v) (omega arith) at))
    (ap (λ (vs : List VolumeFacts). find (named name) vs) (sym table) ∙ e)
  where
    table : table_at n ≡ data_facts c.volumes units.vols (map as_volume (map (data_at c.volumes) units.vols)) ++ others_from units 0 c.volumes
    table =
        ap (λ (b : Bool). if b then over_table n (note_at n) else map volume_fact n.volumes) over
        ∙ ap (λ (o : Option Config). data_facts (volumes_of o) (data_units (config_rvg o)) n.volumes ++ others_of o) noted
        ∙ ap (λ (o : Option Units). data_facts c.volumes (data_units o) n.volumes ++ others_by o c.volumes) rvg
        ∙ ap (λ (vs : List Volume). data_facts c.volumes units.vols vs ++ others_from units 0 c.volumes) volumes

-- ---- names

pub names_apart : (c : Config) → is_sound c ≡ true → pairwise differ c.volumes ≡ true
unfolding is_sound
names_apart c sound =
    let first : Bool = nat_le (subdisk_count c) MOST_SUBDISKS && are_placed c in
    let names : Bool = pairwise differ c.volumes in
    let volumes : Bool = list_all is_volume c.volumes in
    let four = (and_parts (first && names && volumes) (group_or_none c.volumes c.rvg) sound).0 in
    let three = (and_parts (first && names) volumes four).0 in
    (and_parts first names three).1

-- the first volume of a name is the only one
pub only_named : (name : List ℕ) (vs : List VolumeEntry) (place : ℕ) (entry : VolumeEntry) → pairwise differ vs ≡ true → slice_get vs place ≡ Some entry → bytes_eq entry.name name ≡ true
    → find (λ (v : VolumeEntry). bytes_eq v.name name) vs ≡ Some entry
only_named name [] place entry apart at is = never_found entry at
only_named name (v ∷ vs) zero entry apart at is =
    ap (λ (b : Bool). cond b (Some v) (find (called name) vs)) (ap (λ (w : VolumeEntry). bytes_eq w.name name) (some_same at) ∙ is) ∙ at
only_named name (v ∷ vs) (suc p) entry apart at is =
    let parts = and_parts (list_all (differ v) vs) (pairwise differ vs) apart in
    let other : bytes_eq v.name entry.name ≡ false = not-true (bytes_eq v.name entry.name) (all_at (differ v) vs p entry parts.0 at) in
    let off : bytes_eq v.name name ≡ false = ap (λ (n : List ℕ). bytes_eq v.name n) (sym ((bytes_eq-Decides entry.name name).0 is)) ∙ other in
    ap (λ (b : Bool). cond b (Some v) (find (called name) vs)) off ∙ only_named name vs p entry parts.1 at is
