-- Where a data volume stands that the tests see: the site has it under this name, in the same place among its data volumes, with as many blocks.
use Rattle.std.proofs.Common.{◌≡◌, ◌∙◌, ◌+◌, ◌++◌, ℕ, Bool, true, false, List, [], ◌∷◌, Option, Some, None, ap, map, refl, sym}
use Rattle.std.proofs.lemmas.Iterator.Adapters.{position_from-zero}
use Rattle.std.specs.List.{find, position_from}
use Rattle.std.specs.Prelude.{cond, if◌then◌else◌, slice_get, ◌==◌}
use Rattle.std.specs.Str.{bytes_eq}
use Rattle.vx_model.specs.declared.units.Units.{Units}
use Rattle.vx_config.specs.declared.config.Config.{Config}
use Rattle.vx_config.specs.declared.entry.VolumeEntry.{VolumeEntry}
use Rattle.vx_history.specs.World.{Node, Volume}
use Rattle.vx_order.specs.Calls.{is_data}
use Rattle.vx_order.specs.declared.facts.VolumeFacts.{VolumeFacts}
use Rattle.vx_order.specs.declared.facts.VolumeKind.TheVariants.{Data, Map, Plain, Srl}
use Rattle.vx_events.proofs.Places.{some_same}
use Rattle.vx_events.specs.Facts.{place_of, volume_fact}
use Rattle.vx_events.specs.GroupNotes.{note_at}
use Rattle.vx_events.specs.GroupViews.{config_of, plain_fact}
use Rattle.vx_events.specs.RvgFits.{entries_noted, rvg_noted}
use Rattle.vx_events.specs.RvgViews.{data_facts, data_units, is_data_unit, is_over_rvg, kind_at, kinded, others_by, others_from, others_of, over_table, plexes_in, table_at, unless_data}

abbrev named : List ℕ → VolumeFacts → Bool
named name v = bytes_eq v.name name

-- ---- the other volumes

pub never_data : (v : VolumeFacts) → is_data v.kind ≡ false → v.kind ≡ Data → ⊥
never_data v off is = let clash : false ≡ true = sym off ∙ ap is_data is in absurd (cc)

kind_off : (units : Units) (place : ℕ) → is_data (kind_at units place) ≡ false
kind_off units place = by (place == units.srl) (place == units.maps)
  where
    by : (a b : Bool) → is_data (if a then Srl else if b then Map else Plain) ≡ false
    by true b = refl
    by false true = refl
    by false false = refl

-- one of these that is found is none
found_off : (name : List ℕ) (y : VolumeFacts) (rest : Option VolumeFacts) (x : VolumeFacts) → is_data y.kind ≡ false → (rest ≡ Some x → is_data x.kind ≡ false) → (b : Bool) → cond b (Some y) rest ≡ Some x → is_data x.kind ≡ false
found_off name y rest x off later true e = ap (λ (v : VolumeFacts). is_data v.kind) (sym (some_same e)) ∙ off
found_off name y rest x off later false e = later e

from_off : (name : List ℕ) (units : Units) (place : ℕ) (vs : List VolumeEntry) (x : VolumeFacts) → find (named name) (others_from units place vs) ≡ Some x → is_data x.kind ≡ false
from_off name units place [] x e = absurd (cc)
from_off name units place (v ∷ vs) x e = by (is_data_unit units.vols place) (from_off name units (place + 1) vs x) e
  where
    by : (b : Bool) → (find (named name) (others_from units (place + 1) vs) ≡ Some x → is_data x.kind ≡ false)
        → find (named name) (unless_data b (kinded units place v) (others_from units (place + 1) vs)) ≡ Some x → is_data x.kind ≡ false
    by true later e = later e
    by false later e =
        found_off name (kinded units place v) (find (named name) (others_from units (place + 1) vs)) x (kind_off units place) later (bytes_eq v.name name) e

plain_off : (name : List ℕ) (vs : List VolumeEntry) (x : VolumeFacts) → find (named name) (map plain_fact vs) ≡ Some x → is_data x.kind ≡ false
plain_off name [] x e = absurd (cc)
plain_off name (v ∷ vs) x e = found_off name (plain_fact v) (find (named name) (map plain_fact vs)) x refl (plain_off name vs x) (bytes_eq v.name name) e

others_off : (name : List ℕ) (o : Option Config) (x : VolumeFacts) → find (named name) (others_of o) ≡ Some x → is_data x.kind ≡ false
others_off name None x e = absurd (cc)
others_off name (Some c) x e = by c.rvg e
  where
    by : (u : Option Units) → find (named name) (others_by u c.volumes) ≡ Some x → is_data x.kind ≡ false
    by None e = plain_off name c.volumes x e
    by (Some units) e = from_off name units 0 c.volumes x e

-- ---- the data volumes

record Fronted (name : List ℕ) (all : List VolumeFacts) (xs : List Volume) (x : VolumeFacts) : Type 0 where
  same : (j : ℕ) → position_from (named name) j all ≡ position_from (named name) j (map volume_fact xs)
  fact : VolumeFacts
  found : find (named name) (map volume_fact xs) ≡ Some fact
  blocks : fact.blocks ≡ x.blocks

-- with a further one, which is of this name or not
fronted_by : (name : List ℕ) (y : VolumeFacts) (v : Volume) (all : List VolumeFacts) (xs : List Volume) (x : VolumeFacts) → y.name ≡ v.name → y.blocks ≡ v.blocks
    → (find (named name) all ≡ Some x → Fronted name all xs x) → find (named name) (y ∷ all) ≡ Some x → Fronted name (y ∷ all) (v ∷ xs) x
fronted_by name y v all xs x names blocks later e = by (bytes_eq v.name name) refl (ap (λ (n : List ℕ). cond (bytes_eq n name) (Some y) (find (named name) all)) (sym names) ∙ e)
  where
    by : (b : Bool) → bytes_eq v.name name ≡ b → cond (bytes_eq v.name name) (Some y) (find (named name) all) ≡ Some x → Fronted name (y ∷ all) (v ∷ xs) x
    by true is f = record {
      same = λ j.
          ap (λ (n : List ℕ). cond (bytes_eq n name) (Some j) (position_from (named name) (j + 1) all)) names
          ∙ ap (λ (b : Bool). cond b (Some j) (position_from (named name) (j + 1) all)) is
          ∙ sym (ap (λ (b : Bool). cond b (Some j) (position_from (named name) (j + 1) (map volume_fact xs))) is);
      fact = volume_fact v;
      found = ap (λ (b : Bool). cond b (Some (volume_fact v)) (find (named name) (map volume_fact xs))) is;
      blocks = sym blocks ∙ ap (λ (w : VolumeFacts). w.blocks) (some_same (sym (ap (λ (b : Bool). cond b (Some y) (find (named name) all)) is) ∙ f));
    }
    by false is f =
        let more : Fronted name all xs x = later (sym (ap (λ (b : Bool). cond b (Some y) (find (named name) all)) is) ∙ f) in
        record {
          same = λ j.
              ap (λ (n : List ℕ). cond (bytes_eq n name) (Some j) (position_from (named name) (j + 1) all)) names
              ∙ ap (λ (o : Option ℕ). cond (bytes_eq v.name name) (Some j) o) (more.same (j + 1));
          fact = more.fact;
          found = ap (λ (b : Bool). cond b (Some (volume_fact v)) (find (named name) (map volume_fact xs))) is ∙ more.found;
          blocks = more.blocks;
        }

fronted : (name : List ℕ) (vs : List VolumeEntry) (places : List ℕ) (xs : List Volume) (others : List VolumeFacts) (x : VolumeFacts) → (find (named name) others ≡ Some x → is_data x.kind ≡ false)
    → x.kind ≡ Data → find (named name) (data_facts vs places xs ++ others) ≡ Some x → Fronted name (data_facts vs places xs ++ others) xs x
fronted name vs places [] others x off is e = absurd (never_data x (off e) is)
fronted name vs [] (y ∷ xs) others x off is e =
    fronted_by name (volume_fact y) y (data_facts vs [] xs ++ others) xs x refl refl (fronted name vs [] xs others x off is) e
fronted name vs (p ∷ places) (y ∷ xs) others x off is e =
    fronted_by name (record (volume_fact y) { plexes = plexes_in (slice_get vs p) }) y (data_facts vs places xs ++ others) xs x refl refl (fronted name vs places xs others x off is) e

raw_fronted : (name : List ℕ) (xs : List Volume) (x : VolumeFacts) → find (named name) (map volume_fact xs) ≡ Some x → Fronted name (map volume_fact xs) xs x
raw_fronted name xs x e = record { same = λ j. refl; fact = x; found = e; blocks = refl }

-- ---- a site

shown_table : Node → Bool → List VolumeFacts
shown_table n b = if b then over_table n (note_at n) else map volume_fact n.volumes

pub record DataPlaced (n : Node) (name : List ℕ) (x : VolumeFacts) : Type 0 where
  pub same : place_of (table_at n) name ≡ place_of (map volume_fact n.volumes) name
  pub fact : VolumeFacts
  pub found : find (λ (v : VolumeFacts). bytes_eq v.name name) (map volume_fact n.volumes) ≡ Some fact
  pub blocks : fact.blocks ≡ x.blocks

pub data_placed : (n : Node) (name : List ℕ) (x : VolumeFacts) → find (λ (v : VolumeFacts). bytes_eq v.name name) (table_at n) ≡ Some x → x.kind ≡ Data → DataPlaced n name x
unfolding shown_table
data_placed n name x e is = by (is_over_rvg n) refl
  where
    placed : (all : List VolumeFacts) → table_at n ≡ all → Fronted name all n.volumes x → DataPlaced n name x
    placed all here f = record {
      same = ap (λ (vs : List VolumeFacts). place_of vs name) here ∙ position_from-zero (named name) all ∙ f.same 0 ∙ sym (position_from-zero (named name) (map volume_fact n.volumes));
      fact = f.fact;
      found = f.found;
      blocks = f.blocks;
    }

    by : (b : Bool) → is_over_rvg n ≡ b → DataPlaced n name x
    by true over =
        let here : table_at n ≡ shown_table n true = ap (shown_table n) over in
        placed (shown_table n true) here
        (fronted name (entries_noted (note_at n)) (data_units (rvg_noted (note_at n))) n.volumes (others_of (config_of (note_at n).config)) x
        (others_off name (config_of (note_at n).config) x) is (ap (λ (vs : List VolumeFacts). find (named name) vs) (sym here) ∙ e))
    by false raw =
        let here : table_at n ≡ shown_table n false = ap (shown_table n) raw in
        placed (shown_table n false) here (raw_fronted name n.volumes x (ap (λ (vs : List VolumeFacts). find (named name) vs) (sym here) ∙ e))
