-- The volumes of a group below a replicated volume group, as the tests of a line that makes one see them: none is left out.
use Rattle.std.proofs.Common.{◌≡◌, ◌∙◌, ◌+◌, ◌++◌, ◌<◌, ◌≤◌, ℕ, zero, suc, Bool, true, false, List, [], ◌∷◌, length, length-append, map, ap, arith, refl, subst, sym}
use Rattle.std.proofs.lemmas.Bool.{eqb-true}
use Rattle.std.proofs.lemmas.Bool.Decides.{nat_tests}
use Rattle.std.specs.List.{find, list_any}
use Rattle.std.specs.Prelude.{◌==◌, ◌||◌, cond, if◌then◌else◌, Option, Some, None, slice_get}
use Rattle.std.specs.Str.{bytes_eq}
use Rattle.vx_model.specs.declared.units.Units.{Units}
use Rattle.vx_config.specs.declared.config.Config.{Config}
use Rattle.vx_config.specs.declared.entry.VolumeEntry.{VolumeEntry}
use Rattle.vx_group.specs.Makes.{has_name}
use Rattle.vx_history.specs.Volumes.{as_volume}
use Rattle.vx_history.specs.World.{Node, Volume}
use Rattle.vx_order.specs.declared.facts.VolumeFacts.{VolumeFacts}
use Rattle.vx_events.specs.Facts.{volume_fact}
use Rattle.vx_events.specs.GroupNotes.{note_at}
use Rattle.vx_events.specs.GroupViews.{config_of, volumes_of}
use Rattle.vx_events.specs.RvgFits.{config_rvg, data_at, data_of, entry_name}
use Rattle.vx_events.specs.RvgViews.{data_facts, data_units, is_data_unit, is_over_rvg, kinded, others_by, others_from, others_of, over_table, plexes_in, table_at, unless_data}

abbrev seen_as : List ℕ → VolumeFacts → Bool
seen_as name v = bytes_eq v.name name

never_none : {A B : Type 0} (x : A) → Some x ≡ None → B
never_none x e = absurd (let clash : Some x ≡ None = e in cc)

-- ---- names

record DataUnnamed (name : List ℕ) (vs : List VolumeEntry) (places : List ℕ) (others : List VolumeFacts) : Type 0 where
  rest : find (seen_as name) others ≡ None
  each : (u : ℕ) (e : VolumeEntry) → is_data_unit places u ≡ true → slice_get vs u ≡ Some e → bytes_eq e.name name ≡ false

either : (a b : Bool) → (a || b) ≡ true → a ≡ false → b ≡ true
either true b is off = absurd (let clash : true ≡ false = off in cc)
either false b is off = is

data_other : (name : List ℕ) (vs : List VolumeEntry) (p : ℕ) (places : List ℕ) → bytes_eq (entry_name (slice_get vs p)) name ≡ false → ((u : ℕ) (e : VolumeEntry) → is_data_unit places u ≡ true → slice_get vs u ≡ Some e → bytes_eq e.name name ≡ false)
    → (u : ℕ) (e : VolumeEntry) → is_data_unit (p ∷ places) u ≡ true → slice_get vs u ≡ Some e → bytes_eq e.name name ≡ false
data_other name vs p places is later u e on there = by (p == u) refl
  where
    by : (b : Bool) → (p == u) ≡ b → bytes_eq e.name name ≡ false
    by true same =
        let entry : slice_get vs p ≡ Some e = subst (λ (i : ℕ). slice_get vs i ≡ Some e) (sym (eqb-true p u same)) there in
        ap (λ (n : List ℕ). bytes_eq n name) (sym (ap (λ (o : Option VolumeEntry). entry_name o) entry)) ∙ is
    by false same = later u e (either (p == u) (is_data_unit places u) on same) there

data_unnamed : (name : List ℕ) (vs : List VolumeEntry) (places : List ℕ) (others : List VolumeFacts) → find (seen_as name) (data_facts vs places (map as_volume (map (data_at vs) places)) ++ others) ≡ None → DataUnnamed name vs places others
data_unnamed name vs [] others none = record { rest = none; each = λ u e is there. absurd (let clash : false ≡ true = is in cc) }
data_unnamed name vs (p ∷ places) others none = by (bytes_eq (entry_name (slice_get vs p)) name) refl (data_unnamed name vs places others) none
  where
    by : (b : Bool) → bytes_eq (entry_name (slice_get vs p)) name ≡ b → (find (seen_as name) (data_facts vs places (map as_volume (map (data_at vs) places)) ++ others) ≡ None → DataUnnamed name vs places others)
        → cond b (Some (record (volume_fact (as_volume (data_at vs p))) { plexes = plexes_in (slice_get vs p) })) (find (seen_as name) (data_facts vs places (map as_volume (map (data_at vs) places)) ++ others)) ≡ None
        → DataUnnamed name vs (p ∷ places) others
    by true is later f = never_none (record (volume_fact (as_volume (data_at vs p))) { plexes = plexes_in (slice_get vs p) }) f
    by false is later f = let more : DataUnnamed name vs places others = later f in record { rest = more.rest; each = data_other name vs p places is more.each }

-- the data volumes of these, of which the first is in this place, have other names
others_unnamed : (name : List ℕ) (units : Units) (place : ℕ) (vs : List VolumeEntry) → ((i : ℕ) (e : VolumeEntry) → is_data_unit units.vols (place + i) ≡ true → slice_get vs i ≡ Some e → bytes_eq e.name name ≡ false)
    → find (seen_as name) (others_from units place vs) ≡ None → list_any (has_name name) vs ≡ false
others_unnamed name units place [] away none = refl
others_unnamed name units place (v ∷ vs) away none =
    by (is_data_unit units.vols place) refl (bytes_eq v.name name) refl
    (others_unnamed name units (place + 1) vs (λ i e on there. away (suc i) e (subst (λ (k : ℕ). is_data_unit units.vols k ≡ true) (omega arith) on) there)) none
  where
    by : (b : Bool) → is_data_unit units.vols place ≡ b → (c : Bool) → bytes_eq v.name name ≡ c → (find (seen_as name) (others_from units (place + 1) vs) ≡ None → list_any (has_name name) vs ≡ false)
        → find (seen_as name) (unless_data b (kinded units place v) (others_from units (place + 1) vs)) ≡ None → list_any (has_name name) (v ∷ vs) ≡ false
    by true on c named later found =
        ap (λ (b : Bool). b || list_any (has_name name) vs) (away 0 v (subst (λ (k : ℕ). is_data_unit units.vols k ≡ true) (omega arith) on) refl) ∙ later found
    by false off true named later found =
        never_none (kinded units place v) (sym (ap (λ (b : Bool). cond b (Some (kinded units place v)) (find (seen_as name) (others_from units (place + 1) vs))) named) ∙ found)
    by false off false named later found =
        ap (λ (b : Bool). b || list_any (has_name name) vs) named ∙ later (sym (ap (λ (b : Bool). cond b (Some (kinded units place v)) (find (seen_as name) (others_from units (place + 1) vs))) named) ∙ found)

-- ---- how many there are

-- one more, if this is so
abbrev more_if : Bool → ℕ → ℕ
more_if true n = suc n
more_if false n = n

-- of so many places, the first of which is this one, those of data volumes
abbrev marked : List ℕ → (place n : ℕ) → ℕ
marked ps place zero = 0
marked ps place (suc n) = more_if (is_data_unit ps place) (marked ps (place + 1) n)

abbrev equal_to : (p place n : ℕ) → ℕ
equal_to p place zero = 0
equal_to p place (suc n) = more_if (p == place) (equal_to p (place + 1) n)

none_behind : (p place n : ℕ) → p < place → equal_to p place n ≡ 0
none_behind p place zero past = refl
none_behind p place (suc n) past =
    let off : (p == place) ≡ false = grind (arith, nat_tests) in
    ap (λ (b : Bool). more_if b (equal_to p (place + 1) n)) off ∙ none_behind p (place + 1) n (omega (arith, past))

one_only : (p place n : ℕ) (b : Bool) → (p == place) ≡ b → equal_to p (place + 1) n ≤ 1 → more_if b (equal_to p (place + 1) n) ≤ 1
one_only p place n true is few =
    let rest : equal_to p (place + 1) n ≡ 0 = none_behind p (place + 1) n (omega (arith, eqb-true p place is)) in
    subst (λ (k : ℕ). suc k ≤ 1) (sym rest) (omega arith)
one_only p place n false is few = few

most_one : (p place n : ℕ) → equal_to p place n ≤ 1
most_one p place zero = let it : 0 ≤ 1 = omega arith in it
most_one p place (suc n) = one_only p place n (p == place) refl (most_one p (place + 1) n)

either_more : (a b : Bool) (x y z : ℕ) → x ≤ y + z → more_if (a || b) x ≤ more_if a y + more_if b z
either_more true true x y z le = let it : suc x ≤ suc y + suc z = omega (arith, le) in it
either_more true false x y z le = let it : suc x ≤ suc y + z = omega (arith, le) in it
either_more false true x y z le = let it : suc x ≤ y + suc z = omega (arith, le) in it
either_more false false x y z le = le

marked_more : (p : ℕ) (ps : List ℕ) (place n : ℕ) → marked (p ∷ ps) place n ≤ equal_to p place n + marked ps place n
marked_more p ps place zero = let it : 0 ≤ 0 + 0 = omega arith in it
marked_more p ps place (suc n) = either_more (p == place) (is_data_unit ps place) (marked (p ∷ ps) (place + 1) n) (equal_to p (place + 1) n) (marked ps (place + 1) n) (marked_more p ps (place + 1) n)

marked_none : (place n : ℕ) → marked [] place n ≡ 0
marked_none place zero = refl
marked_none place (suc n) = marked_none (place + 1) n

few_more : (k x y z : ℕ) → x ≤ y + z → y ≤ 1 → z ≤ k → x ≤ suc k
few_more k x y z more one few = omega (arith, more, one, few)

marked_few : (ps : List ℕ) (place n : ℕ) → marked ps place n ≤ length ps
marked_few [] place n = subst (λ (k : ℕ). k ≤ 0) (sym (marked_none place n)) (omega arith)
marked_few (p ∷ ps) place n = few_more (length ps) (marked (p ∷ ps) place n) (equal_to p place n) (marked ps place n) (marked_more p ps place n) (most_one p place n) (marked_few ps place n)

-- this one is among the others, or a data volume
data_more : (b : Bool) (f : VolumeFacts) (fs : List VolumeFacts) (k m : ℕ) → k ≤ length fs + m → suc k ≤ length (unless_data b f fs) + more_if b m
data_more true f fs k m le = let it : suc k ≤ length fs + suc m = omega (arith, le) in it
data_more false f fs k m le = let it : suc k ≤ suc (length fs) + m = omega (arith, le) in it

others_count : (units : Units) (place : ℕ) (vs : List VolumeEntry) → length vs ≤ length (others_from units place vs) + marked units.vols place (length vs)
others_count units place [] = let it : 0 ≤ 0 + 0 = omega arith in it
others_count units place (v ∷ vs) =
    data_more (is_data_unit units.vols place) (kinded units place v) (others_from units (place + 1) vs) (length vs) (marked units.vols (place + 1) (length vs)) (others_count units (place + 1) vs)

data_count : (vs : List VolumeEntry) (places : List ℕ) → length (data_facts vs places (map as_volume (map (data_at vs) places))) ≡ length places
data_count vs [] = refl
data_count vs (p ∷ places) = ap suc (data_count vs places)

-- ---- a site

-- whose data volumes are those of this configuration
pub table_split : (n : Node) (c : Config) (units : Units) → is_over_rvg n ≡ true → config_of (note_at n).config ≡ Some c → c.rvg ≡ Some units → n.volumes ≡ map as_volume (data_of c.volumes units)
    → table_at n ≡ data_facts c.volumes units.vols (map as_volume (map (data_at c.volumes) units.vols)) ++ others_from units 0 c.volumes
table_split n c units over noted rvg volumes =
    ap (λ (b : Bool). if b then over_table n (note_at n) else map volume_fact n.volumes) over
    ∙ ap (λ (o : Option Config). data_facts (volumes_of o) (data_units (config_rvg o)) n.volumes ++ others_of o) noted
    ∙ ap (λ (o : Option Units). data_facts c.volumes (data_units o) n.volumes ++ others_by o c.volumes) rvg
    ∙ ap (λ (vs : List Volume). data_facts c.volumes units.vols vs ++ others_from units 0 c.volumes) volumes

module _ (n : Node) (c : Config) (units : Units) (over : is_over_rvg n ≡ true) (noted : config_of (note_at n).config ≡ Some c) (rvg : c.rvg ≡ Some units) (volumes : n.volumes ≡ map as_volume (data_of c.volumes units)) where
  -- a name that the tests do not find is of no volume
  pub unnamed_shown : (name : List ℕ) → find (λ (v : VolumeFacts). bytes_eq v.name name) (table_at n) ≡ None → list_any (has_name name) c.volumes ≡ false
  unnamed_shown name none =
      let split : DataUnnamed name c.volumes units.vols (others_from units 0 c.volumes)
      = data_unnamed name c.volumes units.vols (others_from units 0 c.volumes) (ap (λ (fs : List VolumeFacts). find (seen_as name) fs) (sym (table_split n c units over noted rvg volumes)) ∙ none) in
      others_unnamed name units 0 c.volumes (λ i e on there. split.each i e (subst (λ (k : ℕ). is_data_unit units.vols k ≡ true) (omega arith) on) there) split.rest

  -- and no more volumes are there than they see
  pub count_shown : length c.volumes ≤ length (table_at n)
  count_shown =
      let mine : List VolumeFacts = data_facts c.volumes units.vols (map as_volume (map (data_at c.volumes) units.vols)) in
      let split : length (table_at n) ≡ length mine + length (others_from units 0 c.volumes)
      = ap (λ (fs : List VolumeFacts). length fs) (table_split n c units over noted rvg volumes) ∙ length-append mine (others_from units 0 c.volumes) in
      let few : marked units.vols 0 (length c.volumes) ≤ length units.vols = marked_few units.vols 0 (length c.volumes) in
      omega (arith, split, data_count c.volumes units.vols, few, others_count units 0 c.volumes)
