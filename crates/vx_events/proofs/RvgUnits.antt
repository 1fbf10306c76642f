-- The volumes that a line names which makes a replicated volume group, and that no test refuses: they can be one.
use Rattle.std.proofs.Common.{◌≡◌, ◌∙◌, ◌<◌, ℕ, zero, suc, Bool, true, false, List, [], ◌∷◌, Option, Some, None, ap, map, length, refl, sym, subst, arith}
use Rattle.std.proofs.lemmas.Bool.{eqb-true}
use Rattle.std.proofs.lemmas.Bool.Decides.{nat_tests}
use Rattle.std.proofs.lemmas.List.{length-map}
use Rattle.std.proofs.lemmas.List.Sums.{sum_by-cons}
use Rattle.std.proofs.lemmas.Option.{slice_get_within}
use Rattle.std.proofs.lemmas.Slice.Eq.{bytes_eq-Decides}
use Rattle.std.specs.List.{AllByRecursion, find, list_all, list_any, sum_by}
use Rattle.std.specs.Prelude.{◌+◌, ◌*◌, ◌&&◌, ◌||◌, ◌==◌, if◌then◌else◌, nat_le, nat_lt, not, slice_get, unwrap_or}
use Rattle.std.specs.Str.{bytes_eq}
use Rattle.vx_model.specs.Sites.{is_up}
use Rattle.vx_model.specs.Sizes.{map_blocks}
use Rattle.vx_model.specs.declared.limits.TheConstants.{LEAST_BLOCKS, LINK_PLACES, MOST_DATA_VOLUMES}
use Rattle.vx_model.specs.declared.units.Units.{Units}
use Rattle.vx_history.proofs.Updates.{and_left, and_right}
use Rattle.vx_history.specs.World.{Node, World}
use Rattle.vx_config.specs.Checks.{blocks_of, blocks_or_none, is_group, map_blocks_of, other_than, pairwise}
use Rattle.vx_config.specs.declared.entry.VolumeEntry.{VolumeEntry}
use Rattle.vx_order.specs.Calls.{call_unknown}
use Rattle.vx_order.specs.Replicating.{are_distinct, blocks_named, fits_group, group_unknown, maps_named, names_unknown, volume_blocks}
use Rattle.vx_order.specs.Sites.{volume_of}
use Rattle.vx_order.specs.Tests.{before}
use Rattle.vx_order.specs.declared.facts.SiteFacts.{SiteFacts}
use Rattle.vx_order.specs.declared.facts.VolumeFacts.{VolumeFacts}
use Rattle.vx_events.proofs.Places.{some_same}
use Rattle.vx_events.proofs.Refused.{FoundAt, found_at}
use Rattle.vx_events.proofs.RvgTests.{RvgMay, both_none, known_name}
use Rattle.vx_events.specs.GroupLines.{plain_number}
use Rattle.vx_events.specs.GroupNotes.{note_at}
use Rattle.vx_events.specs.GroupViews.{plain_fact}
use Rattle.vx_events.specs.RvgFits.{entries_noted}
use Rattle.vx_events.specs.RvgNotes.{units_named}
use Rattle.vx_events.specs.StepsOver.{fact_of_group}

both_true : (a b : Bool) → a ≡ true → b ≡ true → (a && b) ≡ true
both_true true b one two = two
both_true false b one two = absurd (let no_one : false ≡ true = one in cc)

none_left : (a b : Bool) → (a || b) ≡ false → a ≡ false
none_left true b e = absurd (let no_one : true ≡ false = e in cc)
none_left false b e = refl

none_right : (a b : Bool) → (a || b) ≡ false → b ≡ false
none_right true b e = absurd (let no_one : true ≡ false = e in cc)
none_right false b e = e

not_true : (b : Bool) → (b ≡ true → ⊥) → not b ≡ true
not_true true off = absurd (off refl)
not_true false off = refl

-- what is found passes the test
passes_by : {A : Type 0} (p : A → Bool) (y : A) (rest : Option A) (x : A) → (rest ≡ Some x → p x ≡ true) → (b : Bool) → p y ≡ b → (if b then Some y else rest) ≡ Some x → p x ≡ true
passes_by p y rest x later true is e = subst (λ z. p z ≡ true) (some_same e) is
passes_by p y rest x later false is e = later e

passes_test : {A : Type 0} (p : A → Bool) (xs : List A) (x : A) → find p xs ≡ Some x → p x ≡ true
passes_test p [] x e = absurd (cc)
passes_test p (y ∷ xs) x e = passes_by p y (find p xs) x (passes_test p xs x) (p y) refl e

entry_there : (xs : List VolumeEntry) (k : ℕ) (v : VolumeFacts) → slice_get (map plain_fact xs) k ≡ Some v → (e : VolumeEntry) × (slice_get xs k ≡ Some e) × (plain_fact e ≡ v)
entry_there [] k v at = absurd (cc)
entry_there (x ∷ xs) zero v at = (x, refl, some_same at)
entry_there (x ∷ xs) (suc k) v at = entry_there xs k v at

same_bytes : (a b : List ℕ) → bytes_eq a b ≡ true → a ≡ b
same_bytes a b e = (bytes_eq-Decides a b).0 e

equal_bytes : (a b : List ℕ) → a ≡ b → bytes_eq a b ≡ true
equal_bytes a b e = (bytes_eq-Decides a b).1 e

same_number : (a b : ℕ) → (a == b) ≡ true → a ≡ b
same_number a b e = eqb-true a b e

below_test : (a b : ℕ) → a < b → nat_lt a b ≡ true
below_test a b low = grind (arith, nat_tests)

-- ---- the volumes of a group that is up

module _ (n : Node) (up : is_up n.state ≡ true) where
  abbrev vs : List VolumeEntry
  vs = entries_noted (note_at n)

  abbrev here : SiteFacts
  here = fact_of_group n (note_at n)

  abbrev number : List ℕ → ℕ
  number name = plain_number (note_at n) name

  -- the volume of this name
  record Place (name : List ℕ) : Type 0 where
    entry : VolumeEntry
    at : slice_get (entries_noted (note_at n)) (plain_number (note_at n) name) ≡ Some entry
    named : entry.name ≡ name
    found : volume_of (Some (fact_of_group n (note_at n))) name ≡ Some (plain_fact entry)

  place_of : (name : List ℕ) → call_unknown (volume_of (Some here) name) name ≡ None → Place name
  place_of name e =
      let table : List VolumeFacts = map plain_fact vs in
      let known = known_name (volume_of (Some here) name) name e in
      let picked : find (λ (volume : VolumeFacts). bytes_eq volume.name name) table ≡ Some known.0 =
      sym (ap (λ (b : Bool). if b then find (λ (volume : VolumeFacts). bytes_eq volume.name name) table else None) up) ∙ known.1 in
      let spot : FoundAt (λ (volume : VolumeFacts). bytes_eq volume.name name) table known.0 = found_at (λ (volume : VolumeFacts). bytes_eq volume.name name) table known.0 picked in
      let is = entry_there vs spot.place known.0 spot.there in
      record {
        entry = is.0;
        at = ap (λ (o : Option ℕ). slice_get vs (unwrap_or o 0)) spot.is ∙ is.1;
        named = ap (λ (v : VolumeFacts). v.name) is.2 ∙ same_bytes known.0.name name (passes_test (λ (volume : VolumeFacts). bytes_eq volume.name name) table known.0 picked);
        found = known.1 ∙ ap (λ (v : VolumeFacts). Some v) (sym is.2);
      }

  places_of : (names : List (List ℕ)) → names_unknown (Some here) names ≡ None → AllByRecursion (λ name. Place name) names
  places_of [] e = tt
  places_of (name ∷ names) e =
      let both = both_none (call_unknown (volume_of (Some here) name) name) (names_unknown (Some here) names) e in (place_of name both.0, places_of names both.1)

  -- as many blocks as the tests see
  blocks_same : (name : List ℕ) → Place name → blocks_named (Some here) name ≡ blocks_of vs (number name)
  blocks_same name p = ap (λ (o : Option VolumeFacts). volume_blocks o) p.found ∙ sym (ap (λ (o : Option VolumeEntry). blocks_or_none o) p.at)

  sums_same : (names : List (List ℕ)) → AllByRecursion (λ name. Place name) names → sum_by (maps_named (Some here)) names ≡ sum_by (map_blocks_of vs) (map number names)
  sums_same [] all = refl
  sums_same (name ∷ names) all =
      sum_by-cons (maps_named (Some here)) name names ∙ ap (λ (k : ℕ). map_blocks k + sum_by (maps_named (Some here)) names) (blocks_same name all.0)
      ∙ ap (λ (k : ℕ). map_blocks_of vs (number name) + k) (sums_same names all.1) ∙ sym (sum_by-cons (map_blocks_of vs) (number name) (map number names))

  -- each is one of the group's
  within : (name : List ℕ) → Place name → nat_lt (number name) (length vs) ≡ true
  within name p = below_test (number name) (length vs) (slice_get_within vs (number name) p.entry p.at)

  all_within : (names : List (List ℕ)) → AllByRecursion (λ name. Place name) names → list_all (λ k. nat_lt k (length vs)) (map number names) ≡ true
  all_within [] all = refl
  all_within (name ∷ names) all = both_true (nat_lt (number name) (length vs)) (list_all (λ k. nat_lt k (length vs)) (map number names)) (within name all.0) (all_within names all.1)

  -- and no two are the same
  one_name : (a b : List ℕ) → Place a → Place b → number a ≡ number b → a ≡ b
  one_name a b p q same =
      sym p.named ∙ ap (λ (e : VolumeEntry). e.name) (some_same (sym p.at ∙ ap (λ (k : ℕ). slice_get vs k) same ∙ q.at)) ∙ q.named

  apart_from : (name : List ℕ) → Place name → (names : List (List ℕ)) → AllByRecursion (λ other. Place other) names → list_any (bytes_eq name) names ≡ false
      → list_all (other_than (number name)) (map number names) ≡ true
  apart_from name p [] all off = refl
  apart_from name p (other ∷ names) all off =
      both_true (other_than (number name) (number other)) (list_all (other_than (number name)) (map number names))
      (not_true (number name == number other)
      (λ same.
      let clash : false ≡ true = sym (none_left (bytes_eq name other) (list_any (bytes_eq name) names) off)
      ∙ equal_bytes name other (one_name name other p all.0 (same_number (number name) (number other) same)) in
      absurd (cc)))
      (apart_from name p names all.1 (none_right (bytes_eq name other) (list_any (bytes_eq name) names) off))

  not_is : (b : Bool) → not b ≡ true → b ≡ false
  not_is true e = absurd (let no_one : false ≡ true = e in cc)
  not_is false e = refl

  all_apart : (names : List (List ℕ)) → AllByRecursion (λ name. Place name) names → are_distinct names ≡ true → pairwise other_than (map number names) ≡ true
  all_apart [] all e = refl
  all_apart (name ∷ names) all e =
      both_true (list_all (other_than (number name)) (map number names)) (pairwise other_than (map number names))
      (apart_from name all.0 names all.1 (not_is (list_any (bytes_eq name) names) (and_left (not (list_any (bytes_eq name) names)) (are_distinct names) e)))
      (all_apart names all.1 (and_right (not (list_any (bytes_eq name) names)) (are_distinct names) e))

  -- ---- a replicated volume group of them

  pub can_be_one : (srl maps : List ℕ) (volumes : List (List ℕ)) → group_unknown (Some here) srl maps volumes ≡ None → fits_group (Some here) srl maps volumes ≡ true
      → is_group vs (units_named (note_at n) srl maps volumes) ≡ true
  can_be_one srl maps volumes known fits =
      let first = both_none (call_unknown (volume_of (Some here) srl) srl) (before (call_unknown (volume_of (Some here) maps) maps) (names_unknown (Some here) volumes)) known in
      let second = both_none (call_unknown (volume_of (Some here) maps) maps) (names_unknown (Some here) volumes) first.1 in
      let all : AllByRecursion (λ name. Place name) (srl ∷ maps ∷ volumes) = (place_of srl first.0, (place_of maps second.0, places_of volumes second.1)) in
      let u : Units = units_named (note_at n) srl maps volumes in
      let many : length u.vols ≡ length volumes = length-map volumes number in
      let some : Bool = nat_le 1 (length volumes) in
      let few : Bool = nat_le (length volumes) MOST_DATA_VOLUMES in
      let apart : Bool = are_distinct (srl ∷ maps ∷ volumes) in
      let large : Bool = nat_le LEAST_BLOCKS (blocks_named (Some here) srl) in
      let room : Bool = nat_le (LINK_PLACES * sum_by (maps_named (Some here)) volumes) (blocks_named (Some here) maps) in
      let four : (some && few && apart && large) ≡ true = and_left (some && few && apart && large) room fits in
      let three : (some && few && apart) ≡ true = and_left (some && few && apart) large four in
      let two : (some && few) ≡ true = and_left (some && few) apart three in
      let a : nat_le 1 (length u.vols) ≡ true = ap (λ (k : ℕ). nat_le 1 k) many ∙ and_left some few two in
      let b : nat_le (length u.vols) MOST_DATA_VOLUMES ≡ true = ap (λ (k : ℕ). nat_le k MOST_DATA_VOLUMES) many ∙ and_right some few two in
      let c : list_all (λ k. nat_lt k (length vs)) (u.srl ∷ (u.maps ∷ u.vols)) ≡ true = all_within (srl ∷ maps ∷ volumes) all in
      let d : pairwise other_than (u.srl ∷ (u.maps ∷ u.vols)) ≡ true = all_apart (srl ∷ maps ∷ volumes) all (and_right (some && few) apart three) in
      let e : nat_le LEAST_BLOCKS (blocks_of vs u.srl) ≡ true = ap (λ (k : ℕ). nat_le LEAST_BLOCKS k) (sym (blocks_same srl all.0)) ∙ and_right (some && few && apart) large four in
      let f : nat_le (LINK_PLACES * sum_by (map_blocks_of vs) u.vols) (blocks_of vs u.maps) ≡ true =
      ap (λ (k : ℕ). nat_le (LINK_PLACES * k) (blocks_of vs u.maps)) (sym (sums_same volumes all.1.1))
      ∙ ap (λ (k : ℕ). nat_le (LINK_PLACES * sum_by (maps_named (Some here)) volumes) k) (sym (blocks_same maps all.1.0)) ∙ and_right (some && few && apart && large) room fits in
      let ab = both_true (nat_le 1 (length u.vols)) (nat_le (length u.vols) MOST_DATA_VOLUMES) a b in
      let abc = both_true (nat_le 1 (length u.vols) && nat_le (length u.vols) MOST_DATA_VOLUMES) (list_all (λ k. nat_lt k (length vs)) (u.srl ∷ (u.maps ∷ u.vols))) ab c in
      let abcd = both_true (nat_le 1 (length u.vols) && nat_le (length u.vols) MOST_DATA_VOLUMES && list_all (λ k. nat_lt k (length vs)) (u.srl ∷ (u.maps ∷ u.vols))) (pairwise other_than (u.srl ∷ (u.maps ∷ u.vols))) abc d in
      let abcde = both_true
      (nat_le 1 (length u.vols) && nat_le (length u.vols) MOST_DATA_VOLUMES && list_all (λ k. nat_lt k (length vs)) (u.srl ∷ (u.maps ∷ u.vols)) && pairwise other_than (u.srl ∷ (u.maps ∷ u.vols)))
      (nat_le LEAST_BLOCKS (blocks_of vs u.srl)) abcd e in
      both_true
      (nat_le 1 (length u.vols) && nat_le (length u.vols) MOST_DATA_VOLUMES && list_all (λ k. nat_lt k (length vs)) (u.srl ∷ (u.maps ∷ u.vols)) && pairwise other_than (u.srl ∷ (u.maps ∷ u.vols))
      && nat_le LEAST_BLOCKS (blocks_of vs u.srl))
      (nat_le (LINK_PLACES * sum_by (map_blocks_of vs) u.vols) (blocks_of vs u.maps)) abcde f

-- the units of a line that no test refuses
pub units_fit : (w : World) (s : ℕ) (srl maps : List ℕ) (volumes : List (List ℕ)) → RvgMay w s srl maps volumes
    → is_group (entries_noted (note_at (w.nodes s))) (units_named (note_at (w.nodes s)) srl maps volumes) ≡ true
units_fit w s srl maps volumes may = can_be_one (w.nodes s) may.up srl maps volumes may.known may.fits
