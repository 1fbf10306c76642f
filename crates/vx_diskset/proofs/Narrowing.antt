-- The note behind data volumes that were written as they read, of each of their blocks one value; and what a replicated volume group of them holds.
use Rattle.std.proofs.Common.{◌≡◌, ◌∙◌, inl, inr, ℕ, zero, suc, ◌<◌, ◌≤◌, Bool, true, false, List, [], ◌∷◌, length, IsTrue, ap, arith, refl, subst, sym}
use Rattle.std.specs.Prelude.{◌||◌, ◌==◌, if◌then◌else◌, Contains, None, Some, map, slice_get}
use Rattle.std.specs.List.{list_any}
use Rattle.std.proofs.lemmas.Bool.{eqb-true}
use Rattle.vx_config.specs.Checks.{blocks_of}
use Rattle.vx_config.specs.declared.entry.VolumeEntry.{VolumeEntry}
use Rattle.vx_disk.specs.Shelf.{Lawful, Meaning}
use Rattle.vx_events.specs.RvgFits.{data_at}
use Rattle.vx_events.specs.RvgNotes.{inside_of}
use Rattle.vx_history.specs.Fits.{blocks_of_volume}
use Rattle.vx_history.specs.Groups.{BlockMay, GroupNode, MissedNote}
use Rattle.vx_history.specs.Volumes.{as_volume, data_block}
use Rattle.vx_history.specs.World.{Volume}
use Rattle.vx_model.specs.declared.units.Units.{Units}
use Rattle.vx_rvg.specs.Views.{UnitsPlaced, unit_of}
use Rattle.vx_diskset.specs.Makings.{NarrowsNote}
use Rattle.vx_diskset.proofs.InsideUnits.{any_of}
use Rattle.vx_diskset.proofs.Rewriting.{place_among}

-- ---- whether a volume is one of these

abbrev pub is_named : List ℕ → ℕ → Bool
is_named xs v = list_any (λ x. x == v) xs

named_one : (x v : ℕ) (xs : List ℕ) (t : Bool) → (x == v) ≡ t → (t || is_named xs v) ≡ true → (is_named xs v ≡ true → Contains xs v) → Contains (x ∷ xs) v
named_one x v xs true here is more = (0, omega arith, eqb-true x v here)
named_one x v xs false off is more = let there = more is in (suc there.0, omega (arith, there.1), there.2)

pub named_in : (xs : List ℕ) (v : ℕ) → is_named xs v ≡ true → Contains xs v
named_in [] v is = absurd (let clash : false ≡ true = is in cc)
named_in (x ∷ xs) v is = named_one x v xs (x == v) refl is (named_in xs v)

pub in_named : (xs : List ℕ) (v : ℕ) → Contains xs v → is_named xs v ≡ true
in_named xs v among = any_of v xs among.0 among.1 (place_among xs v among)

not_named : (xs : List ℕ) (v : ℕ) (t : Bool) → is_named xs v ≡ t → (Contains xs v → ⊥) → is_named xs v ≡ false
not_named xs v false is none = is
not_named xs v true is none = absurd (none (named_in xs v is))

-- each volume of a replicated volume group is there
named_there : (u : Units) (m : Meaning) → UnitsPlaced u m → (k : ℕ) (s t : Bool) → (k == u.srl) ≡ s → (k == u.maps) ≡ t → (s || (t || is_named u.vols k)) ≡ true → k < m.units
named_there u m placed k true t log maps is = let same = eqb-true k u.srl log in let low = placed.log_exists in omega (arith, same, low)
named_there u m placed k false true log maps is = let same = eqb-true k u.maps maps in let low = placed.maps_exist in omega (arith, same, low)
named_there u m placed k false false log maps is =
    let among = named_in u.vols k is in
    let low = placed.exist among.0 among.1 in
    let same = place_among u.vols k among in
    omega (arith, low, same)

pub inside_there : (u : Units) (m : Meaning) → UnitsPlaced u m → (k : ℕ) → inside_of u k ≡ true → k < m.units
inside_there u m placed k is = named_there u m placed k (k == u.srl) (k == u.maps) refl refl is

-- ---- a value of a block: one that is told, or else the one that is noted

abbrev pub value_or : (m : Meaning) → Lawful m → (t : Bool) → m.tells ≡ t → List ℕ → ℕ → ℕ → List ℕ
value_or m law true is noted v b = (law.some is v b).0
value_or m law false is noted v b = noted

chosen_left : (m : Meaning) (law : Lawful m) (t : Bool) (is : m.tells ≡ t) (noted : List ℕ) (v b : ℕ) → t ≡ true → m.leaves v b (value_or m law t is noted v b)
chosen_left m law true is noted v b told = law.shown v b (law.some is v b).0 (law.some is v b).1
chosen_left m law false is noted v b told = absurd (let clash : false ≡ true = told in cc)

-- it is one that a crash may leave, or it is noted
chosen_may : (m : Meaning) (law : Lawful m) (note : GroupNode) (t : Bool) (is : m.tells ≡ t) (v b : ℕ) → ((y : List ℕ) → m.leaves v b y → BlockMay note v b y) → BlockMay note v b (value_or m law t is (note.bytes.block v b) v b)
chosen_may m law note true is v b has = has (law.some is v b).0 (law.shown v b (law.some is v b).0 (law.some is v b).1)
chosen_may m law note false is v b has = inr (inl refl)

module _ (m : Meaning) (law : Lawful m) (u : Units) (w : MissedNote) (note : GroupNode) where
  abbrev pub block_chosen : ℕ → ℕ → List ℕ
  block_chosen v b = value_or m law m.tells refl (note.bytes.block v b) v b

  abbrev pub note_narrowed : GroupNode
  note_narrowed = record note {
    bytes = record { size = note.bytes.size; block = λ v b. if is_named u.vols v then block_chosen v b else note.bytes.block v b };
    others = λ v b. if is_named u.vols v then [] else note.others v b;
    maps = w;
  }

  block_named : (v b : ℕ) → is_named u.vols v ≡ true → note_narrowed.bytes.block v b ≡ block_chosen v b
  block_named v b is = ap (λ (t : Bool). if t then block_chosen v b else note.bytes.block v b) is

  others_named : (v b : ℕ) → is_named u.vols v ≡ true → note_narrowed.others v b ≡ []
  others_named v b is = ap (λ (t : Bool). if t then [] else note.others v b) is

  pub one_value : (v b : ℕ) → Contains u.vols v → note_narrowed.others v b ≡ []
  one_value v b among = others_named v b (in_named u.vols v among)

  none_among : (x : List ℕ) (os : List (List ℕ)) → os ≡ [] → Contains os x → ⊥
  none_among x os none has = let low = has.1 in let empty = ap (λ (l : List (List ℕ)). length l) none in omega (arith, low, empty)

  narrowed_may : (v b : ℕ) (x : List ℕ) → is_named u.vols v ≡ true → ((y : List ℕ) → m.leaves v b y → BlockMay note v b y) → BlockMay note_narrowed v b x → BlockMay note v b x
  narrowed_may v b x named has (inl inside) = inl inside
  narrowed_may v b x named has (inr (inl is)) = subst (λ (y : List ℕ). BlockMay note v b y) (sym (is ∙ block_named v b named)) (chosen_may m law note m.tells refl v b has)
  narrowed_may v b x named has (inr (inr among)) = absurd (none_among x (note_narrowed.others v b) (others_named v b named) among)

  pub narrows : (told : Type 0) → ((v b : ℕ) (y : List ℕ) → Contains u.vols v → b < note.bytes.size v → m.leaves v b y → BlockMay note v b y) → NarrowsNote told u note note_narrowed
  narrows told has = record {
    size = λ v. refl;
    may = λ known v b x among low it. narrowed_may v b x (in_named u.vols v among) (λ y left. has v b y among low left) it;
    others = λ v b off.
        let is : is_named u.vols v ≡ false = not_named u.vols v (is_named u.vols v) refl off in
        (ap (λ (t : Bool). if t then block_chosen v b else note.bytes.block v b) is, ap (λ (t : Bool). if t then [] else note.others v b) is);
    same = refl;
  }

  -- where contents are told it is what a crash may leave
  pub narrowed_left : IsTrue m.tells → (v b : ℕ) → Contains u.vols v → m.leaves v b (note_narrowed.bytes.block v b)
  narrowed_left told v b among = subst (λ (y : List ℕ). m.leaves v b y) (sym (block_named v b (in_named u.vols v among))) (chosen_left m law m.tells refl (note.bytes.block v b) v b told)

-- ---- data volumes, by their places among the volumes of a group

abbrev pub volumes_at : List VolumeEntry → List ℕ → List Volume
volumes_at vs us = map as_volume (map (data_at vs) us)

pub volumes_many : (vs : List VolumeEntry) (us : List ℕ) → length (volumes_at vs us) ≡ length us
volumes_many vs [] = refl
volumes_many vs (u ∷ us) = ap (λ (k : ℕ). suc k) (volumes_many vs us)

pub volumes_size : (vs : List VolumeEntry) (us : List ℕ) (v : ℕ) → v < length us → blocks_of_volume (volumes_at vs us) v ≡ blocks_of vs (unit_of us v)
volumes_size vs [] v low = absurd (omega (arith, low))
volumes_size vs (u ∷ us) zero low = refl
volumes_size vs (u ∷ us) (suc v) low = volumes_size vs us v (omega (arith, low))

pub volumes_past : (vs : List VolumeEntry) (us : List ℕ) (v : ℕ) → length us ≤ v → blocks_of_volume (volumes_at vs us) v ≡ 0
volumes_past vs [] v high = refl
volumes_past vs (u ∷ us) zero high = absurd (omega (arith, high))
volumes_past vs (u ∷ us) (suc v) high = volumes_past vs us v (omega (arith, high))

pub volumes_named : (vs : List VolumeEntry) (us : List ℕ) (v : ℕ) (x : Volume) → slice_get (volumes_at vs us) v ≡ Some x → blocks_of_volume (volumes_at vs us) v ≡ x.blocks
volumes_named vs [] v x is = absurd (let clash : None ≡ Some x = is in cc)
volumes_named vs (u ∷ us) zero x is = let same : as_volume (data_at vs u) ≡ x = cc in ap (λ (y : Volume). y.blocks) same
volumes_named vs (u ∷ us) (suc v) x is = volumes_named vs us v x is

pub data_here : (vs : List VolumeEntry) (note : GroupNode) (us : List ℕ) (v b : ℕ) → v < length us → data_block (Some note) (map (data_at vs) us) v b ≡ note.bytes.block (unit_of us v) b
data_here vs note [] v b low = absurd (omega (arith, low))
data_here vs note (u ∷ us) zero b low = refl
data_here vs note (u ∷ us) (suc v) b low = data_here vs note us v b (omega (arith, low))
