-- Which plex an import goes by, as loops over the plexes find it.
use Rattle.std.proofs.Common.{◌≡◌, inl, inr, ℕ, zero, suc, ◌+◌, ◌<◌, ◌≤◌, ◌^◌, Bool, true, false, IsTrue, Option, Some, None, List, [], ◌∷◌, length, refl, ap, sym, ◌∙◌, subst, arith}
use Rattle.std.specs.Prelude.{◌||◌, if◌then◌else◌, slice_get}
use Rattle.std.specs.List.{list_any}
use Rattle.std.proofs.lemmas.Bool.{and_parts, cases_lt}
use Rattle.std.proofs.Math.ListN.{get_or, set}
use Rattle.std.proofs.lemmas.List.{get_or-set_other, get_or-set_same}
use Rattle.vx_config.specs.Checks.{blocks_of, is_live, is_sound}
use Rattle.vx_config.specs.declared.config.Config.{Config}
use Rattle.vx_config.specs.declared.entry.PlexEntry.{PlexEntry}
use Rattle.vx_config.specs.declared.entry.VolumeEntry.{VolumeEntry}
use Rattle.vx_layout.specs.Places.{plex_in}
use Rattle.vx_kept.specs.Choice.{chosen, first_where, live, live_or}
use Rattle.vx_kept.proofs.Narrower.{sound_chosen}
use Rattle.vx_group.specs.Resumes.{first_in, sits_in, source_of, source_or, takes_in}

-- ---- the first that passes

abbrev pub passes : (PlexEntry → Bool) → Option PlexEntry → Bool
passes test None = false
passes test (Some p) = test p

pub record NoneBelow (test : PlexEntry → Bool) (ps : List PlexEntry) (n : ℕ) : Type 0 where
  pub each : (j : ℕ) → j < n → passes test (slice_get ps j) ≡ false

pub none_start : (test : PlexEntry → Bool) (ps : List PlexEntry) → NoneBelow test ps 0
none_start test ps = record { each = λ j lt. absurd (omega (arith, lt)) }

pub none_step : (test : PlexEntry → Bool) (ps : List PlexEntry) (n : ℕ) (p : PlexEntry) → NoneBelow test ps n → slice_get ps n ≡ Some p → test p ≡ false → NoneBelow test ps (n + 1)
none_step test ps n p none at fails = record {
  each = λ j lt. elim (cases_lt j n) [
    | inl less ↦ none.each j less
    | inr le ↦ let same : j ≡ n = omega (arith, lt, le) in ap (λ (k : ℕ). passes test (slice_get ps k)) same ∙ ap (passes test) at ∙ fails
  ];
}

pub first_at : (test : PlexEntry → Bool) (ps : List PlexEntry) (n : ℕ) (p : PlexEntry) → NoneBelow test ps n → slice_get ps n ≡ Some p → test p ≡ true → first_where test ps ≡ n
first_at test [] n p none at is = absurd (let clash : None ≡ Some p = at in cc)
first_at test (q ∷ ps) zero p none at is = let same : q ≡ p = cc in ap (λ (b : Bool). if b then 0 else suc (first_where test ps)) (ap test same ∙ is)
first_at test (q ∷ ps) (suc n) p none at is =
    let off : test q ≡ false = none.each 0 (omega arith) in
    ap (λ (b : Bool). if b then 0 else suc (first_where test ps)) off ∙ ap suc (first_at test ps n p (record { each = λ j lt. none.each (suc j) (omega (arith, lt)) }) at is)

pub first_none : (test : PlexEntry → Bool) (ps : List PlexEntry) (n : ℕ) → length ps ≤ n → NoneBelow test ps n → first_where test ps ≡ length ps
first_none test [] n le none = refl
first_none test (q ∷ ps) zero le none = absurd (omega (arith, le))
first_none test (q ∷ ps) (suc n) le none =
    let off : test q ≡ false = none.each 0 (omega arith) in
    ap (λ (b : Bool). if b then 0 else suc (first_where test ps)) off ∙ ap suc (first_none test ps n (omega (arith, le)) (record { each = λ j lt. none.each (suc j) (omega (arith, lt)) }))

-- there is one exactly where the first is within the list
within_any : (test : PlexEntry → Bool) (ps : List PlexEntry) → first_where test ps < length ps → list_any test ps ≡ true
within_any test [] lt = absurd (omega (arith, lt))
within_any test (q ∷ ps) lt = by (test q) refl lt (λ less. within_any test ps less)
  where
    by : (b : Bool) → test q ≡ b → (if b then 0 else suc (first_where test ps)) < suc (length ps) → (first_where test ps < length ps → list_any test ps ≡ true) → b || list_any test ps ≡ true
    by true at less rest = refl
    by false at less rest = rest (omega (arith, less))

past_none : (test : PlexEntry → Bool) (ps : List PlexEntry) → length ps ≤ first_where test ps → list_any test ps ≡ false
past_none test [] le = refl
past_none test (q ∷ ps) le = by (test q) le (λ more. past_none test ps more)
  where
    by : (b : Bool) → suc (length ps) ≤ (if b then 0 else suc (first_where test ps)) → (length ps ≤ first_where test ps → list_any test ps ≡ false) → b || list_any test ps ≡ false
    by true less rest = absurd (omega (arith, less))
    by false less rest = rest (omega (arith, less))

pub first_inside_is : (good : ℕ) (ps : List PlexEntry) (n : ℕ) → n ≡ first_where (takes_in good) ps → n < length ps → n ≡ first_in good ps
first_inside_is good ps n is lt =
    let some : list_any (takes_in good) ps ≡ true = within_any (takes_in good) ps (omega (arith, is, lt)) in
    is ∙ sym (ap (λ (b : Bool). if b then first_where (takes_in good) ps else first_where is_live ps) some)

pub first_live_is : (good : ℕ) (ps : List PlexEntry) (n k : ℕ) → n ≡ first_where (takes_in good) ps → (n < length ps → ⊥) → k ≡ first_where is_live ps → k ≡ first_in good ps
first_live_is good ps n k is past at =
    let none : list_any (takes_in good) ps ≡ false = past_none (takes_in good) ps (elim (cases_lt n (length ps)) [ inl lt ↦ absurd (past lt) | inr le ↦ omega (arith, is, le) ]) in
    at ∙ sym (ap (λ (b : Bool). if b then first_where (takes_in good) ps else first_where is_live ps) none)

-- ---- it takes part

first_passes : (test : PlexEntry → Bool) (ps : List PlexEntry) → list_any test ps ≡ true → (p : PlexEntry) × (slice_get ps (first_where test ps) ≡ Some p) × (test p ≡ true)
first_passes test [] is = absurd cc
first_passes test (p ∷ ps) is = by (test p) refl is (λ some. first_passes test ps some)
  where
    by : (b : Bool) → test p ≡ b → b || list_any test ps ≡ true → (list_any test ps ≡ true → (q : PlexEntry) × (slice_get ps (first_where test ps) ≡ Some q) × (test q ≡ true))
        → (q : PlexEntry) × (slice_get (p ∷ ps) (if b then 0 else suc (first_where test ps)) ≡ Some q) × (test q ≡ true)
    by true passes some rest = (p, refl, passes)
    by false fails some rest = rest some

first_in_live : (good : ℕ) (ps : List PlexEntry) → list_any is_live ps ≡ true → live_or (slice_get ps (first_in good ps)) ≡ true
first_in_live good ps some = by (list_any (takes_in good) ps) refl
  where
    by : (b : Bool) → list_any (takes_in good) ps ≡ b → live_or (slice_get ps (if b then first_where (takes_in good) ps else first_where is_live ps)) ≡ true
    by true is = let it = first_passes (takes_in good) ps is in ap live_or it.1 ∙ (and_parts (is_live it.0) (sits_in good it.0) it.2).0
    by false is = let it = first_passes is_live ps some in ap live_or it.1 ∙ it.2

any_live : (ps : List PlexEntry) (k : ℕ) → live_or (slice_get ps k) ≡ true → list_any is_live ps ≡ true
any_live [] k is = absurd (let clash : false ≡ true = is in cc)
any_live (q ∷ ps) zero is = ap (λ (b : Bool). b || list_any is_live ps) is
any_live (q ∷ ps) (suc k) is = by (is_live q) (any_live ps k is)
  where
    by : (b : Bool) → list_any is_live ps ≡ true → b || list_any is_live ps ≡ true
    by true rest = refl
    by false rest = rest

pub source_live : (c : Config) (good v : ℕ) → is_sound c ≡ true → v < length c.volumes → IsTrue (live c v (source_of good c v))
unfolding live source_of
source_live c good v sound lt = by (slice_get c.volumes v) (chosen c v) (sound_chosen c sound v lt)
  where
    by : (o : Option VolumeEntry) (k : ℕ) → live_or (plex_in o k) ≡ true → live_or (plex_in o (source_or good o)) ≡ true
    by None k is = absurd (let clash : false ≡ true = is in cc)
    by (Some x) k is = first_in_live good x.plexes (any_live x.plexes k is)

-- ---- one place of an array more

pub set_more : {A : Type 0} (xs ys : List A) (n : ℕ) (y d : A) (f : ℕ → A) → n < length xs → ys ≡ set xs n y → y ≡ f n → ((v : ℕ) → v < n → get_or xs v d ≡ f v) → (v : ℕ) → v < n + 1 → get_or ys v d ≡ f v
set_more {A} xs ys n y d f lt is at below v less = elim (cases_lt v n) [
  | inl before ↦ ap (λ (l : List A). get_or l v d) is ∙ get_or-set_other xs n v y d (λ same. omega (arith, same, before)) ∙ below v before
  | inr le ↦
      let same : v ≡ n = omega (arith, less, le) in
      ap (λ (k : ℕ). get_or ys k d) same ∙ ap (λ (l : List A). get_or l n d) is ∙ get_or-set_same xs n y d lt ∙ at ∙ ap f (sym same)
]

pub at_get : (ps : List PlexEntry) (n : ℕ) (d : PlexEntry) → n < length ps → slice_get ps n ≡ Some (get_or ps n d)
at_get [] n d lt = absurd (omega (arith, lt))
at_get (p ∷ ps) zero d lt = refl
at_get (p ∷ ps) (suc n) d lt = at_get ps n d (omega (arith, lt))

-- ---- blocks of volumes

past_blocks : (vs : List VolumeEntry) (v : ℕ) → length vs ≤ v → blocks_of vs v ≡ 0
past_blocks [] v le = refl
past_blocks (x ∷ vs) zero le = absurd (omega (arith, le))
past_blocks (x ∷ vs) (suc v) le = past_blocks vs v (omega (arith, le))

pub blocks_more : (vs : List VolumeEntry) (n b : ℕ) → b ≡ blocks_of vs n → b < 2 ^ 64 → ((v : ℕ) → v < n → blocks_of vs v < 2 ^ 64) → (v : ℕ) → v < n + 1 → blocks_of vs v < 2 ^ 64
blocks_more vs n b is small below v lt = elim (cases_lt v n) [
  | inl less ↦ below v less
  | inr le ↦ let same : v ≡ n = omega (arith, lt, le) in subst (λ (k : ℕ). blocks_of vs k < 2 ^ 64) (sym same) (omega (arith, is, small))
]

pub blocks_all : (vs : List VolumeEntry) (n : ℕ) → length vs ≤ n → ((v : ℕ) → v < n → blocks_of vs v < 2 ^ 64) → (v : ℕ) → blocks_of vs v < 2 ^ 64
blocks_all vs n le below v = elim (cases_lt v n) [
  | inl less ↦ below v less
  | inr past ↦ let none = past_blocks vs v (omega (arith, le, past)) in omega (arith, none)
]

first_few : (test : PlexEntry → Bool) (ps : List PlexEntry) → first_where test ps ≤ length ps
first_few test [] = omega arith
first_few test (q ∷ ps) = by (test q) (first_few test ps)
  where
    by : (b : Bool) → first_where test ps ≤ length ps → (if b then 0 else suc (first_where test ps)) ≤ suc (length ps)
    by true le = omega arith
    by false le = omega (arith, le)

pub in_few : (good : ℕ) (ps : List PlexEntry) → first_in good ps ≤ length ps
in_few good ps = by (list_any (takes_in good) ps)
  where
    by : (b : Bool) → (if b then first_where (takes_in good) ps else first_where is_live ps) ≤ length ps
    by true = first_few (takes_in good) ps
    by false = first_few is_live ps
