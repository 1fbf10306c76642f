-- Which configurations images have behind calls, by the note.
use Rattle.std.proofs.Common.{◌≡◌, ◌⊎◌, inl, inr, ℕ, zero, suc, ◌&&◌, ◌||◌, Bool, true, false, Option, Some, None, List, [], ◌∷◌, ◌++◌, refl, sym, ◌∙◌, ap, subst, arith}
use Rattle.std.specs.Prelude.{Contains, if◌then◌else◌, not}
use Rattle.vx_disk.specs.Shelf.{Meaning}
use Rattle.vx_history.specs.Groups.{GroupNode}
use Rattle.vx_config.specs.declared.config.Config.{Config}
use Rattle.vx_kept.specs.Cleans.{at_serial}
use Rattle.vx_kept.specs.Finds.{AllAtOnce, FindsFrom, IsTryAmong, LeavesConfig, NoConfiguration}
use Rattle.vx_kept.specs.Groups.{found}
use Rattle.vx_kept.proofs.Findings.{less_newest}
use Rattle.vx_kept.proofs.Low.{found_same}
use Rattle.vx_group.specs.Finds.{CoreFinds}
use Rattle.vx_group.specs.Holding.{config_by, wide}
use Rattle.vx_group.specs.declared.group_core.GroupCore.{GroupCore}
use Rattle.vx_group.specs.declared.group_core.Held.{Held}
use Rattle.vx_group.specs.declared.inner.Inner.{Inner}
use Rattle.vx_group.proofs.FindingLemmas.{newest_goes}
use Rattle.vx_group.proofs.HoldLemmas.{wide_none}
use Rattle.vx_grouped.specs.GroupNotes.{ImagesAre, IsTight, NotesFound, holds_none, is_sure, loose_by, note_called, noted_config, noted_try}

-- ---- lists of configurations that were begun

abbrev pub tries : List Config → List (List ℕ)
tries [] = []
tries (x ∷ xs) = noted_try x ∷ tries xs

contains_first : {A : Type 0} (x : A) (xs : List A) → Contains (x ∷ xs) x
contains_first x xs = (0, omega arith, refl)

pub contains_next : {A : Type 0} (x y : A) (xs : List A) → Contains xs x → Contains (y ∷ xs) x
contains_next x y xs has = (suc has.0, omega (arith, has.1), has.2)

contains_left : {A : Type 0} (x : A) (xs ys : List A) → Contains xs x → Contains (xs ++ ys) x
contains_left x [] ys has = absurd (omega (arith, has.1))
contains_left x (z ∷ xs) ys (zero, low, at) = (0, omega arith, at)
contains_left x (z ∷ xs) ys (suc k, low, at) = contains_next x z (xs ++ ys) (contains_left x xs ys (k, omega (arith, low), at))

contains_right : {A : Type 0} (x : A) (xs ys : List A) → Contains ys x → Contains (xs ++ ys) x
contains_right x [] ys has = has
contains_right x (z ∷ xs) ys has = contains_next x z (xs ++ ys) (contains_right x xs ys has)

contains_try : (es : List Config) (x : Config) → IsTryAmong es x → Contains (tries es) (noted_try x)
contains_try [] x none = absurd none
contains_try (e ∷ es) x (inl here) = subst (λ w. Contains (noted_try e ∷ tries es) w) (ap noted_config (sym here)) (contains_first (noted_try e) (tries es))
contains_try (e ∷ es) x (inr later) = contains_next (noted_try x) (noted_try e) (tries es) (contains_try es x later)

-- ---- flags: `kept` is committed, `agr` agreed, `o` what is held back

pub sure_kept : (kept : Bool) (o : Option Held) → (kept && holds_none o) ≡ true → kept ≡ true
sure_kept true o is = refl
sure_kept false o is = let clash : false ≡ true = is in cc

pub sure_free : (kept : Bool) (o : Option Held) → (kept && holds_none o) ≡ true → o ≡ None
sure_free kept None is = refl
sure_free true (Some h) is = let clash : false ≡ true = is in cc
sure_free false (Some h) is = let clash : false ≡ true = is in cc

pub sure_by : (kept : Bool) (o : Option Held) → kept ≡ true → o ≡ None → (kept && holds_none o) ≡ true
sure_by true None is none = refl
sure_by false o is none = let clash : false ≡ true = is in cc
sure_by true (Some h) is none = let clash : Some h ≡ None = none in cc

-- a note behind a call says that nothing is begun only where the newest configuration is the one in memory
none_begun : (sure : Bool) (next : List ℕ) (more begun : List (List ℕ)) → (if sure then [] else (next ∷ more) ++ begun) ≡ [] → sure ≡ true
none_begun true next more begun none = refl
none_begun false next more begun none = cc

still_tight : (agr l : Bool) → (l || not agr) ≡ false → l ≡ false
still_tight agr true is = let clash : true ≡ false = is in cc
still_tight agr false is = refl

pub called_sure : (next : List ℕ) (more : List (List ℕ)) (d : GroupCore) (note note' : GroupNode) → note'.begun ≡ (note_called (next ∷ more) d note).begun → note'.begun ≡ [] → is_sure d ≡ true
called_sure next more d note note' begun none = none_begun (is_sure d) next more note.begun (sym begun ∙ none)

-- ---- notes of images

-- another note with the same configurations
pub noted_as : (note next : GroupNode) (c : Config) (m : Meaning) → next.begun ≡ note.begun → next.loose ≡ note.loose → NotesFound note c m → NotesFound next c m
noted_as note next c m begun loose it = record {
  each = λ tight i x each is. elim (it.each (sym loose ∙ tight) i x each is) [
    | inl same ↦ inl same
    | inr has ↦ inr (subst (λ (l : List (List ℕ)). Contains l (noted_try x)) (sym begun) has)
  ];
}

-- the same of what else is known of images
pub images_as : (note next : GroupNode) (c : GroupCore) (m : Meaning) → next.begun ≡ note.begun → next.loose ≡ note.loose → ImagesAre note c m → ImagesAre next c m
images_as note next c m begun loose it = record {
  noted = noted_as note next c.inner.config m begun loose it.noted;
  newest = it.newest;
  openly = it.openly;
  free = λ tight none. it.free (sym loose ∙ tight) (sym begun ∙ none);
}

-- fewer images
pub less_noted : (note : GroupNode) (c : Config) (m m' : Meaning) → FindsFrom NoConfiguration m m' → NotesFound note c m → NotesFound note c m'
less_noted note c m m' finds it = record {
  each = λ tight i x each is. elim (finds.each i x each is) [
    | inl left ↦ it.each tight left.image x left.left left.found
    | inr none ↦ absurd none
  ];
}

pub images_less : (note : GroupNode) (c d : GroupCore) (m m' : Meaning) → d ≡ c → FindsFrom NoConfiguration m m' → ImagesAre note c m → ImagesAre note d m'
images_less note c d m m' core finds it = subst (λ (x : GroupCore). ImagesAre note x m') (sym core) (record {
  noted = less_noted note c.inner.config m m' finds it.noted;
  newest = λ is. less_newest (wide c).config m m' (it.newest is) finds;
  openly = it.openly;
  free = it.free;
})

-- the same memory but for counts
pub images_still : (note : GroupNode) (c d : GroupCore) (m m' : Meaning) → d.inner.config ≡ c.inner.config → d.held ≡ c.held → d.inner.committed ≡ c.inner.committed → d.inner.unsettled ≡ c.inner.unsettled → FindsFrom NoConfiguration m m'
    → ImagesAre note c m → ImagesAre note d m'
images_still note c d m m' config held committed unsettled finds it = record {
  noted = subst (λ (y : Config). NotesFound note y m') (sym config) (less_noted note c.inner.config m m' finds it.noted);
  newest = λ is.
      let same : (wide d).config ≡ (wide c).config = ap (λ (x : Config). config_by d.held x) config ∙ ap (λ (o : Option Held). config_by o c.inner.config) held in
      subst (λ (y : Config). AllAtOnce y m') (sym same) (less_newest (wide c).config m m' (it.newest (sym committed ∙ is)) finds);
  openly = λ is. committed ∙ it.openly (sym unsettled ∙ is);
  free = λ tight none. held ∙ it.free tight none;
}

-- disks of which fewer blocks may be left
pub less_from : (m m' : Meaning) → m'.units ≡ m.units → ((u : ℕ) → m'.size u ≡ m.size u) → ((u b : ℕ) (v : List ℕ) → m'.leaves u b v → m.leaves u b v) → FindsFrom NoConfiguration m m'
less_from m m' units size leaves = record {
  each = λ i x each is. inl (record { image = i; left = λ u b. leaves u b (i u b) (each u b); found = sym (found_same m m' units size (λ u. true) i) ∙ is });
}

-- disks that leave nothing
pub none_noted : (note : GroupNode) (c : Config) (m : Meaning) → ((u b : ℕ) (v : List ℕ) → m.leaves u b v → ⊥) → NotesFound note c m
none_noted note c m none = record { each = λ tight i x each is. absurd (none 0 0 (i 0 0) (each 0 0)) }

-- what may have been begun in a call: the configuration of before, and those of the call
abbrev pub nexts_of : (c d : GroupCore) (m m' : Meaning) → CoreFinds (wide c) (wide d) m m' → List (List ℕ)
nexts_of c d m m' finds = noted_try c.inner.config ∷ tries finds.begun

module _ (note : GroupNode) (c d : GroupCore) (m m' : Meaning) (was : ImagesAre note c m) (finds : CoreFinds (wide c) (wide d) m m') where
  newest : d.inner.committed ≡ true → AllAtOnce (wide d).config m'
  newest = newest_goes c d m m' was.openly was.newest finds

  -- each image has a configuration that one had, or one that may have been begun
  begun_by : (x : Config) → note.loose ≡ false → LeavesConfig m x ⊎ IsTryAmong finds.begun x → Contains (nexts_of c d m m' finds ++ note.begun) (noted_try x)
  begun_by x tight (inl left) = elim (was.noted.each tight left.image x left.left left.found) [
    | inl same ↦ subst (λ (w : List ℕ). Contains (nexts_of c d m m' finds ++ note.begun) w) (ap (λ (y : Config). noted_try y) (sym same)) (contains_first (noted_try c.inner.config) (tries finds.begun ++ note.begun))
    | inr has ↦ contains_right (noted_try x) (nexts_of c d m m' finds) note.begun has
  ]
  begun_by x tight (inr new) = contains_left (noted_try x) (nexts_of c d m m' finds) note.begun (contains_next (noted_try x) (noted_try c.inner.config) (tries finds.begun) (contains_try finds.begun x new))

  noted_by : (sure : Bool) → sure ≡ is_sure d → (next : GroupNode) → next.begun ≡ (if sure then [] else nexts_of c d m m' finds ++ note.begun) → next.loose ≡ (if sure then false else (note.loose || not d.inner.agreed)) → NotesFound next d.inner.config m'
  noted_by true is next begun loose = record {
    each = λ tight i x each found. inl (
        let config : (wide d).config ≡ d.inner.config = ap (λ (e : Inner). e.config) (wide_none d (sure_free d.inner.committed d.held (sym is))) in
        subst (λ (y : Config). at_serial 0 x ≡ at_serial 0 y) config ((newest (sure_kept d.inner.committed d.held (sym is))).each i x each found));
  }
  noted_by false is next begun loose = record {
    each = λ tight i x each found. inr (subst (λ (l : List (List ℕ)). Contains l (noted_try x)) (sym begun)
        (begun_by x (still_tight d.inner.agreed note.loose (sym loose ∙ tight)) (finds.finds.each i x each found)));
  }

  -- behind a call
  pub images_called : (next : GroupNode) → next.begun ≡ (note_called (nexts_of c d m m' finds) d note).begun → next.loose ≡ loose_by d note.loose → ImagesAre next d m'
  images_called next begun loose = record {
    noted = noted_by (is_sure d) refl next begun loose;
    newest = newest;
    openly = finds.openly was.openly;
    free = λ tight none. sure_free d.inner.committed d.held (called_sure (noted_try c.inner.config) (tries finds.begun) d note next begun none);
  }

  -- where nothing was begun, nothing is
  pub called_tight : (note.loose ≡ false → note.begun ≡ [] → c.inner.committed ≡ true) → (c.inner.committed ≡ true → d.inner.committed ≡ true) → (c.held ≡ None → d.held ≡ None) → IsTight note d
  called_tight kept trust free tight none = sure_by d.inner.committed d.held (trust (kept tight none)) (free (was.free tight none))
