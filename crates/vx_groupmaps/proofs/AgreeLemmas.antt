-- What plexes read beside calls that write none of their blocks.
use Rattle.std.proofs.Common.{◌≡◌, inl, inr, ℕ, ◌/◌, Bool, true, false, List, IsTrue, refl}
use Rattle.std.specs.Prelude.{◌||◌}
use Rattle.vx_config.specs.declared.config.Config.{Config}
use Rattle.vx_disk.specs.Shelf.{Goes, Meaning, Values}
use Rattle.vx_layout.specs.Places.{HasBlock, place}
use Rattle.vx_volume.specs.Plexes.{Inside}
use Rattle.vx_volume.proofs.PlaceLemmas.{has_of}
use Rattle.vx_groupmaps.specs.Missing.{MapAgrees, by_map, or_spared}
use Rattle.vx_groupmaps.proofs.MapPlaces.{has_mapped}

module _ (c : Config) (W : Values) (m m' : Meaning) (goes : Goes W m m') (up : IsTrue m'.down → ⊥) (off : (v p k : ℕ) (x : List ℕ) → HasBlock c v p k → W (place c v p k).0 (place c v p k).1 x → ⊥) where
  pub reads_stay : (v p k : ℕ) (x : List ℕ) → HasBlock c v p k → m'.reads (place c v p k).0 (place c v p k).1 x → m.reads (place c v p k).0 (place c v p k).1 x
  reads_stay v p k x has read = elim (goes.reads (place c v p k).0 (place c v p k).1 x read) [
    | inl (inl was) ↦ was
    | inl (inr now) ↦ absurd (off v p k x has now)
    | inr down ↦ absurd (up down)
  ]

  -- what agreed does, where no region is missed less
  pub agree_stays : (v : ℕ) (old new : ℕ → ℕ → Bool) → ((p b : ℕ) → IsTrue (by_map c v p) → Inside c v b → new p (b / 64) ≡ false → old p (b / 64) ≡ false) → MapAgrees c v old m.reads → MapAgrees c v new m'.reads
  agree_stays v old new less agree = record {
    so = λ p q b x y is on inside clear at_p at_q.
        agree.so p q b x y is on inside (less p b is inside clear) (reads_stay v p b x (has_mapped c v p b is inside) at_p) (reads_stay v q b y (has_of c v q b on inside) at_q);
  }

-- ---- one bit

pub spared_less : (s new old : Bool) → (new ≡ false → old ≡ false) → s || new ≡ false → s || old ≡ false
spared_less true new old less clear = clear
spared_less false new old less clear = less clear

-- fewer regions that are spared
pub agree_spared : (c : Config) (v : ℕ) (a b : ℕ → ℕ → Bool) (missed : ℕ → ℕ → Bool) (values : Values) → ((p r : ℕ) → IsTrue (by_map c v p) → a p r ≡ false → b p r ≡ false) → MapAgrees c v (or_spared b missed) values
    → MapAgrees c v (or_spared a missed) values
agree_spared c v a b missed values less agree = record {
  so = λ p q k x y is on inside clear at_p at_q. agree.so p q k x y is on inside (by p is (a p (k / 64)) (b p (k / 64)) (missed p (k / 64)) (less p (k / 64) is) clear) at_p at_q;
}
  where
    by : (p : ℕ) → IsTrue (by_map c v p) → (s t w : Bool) → (s ≡ false → t ≡ false) → s || w ≡ false → t || w ≡ false
    by p is true t w fewer clear = absurd (let clash : true ≡ false = clear in cc)
    by p is false true w fewer clear = absurd (let clash : true ≡ false = fewer refl in cc)
    by p is false false w fewer clear = clear
