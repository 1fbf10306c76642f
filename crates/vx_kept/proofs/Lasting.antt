-- Calls that leave the blocks before the public region alone keep the configuration.
use Rattle.std.proofs.Common.{◌≡◌, ◌⊎◌, inl, inr, ⊎_elim, ℕ, ◌+◌, ◌<◌, ◌≤◌, Bool, true, false, IsTrue, IsFalse, Option, List, refl, ap, sym, ◌∙◌, arith}
use Rattle.vx_disk.specs.Shelf.{Goes, Image, Lawful, Meaning, Or, Values}
use Rattle.vx_copyfmt.specs.Copies.{Disk, copy_at}
use Rattle.vx_copyfmt.specs.Commits.{Counts, IsHeaderBlock}
use Rattle.vx_copyfmt.proofs.Areas.{copy_at-same}
use Rattle.vx_copyfmt.proofs.Targets.{top_same}
use Rattle.vx_config.specs.declared.config.Config.{Config}
use Rattle.vx_copies.specs.Bodies.{failed_in}
use Rattle.vx_copies.specs.Looking.{on_shelf}
use Rattle.vx_copies.proofs.OneTry.{shelf_same}
use Rattle.vx_kept.specs.Keeping.{Acts, Kept, Sees}
use Rattle.vx_kept.proofs.Low.{found_same, import_low, mix, mix_each, mix_low}

pub cases_bool : (b : Bool) → IsTrue b ⊎ IsFalse b
cases_bool true = inl refl
cases_bool false = inr refl

-- ---- what hangs on units and sizes alone

pub sees_same : (c : Config) (G : ℕ → Type 0) (m m' : Meaning) → m'.units ≡ m.units → ((u : ℕ) → m'.size u ≡ m.size u) → (i : Image) → Sees c G m i → Sees c G m' i
sees_same c G m m' units size i sees = record {
  config = sees.config;
  found = found_same m m' units size (λ u. true) i ∙ sees.found;
  kin = sees.kin;
  others = λ readable g x held in_it is. sees.others readable g x held in_it (sym (found_same m m' units size readable i) ∙ is);
}

-- an image that agrees with one before the public region
pub sees_low : (c : Config) (G : ℕ → Type 0) (m : Meaning) (i j : Image) → ((u b : ℕ) → b < 512 → i u b ≡ j u b) → Sees c G m j → Sees c G m i
sees_low c G m i j same sees = record {
  config = sees.config;
  found = import_low (on_shelf m) i j same failed_in m.units (λ u. true) ∙ sees.found;
  kin = sees.kin;
  others = λ readable g x held in_it is. sees.others readable g x held in_it (sym (import_low (on_shelf m) i j same failed_in m.units readable) ∙ is);
}

module _ (c : Config) (G : ℕ → Type 0) (m : Meaning) (lawful : Lawful m) (kept : Kept c G m) where
  -- such values before the public region are enough
  pub sees_by : IsTrue m.tells → (i : Image) → ((u b : ℕ) → b < 512 → m.leaves u b (i u b)) → Sees c G m i
  sees_by tells i low =
      let some = lawful.image tells in
      let base : Image = some.0 in
      sees_low c G m i (mix i base) (λ u b lt. sym (mix_low i base u b lt)) (kept.sees (mix i base) (λ u b. mix_each m.leaves i base u b (λ lt. low u b lt) (lawful.within base some.1 u b)))

module _ (c : Config) (G : ℕ → Type 0) (m m' : Meaning) (W : Values) (goes : Goes W m m') (above : (u b : ℕ) (x : List ℕ) → W u b x → 512 ≤ b) (lawful : Lawful m) (lawful' : Lawful m') (kept : Kept c G m) where
  low : (u b : ℕ) (x : List ℕ) → b < 512 → Or m.leaves W u b x → m.leaves u b x
  low u b x lt = ⊎_elim (λ was. was) (λ w. absurd (let le : 512 ≤ b = above u b x w in omega (arith, le, lt)))

  told : IsTrue m'.tells → IsTrue m.tells
  told tells = sym goes.tells ∙ tells

  pub low_Acts : Acts W (Sees c G m) m m'
  low_Acts = record {
    units = goes.units;
    size = goes.size;
    tells = goes.tells;
    reads = λ u b v le is. goes.reads u b v is;
    leaves = λ u b v le left. goes.leaves u b v left;
    later = goes.later;
    since = λ t i le left. elim (goes.since t i le left) [
      | inl was ↦ inl was
      | inr each ↦ inr (
        (λ u b far. each u b),
        elim (cases_bool m'.tells) [
          | inl tells ↦ sees_by c G m lawful kept (told tells) i (λ u b lt. low u b (i u b) lt (each u b))
          | inr not ↦ absurd (lawful'.never not t i left)
        ],
      )
    ];
    keeps = goes.keeps;
    faults = goes.faults;
    disk_faults = goes.disk_faults;
    falls = goes.falls;
    unarmed = goes.unarmed;
    safe = goes.safe;
  }

  pub low_Kept : Kept c G m'
  low_Kept = record {
    below = record { each = λ u lt. λ a v h is left head. kept.below.each u (omega (arith, goes.units, lt)) a v h is (low u a v (header_low a is) (goes.leaves u a v left)) head };
    counts = λ u lt. counts_same (omega (arith, goes.units, lt));
    labels = record { each = λ u v lt left. kept.labels.each u v (omega (arith, goes.units, lt)) (low u 0 v (omega arith) (goes.leaves u 0 v left)) };
    sees = λ i each. sees_same c G m m' goes.units goes.size i (elim (cases_bool m'.tells) [
      | inl tells ↦ sees_by c G m lawful kept (told tells) i (λ u b lt. low u b (i u b) lt (goes.leaves u b (i u b) (each u b)))
      | inr not ↦ absurd (lawful'.none not 0 0 (i 0 0) (each 0 0))
    ]);
  }
    where
      header_low : (a : ℕ) → IsHeaderBlock a → a < 512
      header_low a (inl is) = omega (arith, is)
      header_low a (inr is) = omega (arith, is)

      -- any disk of now is one of before with other blocks in the public region
      counts_same : {u : ℕ} → u < m.units → Counts (on_shelf m') (m'.leaves u)
      counts_same {u} lt d a h is among top =
          let base = some_disk u (among 0) in
          let e : Disk = λ b. mix (λ w. d) (λ w. base.0) u b in
          let same : (b : ℕ) → b < 512 → e b ≡ d b = λ b lt. mix_low (λ w. d) (λ w. base.0) u b lt in
          let has = kept.counts u lt e a h is (λ b. mix_each m.leaves (λ w. d) (λ w. base.0) u b (λ lt. low u b (d b) lt (goes.leaves u b (d b) (among b))) (base.1 b)) (top_same d e a h is (λ b block. sym (same b (header_low b block))) top) in
          (has.0, ap (λ (r : ℕ → List ℕ → Option Config). copy_at r d a) (sym (shelf_same m m' goes.units goes.size)) ∙ copy_at-same (on_shelf m) d e a (λ b first last. sym (same b (header_far a b is last))) ∙ has.1)
        where
          header_far : (a b : ℕ) → IsHeaderBlock a → b ≤ a + 127 → b < 512
          header_far a b (inl is) last = omega (arith, is, last)
          header_far a b (inr is) last = omega (arith, is, last)

          some_disk : (u : ℕ) → m'.leaves u 0 (d 0) → (e : Disk) × ((b : ℕ) → m.leaves u b (e b))
          some_disk u left = elim (cases_bool m'.tells) [
            | inl tells ↦ let some = lawful.image (told tells) in (some.0 u, λ b. lawful.within some.0 some.1 u b)
            | inr not ↦ absurd (lawful'.none not u 0 (d 0) left)
          ]
