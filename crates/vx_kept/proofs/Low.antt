-- What an import finds hangs on the blocks before the public region alone.
use Rattle.std.proofs.Common.{◌≡◌, ◌⊎◌, inl, inr, ℕ, zero, suc, ◌<◌, ◌≤◌, Bool, Option, None, List, refl, ap, sym, ◌∙◌, arith}
use Rattle.std.specs.Prelude.{◌&&◌, if◌then◌else◌}
use Rattle.std.proofs.lemmas.Bool.{cases_lt}
use Rattle.vx_disk.specs.Shelf.{Image, Meaning}
use Rattle.vx_copyfmt.specs.Copies.{Copy, area_a, area_b, copy_at, copy_of, greater}
use Rattle.vx_copyfmt.specs.Imports.{import_of, is_label, later, newest_found, on_disk}
use Rattle.vx_copyfmt.specs.Labels.{seen_in}
use Rattle.vx_copyfmt.proofs.Areas.{copy_at-same}
use Rattle.vx_copyfmt.proofs.Newest.{same_import, strange_same}
use Rattle.vx_config.specs.declared.config.Config.{Config}
use Rattle.vx_copies.specs.Bodies.{failed_in}
use Rattle.vx_copies.specs.Looking.{on_shelf}
use Rattle.vx_copies.proofs.OneTry.{shelf_same}
use Rattle.vx_kept.specs.Groups.{found_by}

module _ {C : Type 0} (reads : ℕ → List ℕ → Option C) (i j : Image) (same : (u b : ℕ) → b < 512 → i u b ≡ j u b) where
  copy_low : (u : ℕ) → copy_of reads (i u) ≡ copy_of reads (j u)
  copy_low u =
      let first : copy_at reads (i u) area_a ≡ copy_at reads (j u) area_a = copy_at-same reads (i u) (j u) area_a (λ b low high. same u b (omega (arith, high))) in
      let second : copy_at reads (i u) area_b ≡ copy_at reads (j u) area_b = copy_at-same reads (i u) (j u) area_b (λ b low high. same u b (omega (arith, high))) in
      ap (λ (o : Option (Copy C)). greater o (copy_at reads (i u) area_b)) first ∙ ap (λ (o : Option (Copy C)). greater (copy_at reads (j u) area_a) o) second

  newest_low : (readable : ℕ → Bool) (n : ℕ) → newest_found reads readable i n ≡ newest_found reads readable j n
  newest_low readable zero = refl
  newest_low readable (suc n) =
      ap (λ (o : Option (ℕ × Copy C)). later o (if readable n && is_label (seen_in (i n 0)) then on_disk n (copy_of reads (i n)) else None)) (newest_low readable n)
      ∙ ap (λ (v : List ℕ). later (newest_found reads readable j n) (if readable n && is_label (seen_in v) then on_disk n (copy_of reads (i n)) else None)) (same n 0 (omega arith))
      ∙ ap (λ (o : Option (Copy C)). later (newest_found reads readable j n) (if readable n && is_label (seen_in (j n 0)) then on_disk n o else None)) (copy_low n)

  pub import_low : (failed : C → ℕ → Bool) (units : ℕ) (readable : ℕ → Bool) → import_of reads failed units readable i ≡ import_of reads failed units readable j
  import_low failed units readable = same_import reads failed units readable i j (strange_same readable i j units (λ u lt. ap seen_in (same u 0 (omega arith)))) (newest_low readable units)

-- units and sizes do not change
pub found_same : (m m' : Meaning) → m'.units ≡ m.units → ((u : ℕ) → m'.size u ≡ m.size u) → (readable : ℕ → Bool) (i : Image) → found_by m' readable i ≡ found_by m readable i
found_same m m' units size readable i =
    ap (λ (n : ℕ). import_of (on_shelf m') failed_in n readable i) units ∙ ap (λ (r : ℕ → List ℕ → Option Config). import_of r failed_in m.units readable i) (sym (shelf_same m m' units size))

-- one image before the public region, and another from there on
abbrev by : Image → Image → (u b : ℕ) → (b < 512) ⊎ (512 ≤ b) → List ℕ
by i base u b (inl lt) = i u b
by i base u b (inr le) = base u b

abbrev pub mix : Image → Image → Image
mix i base u b = by i base u b (cases_lt b 512)

pub mix_low : (i base : Image) (u b : ℕ) → b < 512 → mix i base u b ≡ i u b
mix_low i base u b lt = by_test (cases_lt b 512)
  where
    by_test : (t : (b < 512) ⊎ (512 ≤ b)) → by i base u b t ≡ i u b
    by_test (inl is) = refl
    by_test (inr le) = absurd (omega (arith, le, lt))

pub mix_each : (values : ℕ → ℕ → List ℕ → Type 0) (i base : Image) (u b : ℕ) → (b < 512 → values u b (i u b)) → values u b (base u b) → values u b (mix i base u b)
mix_each values i base u b low high = by_test (cases_lt b 512)
  where
    by_test : (t : (b < 512) ⊎ (512 ≤ b)) → values u b (by i base u b t)
    by_test (inl is) = low is
    by_test (inr le) = high
