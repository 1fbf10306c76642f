-- Which configurations images have.
use Rattle.std.proofs.Common.{◌≡◌, inl, inr, ℕ, suc, false, Option, List, [], ◌∷◌, ◌++◌, length, refl, ap, sym, ◌∙◌, arith}
use Rattle.vx_model.specs.declared.units.Units.{Units}
use Rattle.vx_disk.specs.Shelf.{Meaning}
use Rattle.vx_config.specs.declared.config.Config.{Config}
use Rattle.vx_config.specs.declared.entry.DiskEntry.{DiskEntry}
use Rattle.vx_config.specs.declared.entry.VolumeEntry.{VolumeEntry}
use Rattle.vx_copies.specs.Commits.{Grown}
use Rattle.vx_copies.specs.Marks.{blocks_at}
use Rattle.vx_copyfmt.specs.Imports.{Found}
use Rattle.vx_kept.specs.Cleans.{at_serial}
use Rattle.vx_kept.specs.Commits.{IsCommitted}
use Rattle.vx_kept.specs.Finds.{AllAtOnce, FindsFrom, IsTryAmong, NoConfiguration, good_config, good_disks}
use Rattle.vx_kept.specs.Groups.{found}

good_same : (ds es : List DiskEntry) → length ds ≡ length es → ((u : ℕ) → blocks_at ds u ≡ blocks_at es u) → good_disks ds ≡ good_disks es
good_same [] [] count blocks = refl
good_same [] (e ∷ es) count blocks = absurd (omega (arith, count))
good_same (d ∷ ds) [] count blocks = absurd (omega (arith, count))
good_same (d ∷ ds) (e ∷ es) count blocks =
    ap (λ (n : ℕ). record { blocks = n; failed = false } ∷ good_disks ds) (blocks 0)
    ∙ ap (λ (xs : List DiskEntry). record { blocks = e.blocks; failed = false } ∷ xs) (good_same ds es (omega (arith, count)) (λ u. blocks (suc u)))

-- what a commit begins is a try of what it was given
pub good_grown : (old new : Meaning) (a y : Config) → Grown old new a y → good_config y ≡ good_config a
good_grown old new a y grown =
    ap (λ (s : ℕ). record { serial = 0; site = s; disks = good_disks y.disks; volumes = y.volumes; rvg = y.rvg }) grown.site
    ∙ ap (λ (ds : List DiskEntry). record { serial = 0; site = a.site; disks = ds; volumes = y.volumes; rvg = y.rvg }) (good_same y.disks a.disks grown.disks.count grown.disks.blocks)
    ∙ ap (λ (vs : List VolumeEntry). record { serial = 0; site = a.site; disks = good_disks a.disks; volumes = vs; rvg = y.rvg }) grown.volumes
    ∙ ap (λ (o : Option Units). record { serial = 0; site = a.site; disks = good_disks a.disks; volumes = a.volumes; rvg = o }) grown.rvg

found_is : (x y : Config) → Found x ≡ Found y → x ≡ y
found_is x y is = cc

-- ---- lists of configurations

pub first_tries : (es fs : List Config) (x : Config) → IsTryAmong es x → IsTryAmong (es ++ fs) x
first_tries [] fs x none = absurd none
first_tries (e ∷ es) fs x (inl here) = inl here
first_tries (e ∷ es) fs x (inr later) = inr (first_tries es fs x later)

pub last_tries : (es fs : List Config) (x : Config) → IsTryAmong fs x → IsTryAmong (es ++ fs) x
last_tries [] fs x it = it
last_tries (e ∷ es) fs x it = inr (last_tries es fs x it)

-- ---- relations of two moments

pub same_from : (New : Config → Type 0) (m : Meaning) → FindsFrom New m m
same_from New m = record { each = λ i x each is. inl (record { image = i; left = each; found = is }) }

pub wider_from : (P Q : Config → Type 0) (m m' : Meaning) → FindsFrom P m m' → ((x : Config) → P x → Q x) → FindsFrom Q m m'
wider_from P Q m m' finds wide = record { each = λ i x each is. elim (finds.each i x each is) [ inl was ↦ inl was | inr new ↦ inr (wide x new) ] }

pub then_from : (P : Config → Type 0) (m m1 m2 : Meaning) → FindsFrom P m m1 → FindsFrom P m1 m2 → FindsFrom P m m2
then_from P m m1 m2 one two = record {
  each = λ i x each is. elim (two.each i x each is) [
    | inl was ↦ one.each was.image x was.left was.found
    | inr new ↦ inr new
  ];
}

pub newest_at : (c : Config) (m : Meaning) → IsCommitted c m → AllAtOnce c m
newest_at c m committed = record { each = λ i x each is. ap (λ (y : Config). at_serial 0 y) (found_is x c (sym is ∙ committed.finds i each)) }

pub less_newest : (c : Config) (m m' : Meaning) → AllAtOnce c m → FindsFrom NoConfiguration m m' → AllAtOnce c m'
less_newest c m m' newest finds = record {
  each = λ i x each is. elim (finds.each i x each is) [
    | inl left ↦ newest.each left.image x left.left left.found
    | inr none ↦ absurd none
  ];
}
