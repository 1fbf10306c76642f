-- The plex by which an import goes is the one by which an image goes.
use Rattle.std.proofs.Common.{◌≡◌, inl, inr, ℕ, suc, ◌<◌, Bool, true, false, Option, Some, None, List, [], ◌∷◌, length, refl, ap, ◌∙◌}
use Rattle.std.specs.Prelude.{◌&&◌, ◌||◌, not, if◌then◌else◌, slice_get}
use Rattle.std.specs.List.{list_any}
use Rattle.std.proofs.lemmas.Bool.{cases_lt}
use Rattle.std.proofs.lemmas.Option.{slice_get_past}
use Rattle.vx_disk.specs.Blocks.{bit_at}
use Rattle.vx_config.specs.Checks.{is_live, is_sound}
use Rattle.vx_config.specs.declared.config.Config.{Config}
use Rattle.vx_config.specs.declared.entry.PlexEntry.{PlexEntry}
use Rattle.vx_config.specs.declared.entry.Subdisk.{Subdisk}
use Rattle.vx_config.specs.declared.entry.VolumeEntry.{VolumeEntry}
use Rattle.vx_copies.specs.Answers.{good_set}
use Rattle.vx_copies.specs.Marks.{failed_at}
use Rattle.vx_copies.proofs.Goods.{good_bit}
use Rattle.vx_layout.proofs.Placing.{no_disk, subdisk_region}
use Rattle.vx_kept.specs.Choice.{chosen, chosen_or, first_where, is_whole}
use Rattle.vx_group.specs.Resumes.{source_of, source_or, takes_in}

-- two tests that agree on each element of a list

any_same : {A : Type 0} (t s : A → Bool) (xs : List A) → ((k : ℕ) (x : A) → slice_get xs k ≡ Some x → t x ≡ s x) → list_any t xs ≡ list_any s xs
any_same t s [] same = refl
any_same t s (x ∷ xs) same = ap (λ (b : Bool). b || list_any t xs) (same 0 x refl) ∙ ap (λ (b : Bool). s x || b) (any_same t s xs (λ k y at. same (suc k) y at))

where_same : (t s : PlexEntry → Bool) (xs : List PlexEntry) → ((k : ℕ) (x : PlexEntry) → slice_get xs k ≡ Some x → t x ≡ s x) → first_where t xs ≡ first_where s xs
where_same t s [] same = refl
where_same t s (x ∷ xs) same =
    ap (λ (b : Bool). if b then 0 else suc (first_where t xs)) (same 0 x refl) ∙ ap (λ (n : ℕ). if s x then 0 else suc n) (where_same t s xs (λ k y at. same (suc k) y at))

not_not : (b : Bool) → not (not b) ≡ b
not_not true = refl
not_not false = refl

-- a disk is outside of the set of the good ones exactly where it is held as failed
module _ (x : Config) (v : ℕ) (sound : is_sound x ≡ true) (y : VolumeEntry) (at_v : slice_get x.volumes v ≡ Some y) where
  there : (p i : ℕ) (a : PlexEntry) (s : Subdisk) → slice_get y.plexes p ≡ Some a → slice_get a.subdisks i ≡ Some s → s.disk < length x.disks
  there p i a s at_p at_s = elim (cases_lt s.disk (length x.disks)) [
    | inl lt ↦ lt
    | inr le ↦ absurd (no_disk x.disks s (subdisk_region x sound v p i y a s at_v at_p at_s) (slice_get_past x.disks s.disk le))
  ]

  takes_same : (p : ℕ) (a : PlexEntry) → slice_get y.plexes p ≡ Some a → takes_in (good_set x.disks) a ≡ is_live a && is_whole x.disks a
  takes_same p a at_p = ap (λ (b : Bool). is_live a && not b) (any_same (λ s. not (bit_at (good_set x.disks) s.disk)) (λ s. failed_at x.disks s.disk) a.subdisks
      (λ i s at_s. ap not (good_bit x.disks s.disk (there p i a s at_p at_s)) ∙ not_not (failed_at x.disks s.disk)))

  first_same : source_or (good_set x.disks) (Some y) ≡ chosen_or x.disks (Some y)
  first_same =
      ap (λ (b : Bool). if b then first_where (takes_in (good_set x.disks)) y.plexes else first_where is_live y.plexes) (any_same (takes_in (good_set x.disks)) (λ p. is_live p && is_whole x.disks p) y.plexes takes_same)
      ∙ ap (λ (n : ℕ). if list_any (λ p. is_live p && is_whole x.disks p) y.plexes then n else first_where is_live y.plexes) (where_same (takes_in (good_set x.disks)) (λ p. is_live p && is_whole x.disks p) y.plexes takes_same)

pub source_chosen : (x : Config) (v : ℕ) → is_sound x ≡ true → source_of (good_set x.disks) x v ≡ chosen x v
unfolding source_of chosen
source_chosen x v sound = by (slice_get x.volumes v) refl
  where
    by : (o : Option VolumeEntry) → slice_get x.volumes v ≡ o → source_or (good_set x.disks) o ≡ chosen_or x.disks o
    by None at = refl
    by (Some y) at = first_same x v sound y at
