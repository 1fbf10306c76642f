-- What a site notes of its group, where a call on its disks touches no block of them.
use Rattle.std.proofs.Common.{◌≡◌, ℕ, refl, subst, sym}
use Rattle.vx_disk.specs.declared.shelf.Shelf.{Ghosts}
use Rattle.vx_diskset.specs.Asked.{IsRawSet}
use Rattle.vx_diskset.specs.Noted.{FusesNoted, OversFused, OversStay, StaysNoted}
use Rattle.vx_diskset.specs.declared.disk_set.DiskSet.{DiskSet}
use Rattle.vx_diskset.specs.declared.disk_set.DiskSet.TheVariants.{Bare, Spoiled, Up, Receives, Down, OfGroup, Over, Gone}
use Rattle.vx_diskset.specs.declared.over_set.OverSet.{OverSet}

module _ {R : Type 0} {g : Ghosts R} where
  -- a disk set that was taken out of its place, and put back
  pub put_there : (P : DiskSet R g → DiskSet R g → Type 0) (was old mid new : DiskSet R g) → was ≡ old → new ≡ mid → P was mid → P old new
  put_there P was old mid new taken back it = subst (λ (x : DiskSet R g). P old x) (sym back) (subst (λ (x : DiskSet R g). P x mid) taken it)

  pub stays_raw : (e new : DiskSet R g) → IsRawSet e → IsRawSet new → OversStay e new
  stays_raw (Bare rack) new raw apart = apart
  stays_raw (Spoiled rack) new raw apart = apart
  stays_raw (Up rvg) new raw apart = apart
  stays_raw (Receives s) new raw apart = apart
  stays_raw (Down rack) new raw apart = apart
  stays_raw (OfGroup s) new raw apart = apart
  stays_raw (Over s) new raw apart = absurd raw
  stays_raw Gone new raw apart = apart

  pub stays_over : (e : DiskSet R g) (old new : OverSet R g) → e ≡ Over old → StaysNoted old new → OversStay e (Over new)
  stays_over e old new is it = subst (λ (x : DiskSet R g). OversStay x (Over new)) (sym is) it

  pub fused_raw : (calls : ℕ) (e new : DiskSet R g) → IsRawSet e → IsRawSet new → OversFused calls e new
  fused_raw calls (Bare rack) new raw apart = apart
  fused_raw calls (Spoiled rack) new raw apart = apart
  fused_raw calls (Up rvg) new raw apart = apart
  fused_raw calls (Receives s) new raw apart = apart
  fused_raw calls (Down rack) new raw apart = apart
  fused_raw calls (OfGroup s) new raw apart = apart
  fused_raw calls (Over s) new raw apart = absurd raw
  fused_raw calls Gone new raw apart = apart

  pub fused_rest : (calls : ℕ) (e : DiskSet R g) → ((s : OverSet R g) → e ≡ Over s → ⊥) → OversFused calls e e
  fused_rest calls (Bare rack) never = tt
  fused_rest calls (Spoiled rack) never = tt
  fused_rest calls (Up rvg) never = tt
  fused_rest calls (Receives s) never = tt
  fused_rest calls (Down rack) never = tt
  fused_rest calls (OfGroup s) never = tt
  fused_rest calls (Over s) never = absurd (never s refl)
  fused_rest calls Gone never = tt

  pub fused_over : (calls : ℕ) (e : DiskSet R g) (old new : OverSet R g) → e ≡ Over old → FusesNoted calls old new → OversFused calls e (Over new)
  fused_over calls e old new is it = subst (λ (x : DiskSet R g). OversFused calls x (Over new)) (sym is) it
