-- What a call on the group of a site makes of its volumes.
use Rattle.std.proofs.Common.{◌≡◌, inl, inr, ℕ, List, arith, refl, subst, sym}
use Rattle.vx_disk.specs.Moves.{Blocks, Nowhere}
use Rattle.vx_disk.specs.Racks.{Stopped}
use Rattle.vx_disk.specs.Shelf.{Covers, Goes, Meaning, Nothing, Values, Written}
use Rattle.vx_disk.specs.declared.shelf.Shelf.{Ghosts}
use Rattle.vx_grouped.specs.GroupSites.{idle_disks, laid_disks}
use Rattle.vx_grouped.specs.Volumes.{FellBehind, GoesOff, SiteCloses, SiteGoes, VolumesGo, laid_seen}
use Rattle.vx_grouped.specs.declared.group_site.GroupSite.{GroupSite}
use Rattle.vx_grouped.specs.declared.group_site.GroupSite.TheVariants.{Deported, Down, Gone, Marked, Up}
use Rattle.vx_grouped.specs.declared.idle.Idle.{Idle}
use Rattle.vx_grouped.specs.declared.laid.Laid.{Laid}
use Rattle.vx_logimport.specs.declared.rested.Rested.{Rested}
use Rattle.vx_group.specs.Settles.{LacksCommit}
use Rattle.std.specs.Prelude.{Some}

pub volumes_go : (put : Values) (mine : Blocks) (old new : Meaning) → ((u b : ℕ) (v : List ℕ) → put u b v → mine u b) → Goes put old new → VolumesGo mine old new
volumes_go put mine old new within goes = record {
  units = let same = goes.units in omega (arith, same);
  size = λ u low. goes.size u;
  tells = goes.tells;
  reads = λ u b v low is. elim (goes.reads u b v is) [ inl (inl was) ↦ inl was | inl (inr written) ↦ inr (inl (within u b v written)) | inr down ↦ inr (inr down) ];
  leaves = λ u b v low is. elim (goes.leaves u b v is) [ inl was ↦ inl was | inr written ↦ inr (within u b v written) ];
  falls = goes.falls;
  unarmed = goes.unarmed;
}

-- no block changed
pub none_go : (old new : Meaning) → Goes Nothing old new → VolumesGo Nowhere old new
none_go old new = volumes_go Nothing Nowhere old new (λ u b v none. absurd none)

-- but those of a write
pub write_goes : (vol block : ℕ) (bytes : List ℕ) (old new : Meaning) → Goes (Written vol block bytes) old new → VolumesGo (Covers vol block bytes) old new
write_goes vol block bytes old new = volumes_go (Written vol block bytes) (Covers vol block bytes) old new (λ u b v written. written.covers)

-- no call was made
pub same_go : (m : Meaning) → VolumesGo Nowhere m m
same_go m = record { units = omega arith; size = λ u low. refl; tells = refl; reads = λ u b v low is. inl is; leaves = λ u b v low is. inl is; falls = λ is. is; unarmed = λ is. is }

-- nor is more said where more blocks may have changed
pub wider_go : (mine more : Blocks) (old new : Meaning) → ((u b : ℕ) → mine u b → more u b) → VolumesGo mine old new → VolumesGo more old new
wider_go mine more old new within goes = record {
  units = goes.units;
  size = goes.size;
  tells = goes.tells;
  reads = λ u b v low is. elim (goes.reads u b v low is) [ inl was ↦ inl was | inr (inl here) ↦ inr (inl (within u b here)) | inr (inr down) ↦ inr (inr down) ];
  leaves = λ u b v low is. elim (goes.leaves u b v low is) [ inl was ↦ inl was | inr here ↦ inr (within u b here) ];
  falls = goes.falls;
  unarmed = goes.unarmed;
}

module _ {R : Type 0} {g : Ghosts R} where
  pub fell_behind : (mine : Blocks) (old mid : Laid R g) (idle : Idle R g) → VolumesGo mine (laid_seen old) (laid_seen mid) → Stopped (laid_disks mid) (idle_disks idle) → idle.agreed ≡ mid.core.inner.agreed → ((r : Rested) → idle.rested ≡ Some r → LacksCommit mid.core.inner → ⊥) → FellBehind mine old idle
  fell_behind mine old mid idle goes stopped agreed lacking = record { mid = mid; goes = goes; stopped = stopped; agreed = agreed; lacking = lacking }

  -- of a site that was taken out for the call
  pub site_goes : (mine : Blocks) (e : GroupSite R g) (old : Laid R g) (new : GroupSite R g) → e ≡ Up old → SiteGoes mine (Up old) new → SiteGoes mine e new
  site_goes mine e old new is goes = subst (λ (x : GroupSite R g). SiteGoes mine x new) (sym is) goes

  -- of one that was not up, and is as it was
  pub rest_goes : (mine : Blocks) (e x : GroupSite R g) → x ≡ e → ((laid : Laid R g) → x ≡ Up laid → ⊥) → SiteGoes mine e x
  rest_goes mine (Up laid) x is never = absurd (never laid is)
  rest_goes mine (Deported idle) x is never = is
  rest_goes mine (Down idle) x is never = is
  rest_goes mine (Marked rack) x is never = is
  rest_goes mine Gone x is never = is

  pub site_closes : (e : GroupSite R g) (old : Laid R g) (new : GroupSite R g) → e ≡ Up old → SiteCloses (Up old) new → SiteCloses e new
  site_closes e old new is closes = subst (λ (x : GroupSite R g). SiteCloses x new) (sym is) closes

  pub rest_closes : (e : GroupSite R g) → ((laid : Laid R g) → e ≡ Up laid → ⊥) → SiteCloses e e
  rest_closes (Up laid) never = absurd (never laid refl)
  rest_closes (Deported idle) never = tt
  rest_closes (Down idle) never = tt
  rest_closes (Marked rack) never = tt
  rest_closes Gone never = tt

  pub rest_off : (e : GroupSite R g) → ((laid : Laid R g) → e ≡ Up laid → ⊥) → GoesOff e e
  rest_off (Up laid) never = absurd (never laid refl)
  rest_off (Deported idle) never = refl
  rest_off (Down idle) never = refl
  rest_off (Marked rack) never = refl
  rest_off Gone never = refl

  -- no call was made
  pub site_same : (e : GroupSite R g) → SiteGoes Nowhere e e
  site_same (Up laid) = same_go (laid_seen laid)
  site_same (Deported idle) = refl
  site_same (Down idle) = refl
  site_same (Marked rack) = refl
  site_same Gone = refl
