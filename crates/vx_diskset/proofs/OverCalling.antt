-- Facts of the group below a replicated volume group hold of its disk set.
use Rattle.std.proofs.Common.{◌≡◌, ℕ, refl, subst, sym}
use Rattle.std.specs.Prelude.{Err, Ok, OnOk, Result}
use Rattle.vx_model.specs.declared.errors.Stop.{Stop}
use Rattle.vx_disk.specs.declared.shelf.Shelf.{Ghosts}
use Rattle.vx_grouped.specs.GroupSites.{site_disks}
use Rattle.vx_grouped.specs.SiteEnds.{is_plex_on}
use Rattle.vx_grouped.specs.declared.group_site.GroupSite.{GroupSite}
use Rattle.vx_diskset.specs.Aboves.{site_in}
use Rattle.vx_diskset.specs.GroupCalls.{AtSite, OnSites}
use Rattle.vx_diskset.specs.declared.disk_set.DiskSet.{DiskSet}
use Rattle.vx_diskset.specs.declared.disk_set.DiskSet.TheVariants.{Over}
use Rattle.vx_diskset.specs.declared.over_set.OverSet.{OverSet}
use Rattle.vx_diskset.proofs.GroupCalling.{HasDisks}

module _ {R : Type 0} {g : Ghosts R} where
  pub has_over : (e : DiskSet R g) (o : OverSet R g) → e ≡ Over o → HasDisks e (site_disks (site_in o))
  has_over e o is = subst (λ (x : DiskSet R g). HasDisks x (site_disks (site_in o))) (sym is) (record { disks = refl; faults = λ d. refl })

  pub at_overs : (P : GroupSite R g → Type 0) (A : Type 0) (e : DiskSet R g) (o : OverSet R g) → e ≡ Over o → (P (site_in o) → A) → AtSite P e → A
  at_overs P A e o is go it = go (subst (λ (x : DiskSet R g). AtSite P x) is it)

  -- of the other plexes of such a set nothing is said here
  pub others_over : {T : Type 0} (r : Result T Stop) (e : DiskSet R g) (o s : OverSet R g) → e ≡ Over o → (v p : ℕ)
      → OnOk r ((w q : ℕ) → (w ≡ v → q ≡ p → ⊥) → OnSites (λ x y. is_plex_on y w q ≡ is_plex_on x w q) e (Over s))
  others_over (Ok done) e o s is v p = λ w q other. subst (λ (x : DiskSet R g). OnSites (λ a b. is_plex_on b w q ≡ is_plex_on a w q) x (Over s)) (sym is) tt
  others_over (Err stop) e o s is v p = tt
