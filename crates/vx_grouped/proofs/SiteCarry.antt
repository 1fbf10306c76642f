-- Facts of a group that is up, carried to the site that has it.
use Rattle.std.proofs.Common.{◌≡◌, ℕ, sym, subst}
use Rattle.std.specs.Prelude.{OnOk, Result}
use Rattle.vx_disk.specs.declared.shelf.Shelf.{Ghosts}
use Rattle.vx_model.specs.declared.errors.Stop.{Stop}
use Rattle.vx_grouped.specs.SiteEnds.{is_plex_on}
use Rattle.vx_grouped.specs.declared.laid.Laid.{Laid}
use Rattle.vx_grouped.specs.declared.group_site.GroupSite.{GroupSite}
use Rattle.vx_grouped.specs.declared.group_site.GroupSite.TheVariants.{Up}

module _ {R : Type 0} {g : Ghosts R} where
  pub others_as : {T : Type 0} (e : GroupSite R g) (group : Laid R g) (new : GroupSite R g) (r : Result T Stop) (v p : ℕ) → e ≡ Up group
      → OnOk r ((w q : ℕ) → (w ≡ v → q ≡ p → ⊥) → is_plex_on new w q ≡ is_plex_on (Up group) w q) → OnOk r ((w q : ℕ) → (w ≡ v → q ≡ p → ⊥) → is_plex_on new w q ≡ is_plex_on e w q)
  others_as {T} e group new r v p is it = subst (λ x. OnOk r ((w q : ℕ) → (w ≡ v → q ≡ p → ⊥) → is_plex_on new w q ≡ is_plex_on x w q)) (sym is) it
