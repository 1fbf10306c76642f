-- What an import leaves of disks that it was refused before anything was written.
use Rattle.std.proofs.Common.{◌≡◌, ◌∙◌, ⊎_elim, Bool, true, refl, subst, sym}
use Rattle.vx_disk.specs.Racks.{Alike, Stopped}
use Rattle.vx_disk.specs.Shelf.{Goes, Meaning, Nothing}
use Rattle.vx_disk.specs.declared.shelf.Shelf.{Ghosts}
use Rattle.vx_untold.specs.Shades.{shade_meaning}
use Rattle.vx_untold.specs.declared.shade.Shade.{Shade}
use Rattle.vx_grouped.specs.Readies.{ready_of}
use Rattle.vx_grouped.specs.SiteReturns.{LeftLess, as_imported}
use Rattle.vx_grouped.specs.declared.group_site.GroupSite.TheVariants.{Deported, Down}
use Rattle.vx_grouped.specs.declared.idle.Idle.{Idle}

pub left_self : (m : Meaning) → LeftLess m m
left_self m = record { units = refl; size = λ u. refl; tells = refl; leaves = λ u b v left. left }

pub left_goes : (m m' : Meaning) → Goes Nothing m m' → LeftLess m m'
left_goes m m' goes = record { units = goes.units; size = goes.size; tells = goes.tells; leaves = λ u b v left. ⊎_elim (λ was. was) (λ none. absurd none) (goes.leaves u b v left) }

-- up, and down again
pub left_back : (m0 m1 m2 m3 : Meaning) → Alike m0 m1 → Goes Nothing m1 m2 → Stopped m2 m3 → LeftLess m0 m3
left_back m0 m1 m2 m3 alike goes fell = record {
  units = fell.units ∙ goes.units ∙ alike.contents.units;
  size = λ u. fell.size u ∙ goes.size u ∙ alike.contents.size u;
  tells = fell.tells ∙ goes.tells ∙ alike.contents.tells;
  leaves = λ u b v left. alike.contents.leaves u b v (⊎_elim (λ was. was) (λ none. absurd none) (goes.leaves u b v (fell.leaves u b v left)));
}

module _ {R : Type 0} {g : Ghosts R} (idle : Idle R g) (rack : Shade R) (old : Meaning) (agreed : idle.agreed ≡ true) (same : idle.rack ≡ rack) (less : LeftLess old (shade_meaning g.meaning rack)) where
  ready : LeftLess old (shade_meaning g.meaning (ready_of idle.agreed idle.rack))
  ready = subst (λ (b : Bool). LeftLess old (shade_meaning g.meaning (ready_of b idle.rack))) (sym agreed) (subst (λ (s : Shade R). LeftLess old (shade_meaning g.meaning s)) (sym same) less)

  pub less_away : LeftLess old (as_imported (Deported idle))
  less_away = ready

  pub less_fell : LeftLess old (as_imported (Down idle))
  less_fell = ready
