-- What disks by themselves tell an import by logs.
use Rattle.std.proofs.Common.{◌≡◌, ◌∙◌, ℕ, inl, inr, ⊎_elim, Bool, true, false, IsTrue, refl, sym}
use Rattle.std.proofs.lemmas.Bool.{false_from_ne_true}
use Rattle.vx_disk.specs.Racks.{Alike, Stopped}
use Rattle.vx_disk.specs.Shelf.{Goes, Meaning, Nothing}
use Rattle.vx_group.specs.Imports.{ImportStops}
use Rattle.vx_logimport.specs.Rests.{LogsTell, rests}
use Rattle.vx_logimport.specs.declared.rested.Rested.{Rested}
use Rattle.vx_logimport.proofs.TellLemmas.{fallen_less, less_tells, untold_tells}
use Rattle.vx_model.specs.declared.errors.Stop.{Stop}
use Rattle.vx_untold.specs.Shades.{rack_of, shade_meaning}
use Rattle.vx_untold.specs.declared.shade.Shade.{Shade}
use Rattle.vx_untold.specs.declared.shade.Shade.TheVariants.{Dark}
use Rattle.vx_grouped.specs.SiteReturns.{TellsNone, stops_early}
use Rattle.vx_grouped.proofs.StopLemmas.{early_goes}

module _ (r : Rested) (m m' : Meaning) where
  pub alike_tells : Alike m m' → LogsTell r m → LogsTell r m'
  alike_tells alike = less_tells m m' alike.contents.units alike.contents.size alike.contents.leaves alike.contents.reads r

  goes_tells : Goes Nothing m m' → (IsTrue m'.down → ⊥) → LogsTell r m → LogsTell r m'
  goes_tells goes up = less_tells m m' goes.units goes.size (λ u b v left. ⊎_elim (λ was. was) (λ none. absurd none) (goes.leaves u b v left))
      (λ u b v read. elim (goes.reads u b v read) [
        | inl (inl was) ↦ was
        | inl (inr none) ↦ absurd none
        | inr down ↦ absurd (up down)
      ]) r

  -- behind an import that was refused before it wrote, where they are up
  pub early_tells : (stop : Stop) → stops_early stop ≡ true → ImportStops m m' stop → (IsTrue m'.down → ⊥) → LogsTell r m → LogsTell r m'
  early_tells stop early stops = goes_tells (early_goes m m' stop early stops)

-- disks that tell nothing
pub none_tells : (r : Rested) (m : Meaning) → TellsNone m → LogsTell r m
none_tells r m none = untold_tells r m (λ i each. none.leaves 0 0 (i 0 0) (each 0 0))

-- nor do they where they are up again
pub none_risen : (m m' : Meaning) → Alike m m' → (IsTrue m'.tells → IsTrue m.tells) → TellsNone m → TellsNone m'
none_risen m m' alike told none = record {
  tells = false_from_ne_true m'.tells (λ tells. let clash : false ≡ true = sym none.tells ∙ told tells in cc);
  leaves = λ u b v left. none.leaves u b v (alike.contents.leaves u b v left);
}

pub dark_tells : {R : Type 0} (r : Rested) (meaning : R → Meaning) (s : Shade R) → LogsTell r (shade_meaning meaning (Dark (rack_of s)))
dark_tells r meaning s = untold_tells r (shade_meaning meaning (Dark (rack_of s))) (λ i each. each 0 0)

-- disks that fell behind a refused import: no map knows any more what its plex misses
pub fallen_tells : (r s : Rested) → s.alike ≡ r.alike → s.drls ≡ r.drls → ((v : ℕ) → rests s.maps v ≡ false) → (m m' m3 : Meaning) (stop : Stop) (early : Bool) → early ≡ stops_early stop → LogsTell r m → ImportStops m m' stop → (early ≡ true → Stopped m' m3)
    → (early ≡ false → TellsNone m3) → LogsTell s m3
fallen_tells r s alike drls none m m' m3 stop true is tells stops stopped dark =
    let goes = early_goes m m' stop (sym is) stops in
    let fell = stopped refl in
    fallen_less m m3 (fell.units ∙ goes.units) (λ u. fell.size u ∙ goes.size u) (λ u b y left. ⊎_elim (λ was. was) (λ put. absurd put) (goes.leaves u b y (fell.leaves u b y left))) r s alike drls none tells
fallen_tells r s alike drls none m m' m3 stop false is tells stops stopped dark = none_tells s m3 (dark refl)
