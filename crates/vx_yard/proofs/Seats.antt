-- The site that a line names.
use Rattle.std.proofs.Common.{◌≡◌, ◌∙◌, ℕ, List, ap, sym}
use Rattle.std.specs.Prelude.{Option, Some, None, IsSome, is_some, slice_get, false, true}
use Rattle.vx_disk.specs.declared.shelf.Shelf.{Ghosts}
use Rattle.vx_order.specs.declared.facts.SiteFacts.{SiteFacts}
use Rattle.vx_yard.specs.declared.yard.Yard.{Yard}
use Rattle.vx_events.specs.Facts.{seat_of, place_of}
use Rattle.vx_events.proofs.Places.{some_same, never_some}
use Rattle.vx_events.proofs.Refused.{Named}
use Rattle.vx_events.proofs.RefusedCalls.{CallMay}

-- what was found is not missing
pub some_none : {A : Type 0} (o : Option A) → IsSome o → o ≡ None → ⊥
some_none None h e = absurd (let f : false ≡ true = h in cc)
some_none (Some x) h e = never_some (sym e)

module _ {R : Type 0} {g : Ghosts R} where
  -- the tests of a line find its site
  pub named_some : (y : Yard R g) (name : List ℕ) → Named y.facts.items name → IsSome (seat_of y.facts.items name)
  named_some y name n = ap (λ (o : Option ℕ). is_some o) n.at.is

  -- and its volume
  pub volume_there : (y : Yard R g) (name volume : List ℕ) (start count s : ℕ) (f : SiteFacts) → CallMay y.facts.items name volume start count → seat_of y.facts.items name ≡ Some s
      → slice_get y.facts.items s ≡ Some f → IsSome (place_of f.volumes volume)
  volume_there y name volume start count s f may seat at =
      let place : may.site.at.place ≡ s = some_same (sym may.site.at.is ∙ seat) in
      let same : may.site.facts ≡ f = some_same (sym may.site.at.there ∙ ap (slice_get y.facts.items) place ∙ at) in
      ap (λ (k : SiteFacts). is_some (place_of k.volumes volume)) (sym same) ∙ ap (λ (o : Option ℕ). is_some o) may.at.is
