-- A site that notes no group of disks, by the name that a line has of it: its disks are those of no replicated volume group over one.
use Rattle.std.proofs.Common.{◌≡◌, ◌∙◌, ℕ, List, false, subst, sym}
use Rattle.std.specs.Prelude.{None}
use Rattle.vx_model.specs.declared.site.SiteState.TheVariants.{Bare as IsBare, Up as IsUp, Deported as IsDeported, Down as IsDown}
use Rattle.vx_history.specs.Doubts.{Doubted}
use Rattle.vx_history.specs.World.{Node, World}
use Rattle.vx_disk.specs.declared.shelf.Shelf.{Ghosts}
use Rattle.vx_diskset.specs.Asked.{IsRawSet}
use Rattle.vx_diskset.specs.Holds.{KeptBeside, beside_of}
use Rattle.vx_diskset.specs.Stands.{IsRackTold, IsToldAt, OverStands, SiteStands}
use Rattle.vx_diskset.specs.declared.disk_set.DiskSet.{DiskSet}
use Rattle.vx_diskset.specs.declared.disk_set.DiskSet.TheVariants.{Bare, Spoiled, Up, Receives, Down, OfGroup, Over, Gone}
use Rattle.vx_diskset.specs.declared.over_set.OverSite.{OverSite}
use Rattle.vx_diskset.specs.declared.over_set.OverSite.TheVariants.{Origin as OriginSite, Receiver as ReceiverSite, Deported as OverAway, Down as OverFell, Gone as NoOver}
use Rattle.vx_events.specs.Facts.{site_number}
use Rattle.vx_events.specs.RvgSteps.{over_rvg_at}
use Rattle.vx_events.specs.StepsOver.{over_group_at}
use Rattle.vx_yard.specs.Working.{IsUngroupedAt}
use Rattle.vx_yard.proofs.OverGroup.{none_noted, none_over, none_rvg, raw_set}

pub ungrouped_over : (w : World) (name : List ℕ) → IsUngroupedAt w name → over_group_at w name ≡ false
ungrouped_over w name none = none_over (w.nodes (site_number w name)) none

pub ungrouped_at : (w : World) (name : List ℕ) → over_group_at w name ≡ false → over_rvg_at w name ≡ false → IsUngroupedAt w name
ungrouped_at w name plain rvg = none_noted (w.nodes (site_number w name)) plain rvg

pub ungrouped_site : (w : World) (name : List ℕ) (s : ℕ) → site_number w name ≡ s → IsUngroupedAt w name → (w.nodes s).group ≡ None
ungrouped_site w name s is none = subst (λ (k : ℕ). (w.nodes k).group ≡ None) is none

module _ {R : Type 0} {g : Ghosts R} where
  pub raw_site : (beside : KeptBeside) (n : Node) (e : DiskSet R g) → n.group ≡ None → SiteStands beside n e → IsRawSet e
  raw_site beside n e none stands = raw_set beside n e stands (none_rvg n none)

  -- so are those of a bare site
  bare_over : (beside : KeptBeside) (n : Node) (s : OverSite R g) → OverStands beside n s → n.state ≡ IsBare → ⊥
  bare_over beside n (OriginSite f) it bare = let e : IsUp ≡ IsBare = sym it.state ∙ bare in cc
  bare_over beside n (ReceiverSite f) it bare = let e : IsUp ≡ IsBare = sym it.state ∙ bare in cc
  bare_over beside n (OverAway idle) it bare = let e : IsDeported ≡ IsBare = sym it.0 ∙ bare in cc
  bare_over beside n (OverFell idle) it bare = let e : IsDown ≡ IsBare = sym it.0 ∙ bare in cc
  bare_over beside n NoOver it bare = absurd it

  pub bare_set : (beside : KeptBeside) (n : Node) (e : DiskSet R g) → SiteStands beside n e → n.state ≡ IsBare → IsRawSet e
  bare_set beside n (Bare rack) it bare = tt
  bare_set beside n (Spoiled rack) it bare = tt
  bare_set beside n (Up rvg) it bare = tt
  bare_set beside n (Receives s) it bare = tt
  bare_set beside n (Down rack) it bare = tt
  bare_set beside n (OfGroup s) it bare = tt
  bare_set beside n (Over s) it bare = absurd (bare_over beside n s.site it.1 bare)
  bare_set beside n Gone it bare = tt

  -- what is told of it its rack tells, and the other way round
  pub raw_rack : (e : DiskSet R g) → IsRawSet e → IsToldAt e → IsRackTold e
  raw_rack (Bare rack) raw told = told
  raw_rack (Spoiled rack) raw told = told
  raw_rack (Up rvg) raw told = told
  raw_rack (Receives s) raw told = told
  raw_rack (Down rack) raw told = told
  raw_rack (OfGroup s) raw told = told
  raw_rack (Over s) raw told = absurd raw
  raw_rack Gone raw told = told

  pub raw_told : (e : DiskSet R g) → IsRawSet e → IsRackTold e → IsToldAt e
  raw_told (Bare rack) raw told = told
  raw_told (Spoiled rack) raw told = told
  raw_told (Up rvg) raw told = told
  raw_told (Receives s) raw told = told
  raw_told (Down rack) raw told = told
  raw_told (OfGroup s) raw told = told
  raw_told (Over s) raw told = absurd raw
  raw_told Gone raw told = told

  pub raw_named : (d : Doubted) (name : List ℕ) (s : ℕ) (e : DiskSet R g) → site_number d.world name ≡ s → IsUngroupedAt d.world name
      → SiteStands (beside_of d s) (d.world.nodes s) e → IsRawSet e
  raw_named d name s e is none stands = raw_site (beside_of d s) (d.world.nodes s) e (ungrouped_site d.world name s is none) stands
