-- The sites of a line of links that are over no group of disks with a replicated volume group: their disks are those of raw sets.
use Rattle.std.proofs.Common.{◌≡◌, ◌∙◌, ◌<◌, ℕ, List, Bool, true, false, refl, ap, subst}
use Rattle.std.specs.Prelude.{◌||◌, Some, None, slice_get}
use Rattle.vx_history.specs.Doubts.{Doubted}
use Rattle.vx_history.specs.World.{Node}
use Rattle.vx_disk.specs.declared.shelf.Shelf.{Ghosts}
use Rattle.vx_diskset.specs.Asked.{IsRawSet}
use Rattle.vx_diskset.specs.Holds.{beside_of}
use Rattle.vx_diskset.specs.declared.disk_set.DiskSet.{DiskSet}
use Rattle.vx_events.specs.Facts.{seat_of}
use Rattle.vx_events.specs.GroupLines.{is_over_group}
use Rattle.vx_events.specs.RvgSteps.{over_rvg_at}
use Rattle.vx_events.specs.RvgViews.{is_over_rvg}
use Rattle.vx_link_lines.specs.Headed.{NotesAt, noted_by}
use Rattle.vx_yard.proofs.NamedSite.{place_at}
use Rattle.vx_yard.proofs.OverGroup.{none_noted, raw_set}
use Rattle.vx_yard.proofs.RawSites.{raw_site}
use Rattle.vx_yard.specs.Standing.{StandsFor}
use Rattle.vx_yard.specs.declared.yard.Yard.{Yard}

-- of two sites neither is one
pub first_off : (a b : Bool) → (a || b) ≡ false → a ≡ false
first_off true b off = absurd (let e : true ≡ false = off in cc)
first_off false b off = refl

pub second_off : (a b : Bool) → (a || b) ≡ false → b ≡ false
second_off true b off = absurd (let e : true ≡ false = off in cc)
second_off false b off = off

module _ {R : Type 0} {g : Ghosts R} where
  pub raw_there : (d : Doubted) (y : Yard R g) (s : ℕ) (e : DiskSet R g) → StandsFor d y → s < d.world.sites → slice_get y.disk_sets.items s ≡ Some e
      → is_over_rvg (d.world.nodes s) ≡ false → IsRawSet e
  raw_there d y s e stands below at off = raw_set (beside_of d s) (d.world.nodes s) e (stands.disk_sets.sites s e below at) off

  -- the same in a world of which fuses are noted
  pub raw_part : (note : (ℕ → Node) → ℕ → Node) (s : ℕ) → NotesAt s note → (d : Doubted) (y : Yard R g) (e : DiskSet R g) → StandsFor (noted_by note d) y
      → s < d.world.sites → slice_get y.disk_sets.items s ≡ Some e → (d.world.nodes s).group ≡ None → IsRawSet e
  raw_part note s notes d y e stands below at none =
      raw_site (beside_of (noted_by note d) s) ((noted_by note d).world.nodes s) e (ap (λ (n : Node). n.group) (notes.here d.world.nodes) ∙ none)
      (stands.disk_sets.sites s e below at)

  -- the site of this name
  pub named_off : (d : Doubted) (y : Yard R g) (name : List ℕ) (s : ℕ) → StandsFor d y → seat_of y.facts.items name ≡ Some s → over_rvg_at d.world name ≡ false
      → is_over_rvg (d.world.nodes s) ≡ false
  named_off d y name s stands seat off = subst (λ (k : ℕ). is_over_rvg (d.world.nodes k) ≡ false) (place_at d y name s stands seat).number off

  pub named_over : (d : Doubted) (y : Yard R g) (name : List ℕ) (s : ℕ) → StandsFor d y → seat_of y.facts.items name ≡ Some s → over_rvg_at d.world name ≡ true
      → is_over_rvg (d.world.nodes s) ≡ true
  named_over d y name s stands seat over = subst (λ (k : ℕ). is_over_rvg (d.world.nodes k) ≡ true) (place_at d y name s stands seat).number over

  pub raw_seat : (d : Doubted) (y : Yard R g) (name : List ℕ) (s : ℕ) (e : DiskSet R g) → StandsFor d y → seat_of y.facts.items name ≡ Some s
      → slice_get y.disk_sets.items s ≡ Some e → over_rvg_at d.world name ≡ false → IsRawSet e
  raw_seat d y name s e stands seat at off = raw_there d y s e stands (place_at d y name s stands seat).below at (named_off d y name s stands seat off)

  pub none_seat : (d : Doubted) (y : Yard R g) (name : List ℕ) (s : ℕ) → StandsFor d y → seat_of y.facts.items name ≡ Some s → is_over_group (d.world.nodes s) ≡ false
      → over_rvg_at d.world name ≡ false → (d.world.nodes s).group ≡ None
  none_seat d y name s stands seat apart off = none_noted (d.world.nodes s) apart (named_off d y name s stands seat off)
