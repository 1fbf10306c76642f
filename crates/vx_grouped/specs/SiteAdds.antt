-- How a volume that is made leaves the disks of a site with a group.
use Rattle.std.specs.Prelude.{◌≡◌, ◌⊎◌, ℕ, true, false, List, Option, Some, None, Result, Ok, Err, IfErr, OnOk}
use Rattle.vx_model.specs.declared.errors.Stop.{Stop}
use Rattle.vx_model.specs.declared.errors.Stop.TheVariants.{No as Refused, OutOfMemory}
use Rattle.vx_model.specs.declared.limits.TheConstants.{MOST_SUBDISKS}
use Rattle.vx_model.specs.declared.no.Counted.TheVariants.{Subdisks}
use Rattle.vx_model.specs.declared.no.No.{No}
use Rattle.vx_model.specs.declared.no.No.TheVariants.{Limit, Space}
use Rattle.vx_disk.specs.Moves.{Nowhere}
use Rattle.vx_disk.specs.Shelf.{Meaning}
use Rattle.vx_disk.specs.declared.shelf.Shelf.{Ghosts}
use Rattle.vx_history.specs.Groups.{GroupNode, NoteSettles}
use Rattle.vx_history.specs.World.{Node}
use Rattle.vx_config.specs.declared.config.Config.{Config}
use Rattle.vx_layout.specs.Space.{IsSpaceShort}
use Rattle.vx_layout.specs.declared.shape.Shape.{Shape}
use Rattle.vx_copies.specs.Commits.{MoreFailed}
use Rattle.vx_group.specs.Holding.{wide}
use Rattle.vx_group.specs.Loses.{SameParts}
use Rattle.vx_group.specs.Makes.{HasMany, MakeEnds, VolumeMade, make_refusal}
use Rattle.vx_group.specs.Stands.{inner_meaning}
use Rattle.vx_group.specs.declared.group_core.GroupCore.{GroupCore}
use Rattle.vx_untold.specs.Shades.{shade_meaning}
use Rattle.vx_grouped.specs.Added.{VolumeLeaves, note_added}
use Rattle.vx_grouped.specs.ConfigMoves.{LosesSome, VolumeAdded}
use Rattle.vx_grouped.specs.GroupNotes.{IsGroupAt}
use Rattle.vx_grouped.specs.GroupSites.{UpNoted, site_disks, with_note}
use Rattle.vx_grouped.specs.SiteEnds.{ConfigGoes, SiteCalled}
use Rattle.vx_grouped.specs.Volumes.{VolumesGo}
use Rattle.vx_grouped.specs.declared.group_site.GroupSite.{GroupSite}
use Rattle.vx_grouped.specs.declared.group_site.GroupSite.TheVariants.{Up}

-- a volume that is made, by the parts of the group
pub record MakesVolume (name : List ℕ) (want : Shape) (c : GroupCore) (m : Meaning) (d : GroupCore) (m' : Meaning) (r : Result ℕ Stop) : Type 0 where
  pub refused : (which : No) → make_refusal c.inner.config name want ≡ Some which → r ≡ Err (Refused which)
  pub leaves : (n : Node) (note : GroupNode) → IsGroupAt n note c m → VolumeLeaves n note want d m' r
  pub ends : make_refusal c.inner.config name want ≡ None → MakeEnds name want c.inner d.inner m m' r
  pub trust : OnOk r (c.inner.committed ≡ true → d.inner.committed ≡ true)
  pub goes : VolumesGo Nowhere (inner_meaning (wide c) m) (inner_meaning (wide d) m')
  pub agreed : IfErr r (λ stop. c.inner.committed ≡ true → d.inner.agreed ≡ true)
  pub parts : SameParts c.inner.config d.inner.config
  pub disks : MoreFailed m m' c.inner.config.disks d.inner.config.disks

-- no space is found for a volume, or it has too many subdisks
abbrev pub IsRoomShort : Config → List ℕ → Shape → No → Type 0
IsRoomShort c name want (Space need have) = IsSpaceShort c want need have
IsRoomShort c name want (Limit Subdisks most) = HasMany c name want × (most ≡ MOST_SUBDISKS)
IsRoomShort c name want other = ⊥

module _ {R : Type 0} {g : Ghosts R} where
  -- the first test of a volume that refuses it
  abbrev pub refuses_volume : GroupSite R g → List ℕ → Shape → Option No
  refuses_volume (Up group) name want = make_refusal group.core.inner.config name want
  refuses_volume other name want = None

  abbrev pub LacksRoom : GroupSite R g → List ℕ → Shape → No → Type 0
  LacksRoom (Up group) name want which = IsRoomShort group.core.inner.config name want which
  LacksRoom other name want which = ⊥

  -- why a volume is not made, but for a device: a test, want of space, or of room for its subdisks
  abbrev pub LacksVolume : GroupSite R g → List ℕ → Shape → No → Type 0
  LacksVolume old name want which = (refuses_volume old name want ≡ Some which) ⊎ ((refuses_volume old name want ≡ None) × LacksRoom old name want which)

  -- A volume is made, which begins as zeros; else each volume has what it had. A refusal but 6 and 7 has changed nothing, nor has want of memory.
  abbrev pub SiteAdded : Node → GroupNode → List ℕ → Shape → GroupSite R g → GroupSite R g → Result ℕ Stop → Type 0
  SiteAdded n note name want old new (Ok vol) =
      (next : GroupNode) × NoteSettles note next × UpNoted (with_note (note_added vol want.blocks next) n) (note_added vol want.blocks next) new
      × ConfigGoes (VolumeAdded name want vol (site_disks old) (site_disks new)) note next old new
  SiteAdded n note name want old new (Err (Refused why)) =
      SiteCalled {T = ℕ} false (λ c d. ⊥) (LosesSome (site_disks old) (site_disks new)) (LosesSome (site_disks old) (site_disks new)) (LacksVolume old name want) n note old new (Err (Refused why))
  SiteAdded n note name want old new (Err OutOfMemory) = UpNoted n note new

  -- the volume stands behind those of before, in the place that was found for it
  abbrev pub VolumeIn : List ℕ → Shape → ℕ → GroupSite R g → GroupSite R g → Type 0
  VolumeIn name want vol (Up group) (Up new) = VolumeMade name want vol group.core.inner new.core.inner (shade_meaning g.meaning new.shelf)
  VolumeIn name want vol old new = ⊥
