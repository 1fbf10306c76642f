-- What a volume that is made in the group below a replicated volume group answers, and what it leaves of the site.
use Rattle.std.specs.Prelude.{◌≡◌, ℕ, false, List, Some, Result, Ok, Err, IfOk}
use Rattle.vx_model.specs.declared.errors.Stop.{Stop}
use Rattle.vx_model.specs.declared.errors.Stop.TheVariants.{No as Refused, OutOfMemory}
use Rattle.vx_model.specs.declared.no.No.{No}
use Rattle.vx_model.specs.declared.site.SiteState.TheVariants.{Up as IsUp}
use Rattle.vx_disk.specs.declared.shelf.Shelf.{Ghosts}
use Rattle.vx_history.specs.Groups.{GroupNode, NoteSettles}
use Rattle.vx_history.specs.World.{Node}
use Rattle.vx_layout.specs.declared.shape.Shape.{Shape}
use Rattle.vx_grouped.specs.Added.{IsUnmoved, note_added}
use Rattle.vx_grouped.specs.ConfigMoves.{LosesSome, VolumeAdded}
use Rattle.vx_grouped.specs.GroupSites.{UpNoted, site_disks, with_note}
use Rattle.vx_grouped.specs.SiteAdds.{LacksVolume, VolumeIn, refuses_volume}
use Rattle.vx_grouped.specs.SiteEnds.{ConfigGoes}
use Rattle.vx_grouped.specs.SiteMaps.{AddedMapped}
use Rattle.vx_grouped.specs.declared.group_site.GroupSite.{GroupSite}
use Rattle.vx_grouped.specs.declared.group_site.GroupSite.TheVariants.{Up}
use Rattle.vx_diskset.specs.Aboves.{site_in}
use Rattle.vx_diskset.specs.Holds.{KeptBeside}
use Rattle.vx_diskset.specs.OverKeeps.{KeepsOver}
use Rattle.vx_diskset.specs.OverPlains.{CalledBelow, note_tidied}
use Rattle.vx_diskset.specs.Stands.{SiteStands}
use Rattle.vx_diskset.specs.declared.disk_set.DiskSet.TheVariants.{Over}
use Rattle.vx_diskset.specs.declared.over_set.OverSet.{OverSet}

module _ {R : Type 0} {g : Ghosts R} where
  -- a group that is up, of which nothing has changed
  abbrev pub StillSite : GroupSite R g → GroupSite R g → Type 0
  StillSite (Up old) (Up new) = (new.core ≡ old.core) × (new.shelf ≡ old.shelf)
  StillSite old new = ⊥

  -- A volume is made, which begins as zeros; else each volume has what it had. A refusal but 6 and 7 has changed nothing, nor has want of memory.
  abbrev pub VolBelow : Node → GroupNode → List ℕ → Shape → GroupSite R g → GroupSite R g → Result ℕ Stop → Type 0
  VolBelow n note name want old new (Ok vol) =
      (next : GroupNode) × NoteSettles note next × UpNoted (with_note (note_tidied (note_added vol want.blocks next)) n) (note_tidied (note_added vol want.blocks next)) new
      × ConfigGoes (VolumeAdded name want vol (site_disks old) (site_disks new)) note next old new
  VolBelow n note name want old new (Err (Refused why)) =
      CalledBelow {T = ℕ} false (λ c d. ⊥) (LosesSome (site_disks old) (site_disks new)) (LosesSome (site_disks old) (site_disks new)) (LacksVolume old name want) n note old new (Err (Refused why))
  VolBelow n note name want old new (Err OutOfMemory) = UpNoted n note new

  -- the site stands in the world in which it stood
  pub record StandsAgain (old new : OverSet R g) : Type 0 where
    pub same : (beside : KeptBeside) (n : Node) → SiteStands beside n (Over old) → n.state ≡ IsUp → SiteStands beside n (Over new)

  -- of a site: what stood over the group stands, or the site crashed; for want of memory it stands in the same world
  pub record VolsBelow (name : List ℕ) (want : Shape) (r : Result ℕ Stop) (old new : OverSet R g) : Type 0 where
    pub made : (n : Node) (note : GroupNode) → UpNoted n note (site_in old) → VolBelow n note name want (site_in old) (site_in new) r
    pub maps : (n : Node) (note : GroupNode) → UpNoted n note (site_in old) → AddedMapped (site_in old) (site_in new) r
    pub refused : (n : Node) (note : GroupNode) (no : No) → UpNoted n note (site_in old) → refuses_volume (site_in old) name want ≡ Some no → r ≡ Err (Refused no)
    pub volume : (n : Node) (note : GroupNode) → UpNoted n note (site_in old) → IfOk r (λ vol. VolumeIn name want vol (site_in old) (site_in new))
    pub cut : new.cut ≡ old.cut
    pub kept : KeepsOver old new
    pub still : IsUnmoved r (StandsAgain old new)
    pub disks : IsUnmoved r ((site_disks (site_in new)).disks ≡ (site_disks (site_in old)).disks)
