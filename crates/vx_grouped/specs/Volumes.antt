-- What a call on the group of a site makes of its volumes, all of their blocks together.
use Rattle.std.specs.Prelude.{◌≡◌, ◌⊎◌, ℕ, ◌<◌, ◌≤◌, IsFalse, IsTrue, List, Some}
use Rattle.vx_disk.specs.Moves.{Blocks}
use Rattle.vx_disk.specs.Racks.{Stopped}
use Rattle.vx_disk.specs.Shelf.{Meaning}
use Rattle.vx_disk.specs.declared.shelf.Shelf.{Ghosts}
use Rattle.vx_group.specs.Deports.{DeportedBy}
use Rattle.vx_group.specs.Holding.{wide}
use Rattle.vx_group.specs.Stands.{inner_meaning}
use Rattle.vx_grouped.specs.GroupSites.{idle_disks, laid_disks}
use Rattle.vx_grouped.specs.declared.group_site.GroupSite.{GroupSite}
use Rattle.vx_grouped.specs.declared.group_site.GroupSite.TheVariants.{Up, Deported, Down}
use Rattle.vx_grouped.specs.declared.idle.Idle.{Idle}
use Rattle.vx_grouped.specs.declared.laid.Laid.{Laid}
use Rattle.vx_logimport.specs.declared.rested.Rested.{Rested}
use Rattle.vx_group.specs.Settles.{LacksCommit}

-- Volumes may have been made; in those that were there no block changed but these.
pub record VolumesGo (mine : Blocks) (old new : Meaning) : Type 0 where
  pub units : old.units ≤ new.units
  pub size : (u : ℕ) → u < old.units → new.size u ≡ old.size u
  pub tells : new.tells ≡ old.tells
  pub reads : (u b : ℕ) (v : List ℕ) → u < old.units → new.reads u b v → old.reads u b v ⊎ mine u b ⊎ IsTrue new.down
  pub leaves : (u b : ℕ) (v : List ℕ) → u < old.units → new.leaves u b v → old.leaves u b v ⊎ mine u b
  pub falls : IsTrue old.down → IsTrue new.down
  pub unarmed : IsFalse old.armed → IsFalse new.armed

module _ {R : Type 0} {g : Ghosts R} where
  -- the volumes of a group that is up
  abbrev pub laid_seen : Laid R g → Meaning
  laid_seen laid = inner_meaning (wide laid.core) (laid_disks laid)

  -- the call was made, and then the disks crashed
  pub record FellBehind (mine : Blocks) (old : Laid R g) (idle : Idle R g) : Type 0 where
    pub mid : Laid R g
    pub goes : VolumesGo mine (laid_seen old) (laid_seen mid)
    pub stopped : Stopped (laid_disks mid) (idle_disks idle)
    pub agreed : idle.agreed ≡ mid.core.inner.agreed
    pub lacking : (r : Rested) → idle.rested ≡ Some r → LacksCommit mid.core.inner → ⊥

  -- a group that was deported
  abbrev pub SiteCloses : GroupSite R g → GroupSite R g → Type 0
  SiteCloses (Up old) (Deported idle) = DeportedBy (wide old.core).config old.core.inner (laid_disks old) (idle_disks idle)
  SiteCloses old new = Unit {0}

  -- of a group that was up, which may be down behind it
  abbrev pub SiteGoes : Blocks → GroupSite R g → GroupSite R g → Type 0
  SiteGoes mine (Up old) (Up new) = VolumesGo mine (laid_seen old) (laid_seen new)
  SiteGoes mine (Up old) (Down idle) = FellBehind mine old idle
  SiteGoes mine (Up old) (Deported idle) = Unit {0}
  SiteGoes mine (Up old) other = ⊥
  SiteGoes mine old new = new ≡ old

  -- one that was up is down, and another is as it was
  abbrev pub GoesOff : GroupSite R g → GroupSite R g → Type 0
  GoesOff (Up old) (Down idle) = Unit {0}
  GoesOff (Up old) other = ⊥
  GoesOff old new = new ≡ old
