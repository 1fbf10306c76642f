-- What a call on a group over any shelf makes of its configuration.
use Rattle.std.specs.Prelude.{◌≡◌, ℕ, Bool, true, false, length, Result, Ok, Err}
use Rattle.vx_disk.specs.Counts.{Rose}
use Rattle.vx_disk.specs.Shelf.{Goes, Meaning, Nothing}
use Rattle.vx_model.specs.declared.errors.Stop.{Stop}
use Rattle.vx_config.specs.Checks.{is_sound}
use Rattle.vx_config.specs.declared.config.Config.{Config}
use Rattle.vx_copies.specs.Marks.{blocks_at, failed_at}
use Rattle.vx_kept.specs.Keeping.{AllOn, frame_at}
use Rattle.vx_group.specs.Deports.{DeportedBy}
use Rattle.vx_group.specs.Holding.{wide}
use Rattle.vx_group.specs.Stands.{inner_meaning}
use Rattle.vx_group.specs.Loses.{LosesPlexes, SameParts}
use Rattle.vx_group.specs.Resumes.{CanImport}
use Rattle.vx_group.specs.declared.group_core.GroupCore.{GroupCore}

-- of both each plex that takes part is ACTIVE; the first is checked, and has so many disks
pub record BothOn (c d : Config) (units : ℕ) : Type 0 where
  pub was : AllOn c
  pub now : AllOn d
  pub sound : is_sound c ≡ true
  pub count : length c.disks ≡ units

-- The same volumes but for the states of their plexes, and the same disks: one is newly held as failed only where a call on it failed, and held as good
-- again only where this says so.
pub record CoreMoves (again : ℕ → Bool) (c d : Config) (old new : Meaning) : Type 0 where
  pub parts : SameParts c d
  pub frames : (v : ℕ) → frame_at d v ≡ frame_at c v
  pub on : BothOn c d old.units
  pub blocks : (u : ℕ) → blocks_at d.disks u ≡ blocks_at c.disks u
  pub blamed : (u : ℕ) → failed_at c.disks u ≡ false → failed_at d.disks u ≡ true → Rose (old.faults u) (new.faults u)
  pub stays : (u : ℕ) → again u ≡ false → failed_at c.disks u ≡ true → failed_at d.disks u ≡ true

-- what was handed out may be imported, where the newest configuration was committed
abbrev pub DeportCan : {S G : Type 0} → GroupCore → (S → Meaning) → Result S (G × Stop) → Type 0
DeportCan c meaning (Ok s) = c.inner.committed ≡ true → CanImport (meaning s)
DeportCan c meaning (Err e) = Unit {0}

-- the group that is given back has lost plexes alone, and imports agree where its newest configuration was committed
pub record BackMoves (c d : GroupCore) (old new : Meaning) : Type 0 where
  pub goes : Goes Nothing (inner_meaning (wide c) old) (inner_meaning (wide d) new)
  pub loses : LosesPlexes c.inner.config d.inner.config old new
  pub on : BothOn c.inner.config d.inner.config old.units
  pub agrees : c.inner.committed ≡ true → d.inner.agreed ≡ true

-- a deport: its plexes stopped cleanly; or the group is given back
abbrev pub DeportMoves : {S G : Type 0} → GroupCore → Meaning → (S → Meaning) → (G → GroupCore) → (G → Meaning) → Result S (G × Stop) → Type 0
DeportMoves c old meaning core back (Ok s) = DeportedBy (wide c).config c.inner old (meaning s)
DeportMoves c old meaning core back (Err (g, stop)) = BackMoves c (core g) old (back g)
