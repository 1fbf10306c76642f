-- Whether images say of a volume that it stopped cleanly, and what a crash leaves of its plexes where one does.
use Rattle.std.specs.Prelude.{◌≡◌, ◌⊎◌, ℕ, ◌<◌, ◌≤◌, IsTrue, List, false, length, true}
use Rattle.vx_config.specs.Table.{greatest}
use Rattle.vx_config.specs.declared.config.Config.{Config}
use Rattle.vx_copyfmt.specs.Imports.{Found}
use Rattle.vx_disk.specs.Shelf.{Each, Image, Meaning}
use Rattle.vx_kept.specs.Choice.{live}
use Rattle.vx_kept.specs.Cleans.{NoneClean, is_unsure}
use Rattle.vx_kept.specs.Groups.{OnSome, found}
use Rattle.vx_layout.specs.Places.{place}
use Rattle.vx_volume.specs.Plexes.{Inside}
use Rattle.vx_group.specs.declared.inner.Inner.{Inner}

-- by a configuration: plexes that take part have one value in each block
pub record LivesAgree (x : Config) (v : ℕ) (m : Meaning) : Type 0 where
  pub so : (p q b : ℕ) (y z : List ℕ) → Inside x v b → IsTrue (live x v p) → IsTrue (live x v q)
      → m.leaves (place x v p b).0 (place x v p b).1 y → m.leaves (place x v q b).0 (place x v q b).1 z → y ≡ z

-- by no configuration of an image a plex of the volume is CLEAN
pub record FindsNoneClean (v : ℕ) (m : Meaning) : Type 0 where
  pub each : (i : Image) (x : Config) → Each m.leaves i → found m i ≡ Found x → NoneClean x v

-- where one is, the plexes of the volume that take part have one value in each block
pub record FindsAlike (v : ℕ) (m : Meaning) : Type 0 where
  pub each : (i : Image) (x : Config) → Each m.leaves i → found m i ≡ Found x → NoneClean x v ⊎ LivesAgree x v m

-- So it is of each volume of a group; and while the disks are up and no commit is missed none has a plex that is CLEAN.
pub record CleanSettled (c : Inner) (m : Meaning) : Type 0 where
  pub alike : (v : ℕ) → FindsAlike v m
  pub none : (IsTrue m.down → ⊥) → c.unsettled ≡ false → (v : ℕ) → FindsNoneClean v m

-- a commit is missed, and no serial is left to make up for it: writes go to plexes without it
pub record LacksCommit (c : Inner) : Type 0 where
  pub missed : c.unsettled ≡ true
  pub spent : greatest ≤ c.config.serial

-- what a group keeps of that, unless it lacks a commit
abbrev pub CleansTold : Inner → Meaning → Type 0
CleansTold c m = LacksCommit c ⊎ CleanSettled c m

-- a call keeps it
pub record CoreSettles (c d : Inner) (old new : Meaning) : Type 0 where
  pub keeps : CleansTold c old → CleansTold d new

-- a call that ends with a commit, done or refused, brings it about
pub record EndsSettled (d : Inner) (old new : Meaning) : Type 0 where
  pub ends : ((v : ℕ) → FindsAlike v old) → CleanSettled d new

-- a call keeps it of a group that does not lack a commit
pub record KeepsSettled (c d : Inner) (old new : Meaning) : Type 0 where
  pub keeps : CleanSettled c old → CleanSettled d new

-- a call keeps that the plexes of each volume are alike where one is CLEAN
pub record KeepsAlike (old new : Meaning) : Type 0 where
  pub alike : ((v : ℕ) → FindsAlike v old) → (v : ℕ) → FindsAlike v new

-- each block of a volume reads as one value on all plexes that are ACTIVE
pub record ReadsOne (c : Config) (v : ℕ) (m : Meaning) : Type 0 where
  pub one : (b : ℕ) (x y : List ℕ) → OnSome c m.reads v b x → OnSome c m.reads v b y → x ≡ y

-- so it is of each volume of which no write and no flush failed
pub record ReadsSure (c : Inner) (m : Meaning) : Type 0 where
  pub each : (v : ℕ) → v < length c.config.volumes → is_unsure c.unsure v ≡ false → ReadsOne c.config v m

-- of each such volume a crash leaves one value in each block of all plexes that take part
pub record LeavesSure (c : Inner) (m : Meaning) : Type 0 where
  pub each : (v : ℕ) → v < length c.config.volumes → is_unsure c.unsure v ≡ false → LivesAgree c.config v m

-- a commit by which such plexes are CLEAN is refused
pub record ClosesSettled (c d : Inner) (old new : Meaning) : Type 0 where
  pub closes : LeavesSure c old → ((v : ℕ) → FindsAlike v old) → CleanSettled d new
