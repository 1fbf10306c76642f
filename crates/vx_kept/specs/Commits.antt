-- What a group's commit leaves.
use Rattle.std.specs.Prelude.{◌≡◌, ℕ, ◌<◌, ◌≤◌, true, Result, Ok, Err}
use Rattle.vx_disk.specs.Blocks.{bit_at}
use Rattle.vx_disk.specs.Shelf.{Each, Image, Meaning}
use Rattle.vx_model.specs.declared.no.No.{No}
use Rattle.vx_config.specs.declared.config.Config.{Config}
use Rattle.vx_copyfmt.specs.Imports.{Found}
use Rattle.vx_copies.specs.Answers.{good_set}
use Rattle.vx_copies.specs.Commits.{CommitStops, Grown, IsFew}
use Rattle.vx_copies.specs.Marks.{HasGood}
use Rattle.vx_kept.specs.Groups.{found}
use Rattle.vx_kept.specs.Keeping.{AllOn, Extends, IsTidy, Kept}

-- a disk of a set, by its bit
pub record Member (good : ℕ) (m : Meaning) (u : ℕ) : Type 0 where
  pub below : u < m.units
  pub is : bit_at good u ≡ true

-- each image that a crash may leave has this configuration
pub record IsCommitted (c : Config) (m : Meaning) : Type 0 where
  pub finds : (i : Image) → Each m.leaves i → found m i ≡ Found c

-- memory has d, which the disks keep and are ready for, and each image has, where all disks can be read; the set is now that of its good disks;
-- each serial but one cost a good disk
pub record Taken (c a d : Config) (old new : Meaning) : Type 0 where
  pub later : a.serial < d.serial
  pub few : IsFew 1 a d
  pub finds : (i : Image) → Each new.leaves i → found new i ≡ Found d
  pub kept : Kept d (Member (good_set d.disks) new) new
  pub tidy : IsTidy d new
  pub shape : Extends d c
  pub grown : Grown old new a d
  pub some : HasGood d.disks (good_set d.disks)

-- memory has what it had, but for the serial, which does not fall, and the disks keep that
pub record Left (good : ℕ) (c a d : Config) (old new : Meaning) (why : No) : Type 0 where
  pub kept : Kept d (Member good new) new
  pub site : d.site ≡ c.site
  pub rvg : d.rvg ≡ c.rvg
  pub volumes : d.volumes ≡ c.volumes
  pub disks : d.disks ≡ c.disks
  pub later : c.serial ≤ d.serial
  pub cause : CommitStops good a d.serial old new why

-- how a commit ends
abbrev pub TakeEnds : {T : Type 0} → ℕ → Config → Config → Config → Meaning → Meaning → Result T No → Type 0
TakeEnds good c a d old new (Ok x) = Taken c a d old new
TakeEnds good c a d old new (Err why) = Left good c a d old new why

-- how the first one ends
abbrev pub FirstEnds : {T : Type 0} → ℕ → Config → Config → Meaning → Meaning → Result T No → Type 0
FirstEnds good c d old new (Ok x) = Taken c c d old new × AllOn d
FirstEnds good c d old new (Err why) = CommitStops good c d.serial old new why

-- the configuration c in memory stands under the serial of d, which was to be committed; d has what it had beside
pub record MissedCommit (good : ℕ) (c a d : Config) (old new : Meaning) (why : No) : Type 0 where
  pub kept : Kept (record { serial = d.serial; site = c.site; disks = c.disks; volumes = c.volumes; rvg = c.rvg }) (Member good new) new
  pub volumes : d.volumes ≡ a.volumes
  pub disks : d.disks ≡ a.disks
  pub later : c.serial ≤ d.serial
  pub cause : CommitStops good a d.serial old new why

-- how the commit of another configuration ends
abbrev pub NextEnds : {T : Type 0} → ℕ → Config → Config → Config → Meaning → Meaning → Result T No → Type 0
NextEnds good c a d old new (Ok x) = Taken c a d old new
NextEnds good c a d old new (Err why) = MissedCommit good c a d old new why
