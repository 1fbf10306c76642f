-- Which configurations images have behind calls of a group, and whether each has the one in memory.
use Rattle.std.specs.Prelude.{◌≡◌, ◌⊎◌, ℕ, Bool, true, false, List, None, Result, Ok, Err}
use Rattle.vx_disk.specs.declared.shelf.ShelfError.{ShelfError}
use Rattle.vx_disk.specs.Shelf.{Meaning}
use Rattle.vx_model.specs.declared.errors.Stop.{Stop}
use Rattle.vx_config.specs.declared.config.Config.{Config}
use Rattle.vx_kept.specs.Cleans.{at_serial, is_unsure}
use Rattle.vx_kept.specs.Finds.{AllAtOnce, FindsFrom, IsTryAmong, NoConfiguration}
use Rattle.vx_group.specs.Holding.{wide}
use Rattle.vx_group.specs.Settles.{CoreSettles}
use Rattle.vx_group.specs.declared.group_core.GroupCore.{GroupCore}
use Rattle.vx_group.specs.declared.inner.Inner.{Inner}

-- the newest configuration is not said to be committed while a commit is missed
abbrev pub MissesOpenly : Inner → Type 0
MissesOpenly c = c.unsettled ≡ true → c.committed ≡ false

-- the newest configuration was committed and is the same in memory, and no image has another one than one had
pub record FindsStill (c d : Inner) (old new : Meaning) : Type 0 where
  pub was : c.committed ≡ true
  pub same : at_serial 0 d.config ≡ at_serial 0 c.config
  pub finds : FindsFrom NoConfiguration old new

-- Each image has a configuration that one had before, or one that a commit in the call may have begun. Where the newest one is committed, each has
-- the one in memory, or all is as it was.
pub record CoreFinds (c d : Inner) (old new : Meaning) : Type 0 where
  pub begun : List Config
  pub finds : FindsFrom (IsTryAmong begun) old new
  pub openly : MissesOpenly c → MissesOpenly d
  pub sure : MissesOpenly c → d.committed ≡ true → AllAtOnce d.config new ⊎ FindsStill c d old new

-- the same of a call that ends with a commit, whatever was in memory before
pub record CoreEnds (d : Inner) (old new : Meaning) : Type 0 where
  pub begun : List Config
  pub finds : FindsFrom (IsTryAmong begun) old new
  pub openly : MissesOpenly d
  pub newest : d.committed ≡ true → AllAtOnce d.config new

-- the headers could not be written back: memory has what it had, and so have images
pub record HeadersMissed (c d : Inner) (old new : Meaning) : Type 0 where
  pub config : d.config ≡ c.config
  pub committed : d.committed ≡ c.committed
  pub unsettled : d.unsettled ≡ true
  pub finds : FindsFrom NoConfiguration old new

-- headers are written back, and then a commit is made or refused
abbrev pub Recommits : {T : Type 0} → Inner → Inner → Meaning → Meaning → Result T ShelfError → Type 0
Recommits c d old new (Ok x) = CoreEnds d old new
Recommits c d old new (Err error) = HeadersMissed c d old new ⊎ CoreEnds d old new

-- each volume that is unsure is so still
abbrev pub MoreUnsure : List Bool → List Bool → Type 0
MoreUnsure old new = (v : ℕ) → is_unsure new v ≡ false → is_unsure old v ≡ false

-- the same of a whole group, as the disks may keep it, with what images say of volumes that stopped cleanly; and no plex is held back where none was
pub record GroupFinds (c d : GroupCore) (old new : Meaning) : Type 0 where
  pub core : CoreFinds (wide c) (wide d) old new
  pub settles : CoreSettles (wide c) (wide d) old new
  pub unsure : MoreUnsure c.inner.unsure d.inner.unsure
  pub free : c.held ≡ None → d.held ≡ None

-- the configurations alone
pub record GroupImages (c d : GroupCore) (old new : Meaning) : Type 0 where
  pub core : CoreFinds (wide c) (wide d) old new
  pub free : c.held ≡ None → d.held ≡ None

-- the same of a group that is given back
abbrev pub BackFinds : {S G : Type 0} → GroupCore → Meaning → (G → GroupCore) → (G → Meaning) → Result S (G × Stop) → Type 0
BackFinds c old core meaning (Ok s) = Unit {0}
BackFinds c old core meaning (Err (g, stop)) = GroupImages c (core g) old (meaning g)
