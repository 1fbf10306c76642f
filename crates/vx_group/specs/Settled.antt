-- Good disks of which the headers were written back, and those that failed and are held as failed since.
use Rattle.std.specs.Prelude.{◌≡◌, ℕ, ◌+◌, ◌<◌, Bool, true, false, IsTrue, List, length}
use Rattle.vx_disk.specs.Counts.{Rose}
use Rattle.vx_disk.specs.Shelf.{Meaning, Nothing}
use Rattle.vx_copyfmt.specs.Commits.{Tidy}
use Rattle.vx_config.specs.declared.config.Config.{Config}
use Rattle.vx_copies.specs.Bodies.{is_wanted}
use Rattle.vx_copies.specs.Commits.{HeldGood, MoreFailed}
use Rattle.vx_copies.specs.Looking.{on_shelf}
use Rattle.vx_kept.specs.Commits.{Member}
use Rattle.vx_kept.specs.Keeping.{Acts, Kept, Sees}

-- the same but for disks that are held as failed
pub record SameBut (c d : Config) : Type 0 where
  pub serial : d.serial ≡ c.serial
  pub site : d.site ≡ c.site
  pub volumes : d.volumes ≡ c.volumes
  pub rvg : d.rvg ≡ c.rvg
  pub count : length d.disks ≡ length c.disks

-- The disks below n that d holds as good are ready for the next commit. Where some failed, the count of this device rose. A crash leaves no more
-- than before.
pub record SettledTo (good : ℕ) (c d : Config) (n device : ℕ) (failed : Bool) (old new : Meaning) : Type 0 where
  pub kept : Kept c (Member good new) new
  pub acts : Acts Nothing (Sees c (Member good old) old) old new
  pub same : SameBut c d
  pub wanted : is_wanted old.units old.size d ≡ true
  pub tidy : (u : ℕ) → u < n → HeldGood d new u → Tidy (on_shelf new) (c.serial + 1) (new.leaves u)
  pub up : IsTrue new.down → ⊥
  pub rose : failed ≡ true → Rose (old.disk_faults device) (new.disk_faults device)
  pub none : failed ≡ false → d ≡ c
  pub failing : MoreFailed old new c.disks d.disks
  pub less : (u b : ℕ) (v : List ℕ) → new.leaves u b v → old.leaves u b v
