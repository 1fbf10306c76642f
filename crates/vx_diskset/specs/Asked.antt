-- What a call asks of the rack of a site: a disk, a number of calls or a pick, as the rack itself takes them. Other calls make no disk fail,
-- and one that writes crashes the disks only where their fuse has no call left.
use Rattle.std.specs.Prelude.{◌≡◌, ◌≢◌, ◌⊎◌, ℕ, ◌<◌, ◌≤◌, ltb, if◌then◌else◌, List, Bool, true, Option, Some, None}
use Rattle.vx_model.specs.Content.{blocks_in}
use Rattle.vx_model.specs.declared.no.No.TheVariants.{Down as IsOff}
use Rattle.vx_history.specs.World.{Node}
use Rattle.vx_disk.specs.Burns.{FewerLeft, RackIsShort}
use Rattle.vx_disk.specs.Causes.{OnDisks, WithDisks, Works}
use Rattle.vx_disk.specs.Disks.{Disks, Crashed, SameBlocks, Untouched, is_set}
use Rattle.vx_disk.specs.declared.shelf.Shelf.{Ghosts}
use Rattle.vx_rvg.specs.declared.group.Rvg.{Rvg}
use Rattle.vx_srl.specs.Views.{BodyFits, free_of}
use Rattle.vx_events.specs.declared.said.Said.{Said}
use Rattle.vx_events.specs.declared.said.Said.TheVariants.{Refused}
use Rattle.vx_diskset.specs.declared.disk_set.DiskSet.{DiskSet}
use Rattle.vx_diskset.specs.declared.disk_set.DiskSet.TheVariants.{Bare, Spoiled, Up, Receives, Down, OfGroup, Over, Gone}
use Rattle.vx_diskset.specs.Burning.{Burnt, IsLogged, NoMore}
use Rattle.vx_watched.specs.Since.{fuse_calls}
use Rattle.vx_grouped.specs.GroupSites.{site_disks}
use Rattle.vx_diskset.specs.Fuses.{LeftAs}
use Rattle.vx_diskset.specs.Aboves.{site_in}

-- the calls of a header that is written where a link comes to count more as stored
abbrev pub stored_calls : (old stored : ℕ) → ℕ
stored_calls old stored = if ltb old stored then 2 else 0

-- the calls of a line that was not refused so
abbrev pub TakesBy : ℕ → Said → Option Disks → Option Disks → Type 0
TakesBy calls (Refused why) old new = Unit {0}
TakesBy calls other old new = WithDisks old new (λ o n. FewerLeft calls o.fuse n.fuse)

-- a line that was answered 6 came under a fuse with fewer calls left than these
abbrev pub ShortBy : ℕ → Said → Option Disks → Type 0
ShortBy calls (Refused IsOff) old = RackIsShort calls old
ShortBy calls other old = Unit {0}

-- a line that was not refused and wrote a header came where the disk of the log is not made to fail
abbrev pub WorksBy : ℕ → Said → Option Disks → Type 0
WorksBy calls (Refused why) old = Unit {0}
WorksBy calls other old = 0 < calls → Works old 0

module _ {R : Type 0} {g : Ghosts R} where
  -- what is told of the disks of a disk set
  abbrev pub disks_told : DiskSet R g → Option Disks
  disks_told (Bare rack) = (g.meaning rack).disks
  disks_told (Spoiled rack) = (g.meaning rack).disks
  disks_told (Up rvg) = (g.meaning rvg.shelf).disks
  disks_told (Receives s) = (g.meaning s.rvg.shelf).disks
  disks_told (Down rack) = (g.meaning rack).disks
  disks_told (OfGroup s) = (site_disks s.site).disks
  disks_told (Over s) = (site_disks (site_in s)).disks
  disks_told Gone = None

  abbrev pub size_in : DiskSet R g → ℕ → ℕ
  size_in (Bare rack) = (g.meaning rack).size
  size_in (Spoiled rack) = (g.meaning rack).size
  size_in (Up rvg) = (g.meaning rvg.shelf).size
  size_in (Receives s) = (g.meaning s.rvg.shelf).size
  size_in (Down rack) = (g.meaning rack).size
  size_in (OfGroup s) = (site_disks s.site).size
  size_in (Over s) = (site_disks (site_in s)).size
  size_in Gone = λ u. 0

  -- Calls on a replicated volume group over a group of disks are accounted for in another way: one may make any number of device calls.
  abbrev pub IsRawSet : DiskSet R g → Type 0
  IsRawSet (Over s) = ⊥
  IsRawSet other = Unit {0}

  -- how many disks it has
  abbrev pub units_in : DiskSet R g → ℕ
  units_in (Bare rack) = (g.meaning rack).units
  units_in (Spoiled rack) = (g.meaning rack).units
  units_in (Up rvg) = (g.meaning rvg.shelf).units
  units_in (Receives s) = (g.meaning s.rvg.shelf).units
  units_in (Down rack) = (g.meaning rack).units
  units_in (OfGroup s) = (site_disks s.site).units
  units_in (Over s) = (site_disks (site_in s)).units
  units_in Gone = 0

  -- each later call on this disk fails, or no longer, and nothing else changed
  abbrev pub SetsDisk : (disk : ℕ) → (on : Bool) → DiskSet R g → DiskSet R g → Type 0
  SetsDisk disk on old new =
      WithDisks (disks_told old) (disks_told new) (λ o n. Untouched o n × (n.failing disk ≡ on) × ((u : ℕ) → u ≢ disk → n.failing u ≡ o.failing u))

  -- so many writes and flushes pass, and the next is a crash with this pick
  abbrev pub SetsFuse : (calls pick : ℕ) → DiskSet R g → DiskSet R g → Type 0
  SetsFuse calls pick old new = OnDisks (disks_told old) (disks_told new) (λ o n. SameBlocks o n × (n.fuse ≡ Some (calls, pick)))

  -- the disks crashed with this pick
  abbrev pub CrashesBy : (pick : ℕ) → DiskSet R g → DiskSet R g → Type 0
  CrashesBy pick old new = OnDisks (disks_told old) (disks_told new) (Crashed (size_in old) pick)

  -- each disk is made to fail or not as it was before
  pub record SameFailing (old new : DiskSet R g) : Type 0 where
    pub told : WithDisks (disks_told old) (disks_told new) (λ o n. (u : ℕ) → n.failing u ≡ o.failing u)

  -- the disks that lines made fail are made to fail
  pub record FailsAs (n : Node) (e : DiskSet R g) : Type 0 where
    pub told : (d : Disks) → disks_told e ≡ Some d → (u : ℕ) → n.failing u ≡ true → d.failing u ≡ true

  -- the fuse of its disks has no more calls left than the world knows of
  pub record FusedAs (n : Node) (e : DiskSet R g) : Type 0 where
    pub told : (d : Disks) → disks_told e ≡ Some d → LeftAs n.fuse d.fuse

  -- no block, no fuse and no disk that is made to fail changed
  pub record LeavesAlone (old new : DiskSet R g) : Type 0 where
    pub told : OnDisks (disks_told old) (disks_told new) Untouched
    pub sizes : (u : ℕ) → size_in new u ≡ size_in old u

  -- the disks crashed with this pick, or nothing was done to them
  pub record MayCrash (pick : ℕ) (old new : DiskSet R g) : Type 0 where
    pub told : OnDisks (disks_told old) (disks_told new) (λ o n. Crashed (size_in old) pick o n ⊎ Untouched o n)
    pub sizes : (u : ℕ) → size_in new u ≡ size_in old u

  -- the calls of a line that was answered so
  pub record LeavesFuse (P : Disks → Disks → Type 0) (said : Said) (old new : DiskSet R g) : Type 0 where
    pub told : OnDisks (disks_told old) (disks_told new) (Burnt P said (size_in old))
    pub sizes : (u : ℕ) → size_in new u ≡ size_in old u

  -- The calls of a line that writes headers, so many calls in all where it is done, and then the disk of the log works. One that is answered 6 came
  -- under a fuse that had fewer left.
  pub record HeadUnder (calls : ℕ) (said : Said) (old new : DiskSet R g) : Type 0 where
    pub burns : LeavesFuse NoMore said old new
    pub takes : TakesBy calls said (disks_told old) (disks_told new)
    pub short : ShortBy calls said (disks_told old)
    pub works : WorksBy calls said (disks_told old)

  -- A write of these bytes that is answered 6 where there is room at hand, and where its blocks do not pass the end of the ring, came under a
  -- fuse that had fewer than four calls left. It may be in any session, wherever the log begins.
  pub record CutsShort (bytes : List ℕ) (said : Said) (old : DiskSet R g) : Type 0 where
    pub short : (rvg : Rvg R g) → old ≡ Up rvg → blocks_in bytes < free_of rvg.core.log → BodyFits rvg.core.log bytes → said ≡ Refused IsOff → RackIsShort 4 (g.meaning rvg.shelf).disks

  -- the calls of a write of these bytes
  pub record WritesUnder (bytes : List ℕ) (said : Said) (old new : DiskSet R g) : Type 0 where
    pub burns : LeavesFuse IsLogged said old new
    pub cuts : CutsShort bytes said old

  -- The fuse of the disks is set where it was, with no more calls left, or it is not set any more.
  pub record FuseGoesOn (old new : DiskSet R g) : Type 0 where
    pub set : (o n : Disks) → disks_told old ≡ Some o → disks_told new ≡ Some n → is_set n.fuse ≡ true → is_set o.fuse ≡ true
    pub left : (o n : Disks) → disks_told old ≡ Some o → disks_told new ≡ Some n → is_set n.fuse ≡ true → fuse_calls n.fuse ≤ fuse_calls o.fuse
