-- What a call asked of the rack of a site.
use Rattle.std.proofs.Common.{◌≡◌, ℕ, sym, subst}
use Rattle.std.specs.Prelude.{Option, Some}
use Rattle.vx_disk.specs.Causes.{OnDisks}
use Rattle.vx_disk.specs.Disks.{Disks, Crashed, SameBlocks}
use Rattle.vx_disk.specs.declared.shelf.Shelf.{Ghosts}
use Rattle.vx_rvg.specs.declared.group.Rvg.{Rvg}
use Rattle.vx_diskset.specs.Asked.{CrashesBy, disks_told}
use Rattle.vx_diskset.specs.declared.disk_set.DiskSet.{DiskSet}
use Rattle.vx_diskset.specs.declared.disk_set.DiskSet.TheVariants.{Up, Down}

module _ {R : Type 0} {g : Ghosts R} where
  -- the shelf of a group that crashed
  pub crash_did : (e : DiskSet R g) (rvg : Rvg R g) (shelf new : R) (pick : ℕ) → e ≡ Up rvg → shelf ≡ rvg.shelf
      → OnDisks (g.meaning shelf).disks (g.meaning new).disks (Crashed (g.meaning shelf).size pick) → CrashesBy pick e (Down new)
  crash_did e rvg shelf new pick is same did =
      subst (λ (x : DiskSet R g). CrashesBy pick x (Down new)) (sym is)
      (subst (λ (r : R). OnDisks (g.meaning r).disks (g.meaning new).disks (Crashed (g.meaning r).size pick)) same did)

  -- what is told of the shelf of a group is told of its disk set
  pub fuse_did : (e : DiskSet R g) (rvg : Rvg R g) (new : Option Disks) (calls pick : ℕ) → e ≡ Up rvg → OnDisks (g.meaning rvg.shelf).disks new (λ o n. SameBlocks o n × (n.fuse ≡ Some (calls, pick)))
      → OnDisks (disks_told e) new (λ o n. SameBlocks o n × (n.fuse ≡ Some (calls, pick)))
  fuse_did e rvg new calls pick is did = subst (λ (x : DiskSet R g). OnDisks (disks_told x) new (λ o n. SameBlocks o n × (n.fuse ≡ Some (calls, pick)))) (sym is) did
