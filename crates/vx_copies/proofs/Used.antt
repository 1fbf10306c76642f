-- How many serials and device calls tries used.
use Rattle.std.proofs.Common.{◌≡◌, ℕ, ◌+◌, ◌≤◌, List, ap, subst, arith}
use Rattle.vx_disk.specs.Burns.{MakesCalls}
use Rattle.vx_disk.specs.Shelf.{Meaning}
use Rattle.vx_disk.proofs.Burning.{then_calls}
use Rattle.vx_config.specs.declared.config.Config.{Config}
use Rattle.vx_config.specs.declared.entry.DiskEntry.{DiskEntry}
use Rattle.vx_copies.specs.Commits.{IsFew}
use Rattle.vx_copies.specs.Marks.{good_count}

-- one try more that was done
pub few_done : (a c d : Config) → c.serial + good_count c.disks ≤ a.serial + 0 + good_count a.disks → d.serial ≡ c.serial + 1 → d.disks ≡ c.disks → IsFew 1 a d
few_done a c d few next same =
    let count : good_count d.disks ≡ good_count c.disks = ap (λ (ds : List DiskEntry). good_count ds) same in
    omega (arith, few, next, count)

-- behind no call
pub none_then : (n : ℕ) (old mid new : Meaning) → MakesCalls 0 old mid → MakesCalls n mid new → MakesCalls n old new
none_then n old mid new none calls = let sum : 0 + n ≡ n = omega arith in subst (λ (k : ℕ). MakesCalls k old new) sum (then_calls 0 n old mid new none calls)
