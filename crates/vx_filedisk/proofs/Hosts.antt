-- What the shelf within a rack did, the rack did.
use Rattle.std.proofs.Common.{◌≡◌, refl, sym, inl, ℕ, ◌≤◌, Option, None, Some, Result, Ok, Err, IfErr, arith}
use Rattle.vx_disk.specs.Causes.{OnDisks}
use Rattle.vx_disk.specs.Disks.{Crashed, Disks, SameBlocks, Untouched}
use Rattle.vx_disk.specs.Racks.{Fitted, SameContents, Unfitted}
use Rattle.vx_disk.specs.Shelf.{Goes, Meaning, Values}
use Rattle.vx_disk.proofs.Alikes.{picked_stable}
use Rattle.vx_model.specs.declared.errors.Stop.{Stop}
use Rattle.vx_filedisk.specs.declared.files.DiskFiles.{DiskFiles}
use Rattle.vx_filedisk.specs.Hosts.{AsMany, blank_disks, host_meaning, shown}

-- a call on a shelf in memory
module _ (c d : ℕ → ℕ) (a b : Meaning) where
  pub memory_Goes : (written : Values) → Goes written a b → ((u : ℕ) → c u ≤ d u) → Goes written (host_meaning None c a) (host_meaning None d b)
  memory_Goes written goes grew = record {
    units = goes.units;
    size = goes.size;
    tells = goes.tells;
    reads = goes.reads;
    leaves = goes.leaves;
    later = goes.later;
    since = goes.since;
    keeps = goes.keeps;
    faults = grew;
    disk_faults = grew;
    falls = goes.falls;
    unarmed = goes.unarmed;
    safe = goes.safe;
  }

-- the blocks of files look the same whatever was done
pub blank_SameBlocks : (o n : Disks) → SameBlocks (blank_disks o) (blank_disks n)
blank_SameBlocks o n = record { stable = λ u b. refl; latest = λ u b. refl; loose = λ u b. refl }

pub blank_Untouched : (o n : Disks) → Untouched o n → Untouched (blank_disks o) (blank_disks n)
blank_Untouched o n same = record { blocks = blank_SameBlocks o n; fuse = same.fuse }

pub blank_Crashed : (size sizes : ℕ → ℕ) (pick : ℕ) (o n : Disks) → Crashed size pick o n → Crashed sizes pick (blank_disks o) (blank_disks n)
blank_Crashed size sizes pick o n crashed = record {
  stable = λ u b. sym (picked_stable sizes (blank_disks o) pick u b refl);
  latest = λ u b. sym (picked_stable sizes (blank_disks o) pick u b refl);
  loose = λ u b. refl;
  fuse = crashed.fuse;
}

-- nothing was done to the disks
pub host_Untouched : (files : Option DiskFiles) (o n : Option Disks) → OnDisks o n Untouched → OnDisks (shown files o) (shown files n) Untouched
host_Untouched None o n same = same
host_Untouched (Some f) None None same = tt
host_Untouched (Some f) None (Some n) same = same
host_Untouched (Some f) (Some o) None same = same
host_Untouched (Some f) (Some o) (Some n) same = (blank_Untouched o n same.0, same.1)

-- contents that are the same in memory are so in files
pub host_SameContents : (files : Option DiskFiles) (c d : ℕ → ℕ) (a b : Meaning) → SameContents a b → SameContents (host_meaning files c a) (host_meaning files d b)
host_SameContents None c d a b same = record {
  units = same.units;
  size = same.size;
  tells = same.tells;
  moment = same.moment;
  reads = same.reads;
  still_reads = same.still_reads;
  leaves = same.leaves;
  still_leaves = same.still_leaves;
  now = same.now;
  still_now = same.still_now;
  since = same.since;
  keeps = same.keeps;
}
host_SameContents (Some f) c d a b same = record {
  units = same.units;
  size = λ u. refl;
  tells = refl;
  moment = same.moment;
  reads = λ u b v is. is;
  still_reads = λ u b v is. is;
  leaves = λ u b v is. is;
  still_leaves = λ u b v is. is;
  now = λ i is. is;
  still_now = λ i is. is;
  since = λ t i is. is;
  keeps = λ t i is. is;
}

-- a crash is one of the rack
pub host_Crashed : (files : Option DiskFiles) (c : ℕ → ℕ) (a : Meaning) (pick : ℕ) (o n : Option Disks) → OnDisks o n (Crashed a.size pick)
    → OnDisks (shown files o) (shown files n) (Crashed (host_meaning files c a).size pick)
host_Crashed None c a pick o n crashed = crashed
host_Crashed (Some f) c a pick None None crashed = tt
host_Crashed (Some f) c a pick None (Some n) crashed = crashed
host_Crashed (Some f) c a pick (Some o) None crashed = crashed
host_Crashed (Some f) c a pick (Some o) (Some n) crashed = (blank_Crashed a.size (λ u. f.blocks) pick o n crashed.0, crashed.1)

-- a rack that is not fitted is one in memory
pub bare_None : (files : Option DiskFiles) (m : Meaning) → AsMany files m → m.units ≡ 0 → files ≡ None
bare_None None m many bare = refl
bare_None (Some f) m many bare = absurd (omega (arith, (many f refl).1, bare))

-- and a fit of one in memory
pub memory_Fitted : (c : ℕ → ℕ) (a b : Meaning) (disks blocks : ℕ) → Fitted disks blocks a b → Fitted disks blocks (host_meaning None c a) (host_meaning None c b)
memory_Fitted c a b disks blocks fitted = record {
  units = fitted.units;
  size = fitted.size;
  zero_reads = fitted.zero_reads;
  zeroed = fitted.zeroed;
  later = fitted.later;
  since = fitted.since;
  faults = λ u. omega arith;
  disk_faults = λ u. omega arith;
  up = fitted.up;
  armed = fitted.armed;
  told = fitted.told;
}

-- where a fit stopped and no count rose
pub host_Unfitted : (files : Option DiskFiles) (c : ℕ → ℕ) (a b : Meaning) (stop other : Stop) → Unfitted a b stop → Unfitted (host_meaning files c a) (host_meaning files c b) other
host_Unfitted files c a b stop other bare = record {
  contents = host_SameContents files c c a b bare.contents;
  counts = λ d. inl refl;
  fell_not = λ d. omega arith;
  down = bare.down;
  armed = bare.armed;
  told = host_Untouched files _ _ bare.told;
}

-- the same of an answer, and of one that names another cause
pub same_err : {T : Type 0} (files : Option DiskFiles) (c : ℕ → ℕ) (a b : Meaning) (r : Result T Stop) → IfErr r (Unfitted a b) → IfErr r (Unfitted (host_meaning files c a) (host_meaning files c b))
same_err files c a b (Ok x) bare = tt
same_err files c a b (Err stop) bare = host_Unfitted files c a b stop stop bare

pub any_err : {T : Type 0} (files : Option DiskFiles) (c : ℕ → ℕ) (a b : Meaning) (stop : Stop) (r : Result T Stop) → Unfitted a b stop → IfErr r (Unfitted (host_meaning files c a) (host_meaning files c b))
any_err files c a b stop (Ok x) bare = tt
any_err files c a b stop (Err other) bare = host_Unfitted files c a b stop other bare
