-- A rack in memory or in files obeys the laws of a shelf and of a rack.
use Rattle.std.specs.Prelude.{refl, ℕ, false, Option, None, Some}
use Rattle.std.proofs.Common.{ap, arith, IsTrue}
use Rattle.vx_disk.specs.Memory.{meaning-IsRack, meaning-Lawful}
use Rattle.vx_disk.specs.Moments.{moments_of}
use Rattle.vx_disk.specs.Racks.{IsRack}
use Rattle.vx_disk.specs.Shelf.{Lawful, Meaning}
use Rattle.vx_filedisk.specs.declared.files.DiskFiles.{DiskFiles}
use Rattle.vx_filedisk.specs.declared.host.HostRack.{HostRack}
use Rattle.vx_filedisk.specs.Counting.{counts_of}
use Rattle.vx_filedisk.specs.Hosts.{blank_disks, host_meaning, shown}
use Rattle.vx_filedisk.specs.Meanings.{rack_meaning}

pub never : {A : Type 0} → IsTrue false → A
never is = cc

pub host-Lawful : (files : Option DiskFiles) (counts : ℕ → ℕ) (m : Meaning) → Lawful m → Lawful (host_meaning files counts m)
host-Lawful None counts m law = record {
  some = law.some;
  image = law.image;
  none = law.none;
  never = law.never;
  few = law.few;
  small = law.small;
  shown = law.shown;
  counts_now = law.counts_now;
  only_now = law.only_now;
  within = law.within;
}
host-Lawful (Some f) counts m law = record {
  some = λ tells u b. never tells;
  image = λ tells. never tells;
  none = λ not u b v left. left;
  never = λ not t i left. left;
  few = law.few;
  small = λ u. omega (arith, f.bounded);
  shown = λ u b v is. is;
  counts_now = λ t i le now. now;
  only_now = λ i left. left;
  within = λ i now. absurd now;
}

pub host-IsRack : (files : Option DiskFiles) (counts : ℕ → ℕ) (m : Meaning) → IsRack m → IsRack (host_meaning files counts m)
host-IsRack None counts m rack = record {
  told = rack.told;
  is = rack.is;
  counts = λ u. refl;
  armed = rack.armed;
  latest = rack.latest;
  stable = rack.stable;
  settled = rack.settled;
  at_rest = rack.at_rest;
}
host-IsRack (Some f) counts m rack = record {
  told = blank_disks rack.told;
  is = ap (λ o. shown (Some f) o) rack.is;
  counts = λ u. refl;
  armed = rack.armed;
  latest = λ tells down u b v is. never tells;
  stable = λ tells u b. never tells;
  settled = λ u b v not left. absurd left;
  at_rest = λ down u b v left. absurd left;
}

abbrev pub rack-Lawful : (h : HostRack) → Lawful (rack_meaning h)
rack-Lawful h =
    let m = h.memory.disks in
    host-Lawful h.files (counts_of h.counts) _ (meaning-Lawful m.units.items (moments_of m.past.value) m.down m.fuse m.few)

abbrev pub rack-IsRack : (h : HostRack) → IsRack (rack_meaning h)
rack-IsRack h =
    let m = h.memory.disks in
    host-IsRack h.files (counts_of h.counts) _ (meaning-IsRack m.units.items (moments_of m.past.value) m.down m.fuse m.at_rest)
