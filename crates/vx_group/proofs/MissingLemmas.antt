-- The mark of a commit that is missed, which is set again where none was done.
use Rattle.std.proofs.Common.{◌≡◌, inl, inr, ℕ, Bool, true, false, Option}
use Rattle.vx_disk.specs.Shelf.{Meaning}
use Rattle.vx_fmr.specs.Missed.{Missed}
use Rattle.vx_group.specs.Attaches.{Attaches}
use Rattle.vx_group.specs.Finds.{CoreFinds, MissesOpenly}
use Rattle.vx_group.specs.Makes.{StayAsWere}
use Rattle.vx_group.specs.Stands.{InnerStands}
use Rattle.vx_group.specs.declared.inner.Inner.{Inner}

abbrev pub with_mark : Inner → Bool → Inner
with_mark core b = record { config = core.config; good = core.good; room = core.room; unsettled = b; committed = core.committed; agreed = core.agreed; next = core.next; faults = core.faults; unsure = core.unsure }

-- what stands says no more of headers
pub mark_Stands : (core : Inner) (b : Bool) (m : Meaning) → (b ≡ false → core.unsettled ≡ false) → InnerStands core m → InnerStands (with_mark core b) m
mark_Stands core b m settled s = record {
  wanted = s.wanted;
  serial = s.serial;
  disks = s.disks;
  rvg = s.rvg;
  few = s.few;
  small = s.small;
  large = s.large;
  on = s.on;
  some = s.some;
  kept = s.kept;
  tidy = λ off. s.tidy (settled off);
  trusts = s.trusts;
}

pub mark_attaches : (v p : ℕ) (f : Option Missed) (c d : Inner) (b : Bool) (m m' : Meaning) → Attaches v p f c d m m' → Attaches v p f c (with_mark d b) m m'
mark_attaches v p f c d b m m' it = record { goes = it.goes; acts = it.acts; shape = it.shape; others = it.others; parts = it.parts; faults = it.faults; unsure = it.unsure }

pub mark_stay : (c d : Inner) (b : Bool) (m m' : Meaning) → StayAsWere c d m m' → StayAsWere c (with_mark d b) m m'
mark_stay c d b m m' it = record { goes = it.goes; shape = it.shape; on = it.on; faults = it.faults; unsure = it.unsure }

-- a commit that is missed is none that is said to be made
pub mark_finds : (c d : Inner) (b : Bool) (m m' : Meaning) → CoreFinds c d m m' → (MissesOpenly c → b ≡ true → d.committed ≡ false) → CoreFinds c (with_mark d b) m m'
mark_finds c d b m m' it off = record {
  begun = it.begun;
  finds = it.finds;
  openly = off;
  sure = λ was is. elim (it.sure was is) [
    | inl newest ↦ inl newest
    | inr still ↦ inr (record { was = still.was; same = still.same; finds = still.finds })
  ];
}
