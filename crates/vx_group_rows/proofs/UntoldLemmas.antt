-- A group may always be imported from a shelf that tells nothing, as no crash of it leaves an image.
use Rattle.std.proofs.Common.{◌≡◌, ℕ, List}
use Rattle.vx_disk.specs.Shelf.{Meaning}
use Rattle.vx_copyfmt.specs.Copies.{area_a}
use Rattle.vx_copies.proofs.OneTry.{wanted_same}
use Rattle.vx_group.specs.Holding.{GroupStands, wide}
use Rattle.vx_group.specs.Resumes.{CanImport}
use Rattle.vx_group.specs.Stands.{InnerStands}
use Rattle.vx_group.specs.declared.group_core.GroupCore.{GroupCore}
use Rattle.vx_group.specs.declared.inner.Inner.{Inner}
use Rattle.vx_group.proofs.Standing.{still_large}

pub untold_can : (m : Meaning) → ((u b : ℕ) (v : List ℕ) → m.leaves u b v → ⊥) → CanImport m
untold_can m none = record {
  base = λ i x each is. absurd (none 0 0 (i 0 0) (each 0 0));
  one = λ i j R x each_i each_j is. absurd (none 0 0 (i 0 0) (each_i 0 0));
  plain = λ i R x each is. absurd (none 0 0 (i 0 0) (each 0 0));
}

-- what a group goes by stands on one where it stood on one of the same units
inner_stands : (core : Inner) (m m' : Meaning) → ((u b : ℕ) (v : List ℕ) → m'.leaves u b v → ⊥) → m'.units ≡ m.units → ((u : ℕ) → m'.size u ≡ m.size u) → InnerStands core m → InnerStands core m'
inner_stands core m m' none units size stands = record {
  wanted = wanted_same m m' core.config units size stands.wanted;
  serial = stands.serial;
  disks = stands.disks;
  rvg = stands.rvg;
  few = stands.few;
  small = stands.small;
  large = still_large m m' units size stands.large;
  on = stands.on;
  some = stands.some;
  kept = record {
    below = record { each = λ u lt b v h is left head. absurd (none u b v left) };
    counts = λ u d a h lt is among top. absurd (none u 0 (d 0) (among 0));
    labels = record { each = λ u v lt left. absurd (none u 0 v left) };
    finds = λ i each. absurd (none 0 0 (i 0 0) (each 0 0));
    kin = λ i x each is. absurd (none 0 0 (i 0 0) (each 0 0));
    others = λ i R g x each held in_it is. absurd (none 0 0 (i 0 0) (each 0 0));
  };
  tidy = λ is. record { goes = λ u v w x y held in_v in_w in_x in_y. absurd (none u area_a v in_v) };
  trusts = record {
    both = stands.trusts.both;
    agree = λ is i R x y each in_all in_some. absurd (none 0 0 (i 0 0) (each 0 0));
    plain = λ is i R x each in_all. absurd (none 0 0 (i 0 0) (each 0 0));
    one = λ is i j x y left_i left_j in_i in_j. absurd (none 0 0 (i 0 0) (left_i 0 0));
    members = λ is i x u each in_all lt bit. absurd (none 0 0 (i 0 0) (each 0 0));
  };
}

-- and so does a group
pub untold_stands : (core : GroupCore) (m m' : Meaning) → ((u b : ℕ) (v : List ℕ) → m'.leaves u b v → ⊥) → m'.units ≡ m.units → ((u : ℕ) → m'.size u ≡ m.size u) → GroupStands core m → GroupStands core m'
untold_stands core m m' none units size it = record { stands = inner_stands (wide core) m m' none units size it.stands; held = it.held }
