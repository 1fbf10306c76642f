-- The meaning of disks in memory: of each block a stable and a latest value, and what they were at earlier moments.
use Rattle.std.specs.Prelude.{refl, zero, suc, ◌≤◌, ◌^◌, ◌≡◌, ◌⊎◌, ℕ, ◌*◌, ◌%◌, Bool, true, false, Option, Some, replicate, ◌<◌, sum_by, take, List, [], ◌∷◌, length, map, drop, slice_index_or, Vec}
use Rattle.std.specs.declared.alloc.Global.{Global}
use Rattle.vx_model.specs.declared.limits.TheConstants.{BLOCK, MOST_DISKS}
use Rattle.vx_disk.specs.declared.unit.MemUnit.{MemUnit}
use Rattle.vx_disk.specs.Blocks.{block_at, kept, trues}
use Rattle.std.proofs.Common.{inl, inr, ⊎_elim, sym, ◌∙◌, arith, lit<}
use Rattle.vx_disk.specs.Disks.{Disks, is_set}
use Rattle.vx_disk.specs.Racks.{IsRack}
use Rattle.vx_disk.specs.Shelf.{Meaning, Image, Each, Values, Lawful}

-- of a disk the stable and the latest bytes, the size in blocks, the count of faults, which blocks are loose, and whether it is made to fail
abbrev pub stable_of : List MemUnit → ℕ → List ℕ
stable_of units u = slice_index_or (map (λ m. m.stable.items) units) u []

abbrev pub latest_of : List MemUnit → ℕ → List ℕ
latest_of units u = slice_index_or (map (λ m. m.latest.items) units) u []

abbrev pub size_of : List MemUnit → ℕ → ℕ
size_of units u = slice_index_or (map (λ m. length m.loose.items) units) u 0

abbrev pub faults_of : List MemUnit → ℕ → ℕ
faults_of units u = slice_index_or (map (λ m. m.faults) units) u 0

abbrev pub loose_of : List MemUnit → ℕ → List Bool
loose_of units u = slice_index_or (map (λ m. m.loose.items) units) u []

abbrev pub failing_of : List MemUnit → ℕ → Bool
failing_of units u = slice_index_or (map (λ m. m.failing) units) u false

-- what is told of them as a rack
abbrev pub disks_of : List MemUnit → Option (ℕ × ℕ) → Disks
disks_of units fuse = record {
  stable = λ u b. block_at (stable_of units u) b;
  latest = λ u b. block_at (latest_of units u) b;
  loose = λ u b. slice_index_or (loose_of units u) b false;
  fuse = fuse;
  failing = failing_of units;
}

-- a read gives the latest value
abbrev pub gives : List MemUnit → Values
gives units u b v = v ≡ block_at (latest_of units u) b

-- a crash may leave the stable value or the latest
abbrev pub may_keep : List MemUnit → Values
may_keep units u b v = (v ≡ block_at (stable_of units u) b) ⊎ (v ≡ block_at (latest_of units u) b)

-- one of these states may have left this image
abbrev pub Was : List (Vec MemUnit Global) → Image → Type 0
Was [] i = ⊥
Was (state ∷ states) i = Each (may_keep state.items) i ⊎ Was states i

-- the state now, or one from this number on, may have left this image
abbrev pub Since : List MemUnit → List (Vec MemUnit Global) → ℕ → Image → Type 0
Since units past t i = Each (may_keep units) i ⊎ Was (drop t past) i

-- their meaning as a shelf
abbrev pub meaning_of : List MemUnit → List (Vec MemUnit Global) → Bool → Option (ℕ × ℕ) → Meaning
meaning_of units past down fuse = record {
  units = length units;
  size = size_of units;
  tells = true;
  reads = gives units;
  leaves = may_keep units;
  now = Each (may_keep units);
  moment = length past;
  left_since = Since units past;
  faults = faults_of units;
  disk_faults = faults_of units;
  down = down;
  armed = is_set fuse;
  disks = Some (disks_of units fuse);
}

-- one unit after a crash, whose loose blocks are numbered from `from` on, modulo 64
pub record SettledUnit (old : MemUnit) (pick from : ℕ) (new : MemUnit) : Type 0 where
  pub each : (b : ℕ) → block_at new.stable.items b ≡ kept old.loose.items old.stable.items old.latest.items pick from b
  pub one_value : new.latest.items ≡ new.stable.items
  pub loose : new.loose.items ≡ replicate (length old.loose.items) false
  pub faults : new.faults ≡ old.faults
  pub failing : new.failing ≡ old.failing

-- how many blocks of the units before this one are loose
abbrev pub loose_before : List MemUnit → ℕ → ℕ
loose_before units u = sum_by (λ m. trues m.loose.items) (take u units)

-- all units after a crash
pub record Settled (old : List MemUnit) (pick : ℕ) (new : List MemUnit) : Type 0 where
  pub number : length new ≡ length old
  pub each : (u : ℕ) (d : MemUnit) → u < length old → SettledUnit (slice_index_or old u d) pick (loose_before old u % 64) (slice_index_or new u d)

true_false : true ≡ false → ⊥
true_false is = cc

none_left : (past : List (Vec MemUnit Global)) (i : Image) → Was (drop (length past) past) i → ⊥
none_left [] i was = was
none_left (state ∷ past) i was = none_left past i was

only_this : (units : List MemUnit) (past : List (Vec MemUnit Global)) (i : Image) → Since units past (length past) i → Each (may_keep units) i
only_this units past i (inl here) = here
only_this units past i (inr was) = absurd (none_left past i was)

small_sizes : (units : List MemUnit) (u : ℕ) → size_of units u < 2 ^ 64
small_sizes [] u = lit< tt
small_sizes (m ∷ units) zero = omega arith
small_sizes (m ∷ units) (suc u) = small_sizes units u

-- it obeys the laws of a shelf
pub meaning-Lawful : (units : List MemUnit) (past : List (Vec MemUnit Global)) (down : Bool) (fuse : Option (ℕ × ℕ)) → length units ≤ MOST_DISKS → Lawful (meaning_of units past down fuse)
meaning-Lawful units past down fuse few = record {
  few = omega (arith, few);
  small = small_sizes units;
  some = λ tells u b. (block_at (latest_of units u) b, refl);
  none = λ not u b v left. true_false not;
  never = λ not t i left. true_false not;
  shown = λ u b v reads. inr reads;
  image = λ tells. ((λ u b. block_at (latest_of units u) b), λ u b. inr refl);
  within = λ i now. now;
  counts_now = λ t i le each. inl each;
  only_now = only_this units past;
}

-- a block that is not loose has one value
abbrev pub Clean : List MemUnit → Type 0
Clean units = (u b : ℕ) → slice_index_or (loose_of units u) b false ≡ false → block_at (stable_of units u) b ≡ block_at (latest_of units u) b

-- no block is loose
abbrev pub NoneLoose : List MemUnit → Type 0
NoneLoose units = (u b : ℕ) → slice_index_or (loose_of units u) b false ≡ false

clean_units : (units : List MemUnit) → Clean units
clean_units [] u b not_loose = refl
clean_units (m ∷ units) zero b not_loose = m.clean b not_loose
clean_units (m ∷ units) (suc u) b not_loose = clean_units units u b not_loose

-- and that of a rack
pub meaning-IsRack : (units : List MemUnit) (past : List (Vec MemUnit Global)) (down : Bool) (fuse : Option (ℕ × ℕ)) → (down ≡ true → NoneLoose units) → IsRack (meaning_of units past down fuse)
meaning-IsRack units past down fuse at_rest = record {
  told = disks_of units fuse;
  is = refl;
  counts = λ d. refl;
  armed = refl;
  latest = λ tells is_down u b v is. is;
  stable = λ tells u b. inl refl;
  settled = λ u b v not_loose left. ⊎_elim (λ stable. stable) (λ latest. latest ∙ sym (clean_units units u b not_loose)) left;
  at_rest = λ is_down u b v left. ⊎_elim (λ stable. stable ∙ clean_units units u b (at_rest is_down u b)) (λ latest. latest) left;
}

-- a new disk
pub record IsZeroed (blocks : ℕ) (m : MemUnit) : Type 0 where
  pub stable : m.stable.items ≡ replicate (BLOCK * blocks) 0
  pub latest : m.latest.items ≡ replicate (BLOCK * blocks) 0
  pub loose : m.loose.items ≡ replicate blocks false
  pub none : m.faults ≡ 0
  pub works : m.failing ≡ false

-- so many new disks
pub record AllZeroed (disks blocks : ℕ) (units : List MemUnit) : Type 0 where
  pub number : length units ≡ disks
  pub each : (u : ℕ) (d : MemUnit) → u < disks → IsZeroed blocks (slice_index_or units u d)
