-- In which order copies come to their disks.
use Rattle.std.specs.Prelude.{◌≡◌, ◌⊎◌, ℕ, Bool, true, List, take}
use Rattle.vx_disk.specs.Moves.{Along}
use Rattle.vx_disk.specs.Shelf.{Each, Image, Meaning}
use Rattle.vx_copyfmt.specs.Copies.{Disk}
use Rattle.vx_copyfmt.specs.Commits.{Among, FromNew, Lower}
use Rattle.vx_copyfmt.specs.declared.area.AreaHeader.{AreaHeader}
use Rattle.vx_copyio.specs.Putting.{IsCopyMade, those}

-- the disk has the new copy
pub record HasNew (u : ℕ) (h : AreaHeader) (body : List ℕ) (m : Meaning) (d : Disk) : Type 0 where
  pub each : (counts : ℕ → List ℕ → Bool) → Lower h.serial (m.leaves u) → counts h.serial (take h.length body) ≡ true → FromNew (those counts) (IsCopyMade h body) (m.leaves u) d

-- each of the second disks is as one of before, or each of the first has the new copy
abbrev pub InOrder : (ℕ → Type 0) → (ℕ → Type 0) → AreaHeader → List ℕ → Meaning → Image → Type 0
InOrder first second h body m i = ((u : ℕ) → second u → Among (m.leaves u) (i u)) ⊎ ((u : ℕ) → first u → HasNew u h body m (i u))

-- so it is at each moment of the call, and now
pub record Ordered (first second : ℕ → Type 0) (h : AreaHeader) (body : List ℕ) (old new : Meaning) : Type 0 where
  pub along : Along old new (InOrder first second h body old)
  pub now : (i : Image) → Each new.leaves i → InOrder first second h body old i
