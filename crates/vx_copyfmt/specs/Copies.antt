-- The copies of the configuration on a disk. What a body is read as behind a header of some serial is a parameter: nothing where it is no configuration of these disks and of this serial.
use Rattle.std.specs.Prelude.{ℕ, zero, suc, ◌+◌, Bool, true, false, nat_lt, bytes_eq, if◌then◌else◌, Option, Some, None, List, [], ◌++◌, take}
use Rattle.vx_wire.specs.Seals.{digest_of}
use Rattle.vx_copyfmt.specs.Areas.{header_of}
use Rattle.vx_copyfmt.specs.declared.area.AreaHeader.{AreaHeader}

-- of each block of a disk its value
abbrev pub Disk : Type 0
Disk = ℕ → List ℕ

-- so many blocks from one on, one behind the other
abbrev pub run_of : Disk → ℕ → ℕ → List ℕ
run_of d b zero = []
run_of d b (suc n) = d b ++ run_of d (b + 1) n

-- the first block of each area, which is its header
abbrev pub area_a : ℕ
area_a = 1

abbrev pub area_b : ℕ
area_b = 129

-- the n bytes of a body behind a header
abbrev pub body_of : Disk → ℕ → ℕ → List ℕ
body_of d area n = take n (run_of d (area + 1) 127)

-- the body that stands behind a header: a configuration, or bytes whose digest is not the one that the header has
pub data Body (C : Type 0) : Type 0 where
  Holds : C → Body C
  Differs : List ℕ → List ℕ → Body C

-- a header that counts, with the block where it stands and its body
pub record Copy (C : Type 0) : Type 0 where
  pub serial : ℕ
  pub area : ℕ
  pub body : Body C

-- the greater of two: the first where both have one serial
abbrev pub greater : {C : Type 0} → Option (Copy C) → Option (Copy C) → Option (Copy C)
greater None other = other
greater (Some x) None = Some x
greater (Some x) (Some y) = if nat_lt x.serial y.serial then Some y else Some x

-- a copy of this configuration, if there is one
abbrev pub holding : {C : Type 0} → ℕ → ℕ → Option C → Option (Copy C)
holding area serial None = None
holding area serial (Some c) = Some (record { serial = serial; area = area; body = Holds c })

-- a header with a body: where the digests agree, it counts only if the body is a configuration
abbrev pub judged : {C : Type 0} → ℕ → AreaHeader → List ℕ → Option C → Bool → Option (Copy C)
judged area h body read true = holding area h.serial read
judged area h body read false = Some (record { serial = h.serial; area = area; body = Differs h.digest (digest_of body) })

module _ {C : Type 0} (reads : ℕ → List ℕ → Option C) where
  abbrev pub copy_with : ℕ → AreaHeader → List ℕ → Option (Copy C)
  copy_with area h body = judged area h body (reads h.serial body) (bytes_eq (digest_of body) h.digest)

  abbrev pub copy_under : Disk → ℕ → Option AreaHeader → Option (Copy C)
  copy_under d area None = None
  copy_under d area (Some h) = copy_with area h (body_of d area h.length)

  -- the copy in an area, if its header counts
  abbrev pub copy_at : Disk → ℕ → Option (Copy C)
  copy_at d area = copy_under d area (header_of (d area))

  -- the greater copy of a disk
  abbrev pub copy_of : Disk → Option (Copy C)
  copy_of d = greater (copy_at d area_a) (copy_at d area_b)
