-- What a commit makes of the disks, and what a crash at any moment of it leaves.
use Rattle.std.specs.Prelude.{◌≡◌, ◌⊎◌, ℕ, ◌+◌, ◌<◌, ◌≤◌, Bool, true, false, nat_lt, if◌then◌else◌, Option, Some, None, List}
use Rattle.vx_disk.specs.Shelf.{Image, Values, Each}
use Rattle.vx_wire.specs.Seals.{digest_of}
use Rattle.vx_copyfmt.specs.Areas.{header_of}
use Rattle.vx_copyfmt.specs.Copies.{Disk, Copy, Holds, Differs, area_a, area_b, body_of, copy_at, copy_of}
use Rattle.vx_copyfmt.specs.Imports.{ImportOutcome, Found, Missing, NoConfig, Damaged, Format, import_of, newest_found, settle}
use Rattle.vx_copyfmt.specs.Labels.{seen_in}
use Rattle.vx_copyfmt.specs.declared.area.AreaHeader.{AreaHeader}

-- of each block of a disk the values that a crash may leave
abbrev pub Slots : Type 1
Slots = ℕ → List ℕ → Type 0

-- each block of the disk has one of its values
abbrev pub Among : Slots → Disk → Type 0
Among slots d = (b : ℕ) → slots b (d b)

-- where the next copy goes: to the area that does not hold the greater header, and to the first where there is none
abbrev pub target_of : Option AreaHeader → Option AreaHeader → ℕ
target_of None other = area_a
target_of (Some x) None = area_b
target_of (Some x) (Some y) = if nat_lt x.serial y.serial then area_a else area_b

-- a block is the header of an area
abbrev pub IsHeaderBlock : ℕ → Type 0
IsHeaderBlock a = (a ≡ area_a) ⊎ (a ≡ area_b)

-- the disk alone
abbrev pub exactly : Disk → Slots
exactly d b v = v ≡ d b

-- the greater header, which is in the area that the next copy leaves alone
pub record IsTop (d : Disk) (a : ℕ) (h : AreaHeader) : Type 0 where
  pub head : header_of (d a) ≡ Some h
  pub kept : target_of (header_of (d area_a)) (header_of (d area_b)) ≡ a → ⊥

-- no header that a crash may leave on the disk has this serial or a greater one
abbrev pub Lower : ℕ → Slots → Type 0
Lower serial slots = (a : ℕ) (v : List ℕ) (h : AreaHeader) → IsHeaderBlock a → slots a v → header_of v ≡ Some h → h.serial < serial

-- whatever a crash leaves of the disk, the greater header counts: its body is a configuration or has another digest
abbrev pub Counts : {C : Type 0} → (ℕ → List ℕ → Option C) → Slots → Type 0
Counts {C} reads slots = (d : Disk) (a : ℕ) (h : AreaHeader) → IsHeaderBlock a → Among slots d → IsTop d a h → (x : Copy C) × (copy_at reads d a ≡ Some x)

-- the disk is ready for a copy with this serial
pub record Fit {C : Type 0} (reads : ℕ → List ℕ → Option C) (serial : ℕ) (slots : Slots) : Type 0 where
  pub counts : Counts reads slots
  pub below : Lower serial slots

-- and whatever a crash leaves of both headers, it goes to the same area
pub record Tidy {C : Type 0} (reads : ℕ → List ℕ → Option C) (serial : ℕ) (slots : Slots) : Type 0 where
  pub fit : Fit reads serial slots
  pub goes : (v w x y : List ℕ) → slots area_a v → slots area_b w → slots area_a x → slots area_b y → target_of (header_of v) (header_of w) ≡ target_of (header_of x) (header_of y)

-- it goes to the one area or to the other, by which values of both headers a crash leaves; so one of them has two
pub record TwoTargets (slots : Slots) : Type 0 where
  pub one : Disk
  pub other : Disk
  pub one_a : slots area_a (one area_a)
  pub one_b : slots area_b (one area_b)
  pub other_a : slots area_a (other area_a)
  pub other_b : slots area_b (other area_b)
  pub apart : target_of (header_of (one area_a)) (header_of (one area_b)) ≡ target_of (header_of (other area_a)) (header_of (other area_b)) → ⊥

-- every block but those of a body in this area has one of its values
abbrev pub Mixed : Slots → ℕ → Disk → Type 0
Mixed slots area d = (b : ℕ) → slots b (d b) ⊎ ((area + 1 ≤ b) × (b ≤ area + 127))

-- the disk has the label and the copy of one that a crash before the call might have left
pub record FromOld {C : Type 0} (reads : ℕ → List ℕ → Option C) (slots : Slots) (d : Disk) : Type 0 where
  pub disk : Disk
  pub among : Among slots disk
  pub label : seen_in (d 0) ≡ seen_in (disk 0)
  pub copy : copy_of reads d ≡ copy_of reads disk

-- the disk has its label, and a copy that the call made
pub record FromNew {C : Type 0} (reads : ℕ → List ℕ → Option C) (begun : ℕ → C → Type 0) (slots : Slots) (d : Disk) : Type 0 where
  pub serial : ℕ
  pub config : C
  pub area : ℕ
  pub made : begun serial config
  pub first : List ℕ
  pub there : slots 0 first
  pub label : seen_in (d 0) ≡ seen_in first
  pub copy : copy_of reads d ≡ Some (record { serial = serial; area = area; body = Holds config })

-- the body behind the greater header has the digest of the header, and is not the one that stood there before
pub record Forged (slots : Slots) (d : Disk) : Type 0 where
  pub area : ℕ
  pub header : AreaHeader
  pub top : IsTop d area header
  pub disk : Disk
  pub among : Among slots disk
  pub head : header_of (disk area) ≡ Some header
  pub digest : digest_of (body_of d area header.length) ≡ header.digest
  pub targets : TwoTargets slots
  pub changed : body_of d area header.length ≡ body_of disk area header.length → ⊥

-- the greater copy of the disk has another digest than its header
pub record Broken {C : Type 0} (reads : ℕ → List ℕ → Option C) (serial : ℕ) (d : Disk) : Type 0 where
  pub area : ℕ
  pub stored : List ℕ
  pub computed : List ℕ
  pub copy : copy_of reads d ≡ Some (record { serial = serial; area = area; body = Differs stored computed })

-- The disk is one that a crash before the call might have left, but that a body was written into the area of its greater copy: the headers
-- said of two areas that it was that of the lesser one. This is seen by the digest, unless the body that came of it has that of its header.
pub record Torn {C : Type 0} (reads : ℕ → List ℕ → Option C) (slots : Slots) (d : Disk) : Type 0 where
  pub disk : Disk
  pub among : Among slots disk
  pub label : seen_in (d 0) ≡ seen_in (disk 0)
  pub was : Copy C
  pub copy : copy_of reads disk ≡ Some was
  pub most : (x : Copy C) → copy_of reads d ≡ Some x → x.serial ≤ was.serial
  pub targets : TwoTargets slots
  pub now : Broken reads was.serial d ⊎ Forged slots d

-- each disk below n is one or the other, or, where it is one of these, torn
abbrev pub Amid : {C : Type 0} → (ℕ → List ℕ → Option C) → (ℕ → C → Type 0) → (ℕ → Type 0) → ℕ → Values → Image → Type 0
Amid reads begun disks n leaves i = (u : ℕ) → u < n → FromOld reads (leaves u) (i u) ⊎ FromNew reads begun (leaves u) (i u) ⊎ (disks u × Torn reads (leaves u) (i u))

-- an import finds what it might have found before the call
pub record FindsOld {C : Type 0} (reads : ℕ → List ℕ → Option C) (failed : C → ℕ → Bool) (units : ℕ) (leaves : Values) (readable : ℕ → Bool) (i : Image) : Type 0 where
  pub image : Image
  pub left : Each leaves image
  pub same : import_of reads failed units readable i ≡ import_of reads failed units readable image

-- or a configuration that the call made, unless one of its disks is missing
pub record FindsNew {C : Type 0} (reads : ℕ → List ℕ → Option C) (failed : C → ℕ → Bool) (begun : ℕ → C → Type 0) (units : ℕ) (readable : ℕ → Bool) (i : Image) : Type 0 where
  pub serial : ℕ
  pub config : C
  pub made : begun serial config
  pub found : import_of reads failed units readable i ≡ settle failed units readable config

-- the disk is damaged, as an import found it
abbrev pub NamesDamaged : {C : Type 0} → ℕ → ImportOutcome C → Type 0
NamesDamaged u (Found x) = ⊥
NamesDamaged u (Missing disk) = ⊥
NamesDamaged u NoConfig = ⊥
NamesDamaged u (Damaged disk block stored computed) = disk ≡ u
NamesDamaged u (Format version) = ⊥

-- no copy that the import reads is later than this serial
pub record NoneLater {C : Type 0} (reads : ℕ → List ℕ → Option C) (units : ℕ) (readable : ℕ → Bool) (i : Image) (serial : ℕ) : Type 0 where
  pub each : (x : ℕ × Copy C) → newest_found reads readable i units ≡ Some x → x.1.serial ≤ serial

-- An import reads one of these disks, and its greater copy is torn: the import is refused with 22 for it, unless the torn body has the digest
-- of its header and no copy that is read is later.
pub record Spoilt {C : Type 0} (reads : ℕ → List ℕ → Option C) (failed : C → ℕ → Bool) (disks : ℕ → Type 0) (units : ℕ) (leaves : Values) (readable : ℕ → Bool) (i : Image) : Type 0 where
  pub disk : ℕ
  pub below : disk < units
  pub is : disks disk
  pub read : readable disk ≡ true
  pub torn : Torn reads (leaves disk) (i disk)
  pub how : NamesDamaged disk (import_of reads failed units readable i) ⊎ (Forged (leaves disk) (i disk) × NoneLater reads units readable i torn.was.serial)

-- no copy that a crash may leave on the disk has this serial or a greater one
pub record Older {C : Type 0} (reads : ℕ → List ℕ → Option C) (serial : ℕ) (slots : Slots) : Type 0 where
  pub below : (d : Disk) (x : Copy C) → Among slots d → copy_of reads d ≡ Some x → x.serial < serial

-- this configuration is found, or one of the disks is missing, or no disk has a configuration
abbrev pub GivesConfig : {C : Type 0} → C → ImportOutcome C → Type 0
GivesConfig c (Found x) = x ≡ c
GivesConfig c (Missing disk) = Unit {0}
GivesConfig c NoConfig = Unit {0}
GivesConfig c (Damaged disk block stored computed) = ⊥
GivesConfig c (Format version) = ⊥

-- what an import over the disks finds, where this is the newest committed configuration, or none was committed
abbrev pub Answers : {C : Type 0} → Option C → ImportOutcome C → Type 0
Answers None o = o ≡ NoConfig
Answers (Some c) o = GivesConfig c o

-- whatever a crash leaves and whichever disks can be read, an import finds the committed configuration or is refused with 8 or 9
pub record Committed {C : Type 0} (reads : ℕ → List ℕ → Option C) (failed : C → ℕ → Bool) (units : ℕ) (held : Option C) (leaves : Values) : Type 0 where
  pub each : (i : Image) (readable : ℕ → Bool) → Each leaves i → Answers held (import_of reads failed units readable i)

-- the disk is one that the committed configuration holds as good: each, where none was committed
abbrev pub IsGood : {C : Type 0} → (C → ℕ → Bool) → Option C → ℕ → Type 0
IsGood failed None disk = Unit {0}
IsGood failed (Some c) disk = failed c disk ≡ false

-- each disk that the new configuration holds as good has its copy, and the others the copies of before, or earlier ones of the call
pub record CopyWritten {C : Type 0} (reads : ℕ → List ℕ → Option C) (failed : C → ℕ → Bool) (serial : ℕ) (config : C) (units : ℕ) (i : Image) : Type 0 where
  pub new : (u : ℕ) → u < units → failed config u ≡ false → (area : ℕ) × (copy_of reads (i u) ≡ Some (record { serial = serial; area = area; body = Holds config }))
  pub older : (u : ℕ) (x : Copy C) → u < units → failed config u ≡ true → copy_of reads (i u) ≡ Some x → x.serial < serial
