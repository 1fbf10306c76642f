-- What an import finds in an image of the disks, where some of them can be read.
use Rattle.std.specs.Prelude.{ℕ, zero, suc, Bool, true, false, ◌&&◌, ◌||◌, nat_lt, if◌then◌else◌, Option, Some, None, List}
use Rattle.vx_disk.specs.Shelf.{Image}
use Rattle.vx_copyfmt.specs.Copies.{Copy, Body, Holds, Differs, copy_of}
use Rattle.vx_copyfmt.specs.Labels.{seen_in}
use Rattle.vx_copyfmt.specs.declared.label.LabelSeen.{LabelSeen}
use Rattle.vx_copyfmt.specs.declared.label.LabelSeen.TheVariants as seen

-- the newest configuration as its body was read; or a disk that it holds as good cannot be read; or no disk has one; or the newest
-- body is damaged, by its disk, its first block and both digests; or a label has a version that is not known
pub data ImportOutcome (C : Type 0) : Type 0 where
  Found : C → ImportOutcome C
  Missing : ℕ → ImportOutcome C
  NoConfig : ImportOutcome C
  Damaged : ℕ → ℕ → List ℕ → List ℕ → ImportOutcome C
  Format : ℕ → ImportOutcome C

-- whether a block is a label
abbrev pub is_label : LabelSeen → Bool
is_label (seen.Label l) = true
is_label (seen.Format version) = false
is_label seen.Other = false

-- the version of a label that is not known
abbrev pub strange_label : LabelSeen → Option ℕ
strange_label (seen.Label l) = None
strange_label (seen.Format version) = Some version
strange_label seen.Other = None

-- the first of the two
abbrev pub first_of : {A : Type 0} → Option A → Option A → Option A
first_of None other = other
first_of (Some x) other = Some x

-- the greater copy, with its disk: the first where both have one serial
abbrev pub later : {C : Type 0} → Option (ℕ × Copy C) → Option (ℕ × Copy C) → Option (ℕ × Copy C)
later None other = other
later (Some x) None = Some x
later (Some x) (Some y) = if nat_lt x.1.serial y.1.serial then Some y else Some x

abbrev pub on_disk : {C : Type 0} → ℕ → Option (Copy C) → Option (ℕ × Copy C)
on_disk u None = None
on_disk u (Some x) = Some (u, x)

-- the version that is not known on the lowest disk below n that can be read and has one
abbrev pub strange : (ℕ → Bool) → Image → ℕ → Option ℕ
strange readable i zero = None
strange readable i (suc n) = first_of (strange readable i n) (if readable n then strange_label (seen_in (i n 0)) else None)

-- the lowest disk below n that is held as good and cannot be read
abbrev pub missing : (ℕ → Bool) → (ℕ → Bool) → ℕ → Option ℕ
missing failed readable zero = None
missing failed readable (suc n) = first_of (missing failed readable n) (if failed n || readable n then None else Some n)

abbrev pub or_missing : {C : Type 0} → C → Option ℕ → ImportOutcome C
or_missing c None = Found c
or_missing c (Some disk) = Missing disk

-- a configuration, unless one of its disks is missing
abbrev pub settle : {C : Type 0} → (C → ℕ → Bool) → ℕ → (ℕ → Bool) → C → ImportOutcome C
settle failed units readable c = or_missing c (missing (failed c) readable units)

abbrev pub by_body : {C : Type 0} → (C → ℕ → Bool) → ℕ → (ℕ → Bool) → ℕ → ℕ → Body C → ImportOutcome C
by_body failed units readable disk area (Holds c) = settle failed units readable c
by_body failed units readable disk area (Differs stored computed) = Damaged disk (suc area) stored computed

abbrev pub by_newest : {C : Type 0} → (C → ℕ → Bool) → ℕ → (ℕ → Bool) → Option (ℕ × Copy C) → ImportOutcome C
by_newest failed units readable None = NoConfig
by_newest failed units readable (Some x) = by_body failed units readable x.0 x.1.area x.1.body

abbrev pub by_labels : {C : Type 0} → Option ℕ → ImportOutcome C → ImportOutcome C
by_labels None outcome = outcome
by_labels (Some version) outcome = Format version

module _ {C : Type 0} (reads : ℕ → List ℕ → Option C) where
  -- the greatest copy on the disks below n that can be read and have a label: the lowest disk where several have it
  abbrev pub newest_found : (ℕ → Bool) → Image → ℕ → Option (ℕ × Copy C)
  newest_found readable i zero = None
  newest_found readable i (suc n) = later (newest_found readable i n) (if readable n && is_label (seen_in (i n 0)) then on_disk n (copy_of reads (i n)) else None)

  -- what an import of these units finds; a configuration tells by `failed` which disks it holds as failed
  unfoldable pub import_of : (C → ℕ → Bool) → ℕ → (ℕ → Bool) → Image → ImportOutcome C
  import_of failed units readable i = by_labels (strange readable i units) (by_newest failed units readable (newest_found readable i units))
