-- The labels of the disks of a group.
use Rattle.std.specs.Prelude.{◌≡◌, ℕ, ◌<◌, ◌≤◌, List, Result, Ok, Err}
use Rattle.vx_model.specs.declared.errors.Stop.{Stop}
use Rattle.vx_model.specs.declared.errors.Stop.TheVariants.{No as Refused, OutOfMemory}
use Rattle.vx_model.specs.declared.limits.TheConstants.{LEAST_GROUP_BLOCKS}
use Rattle.vx_disk.specs.Shelf.{Meaning, Keeps}
use Rattle.vx_copyfmt.specs.Labels.{label_block}
use Rattle.vx_copyfmt.specs.declared.label.Label.{Label}
use Rattle.vx_disk.specs.Causes.{DeviceCause}

-- the label of a disk of this site
abbrev pub label_of : ℕ → ℕ → ℕ → Label
label_of site disk blocks = record { site = site; disk = disk; blocks = blocks }

-- each disk is as large as one of a group has to be
pub record AreLarge (m : Meaning) : Type 0 where
  pub each : (u : ℕ) → u < m.units → LEAST_GROUP_BLOCKS ≤ m.size u

-- one of them is not
pub record HasSmall (m : Meaning) : Type 0 where
  pub unit : ℕ
  pub there : unit < m.units
  pub small : m.size unit < LEAST_GROUP_BLOCKS

-- the labels that are written: each in block 0 of its disk
pub record LabelWritten (site : ℕ) (m : Meaning) (u b : ℕ) (v : List ℕ) : Type 0 where
  pub there : u < m.units
  pub first : b ≡ 0
  pub value : v ≡ label_block (label_of site u (m.size u))

-- a crash leaves its label on each disk below n
pub record Labelled (site n : ℕ) (old new : Meaning) : Type 0 where
  pub each : (u : ℕ) → u < n → Keeps new u 0 (label_block (label_of site u (old.size u)))

-- each disk has its label, or a call on one failed
abbrev pub Labels : {T : Type 0} → ℕ → Meaning → Meaning → Result T Stop → Type 0
Labels site old new (Ok x) = Labelled site old.units old new
Labels site old new (Err (Refused why)) = DeviceCause old new why
Labels site old new (Err OutOfMemory) = ⊥
