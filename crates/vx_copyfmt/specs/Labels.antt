-- The label of a disk, as a block.
use Rattle.std.specs.Prelude.{◌≡◌, ◌≢◌, ℕ, ◌<◌, ◌^◌, Bool, ◌&&◌, ◌==◌, bytes_eq, if◌then◌else◌, List, [], ◌∷◌, take, drop}
use Rattle.vx_wire.specs.declared.field.Field.{Field}
use Rattle.vx_wire.specs.declared.field.Field.TheVariants.{U32, U64}
use Rattle.vx_wire.specs.Fields.{spelled}
use Rattle.vx_wire.specs.Numbers.{be_bytes, number_at}
use Rattle.vx_wire.specs.Seals.{sealed, filled, digest_of, IsSealed}
use Rattle.vx_copyfmt.specs.declared.label.Label.{Label}
use Rattle.vx_copyfmt.specs.declared.label.LabelSeen.{LabelSeen}
use Rattle.vx_copyfmt.specs.declared.label.LabelSeen.TheVariants as seen

-- the bytes "VXLABEL1"
abbrev pub label_magic : ℕ
label_magic = 0x56584c4142454c31

-- the version of a label
abbrev pub label_version : ℕ
label_version = 1

-- the fields of a label
unfoldable pub label_table : Label → List Field
label_table l = U64 label_magic ∷ U32 label_version ∷ U32 l.site ∷ U32 l.disk ∷ U64 l.blocks ∷ []

abbrev pub label_fields : Label → List ℕ
label_fields l = spelled (label_table l)

-- the one spelling of a label
unfoldable pub label_block : Label → List ℕ
label_block l = sealed (label_fields l)

-- its fields are of their types
pub record IsTypedLabel (l : Label) : Type 0 where
  pub site : l.site < 2 ^ 32
  pub disk : l.disk < 2 ^ 32
  pub blocks : l.blocks < 2 ^ 64

-- the block is the spelling of the label
pub record IsLabel (block : List ℕ) (l : Label) : Type 0 where
  pub typed : IsTypedLabel l
  pub is : block ≡ label_block l

-- the block begins as a label, its digest is good, and it has a version that is not known
pub record HasVersion (block : List ℕ) (version : ℕ) : Type 0 where
  pub begins : take 8 block ≡ be_bytes 8 label_magic
  pub whole : IsSealed block
  pub is : version ≡ number_at 4 8 block
  pub other : version ≢ label_version

-- what a block is as a label
abbrev pub IsLabelSeen : List ℕ → LabelSeen → Type 0
IsLabelSeen block (seen.Label l) = IsLabel block l
IsLabelSeen block (seen.Format version) = HasVersion block version
IsLabelSeen block seen.Other = ((l : Label) → IsLabel block l → ⊥) × ((version : ℕ) → HasVersion block version → ⊥)

-- what stands in the places of the fields, whether or not the block is a label
unfoldable pub label_in : List ℕ → Label
label_in block = record { site = number_at 4 12 block; disk = number_at 4 16 block; blocks = number_at 8 20 block }

unfoldable pub begins_label : List ℕ → Bool
begins_label block = bytes_eq (take 8 block) (be_bytes 8 label_magic) && bytes_eq (drop 480 block) (digest_of (take 480 block))

unfoldable pub is_spelled : List ℕ → Bool
is_spelled block = bytes_eq (take 480 block) (filled (label_fields (label_in block)))

-- what the block is
unfoldable pub seen_in : List ℕ → LabelSeen
seen_in block =
    if begins_label block
    then (if number_at 4 8 block == label_version then (if is_spelled block then seen.Label (label_in block) else seen.Other) else seen.Format (number_at 4 8 block))
    else seen.Other
