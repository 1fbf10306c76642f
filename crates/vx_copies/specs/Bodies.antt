-- Which bodies are configurations of the disks of a shelf.
use Rattle.std.specs.Prelude.{ℕ, ◌+◌, ◌-◌, ◌*◌, ◌/◌, ◌≤◌, Bool, true, false, ◌&&◌, ◌==◌, if◌then◌else◌, Option, Some, None, Result, Ok, Err, List, [], ◌∷◌, ◌++◌, length, map, slice_index_or}
use Rattle.vx_model.specs.declared.limits.TheConstants.{BLOCK, MOST_DISKS}
use Rattle.vx_wire.specs.Fields.{zero_bytes}
use Rattle.vx_config.specs.Checks.{is_sound}
use Rattle.vx_config.specs.Configs.{spelled_config}
use Rattle.vx_config.specs.Table.{config}
use Rattle.vx_config.specs.declared.config.Config.{Config}
use Rattle.vx_config.specs.declared.entry.DiskEntry.{DiskEntry}

-- a configuration that was read with nothing left behind it
abbrev pub alone : Result (Config × List ℕ) ℕ → Option Config
alone (Ok (c, [])) = Some c
alone (Ok (c, x ∷ rest)) = None
alone (Err left) = None

-- the disks from this number on have these blocks
abbrev pub have_blocks : (ℕ → ℕ) → ℕ → List DiskEntry → Bool
have_blocks size k [] = true
have_blocks size k (d ∷ ds) = d.blocks == size k && have_blocks size (k + 1) ds

-- it has as many disks as there are units, each with its unit's blocks
abbrev pub fits_units : ℕ → (ℕ → ℕ) → Config → Bool
fits_units units size c = length c.disks == units && have_blocks size 0 c.disks

-- it is sound, and fits the units
abbrev pub is_wanted : ℕ → (ℕ → ℕ) → Config → Bool
is_wanted units size c = is_sound c && fits_units units size c

abbrev pub if_wanted : ℕ → (ℕ → ℕ) → Option Config → Option Config
if_wanted units size None = None
if_wanted units size (Some c) = if is_wanted units size c then Some c else None

-- the configuration that a body is
unfoldable pub reads_in : ℕ → (ℕ → ℕ) → List ℕ → Option Config
reads_in units size bytes = if_wanted units size (alone (config.read bytes))

-- a configuration of this serial
abbrev pub of_serial : ℕ → Option Config → Option Config
of_serial serial None = None
of_serial serial (Some c) = if c.serial == serial then Some c else None

-- whether it holds a disk as failed
abbrev pub failed_in : Config → ℕ → Bool
failed_in c disk = slice_index_or (map (λ d. d.failed) c.disks) disk false

-- a configuration that was read has at most 8 disks
abbrev pub HasFewDisks : Option Config → Type 0
HasFewDisks None = Unit {0}
HasFewDisks (Some c) = length c.disks ≤ MOST_DISKS

-- the bytes of the whole blocks of its body
abbrev pub body_bytes : Config → ℕ
body_bytes c = BLOCK * ((length (spelled_config c) + 511) / BLOCK)

-- the body of a copy: its spelling, with zeros up to whole blocks
abbrev pub body_for : Config → List ℕ
body_for c = spelled_config c ++ zero_bytes (body_bytes c - length (spelled_config c))
