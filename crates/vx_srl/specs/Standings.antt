-- The header with which a start begins, and the calls on the shelf with which it takes the log over.
use Rattle.std.specs.Prelude.{◌≡◌, ◌⊎◌, ℕ, ◌+◌, ◌-◌, ◌%◌, ◌<◌, ◌≤◌, ◌==◌, if◌then◌else◌, List, true, IsTrue}
use Rattle.vx_model.specs.declared.no.No.{No}
use Rattle.vx_model.specs.declared.no.No.TheVariants.{Damaged, NoConfig, Limit}
use Rattle.vx_model.specs.declared.no.Counted.TheVariants.{Number}
use Rattle.vx_srlfmt.specs.Headers.{CanSpellHeader}
use Rattle.vx_srlfmt.specs.declared.header.Header.{Header}
use Rattle.vx_disk.specs.Shelf.{Meaning}
use Rattle.vx_ringlog.specs.Acts.{start_acts}
use Rattle.vx_ringlog.specs.Cells.{Act, RingImage as Kinds}
use Rattle.vx_ringlog.specs.Chain.{IsGreaterTop}
use Rattle.vx_ringlog.specs.Heads.{HeaderStands}
use Rattle.vx_ringio.specs.Classes.{is_of_ring}
use Rattle.vx_ringio.specs.Reading.{ReadsAs, SeesTop}
use Rattle.vx_ringio.specs.declared.top.TopSeen.{TopSeen}
use Rattle.vx_ringio.specs.declared.top.TopSeen.TheVariants as top
use Rattle.vx_disk.specs.Causes.{DeviceCause}
use Rattle.vx_srl.specs.Damages.{HeadersDamaged}
use Rattle.vx_srl.specs.Headers.{raised}
use Rattle.vx_srl.specs.Starts.{NoHeader}
use Rattle.vx_srl.specs.Views.{most_number}
use Rattle.vx_srl.specs.declared.start.Picked.{Picked}
use Rattle.vx_srl.specs.declared.start.Picked.TheVariants as picked
use Rattle.vx_srl.specs.declared.start.Standing.{Standing}

-- no header of a greater stamp
abbrev pub IsNotAbove : TopSeen → Header → Type 0
IsNotAbove (top.Valid g) h = g.stamp ≤ h.stamp
IsNotAbove (top.Broken stored computed) h = Unit {0}
IsNotAbove top.Other h = Unit {0}

-- no header of an equal or greater stamp
abbrev pub IsBelow : TopSeen → Header → Type 0
IsBelow (top.Valid g) h = g.stamp < h.stamp
IsBelow (top.Broken stored computed) h = Unit {0}
IsBelow top.Other h = Unit {0}

abbrev pub IsNoHeader : TopSeen → Type 0
IsNoHeader seen = (h : Header) → seen ≡ top.Valid h → ⊥

-- the header of the greater stamp, or of two that are broken the lower one, or nothing
abbrev pub IsPicked : TopSeen → TopSeen → Picked → Type 0
IsPicked first second (picked.Stands s) =
    ((s.block ≡ 0) × (first ≡ top.Valid s.header) × IsBelow second s.header) ⊎ ((s.block ≡ 1) × (second ≡ top.Valid s.header) × IsNotAbove first s.header)
IsPicked first second (picked.Broken block stored computed) =
    IsNoHeader first × IsNoHeader second
    × (((block ≡ 0) × (first ≡ top.Broken stored computed)) ⊎ ((block ≡ 1) × (first ≡ top.Other) × (second ≡ top.Broken stored computed)))
IsPicked first second picked.Nothing = (first ≡ top.Other) × (second ≡ top.Other)

-- a header of the log stands in the block, and where one counts it is this
pub record IsStanding (unit ring : ℕ) (s : Standing) (m : Meaning) : Type 0 where
  pub block : s.block < 2
  pub spell : CanSpellHeader s.header
  pub of_ring : is_of_ring ring s.header ≡ true
  pub sees : IsTrue m.tells → SeesTop unit ring s.block m (top.Valid s.header)
  pub counts : (c : Kinds) (h : Header) → ReadsAs unit ring c m → IsGreaterTop c h → (s.header ≡ h) × HeaderStands c s.block (1 - s.block) h

-- no header counts
abbrev pub NoneCounts : ℕ → ℕ → Meaning → Type 0
NoneCounts unit ring m = (c : Kinds) (h : Header) → ReadsAs unit ring c m → IsGreaterTop c h → ⊥

-- why no header was found: neither block is one, or the lower broken one has two digests; or a device call failed
abbrev pub StandingCause : ℕ → ℕ → Meaning → Meaning → No → Type 0
StandingCause unit ring old new NoConfig = (IsTrue old.tells → NoHeader unit ring old) × NoneCounts unit ring old
StandingCause unit ring old new (Damaged u block stored computed) =
    (u ≡ unit) × (stored ≡ computed → ⊥) × (IsTrue old.tells → HeadersDamaged unit ring block stored computed old) × NoneCounts unit ring old
StandingCause unit ring old new why = DeviceCause old new why

-- by how much the first stamp that a start writes is greater
abbrev pub first_step_of : ℕ → ℕ → ℕ
first_step_of stamp block = if stamp % 2 == block then 1 else 2

-- the header that a start writes last
abbrev pub taken_over : Standing → Header
taken_over s = raised s.header (first_step_of s.header.stamp s.block + 1)

-- both headers, each flushed, first over the one that does not count
abbrev pub taking_over : Standing → List Act
taking_over s = start_acts s.block (1 - s.block) (raised s.header (first_step_of s.header.stamp s.block)) (taken_over s)

-- a number would go past its limit, or a device call failed
abbrev pub TakeOverCause : Header → Meaning → Meaning → No → Type 0
TakeOverCause h old new (Limit what most) = (what ≡ Number) × (most ≡ most_number) × ((most_number ≤ h.stamp + 2) ⊎ (most_number ≤ h.incarnation))
TakeOverCause h old new why = DeviceCause old new why
