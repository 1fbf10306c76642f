-- How a log is made, and how it is started from what a crash left.
use Rattle.std.specs.Prelude.{◌≡◌, ◌⊎◌, ℕ, suc, ◌+◌, ◌<◌, List, []}
use Rattle.vx_srlfmt.specs.Kinds.{Top, Other}
use Rattle.vx_srlfmt.specs.declared.header.Header.{Header}
use Rattle.vx_ringlog.specs.Cells.{RingImage, Always, Leaves, run_all, still}
use Rattle.vx_ringlog.specs.Records.{era_of, Record}
use Rattle.vx_ringlog.specs.Chain.{Recovers}
use Rattle.vx_ringlog.specs.Acts.{start_acts}
use Rattle.vx_ringlog.specs.Heads.{HeaderStands}
use Rattle.vx_ringlog.specs.Logs.{State, IsLog}

-- the first header that a start writes, where it found h: of the next incarnation
pub record Raises (h g : Header) : Type 0 where
  pub stamp : h.stamp < g.stamp
  pub incarnation : g.incarnation ≡ suc h.incarnation
  pub run : g.run ≡ h.run
  pub line : g.state.line ≡ h.state.line
  pub low : g.low ≡ h.low
  pub place : g.place ≡ h.place
  pub floor : g.floor ≡ h.floor

-- the second one: the same once more, with a greater stamp
pub record Repeats (g again : Header) : Type 0 where
  pub stamp : g.stamp < again.stamp
  pub era : era_of again ≡ era_of g
  pub low : again.low ≡ g.low
  pub place : again.place ≡ g.place
  pub floor : again.floor ≡ g.floor

-- the log behind a start that found these records
abbrev pub started : RingImage → ℕ → ℕ → Header → Header → List Record → State
started i here other g again rs = record { unit = run_all (still i) (start_acts here other g again); here = here; other = other; header = again; base = again.place; held = rs; staged = []; found = rs }

-- a start of this image, in which h was found in block `here`
pub record MayStart (i : RingImage) (here other : ℕ) (h g again : Header) : Type 0 where
  pub stands : HeaderStands i here other h
  pub raises : Raises h g
  pub repeats : Repeats g again

-- the same records, with the header that was found or one of those that the start writes
abbrev pub SameLog : ℕ → Header → Header → Header → List Record → RingImage → Type 0
SameLog size h g again rs i = Recovers size i h rs ⊎ (Recovers size i g rs ⊎ Recovers size i again rs)

-- at each moment of a start a crash leaves the same records, and behind it they are held
abbrev pub StartIsSafe : Type 0
StartIsSafe = (size : ℕ) (i : RingImage) (here other : ℕ) (h g again : Header) (rs : List Record) → MayStart i here other h g again → Recovers size i h rs
    → Always (Leaves (SameLog size h g again rs)) (still i) (start_acts here other g again) × IsLog size (started i here other g again rs)

-- a start leaves nothing loose
abbrev pub StartIsStill : Type 0
StartIsStill = (i : RingImage) (here other : ℕ) (g again : Header) (rs : List Record) → (started i here other g again rs).unit.loose ≡ []

-- a new log, of which `head` is the number before its first record
pub record Made (head : ℕ) (i : RingImage) (h g : Header) : Type 0 where
  pub first : i 0 ≡ Top h
  pub second : i 1 ≡ Top g
  pub ring : (b : ℕ) → i (2 + b) ≡ Other
  pub stamp : h.stamp ≡ 2
  pub second_stamp : g.stamp ≡ 1
  pub incarnation : h.incarnation ≡ 1
  pub floor : h.floor ≡ 0
  pub run : h.run ≡ 1
  pub low : h.low ≡ suc head
  pub place : h.place ≡ 0

-- its state
abbrev pub state_made : RingImage → Header → State
state_made i h = record { unit = still i; here = 0; other = 1; header = h; base = 0; held = []; staged = []; found = [] }
