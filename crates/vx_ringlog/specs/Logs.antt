-- The log between calls, its calls, and what each leaves.
use Rattle.std.specs.Prelude.{◌≡◌, ◌⊎◌, ℕ, suc, ◌+◌, ◌<◌, ◌≤◌, List, [], ◌∷◌, ◌++◌, take}
use Rattle.vx_srlfmt.specs.declared.header.Header.{Header}
use Rattle.vx_ringlog.specs.Cells.{Cells, RingImage, Act, Always, Leaves, run_all}
use Rattle.vx_ringlog.specs.Records.{era_of, Record, Genuine}
use Rattle.vx_ringlog.specs.Chain.{block, width, total, Recovers}
use Rattle.vx_ringlog.specs.Ready.{after, next, last, ReadyRing}
use Rattle.vx_ringlog.specs.Acts.{stage_acts, seal_acts, head_acts}
use Rattle.vx_ringlog.specs.Heads.{Heads}

-- the record is one of these
abbrev pub In : Record → List Record → Type 0
In r [] = ⊥
In r (x ∷ xs) = (r ≡ x) ⊎ In r xs

-- `header` stands in block `here` of the unit; the ring is counted on from `base`, which has the block of the header's place.
-- `held` is from the header's low number on, `found` is what the last start found.
pub record State : Type 0 where
  pub unit : Cells
  pub here : ℕ
  pub other : ℕ
  pub header : Header
  pub base : ℕ
  pub held : List Record
  pub staged : List Record
  pub found : List Record

-- the log stands: each held record was found by the last start or made since it; and while nothing is staged no block has a value that was not flushed
pub record IsLog (size : ℕ) (s : State) : Type 0 where
  pub ready : ReadyRing size s.unit (era_of s.header) s.base s.header.low s.header.floor s.held s.staged
  pub heads : Heads s.unit s.here s.other s.header
  pub place : block size s.base ≡ block size s.header.place
  pub origin : (r : Record) → In r s.held → In r s.found ⊎ (r.incarnation ≡ s.header.incarnation)
  pub still : s.staged ≡ [] → s.unit.loose ≡ []

-- `Save` is a change of the state, or a reclaim: the header's low number moves behind the first of the two lists into which what is held falls
pub data Call : Type 0 where
  Stage : Record → Call
  Seal : Call
  Save : Header → List Record → List Record → Call
  Restart : Header → Call

-- its device calls
abbrev pub acts_of : ℕ → State → Call → List Act
acts_of size s (Stage r) = stage_acts size (after (after s.base s.held) s.staged) r
acts_of size s Seal = seal_acts size (after s.base s.held) s.staged
acts_of size s (Save g gone kept) = head_acts s.other g
acts_of size s (Restart g) = head_acts s.other g

-- the log behind it
abbrev pub behind_call : ℕ → State → Call → State
behind_call size s (Stage r) = record s { unit = run_all s.unit (acts_of size s (Stage r)); staged = s.staged ++ r ∷ [] }
behind_call size s Seal = record s { unit = run_all s.unit (acts_of size s Seal); held = s.held ++ s.staged; staged = [] }
behind_call size s (Save g gone kept) = record { unit = run_all s.unit (head_acts s.other g); here = s.other; other = s.here; header = g; base = after s.base gone; held = kept; staged = s.staged; found = s.found }
behind_call size s (Restart g) = record { unit = run_all s.unit (head_acts s.other g); here = s.other; other = s.here; header = g; base = g.place; held = []; staged = []; found = [] }

-- the record is the next one, of the present start, and there is room for it behind what the header still keeps
pub record MayStage (size : ℕ) (s : State) (r : Record) : Type 0 where
  pub room : total s.held + total s.staged + width r ≤ size
  pub number : r.number ≡ next (next s.header.low s.held) s.staged
  pub run : r.run ≡ s.header.run
  pub line : r.line ≡ s.header.state.line
  pub genuine : Genuine r
  pub incarnation : r.incarnation ≡ s.header.incarnation

-- the header has a greater stamp and the same incarnation, run and line; its low number, place and floor go by the last record that is gone
pub record MaySave (size : ℕ) (s : State) (g : Header) (gone kept : List Record) : Type 0 where
  pub split : s.held ≡ gone ++ kept
  pub stamp : s.header.stamp < g.stamp
  pub era : era_of g ≡ era_of s.header
  pub low : g.low ≡ next s.header.low gone
  pub place : block size (after s.base gone) ≡ block size g.place
  pub floor : g.floor ≡ last s.header.floor gone

-- the header has a greater stamp, the next run, and the present incarnation as its floor; line, low number and place are free
pub record MayRestart (s : State) (g : Header) : Type 0 where
  pub stamp : s.header.stamp < g.stamp
  pub incarnation : g.incarnation ≡ s.header.incarnation
  pub run : g.run ≡ suc s.header.run
  pub floor : g.floor ≡ s.header.incarnation

-- what a call asks for
abbrev pub Allowed : ℕ → State → Call → Type 0
Allowed size s (Stage r) = MayStage size s r
Allowed size s Seal = Unit {0}
Allowed size s (Save g gone kept) = MaySave size s g gone kept
Allowed size s (Restart g) = MayRestart s g

-- the new log, where the call writes a header
abbrev pub New : ℕ → State → Call → RingImage → Type 0
New size s (Stage r) i = ⊥
New size s Seal i = ⊥
New size s (Save g gone kept) i = (k : ℕ) × Recovers size i g (kept ++ take k s.staged)
New size s (Restart g) i = Recovers size i g []

-- the old log with a first part of what is staged, or the new one
abbrev pub Found : ℕ → State → Call → RingImage → Type 0
Found size s c i = ((k : ℕ) × Recovers size i s.header (s.held ++ take k s.staged)) ⊎ New size s c i

-- at each moment of a call a crash leaves the old log or the new one, and behind the call the log stands
abbrev pub CallIsSafe : Type 0
CallIsSafe = (size : ℕ) (s : State) (c : Call) → IsLog size s → Allowed size s c → Always (Leaves (Found size s c)) s.unit (acts_of size s c) × IsLog size (behind_call size s c)
