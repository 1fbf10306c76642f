-- A ring on a unit of a shelf: the shelf's blocks are within cells that are followed call by call.
use Rattle.std.specs.Prelude.{◌≡◌, ℕ, ◌+◌, ◌<◌, ◌≤◌, List}
use Rattle.vx_srlfmt.specs.Kinds.{Other}
use Rattle.vx_disk.specs.Shelf.{Meaning, Image}
use Rattle.vx_disk.specs.Moves.{Moves, Run}
use Rattle.vx_ringlog.specs.Cells.{Cells, May, read, Act, run_all, LeftBy}
use Rattle.vx_ringio.specs.Classes.{class_of, classes}

-- the unit exists, and the headers and the ring lie in it
pub record RingLies (unit ring : ℕ) (m : Meaning) : Type 0 where
  pub exists : unit < m.units
  pub within : ring + 2 ≤ m.size unit

-- all that a crash may leave in the log's blocks, and all that a read may give of them, is within these cells
pub record Tracks (unit ring : ℕ) (u : Cells) (m : Meaning) : Type 0 where
  pub leaves : (b : ℕ) (v : List ℕ) → b < ring + 2 → m.leaves unit b v → May u b (class_of ring v)
  pub reads : (b : ℕ) (v : List ℕ) → b < ring + 2 → m.reads unit b v → class_of ring v ≡ read u b
  pub beyond : (b : ℕ) → ring + 2 ≤ b → u.stable b ≡ Other
  pub beyond_read : (b : ℕ) → ring + 2 ≤ b → read u b ≡ Other

-- an image that a crash at some moment of these calls may leave
pub record AmidCalls (unit ring : ℕ) (acts : List Act) (m : Meaning) (i : Image) : Type 0 where
  pub each : (u : Cells) → Tracks unit ring u m → LeftBy u acts (classes unit ring i)

-- whatever it answers, a call goes no further than these
abbrev pub Follows : ℕ → ℕ → List Act → Meaning → Meaning → Type 0
Follows unit ring acts old new = Moves (Run unit 0 (ring + 2)) (AmidCalls unit ring acts old) old new

-- a call makes all of these
pub record Arrives (unit ring : ℕ) (acts : List Act) (old new : Meaning) : Type 0 where
  pub each : (u : Cells) → Tracks unit ring u old → Tracks unit ring (run_all u acts) new
