-- What calls on the volumes of a group of disks leave of its note, where a line makes several of them.
use Rattle.std.specs.Prelude.{◌≡◌, ℕ, false, [], Option, Contains}
use Rattle.vx_model.specs.Content.{Write}
use Rattle.vx_model.specs.declared.no.No.TheVariants.{Down as IsOff}
use Rattle.vx_history.specs.Groups.{GroupNode, NoteWorks}
use Rattle.vx_history.specs.Stops.{IsFused}
use Rattle.vx_history.specs.World.{Node}
use Rattle.vx_events.specs.Fails.{Fails}
use Rattle.vx_events.specs.GroupConfigs.{ConfigLoses}
use Rattle.vx_events.specs.GroupNotes.{Reconfigures}
use Rattle.vx_events.specs.declared.said.Said.{Said}
use Rattle.vx_events.specs.declared.said.Said.TheVariants.{Refused}

-- imports of the group agree, and nothing is begun
pub record NoteAgrees (note : GroupNode) : Type 0 where
  pub loose : note.loose ≡ false
  pub begun : note.begun ≡ []

-- no call at this site failed
abbrev pub NoneFailed : (s : ℕ) → Fails → Type 0
NoneFailed s fails = (k : ℕ) → Contains fails (s, k) → ⊥

-- the fuse of the disks ran out in a line that was answered so
abbrev pub FuseRanOut : Node → Said → Type 0
FuseRanOut n said = IsFused n.fuse × (said ≡ Refused IsOff)

-- Commits may have been refused in a line in which these calls failed, and in which the fuse may have run out where this says so. Where neither was, imports agree
-- behind it if they did, and nothing is begun.
pub record WorksAs (Off : Type 0) (s : ℕ) (fails : Fails) (old new : GroupNode) : Type 0 where
  pub works : NoteWorks old new
  pub quiet : NoneFailed s fails → (Off → ⊥) → NoteAgrees old → NoteAgrees new

-- and disks may be held as failed
abbrev pub NotesWork : (Off : Type 0) → (s : ℕ) → Fails → GroupNode → GroupNode → Type 0
NotesWork Off s fails note next = Reconfigures (ConfigLoses s fails) (WorksAs Off s fails) note next

-- the same behind a recovery or an import of the log that was refused, or of which what is kept of a write that was cut could not be read: that write is cut still
pub record WorksCut (Off : Type 0) (s : ℕ) (fails : Fails) (cut : Option Write) (note next : GroupNode) : Type 0 where
  pub worked : GroupNode
  pub works : NotesWork Off s fails note worked
  pub is : next ≡ record worked { cut = cut }
