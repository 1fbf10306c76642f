-- Worlds that may have strayed.
use Rattle.std.specs.Prelude.{◌≡◌, ℕ, true, None}
use Rattle.vx_history.specs.Doubts.{Doubted}
use Rattle.vx_history.specs.World.{World}
use Rattle.vx_events.specs.GroupNotes.{note_at}
use Rattle.vx_events.specs.RvgFits.{rvg_noted}

-- a log came up from disks of which nothing was known
abbrev pub gone_astray : Doubted → Doubted
gone_astray d = record d { strayed = true }

-- no site notes a replicated volume group of its group
abbrev pub NotesNoRvgs : World → Type 0
NotesNoRvgs w = (i : ℕ) → rvg_noted (note_at (w.nodes i)) ≡ None
