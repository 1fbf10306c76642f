-- What a line asks before it works.
use Rattle.std.specs.Prelude.{◌≡◌, ◌⊎◌, ℕ, Bool, IsSome, List, Option, None, false, true}
use Rattle.vx_model.specs.declared.no.No.{No}
use Rattle.vx_disk.specs.declared.shelf.Shelf.{Ghosts}
use Rattle.vx_history.specs.World.{World}
use Rattle.vx_order.specs.Order.{line_refusal}
use Rattle.vx_order.specs.Packets.{packet_unknown}
use Rattle.vx_events.specs.Facts.{site_number}
use Rattle.vx_script.specs.declared.line.ScriptLine.{ScriptLine}
use Rattle.vx_script.specs.declared.line.ScriptLine.TheVariants.{Crash, Cut, Deliver, Disk, Fuse, Pause, Put, Resume, Tick, Wait}
use Rattle.vx_yard.specs.declared.yard.Yard.{Yard}
use Rattle.vx_yard.specs.Yards.{in_files}

-- the site of this name notes no group of disks
abbrev pub IsUngroupedAt : World → List ℕ → Type 0
IsUngroupedAt w name = (w.nodes (site_number w name)).group ≡ None

-- whether memory may be short for a line before it is done: for these it never is
abbrev pub takes_memory : ScriptLine → Bool
takes_memory (Disk _ _ _) = false
takes_memory (Crash _ _) = false
takes_memory (Fuse _ _ _) = false
takes_memory (Put _ _ _ _) = false
takes_memory (Cut _ _) = false
takes_memory (Pause _ _) = false
takes_memory (Resume _ _) = false
takes_memory (Tick _ _) = false
takes_memory (Wait _ _) = false
takes_memory _ = true

module _ {R : Type 0} {g : Ghosts R} where
  -- the first refusal of a line: one that delivers looks at how many packets were sent, and any other at what the tests see of the sites
  abbrev pub refused_in : Yard R g → ScriptLine → Option No
  refused_in y (Deliver number) = packet_unknown y.flight.count number
  refused_in y other = line_refusal y.facts.items (in_files y) other

  -- a line that no test refuses
  abbrev pub IsFree : Yard R g → ScriptLine → Type 0
  IsFree y line = refused_in y line ≡ None

  -- a line that takes no memory, or that a test refuses
  abbrev pub TakesNoMemory : Yard R g → ScriptLine → Type 0
  TakesNoMemory y line = (takes_memory line ≡ false) ⊎ IsSome (refused_in y line)
