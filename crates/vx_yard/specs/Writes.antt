-- What the yard promises of a write of blocks.
use Rattle.std.specs.Prelude.{◌≡◌, ℕ, ◌*◌, Bool, List, length, replicate, if◌then◌else◌}
use Rattle.vx_model.specs.declared.limits.TheConstants.{BLOCK}
use Rattle.vx_model.specs.declared.no.No.{No}
use Rattle.vx_model.specs.declared.no.No.TheVariants.{Device, Down}
use Rattle.vx_disk.specs.declared.shelf.Shelf.{Ghosts}
use Rattle.vx_order.specs.declared.facts.SiteFacts.{SiteFacts}
use Rattle.vx_script.specs.declared.line.ScriptLine.{ScriptLine}
use Rattle.vx_script.specs.declared.line.ScriptLine.TheVariants.{Write as WriteLine, Put as PutLine}
use Rattle.vx_events.specs.declared.said.Said.{Said}
use Rattle.vx_events.specs.declared.said.Said.TheVariants.{DoneAt, Logged}
use Rattle.vx_effects.specs.Facts.{half_fact, down_fact}
use Rattle.vx_yard.specs.Changes.{halted_facts}
use Rattle.vx_yard.specs.Working.{IsFree}
use Rattle.vx_yard.specs.declared.yard.Yard.{Yard}

-- what the tests see of a site after a write was refused so
abbrev pub noted_facts : No → SiteFacts → SiteFacts
noted_facts (Device disk) f = halted_facts disk f
noted_facts Down f = down_fact f
noted_facts other f = f

-- The same of a line on the group of disks of a site, which may have a replicated volume group over it: a disk that failed halts nothing.
abbrev pub below_facts : No → SiteFacts → SiteFacts
below_facts Down f = down_fact f
below_facts other f = f

-- what the tests see of a site after a write of this number and so many blocks of the log was refused so: where a disk failed it may stand there
abbrev pub unwritten_facts : No → (number blocks : ℕ) → SiteFacts → SiteFacts
unwritten_facts (Device disk) number blocks f = half_fact disk number blocks f
unwritten_facts Down number blocks f = down_fact f
unwritten_facts other number blocks f = f

-- a write that a link has to confirm is logged, and else it is done
abbrev pub answer_by : (waited : Bool) → (number : ℕ) → Said
answer_by waited number = if waited then Logged number else DoneAt number

-- a line that writes these bytes: a `write` of its fill, or a `put` of one block
pub data IsWriteLine (line : ScriptLine) (name volume : List ℕ) (start : ℕ) (bytes : List ℕ) : Type 0 where
  OfWrite : (count fill : ℕ) → line ≡ WriteLine name volume start count fill → bytes ≡ replicate (BLOCK * count) fill → IsWriteLine line name volume start bytes
  OfPut : line ≡ PutLine name volume start bytes → length bytes ≡ BLOCK → IsWriteLine line name volume start bytes

module _ {R : Type 0} {g : Ghosts R} where
  -- bytes that such a line may write, which no test refuses
  abbrev pub IsWriteFree : Yard R g → List ℕ → List ℕ → ℕ → List ℕ → Type 0
  IsWriteFree y name volume start bytes = (line : ScriptLine) × IsWriteLine line name volume start bytes × IsFree y line
