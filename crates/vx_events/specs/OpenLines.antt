-- The lines at which a run ends as at one whose kind is not built: one that links a site with a replicated volume group over its group of disks.
use Rattle.std.specs.Prelude.{◌≡◌, Bool, true, false, None}
use Rattle.vx_history.specs.World.{World}
use Rattle.vx_script.specs.declared.line.ScriptLine.{ScriptLine}
use Rattle.vx_events.specs.RvgLinks.{links_rvg}
use Rattle.vx_events.specs.StepsOver.{refused_over}

abbrev pub is_open : World → ScriptLine → Bool
is_open w line = links_rvg w line

-- no line is open there
abbrev pub HasNoOpen : World → Type 0
HasNoOpen w = (line : ScriptLine) → is_open w line ≡ false

-- a run ends at the line: no test refuses it, and it is open
pub record EndsRun (files : Bool) (w : World) (line : ScriptLine) : Type 0 where
  pub free : refused_over w files line ≡ None
  pub is : is_open w line ≡ true
