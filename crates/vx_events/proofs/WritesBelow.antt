-- A line that writes blocks at a site with a replicated volume group over its group of disks: to a data volume, or to another volume of the group alone.
use Rattle.std.proofs.Common.{ℕ, Bool, true, false}
use Rattle.vx_history.specs.Doubts.{Doubted}
use Rattle.vx_script.specs.declared.line.ScriptLine.{ScriptLine}
use Rattle.vx_events.specs.Fails.{Fails}
use Rattle.vx_events.specs.RvgOver.{BelowEnds, EndsOver, EndsWrite}
use Rattle.vx_events.specs.declared.said.Said.{Said}

-- either kind of volume is written
pub write_by : (told : Type 0) (d : Doubted) (line : ScriptLine) (s : ℕ) (fails : Fails) (said : Said) (new : Doubted) (P : Type 0) → (EndsOver told d line s fails said new → P) → (BelowEnds told d line s fails said new → P)
    → (mine : Bool) → EndsWrite mine told d line s fails said new → P
write_by told d line s fails said new P over below true it = over it
write_by told d line s fails said new P over below false it = below it

-- the same where less is told
pub write_told : {T U : Type 0} (d : Doubted) (line : ScriptLine) (s : ℕ) (fails : Fails) (said : Said) (new : Doubted) → (EndsOver T d line s fails said new → EndsOver U d line s fails said new)
    → (BelowEnds T d line s fails said new → BelowEnds U d line s fails said new) → (mine : Bool) → EndsWrite mine T d line s fails said new → EndsWrite mine U d line s fails said new
write_told d line s fails said new over below true it = over it
write_told d line s fails said new over below false it = below it
