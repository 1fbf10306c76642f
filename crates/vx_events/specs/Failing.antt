-- The disks of a site that lines made fail.
use Rattle.std.specs.Prelude.{◌≡◌, ℕ, Bool, true, false}
use Rattle.vx_history.specs.World.{World, updated, with_node}
use Rattle.vx_script.specs.declared.line.DiskState.{DiskState}
use Rattle.vx_script.specs.declared.line.DiskState.TheVariants.{Fail, Work}
use Rattle.vx_script.specs.declared.line.ScriptLine.{ScriptLine}
use Rattle.vx_script.specs.declared.line.ScriptLine.TheVariants.{Write, Put, Link, Set}
use Rattle.vx_events.specs.Facts.{site_number}
use Rattle.vx_events.specs.Sayings.{is_written}
use Rattle.vx_events.specs.declared.said.Said.{Said}
use Rattle.vx_events.specs.declared.said.Said.TheVariants.{Done}

-- whether the calls on the disk are to fail
abbrev pub is_failing : DiskState → Bool
is_failing Fail = true
is_failing Work = false

-- a site of which each later call on a disk fails, or no longer
abbrev pub made_fail : World → ℕ → ℕ → Bool → World
made_fail w s disk on = with_node w s (record (w.nodes s) { failing = updated (w.nodes s).failing disk on })

-- a write is done only where the disk of its site's log is not made to fail, and so is a line that makes a link, of both its sites, or sets one anew
abbrev pub NeedsLog : World → ScriptLine → Said → Type 0
NeedsLog w (Write site volume start count fill) said = is_written said ≡ true → (w.nodes (site_number w site)).failing 0 ≡ false
NeedsLog w (Put site volume start bytes) said = is_written said ≡ true → (w.nodes (site_number w site)).failing 0 ≡ false
NeedsLog w (Link p s sync prot) said = said ≡ Done → ((w.nodes (site_number w p)).failing 0 ≡ false) × ((w.nodes (site_number w s)).failing 0 ≡ false)
NeedsLog w (Set p s sync prot) said = said ≡ Done → (w.nodes (site_number w p)).failing 0 ≡ false
NeedsLog w other said = Unit {0}
