-- A line that links a site over a group of disks with a replicated volume group. Such a site has no link, so each other line on one is refused there; and no packet
-- does anything there.
use Rattle.std.specs.Prelude.{◌||◌, Bool, false}
use Rattle.vx_history.specs.World.{World}
use Rattle.vx_script.specs.declared.line.ScriptLine.{ScriptLine}
use Rattle.vx_script.specs.declared.line.ScriptLine.TheVariants.{Link}
use Rattle.vx_events.specs.Facts.{site_number}
use Rattle.vx_events.specs.RvgViews.{is_over_rvg}

-- whether it is one
abbrev pub links_rvg : World → ScriptLine → Bool
links_rvg w (Link p s sync prot) = is_over_rvg (w.nodes (site_number w p)) || is_over_rvg (w.nodes (site_number w s))
links_rvg w other = false
