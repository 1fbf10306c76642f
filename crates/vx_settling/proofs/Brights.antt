-- No event makes it unknown what the disks of a group hold, and nor does what a line notes beside its group.
use Rattle.std.proofs.Common.{◌≡◌, ℕ, List, Bool, false, refl}
use Rattle.vx_history.specs.Doubts.{Doubted}
use Rattle.vx_history.specs.Groups.{GroupNode}
use Rattle.vx_history.specs.Steps.{worked_on}
use Rattle.vx_history.specs.World.{Node, World, with_node}
use Rattle.vx_history.specs.declared.event.Event.{Event}
use Rattle.vx_script.specs.declared.line.ScriptLine.{ScriptLine}
use Rattle.vx_events.specs.Brights.{AllBright, IsBright, IsBrightNote}
use Rattle.vx_events.specs.Doubts.{IsAs, run_as, with_disks}
use Rattle.vx_events.specs.GroupLines.{group_noted, noting}
use Rattle.vx_events.specs.RvgBack.{fuse_left}
use Rattle.vx_settling.proofs.EachNote.{as_each, disks_each, group_noted_each, lost_each, node_each, noting_each, run_each, worked_each}

abbrev pub BrightAll : World → Type 0
BrightAll w = (i : ℕ) → IsBright (w.nodes i)

pub node_bright : (v : World) (s : ℕ) (n : Node) → IsBright n → BrightAll v → BrightAll (with_node v s n)
node_bright v s n here all = node_each IsBrightNote refl v s n here all

pub noting_bright : (v : World) (s : ℕ) (next : GroupNode) → next.dark ≡ false → BrightAll v → BrightAll (noting v s next)
noting_bright v s next known all = noting_each IsBrightNote refl v s next known all

pub disks_bright : (taken : Bool) (s : ℕ) (w v : World) → BrightAll w → BrightAll v → BrightAll (with_disks taken s w v)
disks_bright taken s w v before all = disks_each IsBrightNote refl taken s w v before all

pub worked_bright : (v : World) (s : ℕ) → BrightAll v → BrightAll (worked_on v s)
worked_bright v s all = worked_each IsBrightNote refl v s all

pub lost_bright : (lost : Bool) (v : World) (s : ℕ) → BrightAll v → BrightAll (fuse_left lost v s)
lost_bright lost v s all = lost_each IsBrightNote refl lost v s all

pub group_noted_bright : (s : ℕ) (line : ScriptLine) (v : World) → BrightAll v → BrightAll (group_noted s line v)
group_noted_bright s line v all = group_noted_each IsBrightNote refl s line v all

pub as_bright : (d : Doubted) (v : World) (new : Doubted) → IsAs d v new → BrightAll v → AllBright d → AllBright new
as_bright d v new is all b = as_each IsBrightNote refl d v new is all b

pub run_bright : (taken : Bool) (d : Doubted) (es : List Event) → AllBright d → AllBright (run_as taken d es)
run_bright taken d es b = run_each IsBrightNote refl taken d es b
