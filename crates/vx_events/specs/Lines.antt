-- What a line does to the world, in which sites may be in doubt: its first refusal, or its events and the way in which they end.
use Rattle.std.specs.Prelude.{◌≡◌, ℕ, ◌*◌, ◌≤◌, ◌<◌, Bool, true, false, List, [], replicate, Option, Some, None}
use Rattle.vx_model.specs.declared.limits.TheConstants.{BLOCK}
use Rattle.vx_model.specs.Content.{Write as WriteBlocks}
use Rattle.vx_model.specs.declared.no.No.{No}
use Rattle.vx_model.specs.declared.no.No.TheVariants.{Down as IsOff}
use Rattle.vx_history.specs.Doubts.{Doubted}
use Rattle.vx_history.specs.World.{Node, World}
use Rattle.vx_script.specs.declared.line.ScriptLine.{ScriptLine}
use Rattle.vx_script.specs.declared.line.ScriptLine.TheVariants.{Write, Put, Link, Set, Connect, Cut, Pause, Resume, Pump, Tick, Wait, Deliver, Settle}
use Rattle.vx_events.specs.Ends.{Ends, place_of}
use Rattle.vx_events.specs.Facts.{site_number, volume_number}
use Rattle.vx_events.specs.Failing.{NeedsLog}
use Rattle.vx_events.specs.Fails.{Fails}
use Rattle.vx_events.specs.Fuses.{IsExact, NeedsCalls}
use Rattle.vx_events.specs.LinkEnds.{LinkEnds}
use Rattle.vx_events.specs.LinkedFacts.{refused_by}
use Rattle.vx_events.specs.Sayings.{is_written}
use Rattle.vx_events.specs.declared.said.Said.{Said}
use Rattle.vx_events.specs.declared.said.Said.TheVariants.{Refused}

-- A write under a fuse that was just set, in a log whose place is known, is exactly four calls: it is done only where four may pass, and
-- its fuse runs out only where fewer may.
pub record IsCutBelow (told : Type 0) (n : Node) (x : WriteBlocks) (said : Said) : Type 0 where
  pub done : told → (calls : ℕ) → IsExact n x calls → is_written said ≡ true → 4 ≤ calls
  pub off : told → (calls : ℕ) → IsExact n x calls → said ≡ Refused IsOff → calls < 4

abbrev pub write_in : World → (site volume : List ℕ) → (start : ℕ) → (bytes : List ℕ) → WriteBlocks
write_in w site volume start bytes = record { volume = volume_number (w.nodes (site_number w site)) volume; start = start; bytes = bytes }

-- what is known of the calls of a line: how many a write makes
abbrev pub CountsCalls : Type 0 → World → ScriptLine → Said → Type 0
CountsCalls told w (Write site volume start count fill) said =
    IsCutBelow told (w.nodes (site_number w site)) (write_in w site volume start (replicate (BLOCK * count) fill)) said
CountsCalls told w (Put site volume start bytes) said =
    IsCutBelow told (w.nodes (site_number w site)) (write_in w site volume start bytes) said
CountsCalls told w other said = Unit {0}

-- whether a line is one of links or packets
abbrev pub is_of_links : ScriptLine → Bool
is_of_links (Link p s sync prot) = true
is_of_links (Set p s sync prot) = true
is_of_links (Connect p s) = true
is_of_links (Cut p s) = true
is_of_links (Pause p s) = true
is_of_links (Resume p s) = true
is_of_links (Pump p s) = true
is_of_links (Tick p s) = true
is_of_links (Wait p number) = true
is_of_links (Deliver number) = true
is_of_links (Settle p s) = true
is_of_links other = false

-- how the events of a line end: one of links, or another
abbrev pub EndsBy : Bool → Type 0 → Doubted → ScriptLine → Fails → Said → Doubted → Type 0
EndsBy true told d line fails said new = LinkEnds told d line fails said new
EndsBy false told d line fails said new = Ends told d line (place_of d.world line) fails said new

-- a refused line changes nothing
pub record IsRefusedLine (why : No) (d : Doubted) (fails : Fails) (said : Said) (new : Doubted) : Type 0 where
  pub none : fails ≡ []
  pub says : said ≡ Refused why
  pub stays : new ≡ d

-- a line that no test refuses
pub record IsDone (told : Type 0) (d : Doubted) (line : ScriptLine) (fails : Fails) (said : Said) (new : Doubted) : Type 0 where
  pub ends : EndsBy (is_of_links line) told d line fails said new
  pub counts : CountsCalls told d.world line said
  pub works : NeedsLog d.world line said
  pub calls : NeedsCalls d.world line said

abbrev pub StepBy : Option No → Type 0 → Doubted → ScriptLine → Fails → Said → Doubted → Type 0
StepBy (Some why) told d line fails said new = IsRefusedLine why d fails said new
StepBy None told d line fails said new = IsDone told d line fails said new

-- The first refusal that holds in the one order is the reply, and nothing changes. Where there is none, the events of the line happen.
abbrev pub LineStep : Type 0 → Bool → Doubted → ScriptLine → Fails → Said → Doubted → Type 0
LineStep told files d line fails said new = StepBy (refused_by d.world files line) told d line fails said new
