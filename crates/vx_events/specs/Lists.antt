-- The events of the world that a line stands for.
use Rattle.std.specs.Prelude.{ℕ, ◌*◌, List, [], ◌∷◌, replicate, Option, None, Some}
use Rattle.vx_model.specs.declared.limits.TheConstants.{BLOCK}
use Rattle.vx_history.specs.World.{Node, World}
use Rattle.vx_history.specs.declared.event.Event.{Event}
use Rattle.vx_history.specs.declared.event.Event.TheVariants.{Site as MakeSite, Raw as MakeRaw, Write as WriteAt, Read as ReadAt, Apply as ApplyAt, Crash as CrashAt, Recover as RecoverAt}
use Rattle.vx_model.specs.declared.site.SiteState.{SiteState}
use Rattle.vx_model.specs.declared.site.SiteState.TheVariants.{Bare, Up, Deported, Down}
use Rattle.vx_script.specs.declared.line.ScriptLine.{ScriptLine}
use Rattle.vx_script.specs.declared.line.ScriptLine.TheVariants.{Site, Raw, Disk, Crash, Fuse, Recover, Write, Put, Read, Show, Apply, Status}
use Rattle.vx_events.specs.Facts.{site_number, volume_number}

-- what a line leaves open: how many writes a crash keeps, and up to which number the site has applied
pub record Choice : Type 0 where
  pub kept : ℕ
  pub reached : ℕ

-- so many writes are kept of a site: while no disk halted it, those that are durable
abbrev pub kept_while : (halted : Option ℕ) → (safe kept : ℕ) → ℕ
kept_while None safe kept = safe
kept_while (Some disk) safe kept = kept

-- How many writes a crash by a line keeps. One that runs loses all that waits in its memory; of one that is halted a call that failed may have left more.
abbrev pub crash_count : Node → (kept : ℕ) → ℕ
crash_count n kept = kept_while n.halted n.safe kept

-- a site that is up crashes before it is recovered
abbrev pub recovery_of : SiteState → (site kept : ℕ) → List Event
recovery_of Bare s kept = RecoverAt s None ∷ []
recovery_of Up s kept = CrashAt s kept ∷ RecoverAt s None ∷ []
recovery_of Deported s kept = RecoverAt s None ∷ []
recovery_of Down s kept = RecoverAt s None ∷ []

-- so many blocks from `start` on of a volume are written
abbrev pub writing_events : World → (site volume : List ℕ) → (start : ℕ) → (bytes : List ℕ) → List Event
writing_events w site volume start bytes =
    let s = site_number w site in WriteAt s (volume_number (w.nodes s) volume) start bytes None ∷ []

abbrev pub read_of : World → (site volume : List ℕ) → (start count : ℕ) → List Event
read_of w site volume start count = let s = site_number w site in ReadAt s (volume_number (w.nodes s) volume) start count ∷ []

-- The events of a line. A line of disks, of a fuse or of a status has none: it changes what the world only notes, or nothing.
abbrev pub events_of : World → ScriptLine → Choice → List Event
events_of w (Site name disks blocks) c = MakeSite name disks blocks ∷ []
events_of w (Raw site) c = MakeRaw (site_number w site) ∷ []
events_of w (Disk site disk state) c = []
events_of w (Crash site pick) c = let s = site_number w site in CrashAt s (crash_count (w.nodes s) c.kept) ∷ []
events_of w (Fuse site calls pick) c = []
events_of w (Recover site) c = let s = site_number w site in recovery_of (w.nodes s).state s (crash_count (w.nodes s) c.kept)
events_of w (Write site volume start count fill) c = writing_events w site volume start (replicate (BLOCK * count) fill)
events_of w (Put site volume start bytes) c = writing_events w site volume start bytes
events_of w (Read site volume start count) c = read_of w site volume start count
events_of w (Show site volume start count) c = read_of w site volume start count
events_of w (Apply site to) c = ApplyAt (site_number w site) to c.reached ∷ []
events_of w (Status site) c = []
events_of w other c = []
