-- How the events of a line end where sites may be in doubt: all are done, or one of them is ended by a failing disk, by a fuse or by want of a
-- number.
use Rattle.std.specs.Prelude.{◌≡◌, ◌⊎◌, ℕ, ◌+◌, ◌≤◌, ◌<◌, Bool, List, [], ◌∷◌, ◌++◌, Some, false}
use Rattle.vx_model.specs.Content.{blocks_from}
use Rattle.vx_model.specs.declared.limits.TheConstants.{MOST_NUMBER}
use Rattle.vx_model.specs.declared.no.Counted.TheVariants.{Number}
use Rattle.vx_model.specs.declared.no.No.{No}
use Rattle.vx_model.specs.declared.no.No.TheVariants.{Device, Limit, Down as IsOff}
use Rattle.vx_model.specs.declared.site.SiteState.TheVariants.{Bare, Up, Down}
use Rattle.vx_model.specs.Refusals.{IsNoDevice}
use Rattle.vx_model.specs.Sites.{is_origin}
use Rattle.vx_history.specs.Doubts.{Doubted, halved}
use Rattle.vx_history.specs.Events.{recovery_greeting}
use Rattle.vx_history.specs.Headers.{headers_by}
use Rattle.vx_history.specs.Refusals.{is_primary}
use Rattle.vx_history.specs.Step.{joined_blocks, outcome_of}
use Rattle.vx_history.specs.Steps.{raw_set, fused, worked_on}
use Rattle.vx_history.specs.Sends.{sending, with_links}
use Rattle.vx_history.specs.World.{Link, Node, World, with_node}
use Rattle.vx_history.specs.declared.event.Event.{Event}
use Rattle.vx_history.specs.declared.event.Said.TheVariants.{Got as HasGot}
use Rattle.vx_history.specs.declared.event.Event.TheVariants.{Site as MakeSite, Raw as MakeRaw, Write as WriteAt, Read as ReadAt, Apply as ApplyAt, Crash as CrashAt, Recover as RecoverAt, Fault}
use Rattle.vx_script.specs.declared.line.ScriptLine.{ScriptLine}
use Rattle.vx_script.specs.declared.line.ScriptLine.TheVariants.{Site, Raw, Disk, Crash, Fuse, Recover, Write, Put, Read, Show, Apply, Status}
use Rattle.vx_events.specs.Doubts.{IsAs, run_as, with_disks}
use Rattle.vx_events.specs.Facts.{site_number, volume_number}
use Rattle.vx_events.specs.Failing.{is_failing, made_fail}
use Rattle.vx_events.specs.Fails.{Fails, AreBorne, IsSiteDisk}
use Rattle.vx_events.specs.Found.{ComesUpAs}
use Rattle.vx_history.specs.Stops.{IsFused}
use Rattle.vx_events.specs.Lists.{Choice, crash_count, events_of}
use Rattle.vx_events.specs.LinkViews.{linked_view}
use Rattle.vx_events.specs.Sayings.{GivesBlocks, Replies, received_content}
use Rattle.vx_events.specs.Stamps.{most_stamp_at, waiting_of}
use Rattle.vx_events.specs.declared.said.Said.{Said}
use Rattle.vx_events.specs.declared.said.Said.TheVariants.{Recovered, Refused}

-- the site of a line: of a `site` line the one that it makes
abbrev pub place_of : World → ScriptLine → ℕ
place_of w (Site name disks blocks) = w.sites
place_of w (Raw site) = site_number w site
place_of w (Disk site disk state) = site_number w site
place_of w (Crash site pick) = site_number w site
place_of w (Fuse site calls pick) = site_number w site
place_of w (Recover site) = site_number w site
place_of w (Write site volume start count fill) = site_number w site
place_of w (Put site volume start bytes) = site_number w site
place_of w (Read site volume start count) = site_number w site
place_of w (Show site volume start count) = site_number w site
place_of w (Apply site to) = site_number w site
place_of w (Status site) = site_number w site
place_of w other = 0

-- The world v with what a line notes of the disks of its site: `disk` makes one fail, or ends that; `fuse` sets a fuse, and behind a line that
-- may write or flush it is lit.
abbrev pub noted : (site : ℕ) → ScriptLine → World → World
noted s (Disk site disk state) v = made_fail v s disk (is_failing state)
noted s (Fuse site calls pick) v = fused v s calls
noted s (Write site volume start count fill) v = worked_on v s
noted s (Put site volume start bytes) v = worked_on v s
noted s (Apply site to) v = worked_on v s
noted s other v = v

-- what a line at this site leaves of the worlds to which its events came: with what the line notes, and with the doubts that are left
abbrev pub IsLeft : (site : ℕ) → ScriptLine → (taken : Bool) → (before last new : Doubted) → Type 0
IsLeft s line taken d last new = IsAs last (noted s line (with_disks taken s d.world last.world)) new

-- What a failing disk leaves of an event: of a write that it may stand, and that its site is halted; of an apply that its site is halted; of a
-- recovery nothing, or that the next session has begun; and of what makes a site or reads nothing.
abbrev pub LeavesOf : Event → (disk : ℕ) → List Event → Type 0
LeavesOf (MakeSite name disks blocks) d left = left ≡ []
LeavesOf (MakeRaw s) d left = left ≡ []
LeavesOf (WriteAt s volume start bytes fails) d left = left ≡ WriteAt s volume start bytes (Some d) ∷ []
LeavesOf (ReadAt s volume start count) d left = left ≡ []
LeavesOf (ApplyAt s count reached) d left = left ≡ Fault s d ∷ []
LeavesOf (RecoverAt s fails) d left = (left ≡ []) ⊎ (left ≡ RecoverAt s (Some d) ∷ [])
LeavesOf other d left = ⊥

-- the disk that a failed call of an event at this site names: of a write and of an apply it is one of the site's log and volumes
abbrev pub MayName : Node → Event → (disk : ℕ) → Type 0
MayName n (WriteAt s volume start bytes fails) disk = IsSiteDisk n disk
MayName n (ApplyAt s count reached) disk = IsSiteDisk n disk
MayName n other disk = Unit {0}

-- the write gives links of its site up, which a header says before the write is logged
abbrev pub WritesAHeader : World → Event → (site : ℕ) → Type 0
WritesAHeader w (WriteAt s volume start bytes fails) site =
    (s ≡ site) × (0 < headers_by (WriteAt s volume start bytes fails) w (outcome_of w (WriteAt s volume start bytes fails)) s)
WritesAHeader w other site = ⊥

-- What is begun of an event in which a fuse runs out: a write may stand, but where the fuse ran out in a header before it. Only events that
-- write or flush end so.
abbrev pub BegunOf : World → Event → List Event → Type 0
BegunOf w (WriteAt s volume start bytes fails) begun =
    (begun ≡ WriteAt s volume start bytes (Some 0) ∷ []) ⊎ ((begun ≡ []) × WritesAHeader w (WriteAt s volume start bytes (Some 0)) s)
BegunOf w (ApplyAt s count reached) begun = begun ≡ []
BegunOf w other begun = ⊥

-- How many writes the site may keep as a fuse runs out in this event: as records that wait are applied, no more than the first of them, so many.
abbrev pub MayKeep : World → Event → (kept : ℕ) → Type 0
MayKeep w (ApplyAt s count reached) kept = kept ≤ (w.nodes s).safe + count
MayKeep w other kept = Unit {0}

-- The greatest stamp of a site's log in which no number is left for this event: a write, a recovery, or an apply of the records that wait at a site that
-- receives.
abbrev pub NoneLeft : Event → World → (site : ℕ) → Type 0
NoneLeft (WriteAt s volume start bytes fails) w site = MOST_NUMBER ≤ most_stamp_at w site
NoneLeft (RecoverAt s fails) w site = MOST_NUMBER ≤ most_stamp_at w site + 2
NoneLeft (ApplyAt s count reached) w site =
    (is_origin (w.nodes site).role ≡ false) × (MOST_NUMBER ≤ most_stamp_at w site + waiting_of (w.nodes site))
NoneLeft other w site = ⊥

-- the event takes numbers or a session
abbrev pub MayLack : Event → Type 0
MayLack (WriteAt s volume start bytes fails) = Unit {0}
MayLack (RecoverAt s fails) = Unit {0}
MayLack (ApplyAt s count reached) = Unit {0}
MayLack other = ⊥

-- the world in which a site is recovered, and its node there: of a bare one a raw set
pub data Recovering (d : Doubted) (s : ℕ) (c : Choice) (taken : Bool) (mid : Doubted) (n : Node) : Type 0 where
  FromUp : (d.world.nodes s).state ≡ Up → mid ≡ run_as taken d (CrashAt s (crash_count (d.world.nodes s) c.kept) ∷ []) → n ≡ mid.world.nodes s → Recovering d s c taken mid n
  FromDown : (d.world.nodes s).state ≡ Down → mid ≡ d → n ≡ mid.world.nodes s → Recovering d s c taken mid n
  FromBare : (d.world.nodes s).state ≡ Bare → mid ≡ d → n ≡ raw_set s (d.world.nodes s) → Recovering d s c taken mid n

-- this node of the site came up with these links, which the header of its log keeps; one that receives greets
abbrev pub found_linked : Doubted → (site : ℕ) → Node → (row : ℕ → Link) → Doubted
found_linked d s k row = record d { world = sending (with_links (with_node d.world s k) s row) (recovery_greeting s k) }

-- A line at site s that no test refuses. Of disks that tell no contents it is not known how many numbers are left, and a recovery finds
-- any state, session and number of writes on them: it still changes its own site alone, which keeps its name, its disks and its volumes.
pub data Ends (told : Type 0) (d : Doubted) (line : ScriptLine) (s : ℕ) (fails : Fails) (said : Said) (new : Doubted) : Type 0 where
  -- all events are done, and the last of them is answered
  AllDone : (c : Choice) (taken : Bool) → AreBorne d.world s fails → Replies told line s taken d (events_of d.world line c) said
      → IsLeft s line taken d (run_as taken d (events_of d.world line c)) new → Ends told d line s fails said new
  -- a disk failed in an event, behind those before it
  DiskFails : (c : Choice) (taken : Bool) (before : List Event) (e : Event) (rest left : List Event) (disk : ℕ) → events_of d.world line c ≡ before ++ e ∷ rest
      → LeavesOf e disk left → MayName (d.world.nodes s) e disk → fails ≡ (s, disk) ∷ [] → said ≡ Refused (Device disk) → IsLeft s line taken d (run_as taken d (before ++ left)) new
      → Ends told d line s fails said new
  -- a disk failed in the header that a write begins with: that header and the write may be on the disks of the site, which is in doubt
  HeaderFails : (c : Choice) (e f : Event) (disk : ℕ) → events_of d.world line c ≡ e ∷ [] → LeavesOf e disk (f ∷ []) → WritesAHeader d.world f s
      → fails ≡ (s, disk) ∷ [] → said ≡ Refused (Device disk) → IsLeft s line false d (halved d f s disk) new → Ends told d line s fails said new
  -- the fuse of the disks ran out in an event: the site is down, with so many of its writes
  FuseRunsOut : (c : Choice) (e : Event) (begun : List Event) → events_of d.world line c ≡ e ∷ [] → BegunOf d.world e begun → MayKeep d.world e c.kept
      → IsFused (d.world.nodes s).fuse → fails ≡ [] → said ≡ Refused IsOff → IsLeft s line false d (run_as false d (begun ++ CrashAt s c.kept ∷ [])) new → Ends told d line s fails said new
  -- no number is left for an event
  NoNumber : (c : Choice) (taken : Bool) (before : List Event) (e : Event) (rest : List Event) → events_of d.world line c ≡ before ++ e ∷ rest → MayLack e
      → (told → NoneLeft e (run_as taken d before).world s) → fails ≡ [] → said ≡ Refused (Limit Number MOST_NUMBER)
      → IsLeft s line taken d (run_as taken d before) new → Ends told d line s fails said new
  -- a site that is no primary shows its blocks with all writes that came to it, of which some may wait
  ShowsReceived : (site volume : List ℕ) (start count : ℕ) → line ≡ Show site volume start count → is_primary (d.world.nodes s).role ≡ false
      → GivesBlocks told count (HasGot (joined_blocks (blocks_from (received_content (d.world.nodes s)) (volume_number (d.world.nodes s) volume) start count))) said
      → AreBorne d.world s fails → IsLeft s line false d d new → Ends told d line s fails said new
  -- what stood on disks that tell no contents came up with the links that its header keeps, or was refused
  FindsLinks : (told → ⊥) → (c : Choice) (taken : Bool) (site : List ℕ) (mid : Doubted) (n k : Node) (row : ℕ → Link) → line ≡ Recover site
      → Recovering d s c taken mid n → ComesUpAs s mid.world.sites n k row → AreBorne d.world s fails
      → said ≡ Recovered k.safe (linked_view (found_linked mid s k row).world s) → IsLeft s line taken d (found_linked mid s k row) new
      → Ends told d line s fails said new
  FindsNone : (told → ⊥) → (c : Choice) (taken : Bool) (site : List ℕ) (mid : Doubted) (n : Node) (why : No) → line ≡ Recover site
      → Recovering d s c taken mid n → IsNoDevice why → fails ≡ [] → said ≡ Refused why → IsLeft s line taken d mid new → Ends told d line s fails said new
