-- What want of memory may leave of a line: a first part of its events. No event is half done.
use Rattle.std.specs.Prelude.{◌≡◌, ◌⊎◌, ◌&&◌, ◌||◌, ℕ, Bool, true, false, List, [], ◌∷◌, ◌++◌, take}
use Rattle.vx_model.specs.Sites.{is_up}
use Rattle.vx_history.specs.Doubts.{Doubted}
use Rattle.vx_history.specs.Groups.{GroupNode}
use Rattle.vx_history.specs.Steps.{worked_on}
use Rattle.vx_history.specs.World.{World}
use Rattle.vx_history.specs.declared.event.Event.{Event}
use Rattle.vx_script.specs.declared.line.ScriptLine.{ScriptLine}
use Rattle.vx_script.specs.declared.line.ScriptLine.TheVariants.{GroupImport, Recover, Settle}
use Rattle.vx_events.specs.Doubts.{IsAs, run_as}
use Rattle.vx_events.specs.Facts.{site_number}
use Rattle.vx_events.specs.GroupLines.{crash_first, fuse_lost, noting}
use Rattle.vx_events.specs.GroupNotes.{NotesShort, note_at}
use Rattle.vx_events.specs.LinkEnds.{AreLeft, link_noted}
use Rattle.vx_events.specs.LinkFinds.{MovesBetween}
use Rattle.vx_events.specs.LinkLists.{link_events}
use Rattle.vx_events.specs.Lists.{Choice, events_of}
use Rattle.vx_events.specs.StepsOver.{group_place, over_group_at}

-- all events of a line: of each kind one of the two lists is empty
abbrev pub all_events : World → ScriptLine → Choice → List Event
all_events w line c = events_of w line c ++ link_events w line

-- a line that takes memory between its events: one that settles a link
abbrev pub goes_in_parts : ScriptLine → Bool
goes_in_parts (Settle p s) = true
goes_in_parts other = false

-- where such a line may stop: behind any of its events. Any other takes its memory before the first.
abbrev pub MayStop : Bool → List Event → Type 0
MayStop true before = Unit {0}
MayStop false before = before ≡ []

-- what is left of a line behind these events, with what it notes; where none of them is done, nothing is noted
abbrev pub PartLeft : ScriptLine → Doubted → List Event → (new : Doubted) → Type 0
PartLeft line d [] new = new ≡ d
PartLeft line d (e ∷ es) new = AreLeft line d (run_as false d (e ∷ es)) new

-- these first events of the line were done, and the rest was not begun
pub record DonePart (d : Doubted) (line : ScriptLine) (new : Doubted) : Type 0 where
  pub choice : Choice
  pub before : List Event
  pub rest : List Event
  pub list : all_events d.world line choice ≡ before ++ rest
  pub stops : MayStop (goes_in_parts line) before
  pub leads : PartLeft line d before new

-- a line that takes memory behind a change: a recovery of a group that is up, which crashes first, or of disks that may not agree
abbrev pub raises_first : World → ScriptLine → Bool
raises_first w (Recover site) = let n = w.nodes (site_number w site) in over_group_at w site && (is_up n.state || (note_at n).loose)
raises_first w other = false

-- a line that reads the disks of a site and takes memory behind that: an import
abbrev pub reads_first : World → ScriptLine → Bool
reads_first w (GroupImport site) = over_group_at w site
reads_first w other = false

-- whether want of memory may leave a part of the line
abbrev pub may_stop : World → ScriptLine → Bool
may_stop w line = goes_in_parts line || (raises_first w line || reads_first w line)

-- the site of such a line crashed where it was up, and nothing else was done
pub record FellFirst (d : Doubted) (line : ScriptLine) (new : Doubted) : Type 0 where
  pub raises : raises_first d.world line ≡ true
  pub next : GroupNode
  pub notes : NotesShort (note_at (d.world.nodes (group_place d.world line))) next
  pub leads : let s = group_place d.world line in let last = run_as false d (crash_first (d.world.nodes s).state s) in IsAs last (noting last.world s next) new

-- the fuse of such a site may have let calls pass, or is lost where the group had come up, and nothing else was done
pub record ReadFirst (d : Doubted) (line : ScriptLine) (new : Doubted) : Type 0 where
  pub reads : reads_first d.world line ≡ true
  pub next : GroupNode
  pub notes : NotesShort (note_at (d.world.nodes (group_place d.world line))) next
  pub leads : let s = group_place d.world line in IsAs d (worked_on (noting d.world s next) s) new ⊎ IsAs d (fuse_lost (noting d.world s next) s) new

-- What want of memory leaves of a line: a first part of its events, the crash before a recovery, or the reads of an import. Over disks that tell no contents, and where the world has strayed, a
-- link may be settled by updates of whatever blocks were read: then some of them, and of what answers them, was sent and delivered.
pub data StopsShort (told : Type 0) (d : Doubted) (line : ScriptLine) (new : Doubted) : Type 0 where
  StopsInPart : DonePart d line new → StopsShort told d line new
  StopsDown : FellFirst d line new → StopsShort told d line new
  StopsRead : ReadFirst d line new → StopsShort told d line new
  StopsBetween : (told → d.strayed ≡ false → ⊥) → (p s : List ℕ) (middle : Doubted) → line ≡ Settle p s → MovesBetween (site_number d.world p) (site_number d.world s) d middle
      → AreLeft line d middle new → StopsShort told d line new

abbrev pub part_left : ScriptLine → Doubted → List Event → Doubted
part_left line d [] = d
part_left line d (e ∷ es) = let last = run_as false d (e ∷ es) in record last { world = link_noted d.world line last.world }

-- the first events of a line, so many, with what the line notes
abbrev pub first_part : Doubted → ScriptLine → Choice → ℕ → Doubted
first_part d line c k = part_left line d (take k (all_events d.world line c))
