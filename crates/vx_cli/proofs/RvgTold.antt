-- What a line came to at sites with replicated volume groups over groups of disks where contents are told it came to where even more is told.
use Rattle.std.proofs.Common.{ℕ, Bool, true, false, inl, inr}
use Rattle.std.specs.Prelude.{Option, Some, None}
use Rattle.vx_history.specs.Doubts.{Doubted}
use Rattle.vx_history.specs.Groups.{GroupNode}
use Rattle.vx_model.specs.declared.no.No.{No}
use Rattle.vx_model.specs.declared.units.Units.{Units}
use Rattle.vx_order.specs.Calls.{is_data}
use Rattle.vx_script.specs.declared.line.ScriptLine.{ScriptLine}
use Rattle.vx_script.specs.declared.line.ScriptLine.TheVariants.{GroupDeport, GroupImport, PlexAttach, PlexDetach, Put, Read, Recover, Rvg, Show, Volume, Write}
use Rattle.vx_events.specs.Ends.{place_of}
use Rattle.vx_events.specs.Facts.{site_number}
use Rattle.vx_events.specs.Fails.{Fails}
use Rattle.vx_events.specs.GroupNotes.{note_at}
use Rattle.vx_events.specs.Parts.{StopsBetween, StopsDown, StopsInPart, StopsRead, StopsShort}
use Rattle.vx_events.specs.RvgBack.{FindsLost, FindsNoRvg, FindsPlain, FindsRvg, GroupHeld, GroupUnfound, KeptLost, LogFails, LogLacks, RvgBack, RvgFinds, RvgUp}
use Rattle.vx_events.specs.OpenLines.{is_open}
use Rattle.vx_events.specs.RvgMakes.{MakesRvg, RvgCut, RvgDone, RvgFails, RvgLacks}
use Rattle.vx_events.specs.RvgNotes.{NotesLacking, NotesNarrowed, NotesNoRvg, NotesRvg}
use Rattle.vx_events.specs.RvgOver.{AsGroup, BelowEnds, CutBelow, EndsBelow, EndsOver, OverRvg, kind_named, missed_world}
use Rattle.vx_events.specs.RvgParts.{RvgShort, ShortFull, ShortGroup, ShortLog, ShortMade, short_place}
use Rattle.vx_events.specs.RvgSteps.{AsBefore, FoundOne, FullBy, WorksAbove, WorksBeside, WorksFull, is_for_rvg, rvg_place}
use Rattle.vx_events.specs.StepsOver.{group_place, is_for_group}
use Rattle.vx_events.specs.declared.said.Said.{Said}
use Rattle.vx_events.proofs.GroupTold.{back_told, group_told, known_told, nothing_told, shows_told}
use Rattle.vx_events.proofs.LineTold.{ends_told}
use Rattle.vx_events.proofs.ReadsLeave.{read_told}
use Rattle.vx_events.proofs.WritesBelow.{write_told}
use Rattle.vx_events.proofs.Tolds.{works_told}
use Rattle.vx_events.specs.RvgTakes.{RvgTaken, TakeFails, TakeLacks, TakeCut, TakeOff, TakeUnfound, TakeHeld, RvgTakes, NotesOff}

module _ {T U : Type 0} (f : U → T) where
  -- ---- a line that makes one

  narrowed_told : (units : Units) (note new : GroupNode) → NotesNarrowed T units note new → NotesNarrowed U units note new
  narrowed_told units note new x = record { size = x.size; may = λ known. x.may (known_told f note known); others = x.others; inside = x.inside; same = x.same }

  no_rvg_told : (Off : Type 0) (s : ℕ) (fails : Fails) (units : Units) (note new : GroupNode) → NotesNoRvg T Off s fails units note new → NotesNoRvg U Off s fails units note new
  no_rvg_told Off s fails units note new x = record { middle = x.middle; narrowed = narrowed_told units note x.middle x.narrowed; moves = x.moves }

  lacking_told : (s : ℕ) (fails : Fails) (units : Units) (note new : GroupNode) → NotesLacking T s fails units note new → NotesLacking U s fails units note new
  lacking_told s fails units note new x = record { middle = x.middle; narrowed = narrowed_told units note x.middle x.narrowed; moves = x.moves }

  rvg_told : (s : ℕ) (fails : Fails) (units : Units) (note middle new : GroupNode) → NotesRvg T s fails units note middle new → NotesRvg U s fails units note middle new
  rvg_told s fails units note middle new x = record { narrowed = narrowed_told units note middle x.narrowed; one = x.one; settled = x.settled; moves = x.moves; is = x.is }

  makes_told : (d : Doubted) (line : ScriptLine) (s : ℕ) (fails : Fails) (said : Said) (new : Doubted) → MakesRvg T d line s fails said new → MakesRvg U d line s fails said new
  makes_told d line s fails said new (RvgDone site srl maps volumes middle next is of notes says left) = RvgDone site srl maps volumes middle next is of (rvg_told s fails _ (note_at (d.world.nodes s)) middle next notes) says left
  makes_told d line s fails said new (RvgLacks site srl maps volumes next is of notes says left) = RvgLacks site srl maps volumes next is of (lacking_told s fails _ (note_at (d.world.nodes s)) next notes) says left
  makes_told d line s fails said new (RvgFails site srl maps volumes disk next is of has notes says left) = RvgFails site srl maps volumes disk next is of has (no_rvg_told _ s fails _ (note_at (d.world.nodes s)) next notes) says left
  makes_told d line s fails said new (RvgCut site srl maps volumes next is of fused notes says left) = RvgCut site srl maps volumes next is of fused (no_rvg_told _ s fails _ (note_at (d.world.nodes s)) next notes) says left

  -- ---- one that takes a site up

  came_told : (d : Doubted) (line : ScriptLine) (s : ℕ) (fails : Fails) (said : Said) (new : Doubted) → RvgBack T d line s fails said new → RvgBack U d line s fails said new
  came_told d line s fails said new (RvgUp site kept taken middle next shown has is of back keeps works says shows left) =
      RvgUp site kept taken middle next shown has is of (back_told f s (d.world.nodes s) fails (note_at (d.world.nodes s)) middle back) keeps works says
      (shows_told f (note_at (d.world.nodes s)).cut next shown shows) left
  came_told d line s fails said new (LogFails site kept taken disk middle next gone has is of failed back keeps works session says left) =
      LogFails site kept taken disk middle next gone has is of failed (back_told f s (d.world.nodes s) fails (note_at (d.world.nodes s)) middle back) keeps works session says left
  came_told d line s fails said new (LogLacks site kept taken middle next has is of back keeps works lacks says left) =
      LogLacks site kept taken middle next has is of (back_told f s (d.world.nodes s) fails (note_at (d.world.nodes s)) middle back) keeps works (λ u. lacks (f u)) says left
  came_told d line s fails said new (KeptLost site kept taken disk middle next has cut is of failed back keeps works says left) =
      KeptLost site kept taken disk middle next has cut is of failed (back_told f s (d.world.nodes s) fails (note_at (d.world.nodes s)) middle back) keeps works says left
  came_told d line s fails said new (GroupUnfound site kept taken lost why next has is of not leaves says left) = GroupUnfound site kept taken lost why next has is of not leaves says left
  came_told d line s fails said new (GroupHeld site kept taken lost disk next has is of failed notes says left) = GroupHeld site kept taken lost disk next has is of failed notes says left

  found_told : (d : Doubted) (line : ScriptLine) (s : ℕ) (fails : Fails) (said : Said) (new : Doubted) → RvgFinds T d line s fails said new → RvgFinds U d line s fails said new
  found_told d line s fails said new (FindsRvg kept taken next mid n k row c units of brings knows dark is same comes config fits lies says left) =
      FindsRvg kept taken next mid n k row c units of brings (nothing_told f (note_at (d.world.nodes s)) knows) (λ u. dark (f u)) is same comes config fits lies says left
  found_told d line s fails said new (FindsLost site kept taken disk next mid n k row c units has cut is are failed unknown dark rests same comes config fits lies says left) =
      FindsLost site kept taken disk next mid n k row c units has cut is are failed (nothing_told f (note_at (d.world.nodes s)) unknown) (λ u. dark (f u)) rests same comes config fits lies says left
  found_told d line s fails said new (FindsPlain kept taken next mid over of brings knows dark is none says left) =
      FindsPlain kept taken next mid over of brings (nothing_told f (note_at (d.world.nodes s)) knows) (λ u. dark (f u)) is none says left
  found_told d line s fails said new (FindsNoRvg kept taken lost next why over of brings knows other notes says left) =
      FindsNoRvg kept taken lost next why over of brings (nothing_told f (note_at (d.world.nodes s)) knows) other notes says left

  off_told : (note next : GroupNode) → NotesOff T note next → NotesOff U note next
  off_told note next (inl refused) = inl refused
  off_told note next (inr (knows, notes)) = inr (nothing_told f note knows, notes)

  takes_told : (d : Doubted) (line : ScriptLine) (s : ℕ) (fails : Fails) (said : Said) (new : Doubted) → RvgTakes T d line s fails said new → RvgTakes U d line s fails said new
  takes_told d line s fails said new (RvgTaken site middle next has is of back keeps works says left) =
      RvgTaken site middle next has is of (back_told f s (d.world.nodes s) fails (note_at (d.world.nodes s)) middle back) keeps works says left
  takes_told d line s fails said new (TakeFails site disk middle next gone has is of failed back keeps works session says left) =
      TakeFails site disk middle next gone has is of failed (back_told f s (d.world.nodes s) fails (note_at (d.world.nodes s)) middle back) keeps works session says left
  takes_told d line s fails said new (TakeLacks site middle next has is of back keeps works lacks says left) =
      TakeLacks site middle next has is of (back_told f s (d.world.nodes s) fails (note_at (d.world.nodes s)) middle back) keeps works (λ u. lacks (f u)) says left
  takes_told d line s fails said new (TakeCut site middle next gone has is of fused back keeps works session says left) =
      TakeCut site middle next gone has is of fused (back_told f s (d.world.nodes s) fails (note_at (d.world.nodes s)) middle back) keeps works session says left
  takes_told d line s fails said new (TakeOff site next has is of fused notes says left) = TakeOff site next has is of fused (off_told (note_at (d.world.nodes s)) next notes) says left
  takes_told d line s fails said new (TakeUnfound site lost why next has is of not leaves says left) = TakeUnfound site lost why next has is of not leaves says left
  takes_told d line s fails said new (TakeHeld site lost disk next has is of failed notes says left) = TakeHeld site lost disk next has is of failed notes says left

  -- ---- one at a site with one

  over_told : (d : Doubted) (line : ScriptLine) (s : ℕ) (fails : Fails) (said : Said) (new : Doubted) → EndsOver T d line s fails said new → EndsOver U d line s fails said new
  over_told d line s fails said new x = record {
    borne = x.borne;
    ending = x.ending;
    split = x.split;
    bears = x.bears;
    inner = x.inner;
    middle = x.middle;
    ends = ends_told (known_told f (note_at (d.world.nodes s))) d line (place_of d.world line) x.ending x.inner x.middle x.ends;
    next = x.next;
    notes = x.notes;
    says = x.says;
    left = x.left;
  }

  under_told : (d : Doubted) (line : ScriptLine) (s : ℕ) (fails : Fails) (said : Said) (new : Doubted) → EndsBelow T d line s fails said new → EndsBelow U d line s fails said new
  under_told d line s fails said new (AsGroup x) = AsGroup (group_told f d line s fails said new x)
  under_told d line s fails said new (CutBelow kept next of fused cuts says left) = CutBelow kept next of fused cuts says left

  below_told : (d : Doubted) (line : ScriptLine) (s : ℕ) (fails : Fails) (said : Said) (new : Doubted) → BelowEnds T d line s fails said new → BelowEnds U d line s fails said new
  below_told d line s fails said new x = record {
    missed = x.missed;
    middle = x.middle;
    ends = under_told (missed_world x.missed d s) line s fails said x.middle x.ends;
    loosens = x.loosens;
    why = x.why;
    left = x.left;
  }

  place_told : (d : Doubted) (line : ScriptLine) (s : ℕ) (fails : Fails) (said : Said) (new : Doubted) → OverRvg T d line s fails said new → OverRvg U d line s fails said new
  place_told d (GroupDeport site) s fails said new x = below_told d (GroupDeport site) s fails said new x
  place_told d (Volume site volume blocks mirrors layout log map policy) s fails said new x = below_told d (Volume site volume blocks mirrors layout log map policy) s fails said new x
  place_told d (PlexDetach site volume plex) s fails said new x = below_told d (PlexDetach site volume plex) s fails said new x
  place_told d (PlexAttach site volume plex) s fails said new x = below_told d (PlexAttach site volume plex) s fails said new x
  place_told d (GroupImport site) s fails said new (inl x) = inl (takes_told d (GroupImport site) s fails said new x)
  place_told d (GroupImport site) s fails said new (inr x) = inr (found_told d (GroupImport site) s fails said new x)
  place_told d (Recover site) s fails said new (inl x) = inl (came_told d (Recover site) s fails said new x)
  place_told d (Recover site) s fails said new (inr x) = inr (found_told d (Recover site) s fails said new x)
  place_told d (Write site volume start count fill) s fails said new x =
      write_told d (Write site volume start count fill) s fails said new (over_told d (Write site volume start count fill) s fails said new) (below_told d (Write site volume start count fill) s fails said new) (is_data (kind_named (d.world.nodes s) volume)) x
  place_told d (Put site volume start bytes) s fails said new x =
      write_told d (Put site volume start bytes) s fails said new (over_told d (Put site volume start bytes) s fails said new) (below_told d (Put site volume start bytes) s fails said new) (is_data (kind_named (d.world.nodes s) volume)) x
  place_told d (Read site volume start count) s fails said new x = read_told f d (Read site volume start count) volume start count s fails said new (over_told d (Read site volume start count) s fails said new) x
  place_told d (Show site volume start count) s fails said new x = read_told f d (Show site volume start count) volume start count s fails said new (over_told d (Show site volume start count) s fails said new) x
  place_told d other s fails said new x = over_told d other s fails said new x

  -- ---- any line

  beside_told : (d : Doubted) (line : ScriptLine) (fails : Fails) (said : Said) (new : Doubted) → WorksBeside T d line fails said new → WorksBeside U d line fails said new
  beside_told d line fails said new (AsBefore works found) =
      AsBefore (works_told f (is_for_group d.world line) d line fails said new works) found
  beside_told d line fails said new (FoundOne x) = FoundOne (found_told d line (group_place d.world line) fails said new x)

  above_told : (halts above : Bool) (d : Doubted) (line : ScriptLine) (fails : Fails) (said : Said) (new : Doubted) → WorksAbove halts above T d line fails said new → WorksAbove halts above U d line fails said new
  above_told true above d line fails said new x = x
  above_told false true d line fails said new x = place_told d line (rvg_place d.world line) fails said new x
  above_told false false d line fails said new x = beside_told d line fails said new x

  full_told : (d : Doubted) (line : ScriptLine) (fails : Fails) (said : Said) (new : Doubted) → WorksFull T d line fails said new → WorksFull U d line fails said new
  full_told d (Rvg site srl maps volumes) fails said new x = makes_told d (Rvg site srl maps volumes) (site_number d.world site) fails said new x
  full_told d other fails said new x = above_told (is_open d.world other) (is_for_rvg d.world other) d other fails said new x

  pub step_told : (why : Option No) (d : Doubted) (line : ScriptLine) (fails : Fails) (said : Said) (new : Doubted) → FullBy why T d line fails said new → FullBy why U d line fails said new
  step_told (Some why) d line fails said new x = x
  step_told None d line fails said new x = full_told d line fails said new x

  -- ---- want of memory

  stops_told : (d : Doubted) (line : ScriptLine) (new : Doubted) → StopsShort T d line new → StopsShort U d line new
  stops_told d line new (StopsInPart part) = StopsInPart part
  stops_told d line new (StopsDown fell) = StopsDown fell
  stops_told d line new (StopsRead read) = StopsRead read
  stops_told d line new (StopsBetween never p s middle is moves left) = StopsBetween (λ u calm. never (f u) calm) p s middle is moves left

  part_told : (d : Doubted) (line : ScriptLine) (s : ℕ) (new : Doubted) → RvgShort T d line s new → RvgShort U d line s new
  part_told d line s new (ShortGroup kept taken lost next has is notes left) = ShortGroup kept taken lost next has is notes left
  part_told d line s new (ShortLog kept taken fails middle next has is of back keeps cut left) =
      ShortLog kept taken fails middle next has is of (back_told f s (d.world.nodes s) fails (note_at (d.world.nodes s)) middle back) keeps cut left
  part_told d line s new (ShortMade site srl maps volumes fails next is of notes left) = ShortMade site srl maps volumes fails next is of (no_rvg_told _ s fails _ (note_at (d.world.nodes s)) next notes) left

  pub short_told : (d : Doubted) (line : ScriptLine) (new : Doubted) → ShortFull T d line new → ShortFull U d line new
  short_told d line new (inl stops) = inl (stops_told d line new stops)
  short_told d line new (inr part) = inr (part_told d line (short_place d.world line) new part)
