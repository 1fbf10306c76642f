-- What a line over a group of disks came to where contents are told it came to where even more is told.
use Rattle.std.proofs.Common.{ℕ, inl, inr}
use Rattle.std.specs.Prelude.{Option, Some, None}
use Rattle.vx_model.specs.Content.{Write}
use Rattle.vx_model.specs.declared.no.No.{No}
use Rattle.vx_model.specs.declared.no.No.TheVariants.{Device}
use Rattle.vx_history.specs.Doubts.{Doubted}
use Rattle.vx_history.specs.Groups.{GroupNode}
use Rattle.vx_history.specs.World.{Node}
use Rattle.vx_report.specs.declared.view.Kept.{Kept}
use Rattle.vx_script.specs.declared.line.ScriptLine.{ScriptLine}
use Rattle.vx_script.specs.declared.line.ScriptLine.TheVariants.{GroupImport, Read, Recover, Show}
use Rattle.vx_events.specs.Fails.{Fails}
use Rattle.vx_events.specs.GroupEnds.{GroupDoes, GroupEnds, GroupDone, GroupLacks, GroupFails, InitFails, ImportFails, KeptUnread, GroupCut, GroupNotFound, FindsGroup, FindsNoGroup, ImportRefuses, KnowsNothing}
use Rattle.vx_events.specs.GroupNotes.{IsKnown, NotesBack, NotesUnread, note_at}
use Rattle.vx_events.specs.GroupReplies.{GivesPlain, IsKeptOf, SaysBack, ShowsKept}
use Rattle.vx_events.specs.StepsOver.{FindsKept}
use Rattle.vx_events.specs.declared.said.Said.{Said}

module _ {T U : Type 0} (f : U → T) where
  pub known_told : (note : GroupNode) → IsKnown U note → IsKnown T note
  known_told note k = (f k.0, k.1)

  pub gives_told : (note : GroupNode) (volume start count : ℕ) (said : Said) → GivesPlain T note volume start count said → GivesPlain U note volume start count said
  gives_told note volume start count said x = record { bytes = x.bytes; got = x.got; size = x.size; each = λ k. x.each (known_told note k) }

  pub back_told : (s : ℕ) (n : Node) (fails : Fails) (note new : GroupNode) → NotesBack T s n fails note new → NotesBack U s n fails note new
  back_told s n fails note new x = record {
    old = x.old;
    now = x.now;
    was = x.was;
    is = x.is;
    dark = x.dark;
    volumes = λ u. x.volumes (known_told new u);
    many = x.many;
    blocks = x.blocks;
    failed = x.failed;
    begun = x.begun;
    loose = x.loose;
    size = x.size;
    block = x.block;
    may = λ u. x.may (known_told new u);
    opens = λ u. x.opens (known_told new u);
    parts = λ u. x.parts (known_told new u);
    one = λ u. x.one (known_told new u);
    cut = x.cut;
    inside = x.inside;
  }

  unread_told : (s : ℕ) (n : Node) (fails : Fails) (note new : GroupNode) → NotesUnread T s n fails note new → NotesUnread U s n fails note new
  unread_told s n fails note new x = record { middle = x.middle; back = back_told s n fails note x.middle x.back; maps = λ u. x.maps (known_told x.middle u); cut = x.cut; is = x.is }

  kept_told : (x : Write) (next : GroupNode) (kept : Kept) → IsKeptOf T x next kept → IsKeptOf U x next kept
  kept_told x next kept k = record { volume = k.volume; is_volume = k.is_volume; name = k.name; block = k.block; many = k.many; each = λ u. k.each (known_told next u) }

  pub shows_told : (cut : Option Write) (next : GroupNode) (kept : Option Kept) → ShowsKept T cut next kept → ShowsKept U cut next kept
  shows_told None next kept x = x
  shows_told (Some w) next kept x = (x.0, x.1, kept_told w next x.0 x.2)

  says_told : (n : Node) (note next : GroupNode) (said : Said) → SaysBack T n note next said → SaysBack U n note next said
  says_told n note next said x = record { kept = x.kept; says = x.says; shows = shows_told note.cut next x.kept x.shows }

  does_told : (s : ℕ) (n : Node) (note : GroupNode) (line : ScriptLine) (fails : Fails) (said : Said) (next : GroupNode) → GroupDoes T s n note line fails said next → GroupDoes U s n note line fails said next
  does_told s n note (Read site volume start count) fails said next x = (x.0, gives_told note _ start count said x.1)
  does_told s n note (Show site volume start count) fails said next x = (x.0, gives_told note _ start count said x.1)
  does_told s n note (Recover site) fails said next x = (back_told s n fails note next x.0, λ u. x.1 (known_told next u), says_told _ note next said x.2)
  does_told s n note (GroupImport site) fails said next x = (back_told s n fails note next x.0, λ u. x.1 (known_told next u), x.2)
  does_told s n note other fails said next x = x

  pub nothing_told : (note : GroupNode) → KnowsNothing T note → KnowsNothing U note
  nothing_told note (inl never) = inl (λ u. never (f u))
  nothing_told note (inr unknown) = inr unknown

  refuses_told : (s : ℕ) (note : GroupNode) (fails : Fails) (why : No) → ImportRefuses T s note fails why → ImportRefuses U s note fails why
  refuses_told s note fails (Device disk) x = x
  refuses_told s note fails other (inl not) = inl not
  refuses_told s note fails other (inr x) = inr (nothing_told note x.0, x.1)

  pub group_told : (d : Doubted) (line : ScriptLine) (s : ℕ) (fails : Fails) (said : Said) (new : Doubted) → GroupEnds T d line s fails said new → GroupEnds U d line s fails said new
  group_told d line s fails said new (GroupDone next of does left) = GroupDone next of (does_told s (d.world.nodes s) (note_at (d.world.nodes s)) line fails said next does) left
  group_told d line s fails said new (GroupLacks why wants none says left) = GroupLacks why wants none says left
  group_told d line s fails said new (GroupFails disk next of has spoils says left) = GroupFails disk next of has spoils says left
  group_told d line s fails said new (InitFails disk site is of has says left) = InitFails disk site is of has says left
  group_told d line s fails said new (ImportFails why next site is of refuses begun says left) =
      ImportFails why next site is of (refuses_told s (note_at (d.world.nodes s)) fails why refuses) begun says left
  group_told d line s fails said new (KeptUnread disk next site is of has unread says left) = KeptUnread disk next site is of has (unread_told s (d.world.nodes s) fails (note_at (d.world.nodes s)) next unread) says left
  group_told d line s fails said new (GroupCut next of fused cuts says left) = GroupCut next of fused cuts says left
  group_told d line s fails said new (GroupNotFound why next of brings not leaves says left) = GroupNotFound why next of brings not leaves says left
  group_told d line s fails said new (FindsGroup next of brings knows dark says left) = FindsGroup next of brings (nothing_told (note_at (d.world.nodes s)) knows) (λ u. dark (f u)) says left
  group_told d line s fails said new (FindsNoGroup next why of brings knows other refused says left) = FindsNoGroup next why of brings (nothing_told (note_at (d.world.nodes s)) knows) other refused says left

  pub finds_told : (d : Doubted) (line : ScriptLine) (s : ℕ) (fails : Fails) (said : Said) (new : Doubted) → FindsKept T d line s fails said new → FindsKept U d line s fails said new
  finds_told d line s fails said new x = record { untold = λ u. x.untold (f u); site = x.site; recovers = x.recovers; bare = x.bare; shows = x.shows; up = x.up; ends = group_told d line s fails said new x.ends }
