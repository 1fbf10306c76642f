-- Which sites a line names, and what it needs of them.
use Rattle.std.specs.Prelude.{ℕ, List, Option, Some, None}
use Rattle.vx_script.specs.declared.line.ScriptLine.{ScriptLine}
use Rattle.vx_script.specs.declared.line.ScriptLine.TheVariants.{Site, Raw, Disk, Crash, Fuse, Recover, GroupInit, GroupDeport, GroupImport, Volume, PlexDetach, PlexAttach, Rvg, Write, Put, Read, Show, Apply, Wait, Link, Set, Attach, Detach, Pause, Resume, Connect, Cut, Pump, Tick, Deliver, Settle, Resync, Migrate, Takeover, Failback, Bunker, Activate, Burst, Status, CallWrite, CallRead, End}
use Rattle.vx_order.specs.declared.subject.Need.{Need}
use Rattle.vx_order.specs.declared.subject.Need.TheVariants.{Nothing, FirstUp, FirstUpOrBare, BothUp, SecondUpOrBare}
use Rattle.vx_order.specs.declared.subject.Halt.{Halt}
use Rattle.vx_order.specs.declared.subject.Halt.TheVariants.{Neither, First, Both}

-- the site that a line names first, but for the one that it makes
unfoldable pub first_name : ScriptLine → Option (List ℕ)
first_name (Site _ _ _) = None
first_name (Raw site) = Some site
first_name (Disk site _ _) = Some site
first_name (Crash site _) = Some site
first_name (Fuse site _ _) = Some site
first_name (Recover site) = Some site
first_name (GroupInit site) = Some site
first_name (GroupDeport site) = Some site
first_name (GroupImport site) = Some site
first_name (Volume site _ _ _ _ _ _ _) = Some site
first_name (PlexDetach site _ _) = Some site
first_name (PlexAttach site _ _) = Some site
first_name (Rvg site _ _ _) = Some site
first_name (Write site _ _ _ _) = Some site
first_name (Put site _ _ _) = Some site
first_name (Read site _ _ _) = Some site
first_name (Show site _ _ _) = Some site
first_name (Apply site _) = Some site
first_name (Wait site _) = Some site
first_name (Link primary _ _ _) = Some primary
first_name (Set primary _ _ _) = Some primary
first_name (Attach primary _) = Some primary
first_name (Detach primary _) = Some primary
first_name (Pause primary _) = Some primary
first_name (Resume primary _) = Some primary
first_name (Connect primary _) = Some primary
first_name (Cut primary _) = Some primary
first_name (Pump primary _) = Some primary
first_name (Tick primary _) = Some primary
first_name (Deliver _) = None
first_name (Settle primary _) = Some primary
first_name (Resync primary _) = Some primary
first_name (Migrate primary _) = Some primary
first_name (Takeover site) = Some site
first_name (Failback new _) = Some new
first_name (Bunker primary _ _ _) = Some primary
first_name (Activate bunker _) = Some bunker
first_name (Burst site _) = Some site
first_name (Status site) = Some site
first_name (CallWrite _ _ _ _ _) = None
first_name (CallRead _ _ _) = None
first_name End = None

-- the site that a line names second
unfoldable pub second_name : ScriptLine → Option (List ℕ)
second_name (Link _ secondary _ _) = Some secondary
second_name (Set _ secondary _ _) = Some secondary
second_name (Attach _ secondary) = Some secondary
second_name (Detach _ secondary) = Some secondary
second_name (Pause _ secondary) = Some secondary
second_name (Resume _ secondary) = Some secondary
second_name (Connect _ secondary) = Some secondary
second_name (Cut _ secondary) = Some secondary
second_name (Pump _ secondary) = Some secondary
second_name (Tick _ secondary) = Some secondary
second_name (Settle _ secondary) = Some secondary
second_name (Resync _ secondary) = Some secondary
second_name (Migrate _ secondary) = Some secondary
second_name (Failback _ old) = Some old
second_name (Bunker _ bunker _ _) = Some bunker
second_name (Activate _ secondary) = Some secondary
second_name _ = None

-- which sites of a line have to be up
unfoldable pub need_of : ScriptLine → Need
need_of (Site _ _ _) = Nothing
need_of (Raw _) = Nothing
need_of (Disk _ _ _) = Nothing
need_of (Recover _) = Nothing
need_of (GroupInit _) = Nothing
need_of (GroupImport _) = Nothing
need_of (Deliver _) = Nothing
need_of (Status _) = Nothing
need_of (CallWrite _ _ _ _ _) = Nothing
need_of (CallRead _ _ _) = Nothing
need_of End = Nothing
need_of (Write _ _ _ _ _) = FirstUpOrBare
need_of (Put _ _ _ _) = FirstUpOrBare
need_of (Read _ _ _ _) = FirstUpOrBare
need_of (Show _ _ _ _) = FirstUpOrBare
need_of (Link _ _ _ _) = BothUp
need_of (Activate _ _) = BothUp
need_of (Resync _ _) = BothUp
need_of (Settle _ _) = BothUp
need_of (Bunker _ _ _ _) = SecondUpOrBare
need_of _ = FirstUp

-- which sites of a line must not be halted
unfoldable pub halt_of : ScriptLine → Halt
halt_of (Site _ _ _) = Neither
halt_of (Raw _) = Neither
halt_of (Disk _ _ _) = Neither
halt_of (Crash _ _) = Neither
halt_of (Fuse _ _ _) = Neither
halt_of (Recover _) = Neither
halt_of (GroupInit _) = Neither
halt_of (GroupImport _) = Neither
halt_of (Volume _ _ _ _ _ _ _ _) = Neither
halt_of (PlexDetach _ _ _) = Neither
halt_of (PlexAttach _ _ _) = Neither
halt_of (Rvg _ _ _ _) = Neither
halt_of (Deliver _) = Neither
halt_of (Status _) = Neither
halt_of (CallWrite _ _ _ _ _) = Neither
halt_of (CallRead _ _ _) = Neither
halt_of End = Neither
halt_of (Link _ _ _ _) = Both
halt_of (Settle _ _) = Both
halt_of (Resync _ _) = Both
halt_of (Activate _ _) = Both
halt_of _ = First
