-- How a line of links or packets ends, where sites may be in doubt: all its events are done, or one of them is ended by a failing disk,
-- by a fuse or by want of a number.
use Rattle.std.specs.Prelude.{◌≡◌, ◌≢◌, ℕ, ◌+◌, ◌≤◌, Bool, false, ltb, if◌then◌else◌, List, [], ◌∷◌, ◌++◌, Option, Some, None}
use Rattle.vx_model.specs.declared.limits.TheConstants.{MOST_NUMBER}
use Rattle.vx_model.specs.declared.no.Counted.TheVariants.{Number}
use Rattle.vx_model.specs.declared.no.No.TheVariants.{Device, Limit, Down as IsOff}
use Rattle.vx_history.specs.Doubts.{Doubted, Runs, halved, crashed_as}
use Rattle.vx_history.specs.Events.{link_step, packet_at}
use Rattle.vx_history.specs.Stops.{EventsEnd, IsFused, IsHeardAt, IsOpen, IsPartAt, ComesTo, all_fails}
use Rattle.vx_history.specs.Steps.{worked_on}
use Rattle.vx_history.specs.World.{Packet, World}
use Rattle.vx_history.specs.declared.event.Event.{Event}
use Rattle.vx_history.specs.declared.event.Event.TheVariants.{Link as LinkAt, Set as SetAt, Pump as PumpAt, Deliver as DeliverAt, Apply as ApplyAt, Fault}
use Rattle.vx_history.specs.declared.sender.Action.TheVariants.{Nothing as SendsNothing}
use Rattle.vx_history.specs.declared.sender.SEvent.TheVariants.{Pump as PumpLink}
use Rattle.vx_script.specs.declared.line.ScriptLine.{ScriptLine}
use Rattle.vx_script.specs.declared.line.ScriptLine.TheVariants.{Link, Set, Deliver, Settle}
use Rattle.vx_events.specs.Doubts.{IsAs}
use Rattle.vx_events.specs.Facts.{head_of, site_number}
use Rattle.vx_events.specs.Fails.{Fails, IsLogDisk, IsSiteDisk}
use Rattle.vx_events.specs.LinkFinds.{FindsOther}
use Rattle.vx_events.specs.LinkLists.{link_events}
use Rattle.vx_events.specs.Sayings.{Replies}
use Rattle.vx_events.specs.Stamps.{most_stamp_at, stamps_of}
use Rattle.vx_events.specs.declared.said.Said.{Said}
use Rattle.vx_events.specs.declared.said.Said.TheVariants.{Settled, Refused}

-- a link is settled: the reply names the last number of its first site, and all up to that is stored at the second
pub record IsSettled (w : World) (p s : ℕ) (said : Said) : Type 0 where
  pub says : said ≡ Settled (head_of (w.nodes p))
  pub stored : head_of (w.nodes p) ≤ (w.links p s).stored

-- the reply of a line of which all events are done: by the last of them, and of a settled link by what is stored
abbrev pub LinkReplies : ScriptLine → (d last : Doubted) → List Event → Said → Type 0
LinkReplies (Settle p s) d last events said = IsSettled last.world (site_number d.world p) (site_number d.world s) said
LinkReplies line d last events said = Replies (Unit {0}) line 0 false d events said

-- the fuse of the site that a packet was sent to, one of so many, may have let calls pass
abbrev pub target_noted : (sites : ℕ) → Option Packet → World → World
target_noted sites None v = v
target_noted sites (Some p) v = if ltb p.target sites then worked_on v p.target else v

-- the world v with what a line of links notes: behind one that may write or flush the disks of a site, its fuse may have let calls pass
abbrev pub link_noted : World → ScriptLine → World → World
link_noted w (Link p s sync prot) v = worked_on (worked_on v (site_number w p)) (site_number w s)
link_noted w (Set p s sync prot) v = worked_on v (site_number w p)
link_noted w (Deliver number) v = target_noted w.sites (packet_at w.packets number) v
link_noted w (Settle p s) v = worked_on (worked_on v (site_number w p)) (site_number w s)
link_noted w other v = v

-- what a line of links leaves of the worlds to which its events came
abbrev pub AreLeft : ScriptLine → (before last new : Doubted) → Type 0
AreLeft line d last new = IsAs last (link_noted d.world line last.world) new

-- An event that reads the log of this site before it does anything: a pump of a link by whose rule there is something to send.
abbrev pub ReadsLog : World → Event → (site : ℕ) → Type 0
ReadsLog w (PumpAt p s) site = (p ≡ site) × ((link_step w p s PumpLink).action ≢ SendsNothing)
ReadsLog w other site = ⊥

-- an event that writes a header of this site's log, or records, each of which takes a number
abbrev pub TakesNumber : World → Event → (site : ℕ) → Type 0
TakesNumber w (LinkAt p s sync prot part) site = IsPartAt part p s site
TakesNumber w (SetAt p s sync prot) site = p ≡ site
TakesNumber w (DeliverAt number) site = IsHeardAt w number site
TakesNumber w (ApplyAt s count reached) site = s ≡ site
TakesNumber w other site = ⊥

-- How a line that no test refuses ends. Of disks that tell no contents it is not known how many numbers are left.
pub data LinkEnds (told : Type 0) (d : Doubted) (line : ScriptLine) (fails : Fails) (said : Said) (new : Doubted) : Type 0 where
  -- all events are done, and no call failed: the sites of links are of raw sets
  LinksDone : (last : Doubted) → Runs d (link_events d.world line) last → all_fails (link_events d.world line) ≡ [] → fails ≡ []
      → LinkReplies line d last (link_events d.world line) said → AreLeft line d last new → LinkEnds told d line fails said new
  -- the disk of this site's log failed in an event, which may be on its disks
  LinksHalt : (e : Event) (site disk : ℕ) (middle : Doubted) → ComesTo d (link_events d.world line) e site middle → IsLogDisk (middle.world.nodes site) disk
      → fails ≡ (site, disk) ∷ [] → said ≡ Refused (Device disk) → AreLeft line d (halved middle e site disk) new → LinkEnds told d line fails said new
  -- a disk of this site failed as waiting records were applied, behind the events before that
  AppliesPart : (before rest : List Event) (site count reached disk : ℕ) (last : Doubted)
      → link_events d.world line ≡ before ++ ApplyAt site count reached ∷ rest → Runs d (before ++ Fault site disk ∷ []) last → all_fails before ≡ []
      → IsSiteDisk (last.world.nodes site) disk → fails ≡ (site, disk) ∷ [] → said ≡ Refused (Device disk) → AreLeft line d last new
      → LinkEnds told d line fails said new
  -- the fuse of this site ran out as waiting records were applied, behind the events before that: it is down, with some of those that were to be applied
  AppliesCut : (before rest : List Event) (site count reached kept : ℕ) (taken : Bool) (middle : Doubted)
      → link_events d.world line ≡ before ++ ApplyAt site count reached ∷ rest → Runs d before middle → all_fails before ≡ []
      → kept ≤ (middle.world.nodes site).safe + count → IsOpen (middle.world.nodes site) → IsFused (d.world.nodes site).fuse → fails ≡ [] → said ≡ Refused IsOff
      → AreLeft line d (crashed_as (halved middle (Fault site 0) site 0) site kept taken) new → LinkEnds told d line fails said new
  -- the fuse of this site ran out in an event
  LinksCut : (e : Event) (site kept : ℕ) (taken : Bool) (middle : Doubted) → ComesTo d (link_events d.world line) e site middle
      → IsFused (d.world.nodes site).fuse → fails ≡ [] → said ≡ Refused IsOff
      → AreLeft line d (crashed_as (halved middle e site 0) site kept taken) new → LinkEnds told d line fails said new
  -- a read of the log failed: the event is not begun
  LogUnread : (before rest : List Event) (e : Event) (site disk : ℕ) (middle : Doubted) → link_events d.world line ≡ before ++ e ∷ rest → ReadsLog middle.world e site
      → Runs d before middle → all_fails before ≡ [] → IsLogDisk (middle.world.nodes site) disk → fails ≡ (site, disk) ∷ [] → said ≡ Refused (Device disk)
      → AreLeft line d middle new → LinkEnds told d line fails said new
  -- no number is left for a header, or for the records that wait: the events before stand
  NoHeader : (before rest : List Event) (e : Event) (site : ℕ) (middle : Doubted) → link_events d.world line ≡ before ++ e ∷ rest
      → TakesNumber middle.world e site → Runs d before middle → all_fails before ≡ [] → (told → MOST_NUMBER ≤ most_stamp_at middle.world site + stamps_of e middle.world site) → fails ≡ []
      → said ≡ Refused (Limit Number MOST_NUMBER) → AreLeft line d middle new → LinkEnds told d line fails said new
  -- disks that tell no contents were read, or put something together of packets; or the world had strayed, so that nothing is known of what packets carry
  LinksFind : (told → d.strayed ≡ false → ⊥) → (last : Doubted) → FindsOther d line fails said last → AreLeft line d last new → LinkEnds told d line fails said new

-- What came of these events: all of them; or the first of them; or those before records were applied, and that a disk failed then.
pub data CameOfLinks (all events : List Event) : Type 0 where
  AllCame : events ≡ all → CameOfLinks all events
  FirstCame : (rest : List Event) → all ≡ events ++ rest → CameOfLinks all events
  AppliedPart : (before rest : List Event) (site count reached disk : ℕ) → all ≡ before ++ ApplyAt site count reached ∷ rest
      → events ≡ before ++ Fault site disk ∷ [] → CameOfLinks all events

-- the line ended as these events do
pub record LinkStops (d : Doubted) (line : ScriptLine) (fails : Fails) (new : Doubted) : Type 0 where
  pub events : List Event
  pub came : CameOfLinks (link_events d.world line) events
  pub stops : EventsEnd d events fails new
