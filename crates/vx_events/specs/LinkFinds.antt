-- What lines of links and packets may find on disks that tell no contents: the writes that are read for updates, or put together of their parts, may be any.
-- All else is as the rules of links and of receivers say: who sends to whom, on which line and under which numbers, and what is taken.
use Rattle.std.specs.Prelude.{◌≡◌, ◌≢◌, ◌⊎◌, ℕ, ◌+◌, ◌≤◌, Bool, true, false, List, [], ◌∷◌, ◌++◌, length, take, drop, Option, Some, None}
use Rattle.std.specs.List.{AllByRecursion}
use Rattle.vx_model.specs.Content.{Write, fold_writes}
use Rattle.vx_model.specs.Sites.{is_origin}
use Rattle.vx_model.specs.declared.history.Line.{Line}
use Rattle.vx_model.specs.declared.limits.TheConstants.{MOST_NUMBER}
use Rattle.vx_model.specs.declared.no.Counted.TheVariants.{Number}
use Rattle.vx_model.specs.declared.no.No.{No}
use Rattle.vx_model.specs.declared.no.No.TheVariants.{Damaged, Device, Down as IsOff, Gap, Limit}
use Rattle.vx_model.specs.declared.site.SPhase.TheVariants.{Quiet}
use Rattle.vx_model.specs.declared.site.SiteState.TheVariants.{Up}
use Rattle.vx_history.specs.Doubts.{Doubted, crashed_as, halved, happened}
use Rattle.vx_history.specs.Events.{link_step, packet_at, with_write}
use Rattle.vx_history.specs.Gatherings.{came_after, key_of}
use Rattle.vx_history.specs.LinkForms.{plain_receiver}
use Rattle.vx_history.specs.Receiving.{received_step}
use Rattle.vx_history.specs.Sends.{is_linked, packets_of, sending, updates}
use Rattle.vx_history.specs.Step.{step}
use Rattle.vx_history.specs.Stops.{IsFused, IsOpen, WritesAt}
use Rattle.vx_history.specs.World.{DataAck, Gathering, Hello, Link, Message, NetAck, Node, Packet, Update, World, updated}
use Rattle.vx_history.specs.declared.event.Event.TheVariants.{Deliver as DeliverAt, Fault, Pump as PumpAt}
use Rattle.vx_history.specs.declared.receiver.RAction.{RAction}
use Rattle.vx_history.specs.declared.receiver.RAction.TheVariants.{Take}
use Rattle.vx_history.specs.declared.receiver.REvent.TheVariants.{Update as HearUpdate}
use Rattle.vx_history.specs.declared.sender.Action.{Action}
use Rattle.vx_history.specs.declared.sender.Action.TheVariants.{Nothing as SendsNothing, Updates}
use Rattle.vx_history.specs.declared.sender.SEvent.TheVariants.{Pump as PumpLink}
use Rattle.vx_script.specs.declared.line.ScriptLine.{ScriptLine}
use Rattle.vx_script.specs.declared.line.ScriptLine.TheVariants.{Deliver, Pump, Settle}
use Rattle.vx_events.specs.Facts.{head_of, site_number}
use Rattle.vx_events.specs.Fails.{Fails, IsLogDisk, IsSiteDisk}
use Rattle.vx_events.specs.declared.said.Said.{Said}
use Rattle.vx_events.specs.declared.said.Said.TheVariants.{Done, Ignored, Refused, Settled, Taken}

-- ---- refusals

-- a log whose disks tell no contents holds a damaged record, or lacks the number that is asked for
abbrev pub IsUnreadable : No → Type 0
IsUnreadable (Damaged unit block stored computed) = Unit {0}
IsUnreadable (Gap low need) = Unit {0}
IsUnreadable other = ⊥

-- or no number is left for a header, or for what waits
abbrev pub IsGivenUp : No → Type 0
IsGivenUp why = IsUnreadable why ⊎ (why ≡ Limit Number MOST_NUMBER)

-- ---- a pump

-- the packets that a link's rule has its site send, with any writes in its updates
abbrev pub SentBy : Action → (source target : ℕ) → Line → List Packet → Type 0
SentBy (Updates from to) source target line more = (xs : List Write) × (from + length xs ≡ to + 1) × (more ≡ updates source target line from xs)
SentBy other source target line more = more ≡ []

-- those that a pump of the link of p to s sends
abbrev pub PumpSends : World → (p s : ℕ) → List Packet → Type 0
PumpSends w p s more = SentBy (link_step w p s PumpLink).action p s (w.nodes p).line more

-- the link of p to s is pumped, and these packets are sent
abbrev pub pumped_with : World → (p s : ℕ) → List Packet → World
pumped_with w p s more = record (step w (PumpAt p s)).world { packets = w.packets ++ more }

-- ---- an update that comes

-- what the rule of a receiver says of a packet of the update of this number
abbrev pub rule_of : World → Packet → (number : ℕ) → RAction
rule_of w q number = (received_step (plain_receiver (w.nodes q.target)) (HearUpdate q.line number)).action

-- the packet of this number is of an update, its target receives, and by its rule takes the update as its next one
pub record MayTake (w : World) (number : ℕ) (q : Packet) : Type 0 where
  pub packet : packet_at w.packets number ≡ Some q
  pub count : ℕ
  pub write : Write
  pub message : q.message ≡ Update count write
  pub opens : IsOpen (w.nodes q.target)
  pub receives : is_origin (w.nodes q.target).role ≡ false
  pub next : rule_of w q count ≡ Take count

-- the target is this node now, puts this together, and sent these packets
abbrev pub target_with : World → (site : ℕ) → Node → Option Gathering → List Packet → World
target_with w s n g more = sending (record w { nodes = updated w.nodes s n; gathering = updated w.gathering s g }) more

-- the target took this write as the update of this number, which it acknowledges from memory, and nothing is left of its parts
abbrev pub taken_with : World → Packet → (number : ℕ) → Write → World
taken_with w q number x =
    let n = w.nodes q.target in
    target_with w q.target (with_write n q.source x) None (packets_of q.target q.source n.line (NetAck n.session number))

-- a part of it was kept
abbrev pub kept_with : World → Packet → World
kept_with w q = target_with w q.target (w.nodes q.target) (Some (record { key = key_of q; came = came_after (w.gathering q.target) q })) []

-- ---- a link that is settled

-- The way of a packet that settling the link of p to s sends, by its message: an update that is durable at p goes to s, and what s says in its session to p.
-- What is stored s acknowledges to the site that feeds it.
abbrev pub GoesAs : (p s : ℕ) → World → Packet → Message → Type 0
GoesAs p s w q (Hello session number stored) = (q.source ≡ s) × (q.target ≡ p) × (session ≡ (w.nodes s).session)
GoesAs p s w q (Update number x) = (q.source ≡ p) × (q.target ≡ s) × (number ≤ (w.nodes p).safe)
GoesAs p s w q (NetAck session number) = (q.source ≡ s) × (q.target ≡ p) × (session ≡ (w.nodes s).session)
GoesAs p s w q (DataAck number) = q.source ≡ s

-- and it goes on the line of p
pub record GoesOn (p s : ℕ) (w : World) (q : Packet) : Type 0 where
  pub line : q.line ≡ (w.nodes p).line
  pub way : GoesAs p s w q q.message

-- A site that took updates of p and applied them, or did not: its writes go on, no less of them is durable, and its content is by those that are.
pub record TakesOf (p : ℕ) (n k : Node) : Type 0 where
  pub rest : k ≡ record n { fed_by = k.fed_by; base = k.base; log = k.log; safe = k.safe; mark = k.mark }
  pub fed : (k.fed_by ≡ n.fed_by) ⊎ (k.fed_by ≡ p)
  pub came : List Write
  pub log : k.log ≡ n.log ++ came
  pub least : n.safe ≤ k.safe
  pub most : n.safe ≤ length n.log → k.safe ≤ length k.log
  pub base : n.safe ≤ length n.log → k.base ≡ fold_writes n.base (drop n.safe (take k.safe k.log))
  pub mark : n.phase ≡ Quiet → k.mark ≡ n.mark

-- a link of which its rule changed what was sent and what was acknowledged: neither its session nor what is stored falls
pub record HasMoved (l m : Link) : Type 0 where
  pub rest : m ≡ record l { session = m.session; net = m.net; stored = m.stored; sent = m.sent; since = m.since }
  pub session : l.session ≤ m.session
  pub stored : l.stored ≤ m.stored

-- Between p and s packets were sent and delivered: s took updates, the link of p to s moved, of which headers of p tell, and all else is as it was.
pub record MovesBetween (p s : ℕ) (d e : Doubted) : Type 0 where
  pub apart : s ≡ p → ⊥
  pub up : (d.world.nodes s).state ≡ Up
  pub linked : is_linked (d.world.links p s) ≡ true
  pub sites : e.world.sites ≡ d.world.sites
  pub nodes : (i : ℕ) → (i ≡ s → ⊥) → e.world.nodes i ≡ d.world.nodes i
  pub takes : TakesOf p (d.world.nodes s) (e.world.nodes s)
  pub rows : (i k : ℕ) → (i ≡ p → ⊥) → e.world.links i k ≡ d.world.links i k
  pub links : (k : ℕ) → (k ≡ s → ⊥) → e.world.links p k ≡ d.world.links p k
  pub moves : HasMoved (d.world.links p s) (e.world.links p s)
  pub headers : (i : ℕ) → (i ≡ p → ⊥) → e.world.headers i ≡ d.world.headers i
  pub written : d.world.headers p ≤ e.world.headers p
  pub gathering : (i : ℕ) → (i ≡ p → ⊥) → (i ≡ s → ⊥) → e.world.gathering i ≡ d.world.gathering i
  pub lines : (l : Line) → e.world.lines l ≡ d.world.lines l
  pub promised : e.world.promised ≡ d.world.promised
  pub more : List Packet
  pub sent : e.world.packets ≡ d.world.packets ++ more
  pub all : AllByRecursion (GoesOn p s d.world) more
  pub after : (i : ℕ) → e.after i ≡ d.after i
  pub strayed : e.strayed ≡ d.strayed

-- how it ends behind that
pub data EndsBetween (p s : ℕ) (d middle : Doubted) (fails : Fails) (said : Said) (last : Doubted) : Type 0 where
  -- what is durable at p is stored at s
  IsStored : (middle.world.nodes p).safe ≤ (middle.world.links p s).stored → fails ≡ [] → said ≡ Settled (head_of (middle.world.nodes p)) → last ≡ middle
      → EndsBetween p s d middle fails said last
  GivesUp : (why : No) → IsGivenUp why → fails ≡ [] → said ≡ Refused why → last ≡ middle → EndsBetween p s d middle fails said last
  -- a read of p's log failed, as there was something to send
  IsUnread : (disk : ℕ) → (link_step middle.world p s PumpLink).action ≢ SendsNothing → IsLogDisk (middle.world.nodes p) disk → fails ≡ (p, disk) ∷ [] → said ≡ Refused (Device disk) → last ≡ middle → EndsBetween p s d middle fails said last
  -- the disk of p's log failed in a header of it, or a disk as s applied what waits there
  HeaderHalts : (number disk : ℕ) → IsOpen (middle.world.nodes p) → WritesAt middle.world (DeliverAt number) p → IsLogDisk (middle.world.nodes p) disk → fails ≡ (p, disk) ∷ []
      → said ≡ Refused (Device disk) → last ≡ halved middle (DeliverAt number) p disk → EndsBetween p s d middle fails said last
  ApplyHalts : (disk : ℕ) → IsOpen (middle.world.nodes s) → IsSiteDisk (last.world.nodes s) disk → fails ≡ (s, disk) ∷ [] → said ≡ Refused (Device disk)
      → last ≡ happened middle (Fault s disk) false → EndsBetween p s d middle fails said last
  -- the fuse of p ran out in a header, or that of s as it applied what waits there
  HeaderCut : (number kept : ℕ) (taken : Bool) → IsOpen (middle.world.nodes p) → WritesAt middle.world (DeliverAt number) p → IsFused (d.world.nodes p).fuse
      → fails ≡ [] → said ≡ Refused IsOff → last ≡ crashed_as (halved middle (DeliverAt number) p 0) p kept taken → EndsBetween p s d middle fails said last
  ApplyCut : (kept : ℕ) (taken : Bool) → IsOpen (middle.world.nodes s) → IsFused (d.world.nodes s).fuse → fails ≡ [] → said ≡ Refused IsOff
      → last ≡ crashed_as (halved middle (Fault s 0) s 0) s kept taken → EndsBetween p s d middle fails said last

-- ---- the lines

-- what a line came to over disks that tell no contents, but for what it notes
pub data FindsOther (d : Doubted) (line : ScriptLine) (fails : Fails) (said : Said) (last : Doubted) : Type 0 where
  -- updates were sent, of whatever writes were read
  SendsOther : (p s : List ℕ) (more : List Packet) → line ≡ Pump p s → PumpSends d.world (site_number d.world p) (site_number d.world s) more → fails ≡ [] → said ≡ Done
      → last ≡ record d { world = pumped_with d.world (site_number d.world p) (site_number d.world s) more } → FindsOther d line fails said last
  -- no records could be read
  ReadsNone : (p s : List ℕ) (why : No) → line ≡ Pump p s → IsUnreadable why → fails ≡ [] → said ≡ Refused why → last ≡ d → FindsOther d line fails said last
  -- an update was whole, of whatever was put together
  TakesOther : (number : ℕ) (q : Packet) (x : Write) → line ≡ Deliver number → (may : MayTake d.world number q) → fails ≡ []
      → said ≡ Taken → last ≡ record d { world = taken_with d.world q may.count x } → FindsOther d line fails said last
  -- a part of it was kept
  KeepsOther : (number : ℕ) (q : Packet) → line ≡ Deliver number → MayTake d.world number q → fails ≡ [] → said ≡ Taken
      → last ≡ record d { world = kept_with d.world q } → FindsOther d line fails said last
  -- nothing came of it
  LosesOther : (number : ℕ) (q : Packet) → line ≡ Deliver number → MayTake d.world number q → fails ≡ [] → said ≡ Ignored → last ≡ d → FindsOther d line fails said last
  -- a link was settled by such updates, as far as they went
  SettlesOther : (p s : List ℕ) (middle : Doubted) → line ≡ Settle p s → MovesBetween (site_number d.world p) (site_number d.world s) d middle
      → EndsBetween (site_number d.world p) (site_number d.world s) d middle fails said last → FindsOther d line fails said last
