-- A line as its events: all of them are done, or one of them is ended by a failing disk or by a fuse.
use Rattle.std.specs.Prelude.{◌≡◌, ℕ, ◌<◌, ◌&&◌, Bool, Option, Some, None, List, [], ◌∷◌, ◌++◌, if◌then◌else◌}
use Rattle.vx_model.specs.Content.{Write as LogWrite}
use Rattle.vx_model.specs.declared.site.SiteState.TheVariants.{Up}
use Rattle.vx_model.specs.declared.history.Line.{Line}
use Rattle.vx_history.specs.World.{Link as LinkState, Message, Node, Packet, World, Hello, Update, NetAck, DataAck, NoFuse, Fuse, FuseSet, FuseLit}
use Rattle.vx_history.specs.Events.{packet_at, receiver_facts}
use Rattle.vx_history.specs.LinkForms.{plain_link}
use Rattle.vx_history.specs.Refusals.{keeps_links}
use Rattle.vx_history.specs.Sending.{sent_step}
use Rattle.vx_history.specs.Sends.{is_linked}
use Rattle.vx_history.specs.declared.sender.SEvent.{SEvent}
use Rattle.vx_history.specs.declared.sender.SEvent.TheVariants.{Hello as HearHello, NetAck as HearNetAck, DataAck as HearDataAck}
use Rattle.vx_history.specs.declared.event.LinkPart.{LinkPart}
use Rattle.vx_history.specs.declared.event.LinkPart.TheVariants.{Joins, Made, Marked, Opened}
use Rattle.vx_history.specs.declared.event.Event.{Event}
use Rattle.vx_history.specs.declared.event.Event.TheVariants.{Site, Raw, Group, Volumes, Write, Read, Apply, Pump, Tick, Deliver, Connect, Cut, Pause, Resume, Wait, Link, Set, Attach, Detach, Crash, Deport, Fall, Recover, Fault}
use Rattle.vx_history.specs.Likes.{IsLike}
use Rattle.vx_history.specs.Doubts.{Doubted, Runs, halved, crashed_as}

-- a fuse is set
abbrev pub IsFused : Fuse → Type 0
IsFused NoFuse = ⊥
IsFused (FuseSet calls) = Unit {0}
IsFused (FuseLit most) = Unit {0}

-- the same doubts over worlds that differ in notes alone
pub record IsLikeDoubted (d e : Doubted) : Type 0 where
  pub worlds : IsLike d.world e.world
  pub after : (s : ℕ) → e.after s ≡ d.after s

abbrev pub of_disk : ℕ → Option ℕ → List (ℕ × ℕ)
of_disk s None = []
of_disk s (Some disk) = (s, disk) ∷ []

-- the failing disks that the events themselves tell
abbrev pub told_fails : Event → List (ℕ × ℕ)
told_fails (Site name disks blocks) = []
told_fails (Raw p) = []
told_fails (Group p) = []
told_fails (Volumes p log xs) = []
told_fails (Write p volume start bytes fails) = of_disk p fails
told_fails (Read p volume start count) = []
told_fails (Apply p count reached) = []
told_fails (Pump p q) = []
told_fails (Tick p q) = []
told_fails (Deliver number) = []
told_fails (Connect p q) = []
told_fails (Cut p q) = []
told_fails (Pause p q) = []
told_fails (Resume p q) = []
told_fails (Wait p number) = []
told_fails (Link p q sync prot part) = []
told_fails (Set p q sync prot) = []
told_fails (Attach p q) = []
told_fails (Detach p q) = []
told_fails (Crash p kept) = []
told_fails (Deport p) = []
told_fails (Fall p) = []
told_fails (Recover p fails) = of_disk p fails
told_fails (Fault p disk) = (p, disk) ∷ []

abbrev pub all_fails : List Event → List (ℕ × ℕ)
all_fails [] = []
all_fails (e ∷ es) = told_fails e ++ all_fails es

-- a disk may fail there, or a fuse run out
abbrev pub IsOpen : Node → Type 0
IsOpen n = (n.state ≡ Up) × (n.halted ≡ None)

-- what a site's link to this source counts as stored behind an event of that line, by the rule of links
abbrev pub stored_heard : Node → (source : ℕ) → LinkState → Line → SEvent → ℕ
stored_heard n source l line e = if keeps_links n.role && is_linked l then (sent_step (plain_link source l) e (receiver_facts n line)).link.stored else l.stored

-- the same behind the message of a packet from there
abbrev pub stored_by : Node → LinkState → Packet → Message → ℕ
stored_by n l p (Hello session number stored) = stored_heard n p.source l p.line (HearHello session number stored)
stored_by n l p (Update number x) = l.stored
stored_by n l p (NetAck session number) = stored_heard n p.source l p.line (HearNetAck session number)
stored_by n l p (DataAck number) = stored_heard n p.source l p.line (HearDataAck number)

-- The event is a message by which the site's link to its source comes to count more as stored, so that a header is written.
abbrev pub IsHeardAt : World → (number : ℕ) → ℕ → Type 0
IsHeardAt w number site =
    (p : Packet) × (packet_at w.packets number ≡ Some p) × (p.target ≡ site) × ((n : ℕ) (x : LogWrite) → p.message ≡ Update n x → ⊥)
    × ((w.links site p.source).stored < stored_by (w.nodes site) (w.links site p.source) p p.message)

abbrev pub IsPartAt : LinkPart → (p s site : ℕ) → Type 0
IsPartAt Joins p s site = s ≡ site
IsPartAt Made p s site = p ≡ site
IsPartAt Marked p s site = s ≡ site
IsPartAt Opened p s site = p ≡ site

-- The event writes a header of the site's log, or a record that a failing disk ends. Records that are applied are no part of it: the
-- site is halted, or crashes, with some of them waiting still.
abbrev pub WritesAt : World → Event → (site : ℕ) → Type 0
WritesAt w (Site name disks blocks) site = ⊥
WritesAt w (Raw p) site = ⊥
WritesAt w (Group p) site = ⊥
WritesAt w (Volumes p log xs) site = ⊥
WritesAt w (Write p volume start bytes None) site = ⊥
WritesAt w (Write p volume start bytes (Some disk)) site = p ≡ site
WritesAt w (Read p volume start count) site = ⊥
WritesAt w (Apply p count reached) site = ⊥
WritesAt w (Pump p q) site = ⊥
WritesAt w (Tick p q) site = ⊥
WritesAt w (Deliver number) site = IsHeardAt w number site
WritesAt w (Connect p q) site = ⊥
WritesAt w (Cut p q) site = ⊥
WritesAt w (Pause p q) site = ⊥
WritesAt w (Resume p q) site = ⊥
WritesAt w (Wait p number) site = ⊥
WritesAt w (Link p q sync prot part) site = IsPartAt part p q site
WritesAt w (Set p q sync prot) site = p ≡ site
WritesAt w (Attach p q) site = p ≡ site
WritesAt w (Detach p q) site = p ≡ site
WritesAt w (Crash p kept) site = ⊥
WritesAt w (Deport p) site = ⊥
WritesAt w (Fall p) site = ⊥
WritesAt w (Recover p fails) site = ⊥
WritesAt w (Fault p disk) site = p ≡ site

-- the events come to e, behind those before it, in a world where site is open and e writes there
pub record ComesTo (d : Doubted) (events : List Event) (e : Event) (site : ℕ) (middle : Doubted) : Type 0 where
  pub before : List Event
  pub rest : List Event
  pub split : events ≡ before ++ e ∷ rest
  pub runs : Runs d before middle
  pub fails : all_fails before ≡ []
  pub opens : IsOpen (middle.world.nodes site)
  pub writes : WritesAt middle.world e site

-- How the events of a line end, and which disks failed in them.
pub data EventsEnd (d : Doubted) (events : List Event) (fails : List (ℕ × ℕ)) (new : Doubted) : Type 0 where
  AllDone : (last : Doubted) → Runs d events last → fails ≡ all_fails events → IsLikeDoubted last new → EventsEnd d events fails new
  -- a disk of this site failed in this event
  Halts : (e : Event) (site disk : ℕ) (middle : Doubted) → ComesTo d events e site middle → fails ≡ (site, disk) ∷ []
      → IsLikeDoubted (halved middle e site disk) new → EventsEnd d events fails new
  -- the fuse of this site ran out in this event: it is down, with the event on its disks or not, and with so many of its writes
  Cuts : (e : Event) (site kept : ℕ) (taken : Bool) (middle : Doubted) → ComesTo d events e site middle → IsFused (d.world.nodes site).fuse
      → fails ≡ [] → IsLikeDoubted (crashed_as (halved middle e site 0) site kept taken) new → EventsEnd d events fails new
  -- a read failed in this event: it is not begun, and those before it stand
  Reads : (before rest : List Event) (e : Event) (site disk : ℕ) (middle : Doubted) → events ≡ before ++ e ∷ rest → Runs d before middle
      → all_fails before ≡ [] → fails ≡ (site, disk) ∷ [] → IsLikeDoubted middle new → EventsEnd d events fails new
