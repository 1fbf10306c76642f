-- How many headers an event writes to the logs of sites.
use Rattle.std.specs.Prelude.{ℕ, Bool, true, false, not, ◌&&◌, eqb, ltb, Option, Some, None, if◌then◌else◌}
use Rattle.vx_history.specs.World.{Link as LinkState, Packet, World}
use Rattle.vx_history.specs.Admission.{mode_holds}
use Rattle.vx_history.specs.Refusals.{Outcome, how_many_below}
use Rattle.vx_history.specs.Events.{packet_at}
use Rattle.vx_history.specs.declared.event.Said.{Said}
use Rattle.vx_history.specs.declared.event.Said.TheVariants.{Done, DoneAt, Logged, Pending, Got, Taken, Ignored, Recovered, Refused}
use Rattle.vx_history.specs.declared.event.LinkPart.{LinkPart}
use Rattle.vx_history.specs.declared.event.LinkPart.TheVariants.{Joins, Made, Marked, Opened}
use Rattle.vx_history.specs.declared.event.Event.{Event}
use Rattle.vx_history.specs.declared.event.Event.TheVariants.{Site, Raw, Group, Volumes, Write, Read, Apply, Pump, Tick, Deliver, Connect, Cut, Pause, Resume, Wait, Link, Set, Attach, Detach, Crash, Deport, Fall, Recover, Fault}

abbrev pub is_refused : Said → Bool
is_refused Done = false
is_refused (DoneAt number) = false
is_refused (Logged number) = false
is_refused (Pending number) = false
is_refused (Got bytes) = false
is_refused Taken = false
is_refused Ignored = false
is_refused (Recovered number) = false
is_refused (Refused why) = true

-- the number counts at this site alone
abbrev pub count_at : (site i number : ℕ) → ℕ
count_at site i number = if eqb site i then number else 0

-- one at this site, unless the event was refused
abbrev pub one_at : (site i : ℕ) → Said → ℕ
one_at site i said = count_at site i (if is_refused said then 0 else 1)

-- the site at which this part of a line that links s to p writes a header
abbrev pub part_writes : LinkPart → (p s : ℕ) → ℕ
part_writes Joins p s = s
part_writes Made p s = p
part_writes Marked p s = s
part_writes Opened p s = p

-- the link went out of a mode in which it needs the log
abbrev pub is_given_up : (before after : LinkState) → Bool
is_given_up before after = mode_holds before.mode && not (mode_holds after.mode)

-- one at the target of a packet where its link to the source has come to count more as stored
abbrev pub heard_headers : (w v : World) → ℕ → Option Packet → ℕ
heard_headers w v i None = 0
heard_headers w v i (Some p) =
    count_at p.target i (if ltb (w.links p.target p.source).stored (v.links p.target p.source).stored then 1 else 0)

-- How many headers an event with this outcome writes to the log of site i: one for a setting, for each part of a line that links, for
-- each link that a write gives up, and where a link comes to count more as stored. Those that begin a session are counted by sessions.
abbrev pub headers_by : Event → World → Outcome → (i : ℕ) → ℕ
headers_by (Site name disks blocks) w o i = 0
headers_by (Raw s) w o i = 0
headers_by (Group s) w o i = 0
headers_by (Volumes s log xs) w o i = 0
headers_by (Write p volume start bytes fails) w o i =
    count_at p i (how_many_below w.sites (λ k. is_given_up (w.links p k) (o.world.links p k)))
headers_by (Read p volume start count) w o i = 0
headers_by (Apply s count reached) w o i = 0
headers_by (Pump p s) w o i = 0
headers_by (Tick p s) w o i = 0
headers_by (Deliver number) w o i = heard_headers w o.world i (packet_at w.packets number)
headers_by (Connect p s) w o i = 0
headers_by (Cut p s) w o i = 0
headers_by (Pause p s) w o i = 0
headers_by (Resume p s) w o i = 0
headers_by (Wait p number) w o i = 0
headers_by (Link p s sync prot part) w o i = one_at (part_writes part p s) i o.said
headers_by (Set p s sync prot) w o i = one_at p i o.said
headers_by (Attach p s) w o i = one_at p i o.said
headers_by (Detach p s) w o i = one_at p i o.said
headers_by (Crash s kept) w o i = 0
headers_by (Deport s) w o i = 0
headers_by (Fall s) w o i = 0
headers_by (Recover s fails) w o i = 0
headers_by (Fault s disk) w o i = 0
