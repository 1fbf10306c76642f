-- What each event makes of the sites and links of a world.
use Rattle.std.specs.Prelude.{ℕ, zero, suc, ◌+◌, min, max, Bool, true, false, not, ◌&&◌, ◌||◌, eqb, ltb, leb, List, [], ◌∷◌, ◌++◌, length, take, drop, slice_get, Option, Some, None, if◌then◌else◌}
use Rattle.vx_model.specs.Content.{Write, fold_writes, blocks_in}
use Rattle.vx_history.specs.World.{Node, Link, Message, Packet, Promise, World, Hello, Update, NetAck, DataAck, Durable, InSession, no_regions, with_node}
use Rattle.vx_model.specs.Sites.{is_origin, same_line}
use Rattle.vx_history.specs.Steps.{crashed, crash_left, deported_world, fallen_world, group_back, group_made, recovered, session_begun, written, half_written}
use Rattle.vx_history.specs.Admission.{is_fail, hold, change, changed_mode, admit, Admitted, Held_by, Goes}
use Rattle.vx_history.specs.ChangeMaps.{map_after, map_changed}
use Rattle.vx_history.specs.Sending.{Sent, sent_step}
use Rattle.vx_history.specs.Receiving.{received_step}
use Rattle.vx_history.specs.Gatherings.{completes, gathered, emptied}
use Rattle.vx_model.specs.declared.limits.TheConstants.{MOST_PACKETS}
use Rattle.vx_history.specs.LinkForms.{plain_link, with_plain, plain_receiver}
use Rattle.vx_model.specs.declared.history.Line.{Line}
use Rattle.vx_model.specs.declared.site.Role.TheVariants.{Secondary}
use Rattle.vx_model.specs.declared.site.Mark.{Mark}
use Rattle.vx_model.specs.declared.site.Mark.TheVariants.{Inconsistent}
use Rattle.vx_model.specs.declared.site.SPhase.TheVariants.{Quiet}
use Rattle.vx_model.specs.declared.site.SiteState.{SiteState}
use Rattle.vx_model.specs.declared.site.SiteState.TheVariants.{Bare, Up, Deported, Down}
use Rattle.vx_model.specs.declared.link.Link.{Link as PlainLink}
use Rattle.vx_model.specs.declared.link.SyncMode.{SyncMode}
use Rattle.vx_model.specs.declared.link.Prot.{Prot}
use Rattle.vx_model.specs.declared.link.Mode.TheVariants.{Log, Stale}
use Rattle.vx_history.specs.declared.sender.SEvent.{SEvent}
use Rattle.vx_history.specs.declared.sender.SEvent.TheVariants.{Hello as HearHello, NetAck as HearNetAck, DataAck as HearDataAck, Tick as TickLink, Restart as RestartLink}
use Rattle.vx_history.specs.declared.sender.SFacts.{SFacts}
use Rattle.vx_history.specs.declared.sender.Action.{Action}
use Rattle.vx_history.specs.declared.sender.Action.TheVariants.{Nothing, Ignored, Taken, Updates}
use Rattle.vx_history.specs.declared.receiver.REvent.TheVariants.{Update as HearUpdate, Applied, Restart as RestartSite}
use Rattle.vx_history.specs.declared.receiver.RState.{RState}
use Rattle.vx_history.specs.declared.receiver.RAction.{RAction}
use Rattle.vx_history.specs.declared.receiver.RAction.TheVariants.{Nothing as DoesNothing, Ignored as Ignores, IgnoredAck, Take, DataAck as AcksFromDisk}
use Rattle.vx_model.specs.declared.no.No.TheVariants.{Unknown, Role as WrongRole, Device, NoConfig, Unconfirmed}
use Rattle.vx_model.specs.declared.no.Named.TheVariants.{Number as ByNumber}
use Rattle.vx_history.specs.declared.event.Said.{Said}
use Rattle.vx_history.specs.declared.event.Said.TheVariants.{Done, DoneAt, Logged, Pending, Got, Taken as IsTaken, Ignored as IsIgnored, Recovered, Refused}
use Rattle.vx_history.specs.Sends.{is_linked, with_link, with_links, sending, promising, packets_of, sent_by, greeting}
use Rattle.vx_history.specs.Refusals.{Outcome, says, refused, unless, unless_at_most, is_empty, is_primary, is_running, keeps_links, some_below, why_held, holds_back, is_unconfirmed, is_waited_for}
use Rattle.vx_model.specs.Sites.{is_up}

-- ## Writes

-- the blocks that these writes take in the log
abbrev pub logged_blocks : List Write → ℕ
logged_blocks [] = 0
logged_blocks (x ∷ xs) = (blocks_in x.bytes + 1) + logged_blocks xs

-- the blocks of the numbers above a link's hold
abbrev pub used_above : Node → (site : ℕ) → Link → ℕ
used_above n s l = logged_blocks (drop (hold (plain_link s l)) n.log)

abbrev pub is_in_place : Option ℕ → ℕ → Bool
is_in_place None place = false
is_in_place (Some made) place = eqb made place

-- the site of the link that was made in this place, among those below a number
abbrev pub link_in_place : (ℕ → Link) → (place sites : ℕ) → Option ℕ
link_in_place row place zero = None
link_in_place row place (suc k) = if is_in_place (row k).made place then Some k else link_in_place row place k

abbrev pub put_before : Option ℕ → List ℕ → List ℕ
put_before None sites = sites
put_before (Some s) sites = s ∷ sites

-- the sites of the links of a row, in the order in which the links were made; so many places from `place` on
abbrev pub linked_sites : (ℕ → Link) → (sites place : ℕ) → (places : ℕ) → List ℕ
linked_sites row sites place zero = []
linked_sites row sites place (suc k) = put_before (link_in_place row place sites) (linked_sites row sites (place + 1) k)

abbrev pub plain_links : (ℕ → Link) → List ℕ → List PlainLink
plain_links row [] = []
plain_links row (s ∷ ss) = plain_link s (row s) ∷ plain_links row ss

abbrev pub log_uses : Node → (ℕ → Link) → List ℕ → List ℕ
log_uses n row [] = []
log_uses n row (s ∷ ss) = used_above n s (row s) ∷ log_uses n row ss

-- whether the links of p let a write in
abbrev pub admitted : World → ℕ → Write → Admitted
admitted w p x =
    let n = w.nodes p in
    let sites = linked_sites (w.links p) w.sites 0 w.sites in
    admit (blocks_in x.bytes + 1) n.ring (plain_links (w.links p) sites) (log_uses n (w.links p) sites)

-- a link after a write was let in
abbrev pub link_after : Node → Write → (site : ℕ) → Link → Link
link_after n x s l =
    let k = plain_link s l in
    let c = change (blocks_in x.bytes + 1) n.ring k (used_above n s l) in
    record l { mode = changed_mode c l.mode; map = map_changed c l.mode l.map n.log (hold k) }

abbrev pub links_changed : World → ℕ → Write → World
links_changed w p x = with_links w p (λ k. link_after (w.nodes p) x k (w.links p k))

-- a write that some link has to confirm is logged
abbrev pub said_of_write : World → ℕ → ℕ → Said
said_of_write w p number = if some_below w.sites (λ k. is_waited_for k (w.links p k)) then Logged number else DoneAt number

-- a link whose map, where it keeps one, has the regions of these writes
abbrev pub link_marked : List Write → Link → Link
link_marked xs l = record l { map = map_after l.mode l.map xs }

abbrev pub links_marked : World → ℕ → List Write → World
links_marked w p xs = with_links w p (λ k. link_marked xs (w.links p k))

-- The write is durable, with its regions in the maps that links keep; or a disk failed in it.
abbrev pub put_in : World → ℕ → Write → Option ℕ → Outcome
put_in w p x None = says (written (links_marked w p (x ∷ [])) p x) (said_of_write w p ((w.nodes p).safe + 1))
put_in w p x (Some disk) = says (half_written w p x disk) (Refused (Device disk))

abbrev pub written_if : Admitted → World → ℕ → Write → Option ℕ → Outcome
written_if (Held_by why) w p x fails = refused w (why_held why)
written_if (Goes changes) w p x fails = unless_at_most (w.nodes p).safe w (put_in (links_changed w p x) p x fails)

-- ## Records that are applied

-- a receiver whose first writes, so many, are durable
abbrev pub applied : Node → ℕ → Mark → Node
applied n number mark = record n { base = fold_writes n.base (drop n.safe (take number n.log)); safe = number; mark = mark }

-- it acknowledges from disk to the one that feeds it
abbrev pub acknowledged : World → ℕ → Node → World
acknowledged w s n = sending (with_node w s n) (packets_of s n.fed_by n.line (DataAck n.safe))

-- by what the rule of a receiver says: nothing waited, or the records are applied and acknowledged from disk
abbrev pub applied_by : World → ℕ → RState → RAction → Outcome
applied_by w s r DoesNothing = says w (DoneAt (w.nodes s).safe)
applied_by w s r Ignores = says w (DoneAt (w.nodes s).safe)
applied_by w s r (IgnoredAck number) = says w (DoneAt (w.nodes s).safe)
applied_by w s r (Take number) = says w (DoneAt (w.nodes s).safe)
applied_by w s r (AcksFromDisk number) = says (acknowledged w s (applied (w.nodes s) number r.mark)) (DoneAt number)

abbrev pub apply_at : World → ℕ → ℕ → Outcome
apply_at w s count =
    let r = received_step (plain_receiver (w.nodes s)) (Applied count) in applied_by w s r.state r.action

-- at an origin nothing changes: its writes are durable before they are applied
abbrev pub reached_at : World → ℕ → (count reached : ℕ) → Outcome
reached_at w p count reached =
    let head = (w.nodes p).safe in
    says w (DoneAt (min head (max reached (min count head))))

-- ## Links

abbrev pub receiver_facts : Node → Line → SFacts
receiver_facts n line = record { safe = n.safe; line_ok = same_line line n.line }

-- what the rule of a link says of an event of the line on which its site stands
abbrev pub link_step : World → ℕ → ℕ → SEvent → Sent
link_step w p s e = sent_step (plain_link s (w.links p s)) e (receiver_facts (w.nodes p) (w.nodes p).line)

-- the link as the rule leaves it, and what is sent on it
abbrev pub moved_by : World → ℕ → ℕ → Sent → World
moved_by w p s r = sending (with_link w p s (with_plain (w.links p s) r.link)) (sent_by r.action p s (w.nodes p))

abbrev pub link_event : World → ℕ → ℕ → SEvent → World
link_event w p s e = moved_by w p s (link_step w p s e)

-- a link on which what was sent counts as lost
abbrev pub ticked_link : World → ℕ → ℕ → Link
ticked_link w p s = record (with_plain (w.links p s) (link_step w p s TickLink).link) { since = no_regions }

abbrev pub ticked_at : World → ℕ → ℕ → World
ticked_at w p s = with_link w p s (ticked_link w p s)

-- whether b greets a, to which a link was connected
abbrev pub greets : Node → Node → Bool
greets a b = is_up b.state && (is_running b.halted && (not (is_origin b.role) && same_line b.line a.line))

-- what the other end sends as a link is connected
abbrev pub greeting_back : World → ℕ → ℕ → List Packet
greeting_back w p s = if greets (w.nodes p) (w.nodes s) then greeting s p (w.nodes s) else []

-- ## Packets that are delivered

-- a receiver with one more write, which this site sent, and which waits
abbrev pub with_write : Node → (source : ℕ) → Write → Node
with_write n source x = record n { log = n.log ++ x ∷ []; fed_by = source }

-- an acknowledgement from memory
abbrev pub from_memory : World → Node → Packet → ℕ → World
from_memory w n p number = sending w (packets_of p.target p.source n.line (NetAck n.session number))

-- an update that is whole is taken and acknowledged; of one that is not the part is kept
abbrev pub taken_if : (whole : Bool) → World → Packet → Write → (number : ℕ) → Outcome
taken_if true w p x number = says (from_memory (with_node w p.target (with_write (w.nodes p.target) p.source x)) (w.nodes p.target) p number) IsTaken
taken_if false w p x number = says w IsTaken

-- By what the rule of a receiver says of an update, which it says by the header of any of its packets.
abbrev pub update_taken : World → Packet → Write → RAction → Outcome
update_taken w p x DoesNothing = says w IsIgnored
update_taken w p x Ignores = says w IsIgnored
update_taken w p x (IgnoredAck number) = says (from_memory w (w.nodes p.target) p number) IsIgnored
update_taken w p x (Take number) = taken_if (completes (w.gathering p.target) p) w p x number
update_taken w p x (AcksFromDisk number) = says w IsIgnored

abbrev pub update_heard : World → Packet → (number : ℕ) → Write → Outcome
update_heard w p number x =
    let n = w.nodes p.target in
    if is_origin n.role then says w IsIgnored else update_taken w p x (received_step (plain_receiver n) (HearUpdate p.line number)).action

abbrev pub said_of_link : Action → Said
said_of_link Nothing = IsIgnored
said_of_link Ignored = IsIgnored
said_of_link Taken = IsTaken
said_of_link (Updates from to) = IsIgnored

-- the target's link to the source hears a message of it
abbrev pub link_heard : World → Packet → SEvent → Outcome
link_heard w p e =
    let n = w.nodes p.target in
    let l = w.links p.target p.source in
    let r = sent_step (plain_link p.source l) e (receiver_facts n p.line) in
    if keeps_links n.role && is_linked l
    then says (with_link w p.target p.source (with_plain l r.link)) (said_of_link r.action)
    else says w IsIgnored

abbrev pub heard : World → Packet → Message → Outcome
heard w p (Hello session number stored) = link_heard w p (HearHello session number stored)
heard w p (Update number x) = update_heard w p number x
heard w p (NetAck session number) = link_heard w p (HearNetAck session number)
heard w p (DataAck number) = link_heard w p (HearDataAck number)

-- a packet is ignored where its target is not up or is halted
abbrev pub handed : World → Packet → Outcome
handed w p =
    if is_up (w.nodes p.target).state && is_running (w.nodes p.target).halted then heard w p p.message else says w IsIgnored

abbrev pub is_taken : Said → Bool
is_taken Done = false
is_taken (DoneAt number) = false
is_taken (Logged number) = false
is_taken (Pending number) = false
is_taken (Got bytes) = false
is_taken IsTaken = true
is_taken IsIgnored = false
is_taken (Recovered number) = false
is_taken (Refused why) = false

-- what is taken or kept takes the one place of assembly, and what is ignored leaves it as it was
abbrev pub gathered_if : Bool → World → Packet → World
gathered_if true w p = gathered w p
gathered_if false w p = w

abbrev pub gathers : Packet → Outcome → Outcome
gathers p o = says (gathered_if (is_taken o.said) o.world p) o.said

abbrev pub delivered : World → (number : ℕ) → Option Packet → Outcome
delivered w number None = refused w (Unknown (ByNumber number))
delivered w number (Some p) = gathers p (handed w p)

-- the packet of this number, the first of which is number 1; the network keeps the newest alone
abbrev pub packet_at : List Packet → ℕ → Option Packet
packet_at ps zero = None
packet_at ps (suc k) = if leb (suc k + MOST_PACKETS) (length ps) then None else slice_get ps k

-- ## Waiting for a write to be confirmed

-- what an attached link that fails writes has promised of a number
abbrev pub promise_of : Node → (number site : ℕ) → Link → List Promise
promise_of n number s l =
    if is_linked l && (l.attached && is_fail l.sync)
    then record { line = n.line; number = number; site = s; surety = if leb number l.stored then Durable else InSession l.session } ∷ []
    else []

abbrev pub promises_of : Node → (number : ℕ) → (ℕ → Link) → (sites : ℕ) → List Promise
promises_of n number row zero = []
promises_of n number row (suc k) = promise_of n number k (row k) ++ promises_of n number row k

abbrev pub waited : World → ℕ → ℕ → Outcome
waited w p number =
    unless (eqb number 0 || ltb (w.nodes p).safe number) (Unknown (ByNumber number)) w
    (unless (some_below w.sites (λ k. is_unconfirmed number k (w.links p k))) (Unconfirmed number) w
    (if some_below w.sites (λ k. holds_back number k (w.links p k))
    then says w (Pending number)
    else says (promising w (promises_of (w.nodes p) number (w.links p) w.sites)) (DoneAt number)))

-- ## Crashes and recoveries

-- the number nearest to k that a crash may keep
abbrev pub kept_of : Node → ℕ → ℕ
kept_of n k = min (length n.log) (max k n.safe)

-- a crash loses what the network tells of links, and what was sent
abbrev pub lost_touch : Link → Link
lost_touch l = record l { connected = false; paused = false; net = l.stored; since = no_regions }

-- an origin's line holds what its origin kept
abbrev pub crash_world : World → ℕ → ℕ → World
crash_world w s k = if is_origin (w.nodes s).role then crash_left w s k else with_node w s (crashed (w.nodes s) k)

-- a link of a site that kept its first k writes: a map has the regions of those that were not durable before
abbrev pub link_left : Node → (k : ℕ) → Link → Link
link_left n k l = lost_touch (link_marked (drop n.safe (take k n.log)) l)

abbrev pub crash_at : World → ℕ → ℕ → World
crash_at w s k = emptied (with_links (crash_world w s k) s (λ to. link_left (w.nodes s) k (w.links s to))) s

-- a deport is a crash that keeps no more than it has to, and the site is then deported; the fuse of its disks stays set
abbrev pub deport_at : World → ℕ → World
deport_at w s = deported_world (w.nodes s).fuse (crash_at w s (kept_of (w.nodes s) 0)) s

-- a site comes up again; a receiver may be consistent then, by the rule of receivers
abbrev pub come_back : Node → Node
come_back n =
    let r = (received_step (plain_receiver n) (RestartSite (length n.log) (n.session + 1))).state in
    if is_origin n.role then recovered n else record (recovered n) { session = r.session; mark = r.mark }

abbrev pub restarted_link : Node → (site : ℕ) → Link → Link
restarted_link n s l = with_plain l (sent_step (plain_link s l) RestartLink (receiver_facts n n.line)).link

-- a receiver greets its primary
abbrev pub recovery_greeting : ℕ → Node → List Packet
recovery_greeting s n = if is_origin n.role then [] else greeting s n.other n

abbrev pub recovered_at : World → ℕ → World
recovered_at w s =
    let n = come_back (w.nodes s) in
    sending (with_links (with_node w s n) s (λ to. restarted_link n to (w.links s to))) (recovery_greeting s n)

-- the recovery of a site that is down or deported, in which a disk may fail after the next session has begun
abbrev pub recovery : World → ℕ → Option ℕ → Outcome
recovery w s None = says (recovered_at w s) (Recovered (length (w.nodes s).log))
recovery w s (Some disk) = says (session_begun w s) (Refused (Device disk))

abbrev pub recover_from : SiteState → World → ℕ → Option ℕ → Outcome
recover_from Bare w s fails = refused w NoConfig
recover_from Up w s fails = refused w WrongRole
recover_from Deported w s fails = unless_at_most (w.nodes s).session w (recovery w s fails)
recover_from Down w s fails = unless_at_most (w.nodes s).session w (recovery w s fails)

-- a deported site is down
abbrev pub fall_from : SiteState → World → ℕ → Outcome
fall_from Bare w s = refused w WrongRole
fall_from Up w s = refused w WrongRole
fall_from Deported w s = says (fallen_world w s) Done
fall_from Down w s = refused w WrongRole

-- ## Groups of disks

-- a primary that has no volumes and no log: where it is more than bare, it is a group of disks without a replicated volume group
abbrev pub is_plain_group : Node → Bool
is_plain_group n = is_primary n.role && (eqb (length n.volumes) 0 && is_empty n.log)

-- such a group comes up again
abbrev pub group_again : World → ℕ → Outcome
group_again w s = unless (not (is_plain_group (w.nodes s))) WrongRole w (says (group_back w s) Done)

-- a bare site becomes a group of disks, and one that is down or deported comes up again
abbrev pub group_from : SiteState → World → ℕ → Outcome
group_from Bare w s = says (group_made w s) Done
group_from Up w s = refused w WrongRole
group_from Deported w s = group_again w s
group_from Down w s = group_again w s

-- ## The events of a link

-- a site that begins anew, as a secondary of the primary a at number p; its replays count on where it stood on that line
abbrev pub joined : Node → ℕ → Node → Node
joined a p n =
    record n {
      role = Secondary;
      mark = Inconsistent;
      line = a.line;
      parent = a.parent;
      fork = a.fork;
      top = max n.top a.line.generation;
      stood = n.stood ++ a.line ∷ [];
      phase = Quiet;
      replay = if same_line n.line a.line then n.replay else 0;
      end = 0;
      other = p;
      fed_by = p;
      start = n.base;
      log = [];
      safe = 0;
      low = 1;
      fork_map = None;
    }

-- a link to b, in this place among those of its site
abbrev pub new_link : (place : ℕ) → SyncMode → Prot → Node → Link
new_link place sync prot b =
    record {
      made = Some place;
      bunker = false;
      attached = true;
      connected = false;
      paused = false;
      sync = sync;
      prot = prot;
      session = b.session;
      net = 0;
      stored = 0;
      sent = 0;
      trimmed = 0;
      mode = Stale;
      map = no_regions;
      since = no_regions;
    }

-- a link with these settings
abbrev pub link_with : SyncMode → Prot → Link → Link
link_with sync prot l = record l { sync = sync; prot = prot }

-- a link that holds the log
abbrev pub link_attached : Link → Link
link_attached l = record l { attached = true }

-- a link that holds nothing: what its receiver lacks is not known, and no region is marked
abbrev pub link_detached : Link → Link
link_detached l = record l { attached = false; mode = Stale; map = no_regions }

-- it goes by the log from its site's head on
abbrev pub opened : Link → (head : ℕ) → Link
opened l head = record l { mode = Log; net = head; stored = head; sent = head }
