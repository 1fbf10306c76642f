-- What each event makes of a world, and what is then said.
use Rattle.std.specs.Prelude.{ℕ, ◌+◌, Bool, not, ◌&&◌, List, [], ◌∷◌, ◌++◌, Option, if◌then◌else◌}
use Rattle.vx_model.specs.Content.{Write, blocks_in, blocks_from}
use Rattle.vx_history.specs.World.{World, with_node}
use Rattle.vx_history.specs.Headers.{headers_by}
use Rattle.vx_history.specs.Gatherings.{emptied}
use Rattle.vx_history.specs.Volumes.{volumes_made}
use Rattle.vx_model.specs.Sites.{is_origin}
use Rattle.vx_model.specs.Answer.{is_too_large}
use Rattle.vx_history.specs.Receiving.{phase_takes}
use Rattle.vx_history.specs.Steps.{site_made, raw_made, stopped_by}
use Rattle.vx_model.specs.declared.site.Mark.TheVariants.{Consistent}
use Rattle.vx_model.specs.declared.link.SyncMode.{SyncMode}
use Rattle.vx_model.specs.declared.link.Prot.{Prot}
use Rattle.vx_history.specs.declared.sender.SEvent.TheVariants.{Pump as PumpLink, Connect as ConnectLink, Cut as CutLink, Pause as PauseLink, Resume as ResumeLink}
use Rattle.vx_model.specs.declared.no.No.TheVariants.{Exists, Size, Role as WrongRole, Down as NotUp, Device}
use Rattle.vx_history.specs.declared.event.Said.TheVariants.{Done, Got, Refused}
use Rattle.vx_history.specs.declared.event.LinkPart.{LinkPart}
use Rattle.vx_history.specs.declared.event.LinkPart.TheVariants.{Joins, Made, Marked, Opened}
use Rattle.vx_history.specs.declared.event.Event.{Event}
use Rattle.vx_history.specs.declared.event.Event.TheVariants.{Site, Raw, Group, Volumes, Write as WriteAt, Read, Apply, Pump, Tick, Deliver, Connect, Cut, Pause, Resume, Wait, Link, Set, Attach, Detach, Crash, Deport, Fall, Recover, Fault}
use Rattle.vx_history.specs.Sends.{is_linked, with_link, sending}
use Rattle.vx_history.specs.Refusals.{Outcome, says, unless, at_site, at_work, both_at_work, on_link, on_link_if, when_live, on_volume, may_be_site, may_join, is_primary, is_consistent, is_stale_mode, is_empty, follows, count_links_of}
use Rattle.vx_model.specs.Sizes.{is_raw_shape}
use Rattle.vx_model.specs.Sites.{is_up, is_bare}
use Rattle.vx_history.specs.Events.{admitted, written_if, apply_at, reached_at, link_event, ticked_at, greeting_back, delivered, packet_at, waited, kept_of, crash_at, deport_at, fall_from, group_from, is_plain_group, recover_from, joined, new_link, opened, link_with, link_attached, link_detached}

abbrev pub done : World → Outcome
done w = says w Done

-- these blocks, one after another
abbrev pub joined_blocks : List (List ℕ) → List ℕ
joined_blocks [] = []
joined_blocks (b ∷ bs) = b ++ joined_blocks bs

abbrev pub read_at : World → ℕ → (volume start count : ℕ) → Outcome
read_at w p volume start count =
    on_volume w p volume start count Bool.false (says w (Got (joined_blocks (blocks_from (w.nodes p).base volume start count))))

abbrev pub write_at : World → ℕ → Write → Option ℕ → Outcome
write_at w p x fails =
    on_volume w p x.volume x.start (blocks_in x.bytes) (is_too_large (w.nodes p).ring (blocks_in x.bytes))
    (written_if (admitted w p x) w p x fails)

-- the events of a line that links s to p; each of the later ones follows the one before it
abbrev pub link_part : LinkPart → World → ℕ → ℕ → SyncMode → Prot → Outcome
link_part Joins w p s sync prot = may_join w p s (done (emptied (with_node w s (joined (w.nodes p) p (w.nodes s))) s))
link_part Made w p s sync prot =
    unless (not (is_primary (w.nodes p).role && follows w p s)) WrongRole w
    (unless (is_linked (w.links p s)) (Exists (w.nodes s).name) w (done (with_link w p s (new_link (count_links_of w p) sync prot (w.nodes s)))))
link_part Marked w p s sync prot =
    unless (not (is_primary (w.nodes p).role && (follows w p s && (is_linked (w.links p s) && is_empty (w.nodes p).log)))) WrongRole w
    (done (with_node w s (record (w.nodes s) { mark = Consistent })))
link_part Opened w p s sync prot =
    unless (not (is_primary (w.nodes p).role && (follows w p s && (is_linked (w.links p s) && (is_empty (w.nodes p).log && (is_stale_mode (w.links p s).mode && (phase_takes (w.nodes s).phase && is_consistent (w.nodes s).mark))))))) WrongRole w
    (done (with_link w p s (opened (w.links p s) (w.nodes p).safe)))

-- what an event makes of a world, but for the count of headers
abbrev pub outcome_of : World → Event → Outcome
outcome_of w (Site name disks blocks) = may_be_site w name disks blocks (done (site_made w name disks blocks))
outcome_of w (Raw s) =
    at_site w s
    (unless (not (is_bare (w.nodes s).state)) WrongRole w
    (unless (not (is_raw_shape (w.nodes s).disks (w.nodes s).blocks)) Size w (done (raw_made w s))))
outcome_of w (Group s) = at_site w s (group_from (w.nodes s).state w s)
outcome_of w (Volumes s log xs) = at_site w s (at_work w s (unless (not (is_plain_group (w.nodes s))) WrongRole w (done (volumes_made w s log xs))))
outcome_of w (WriteAt p volume start bytes fails) = write_at w p (record { volume = volume; start = start; bytes = bytes }) fails
outcome_of w (Read p volume start count) = read_at w p volume start count
outcome_of w (Apply s count reached) =
    at_site w s (at_work w s (if is_origin (w.nodes s).role then reached_at w s count reached else apply_at w s count))
outcome_of w (Pump p s) = on_link w p s (when_live w s (w.links p s) (done (link_event w p s PumpLink)))
outcome_of w (Tick p s) = on_link w p s (done (ticked_at w p s))
outcome_of w (Deliver number) = delivered w number (packet_at w.packets number)
outcome_of w (Connect p s) = on_link w p s (done (sending (link_event w p s ConnectLink) (greeting_back w p s)))
outcome_of w (Cut p s) = on_link w p s (done (link_event w p s CutLink))
outcome_of w (Pause p s) = on_link w p s (done (link_event w p s PauseLink))
outcome_of w (Resume p s) = on_link w p s (done (link_event w p s ResumeLink))
outcome_of w (Wait p number) = at_site w p (at_work w p (unless (not (is_origin (w.nodes p).role)) WrongRole w (waited w p number)))
outcome_of w (Link p s sync prot part) = at_site w p (at_site w s (both_at_work w p s (link_part part w p s sync prot)))
outcome_of w (Set p s sync prot) = on_link_if is_origin w p s (done (with_link w p s (link_with sync prot (w.links p s))))
outcome_of w (Attach p s) = on_link_if is_origin w p s (done (with_link w p s (link_attached (w.links p s))))
outcome_of w (Detach p s) = on_link_if is_origin w p s (done (with_link w p s (link_detached (w.links p s))))
outcome_of w (Crash s kept) = at_site w s (unless (not (is_up (w.nodes s).state)) NotUp w (done (crash_at w s (kept_of (w.nodes s) kept))))
outcome_of w (Deport s) = at_site w s (at_work w s (done (deport_at w s)))
outcome_of w (Fall s) = at_site w s (fall_from (w.nodes s).state w s)
outcome_of w (Recover s fails) = at_site w s (recover_from (w.nodes s).state w s fails)
outcome_of w (Fault s disk) = at_site w s (unless (not (is_up (w.nodes s).state)) NotUp w (says (stopped_by w s disk) (Refused (Device disk))))

-- the outcome with the headers counted
abbrev pub headers_counted : World → Event → Outcome → Outcome
headers_counted w e o = says (record o.world { headers = λ i. w.headers i + headers_by e w o i }) o.said

-- what an event makes of a world
abbrev pub step : World → Event → Outcome
step w e = headers_counted w e (outcome_of w e)

-- the world after these events
abbrev pub run : World → List Event → World
run w [] = w
run w (e ∷ es) = run (step w e).world es
