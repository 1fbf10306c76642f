-- Small scripts over linked sites: of each line its refusal, or what is said of its last event, and which packets it sends.
use Rattle.std.proofs.Common.{◌≡◌, ℕ, false, List, [], ◌∷◌, ◌++◌, refl}
use Rattle.std.specs.Prelude.{Option, Some, None, codes}
use Rattle.std.specs.Fmt.{digits}
use Rattle.vx_model.specs.Sizes.{is_raw_shape}
use Rattle.vx_model.specs.declared.link.SyncMode.{SyncMode}
use Rattle.vx_model.specs.declared.link.SyncMode.TheVariants.{Off as NeverWaits, Fail as FailsIfNotLive}
use Rattle.vx_model.specs.declared.link.Prot.TheVariants.{Fail as FailsWhenFull}
use Rattle.vx_model.specs.declared.no.No.{No}
use Rattle.vx_model.specs.declared.no.No.TheVariants.{Unknown, Unconfirmed, LinkDown, LogFull, Stalled, Limit, Role as WrongRole}
use Rattle.vx_model.specs.declared.no.Named.TheVariants.{Number}
use Rattle.vx_model.specs.declared.no.SiteName.TheVariants.{Known}
use Rattle.vx_model.specs.declared.no.Counted.TheVariants.{Links}
use Rattle.vx_history.specs.World.{World, empty_world}
use Rattle.vx_history.specs.declared.event.Event.{Event}
use Rattle.vx_history.specs.declared.event.Said.{Said}
use Rattle.vx_history.specs.declared.event.Said.TheVariants.{Done, DoneAt, Logged, Pending, Taken, Ignored, Recovered, Refused}
use Rattle.vx_history.specs.Step.{step, run}
use Rattle.vx_script.specs.declared.line.ScriptLine.{ScriptLine}
use Rattle.vx_script.specs.declared.line.ScriptLine.TheVariants.{Site, Raw, Crash, Recover, Write, Read, Wait, Link, Connect, Cut, Pump, Deliver, Settle}
use Rattle.vx_order.specs.Asks.{ask_of}
use Rattle.vx_order.specs.Order.{line_refusal}
use Rattle.vx_order.specs.Shapes.{line_role, line_unknown, taken, over_limit, wrong_size}
use Rattle.vx_order.specs.Spans.{span_of}
use Rattle.vx_order.specs.Subject.{first_name, second_name, need_of, halt_of}
use Rattle.vx_order.specs.Tests.{first_said_no}
use Rattle.vx_events.specs.LinkedFacts.{refused_by}
use Rattle.vx_events.specs.LinkLists.{link_events}
use Rattle.vx_report.specs.Statuses.{status_text, rvg_text, link_way}
use Rattle.vx_events.specs.LinkViews.{linked_view}
use Rattle.vx_events.specs.Lists.{Choice, events_of}
use Rattle.vx_events.specs.Sent.{sent_between}

-- what comes of a line: the world behind it, what is said, and the packets that it sends
record Printed : Type 0 where
  said : Said
  sent : Option (ℕ × ℕ)

abbrev last_said : World → List Event → Said → Said
last_said w [] said = said
last_said w (e ∷ es) said = last_said (step w e).world es (step w e).said

abbrev least : Choice
least = record { kept = 0; reached = 0 }

abbrev all_events : World → ScriptLine → List Event
all_events w line = events_of w line least ++ link_events w line

abbrev world_by : Option No → World → ScriptLine → World
world_by (Some why) w line = w
world_by None w line = run w (all_events w line)

abbrev said_by : Option No → World → ScriptLine → Said
said_by (Some why) w line = Refused why
said_by None w line = last_said w (all_events w line) Done

abbrev behind : World → ScriptLine → World
behind w line = world_by (refused_by w false line) w line

abbrev printed : World → List ScriptLine → List Printed
printed w [] = []
printed w (line ∷ lines) =
    record { said = said_by (refused_by w false line) w line; sent = sent_between w (behind w line) } ∷ printed (behind w line) lines

abbrev worked : World → List ScriptLine → World
worked w [] = w
worked w (line ∷ lines) = worked (behind w line) lines

abbrev says : Said → Printed
says said = record { said = said; sent = None }

abbrev sends : Said → ℕ → ℕ → Printed
sends said first last = record { said = said; sent = Some (first, last) }

-- the names of sites, and that of the first volume of a raw set
abbrev a : List ℕ
a = 97 ∷ []

abbrev b : List ℕ
b = 98 ∷ []

abbrev d1 : List ℕ
d1 = 100 ∷ 49 ∷ []

-- two sites with disks of so many blocks, linked and connected
abbrev linked : (blocks : ℕ) → SyncMode → List ScriptLine
linked blocks sync = Site a 3 blocks ∷ Raw a ∷ Site b 3 blocks ∷ Raw b ∷ Link a b sync FailsWhenFull ∷ Connect a b ∷ []

abbrev put_one : ℕ → ℕ → ScriptLine
put_one block byte = Write a d1 block 1 byte

-- a write that fails where its link is not live
confirmed_row : printed empty_world (linked 64 FailsIfNotLive ++ put_one 0 17 ∷ Wait a 1 ∷ Pump a b ∷ Deliver 2 ∷ Deliver 3 ∷ Wait a 1 ∷ put_one 1 34 ∷ Cut a b ∷ Wait a 2 ∷ put_one 2 51 ∷ Wait a 3 ∷ [])
    ≡ says Done ∷ says Done ∷ says Done ∷ says Done ∷ says Done ∷ sends Done 1 1
    ∷ says (Logged 1) ∷ says (Pending 1) ∷ sends Done 2 2 ∷ sends Taken 3 3 ∷ says Taken ∷ says (DoneAt 1) ∷ says (Logged 2) ∷ says Done
    ∷ says (Refused (Unconfirmed 2)) ∷ says (Refused (LinkDown (Known b))) ∷ says (Refused (Unknown (Number 3))) ∷ []
unfolding line_refusal first_said_no first_name second_name need_of halt_of line_role line_unknown taken over_limit wrong_size span_of ask_of is_raw_shape digits
confirmed_row = refl

-- a receiver that crashes with a record in memory
restarted_row : printed (worked empty_world (linked 64 FailsIfNotLive)) (put_one 0 17 ∷ Wait a 1 ∷ Pump a b ∷ Deliver 2 ∷ Crash b 0 ∷ Recover b ∷ Deliver 4 ∷ Deliver 3 ∷ Wait a 1 ∷ [])
    ≡ says (Logged 1) ∷ says (Pending 1) ∷ sends Done 2 2 ∷ sends Taken 3 3 ∷ says Done ∷ sends (Recovered 0) 4 4 ∷ says Taken ∷ says Ignored ∷ says (Pending 1) ∷ []
unfolding line_refusal first_said_no first_name second_name need_of halt_of line_role line_unknown taken over_limit wrong_size span_of ask_of is_raw_shape digits
restarted_row = refl

-- a full log: a live link stalls the write, and one that is cut fails it
abbrev filled : List ScriptLine
filled = put_one 0 1 ∷ put_one 1 2 ∷ Write a d1 2 2 3 ∷ []

-- what the status of the first site shows behind a script
abbrev status : List ScriptLine → List ℕ
status lines = status_text (linked_view (worked empty_world lines) 0)

-- a settled link gives the log its room back
abbrev settled : List ScriptLine
settled = filled ++ put_one 4 4 ∷ Settle a b ∷ put_one 4 4 ∷ Crash a 0 ∷ Recover a ∷ []

settled_row : printed (worked empty_world (linked 10 NeverWaits)) settled
    ≡ says (DoneAt 1) ∷ says (DoneAt 2) ∷ says (DoneAt 3) ∷ says (Refused (Stalled (Known b))) ∷ sends Taken 2 10 ∷ says (DoneAt 4) ∷ says Done ∷ says (Recovered 4) ∷ []
unfolding line_refusal first_said_no first_name second_name need_of halt_of line_role line_unknown taken over_limit wrong_size span_of ask_of is_raw_shape digits
settled_row = refl

settled_status : status (linked 10 NeverWaits ++ settled)
    ≡ codes "site a up\nrvg primary 1 a head 4 mark consistent session 2\nlink b attached cut running log net 3 stored 3\n"
unfolding line_refusal first_said_no first_name second_name need_of halt_of line_role line_unknown taken over_limit wrong_size span_of ask_of is_raw_shape digits status_text rvg_text link_way
settled_status = refl

stalled_row : printed (worked empty_world (linked 10 NeverWaits)) (filled ++ put_one 4 4 ∷ Cut a b ∷ put_one 4 4 ∷ [])
    ≡ says (DoneAt 1) ∷ says (DoneAt 2) ∷ says (DoneAt 3) ∷ says (Refused (Stalled (Known b))) ∷ says Done ∷ says (Refused (LogFull (Known b))) ∷ []
unfolding line_refusal first_said_no first_name second_name need_of halt_of line_role line_unknown taken over_limit wrong_size span_of ask_of is_raw_shape digits
stalled_row = refl

-- updates that come out of order and twice
disordered_row : printed (worked empty_world (linked 64 NeverWaits)) (put_one 0 17 ∷ put_one 1 34 ∷ Pump a b ∷ Deliver 3 ∷ Deliver 2 ∷ Deliver 2 ∷ Deliver 3 ∷ Read b d1 0 1 ∷ Deliver 9 ∷ [])
    ≡ says (DoneAt 1) ∷ says (DoneAt 2) ∷ sends Done 2 3 ∷ says Ignored ∷ sends Taken 4 4 ∷ sends Ignored 5 5 ∷ sends Taken 6 6
    ∷ says (Refused WrongRole) ∷ says (Refused (Unknown (Number 9))) ∷ []
unfolding line_refusal first_said_no first_name second_name need_of halt_of line_role line_unknown taken over_limit wrong_size span_of ask_of is_raw_shape digits
disordered_row = refl

-- a site has four links at most
abbrev more_sites : List ScriptLine
more_sites =
    Site (99 ∷ []) 3 64 ∷ Raw (99 ∷ []) ∷ Site (100 ∷ []) 3 64 ∷ Raw (100 ∷ []) ∷ Site (101 ∷ []) 3 64 ∷ Raw (101 ∷ [])
    ∷ Site (102 ∷ []) 3 64 ∷ Raw (102 ∷ []) ∷ []

abbrev link_to_site : ℕ → ScriptLine
link_to_site letter = Link a (letter ∷ []) NeverWaits FailsWhenFull

fifth_row : printed (worked (worked empty_world (linked 64 NeverWaits)) more_sites) (link_to_site 99 ∷ link_to_site 100 ∷ link_to_site 101 ∷ link_to_site 102 ∷ link_to_site 97 ∷ link_to_site 99 ∷ [])
    ≡ says Done ∷ says Done ∷ says Done ∷ says (Refused (Limit Links 4)) ∷ says (Refused WrongRole) ∷ says (Refused WrongRole) ∷ []
unfolding line_refusal first_said_no first_name second_name need_of halt_of line_role line_unknown taken over_limit wrong_size span_of ask_of is_raw_shape digits
fifth_row = refl
