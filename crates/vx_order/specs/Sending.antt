-- The tests of a line on a link that stands, and of one that waits for links.
use Rattle.std.specs.Prelude.{ℕ, Bool, true, false, not, ◌&&◌, ◌||◌, ◌==◌, nat_lt, Option, Some, None}
use Rattle.std.specs.List.{list_any}
use Rattle.vx_history.specs.Admission.{is_down}
use Rattle.vx_history.specs.Refusals.{keeps_links, is_stale_mode}
use Rattle.vx_model.specs.declared.link.Mode.{Mode}
use Rattle.vx_model.specs.declared.link.Mode.TheVariants.{Log, Dcm, Replay, Fork, Stale}
use Rattle.vx_model.specs.declared.no.Named.TheVariants.{Of, Number}
use Rattle.vx_model.specs.declared.no.No.{No}
use Rattle.vx_model.specs.declared.no.No.TheVariants.{Unknown, Role as WrongRole, LinkDown, Unconfirmed, Replaying, Paused}
use Rattle.vx_model.specs.declared.no.SiteName.TheVariants.{Known}
use Rattle.vx_model.specs.Sites.{is_up, is_origin, same_line}
use Rattle.vx_model.specs.declared.site.Role.{Role}
use Rattle.vx_model.specs.declared.site.Role.TheVariants.{Primary, Secondary, Handing, Bunker}
use Rattle.vx_order.specs.declared.ask.Ask.{Ask}
use Rattle.vx_order.specs.declared.ask.Ask.TheVariants.{Makes, Sets, Turns, Pumps, Settles, Waits}
use Rattle.vx_order.specs.declared.facts.SiteFacts.{SiteFacts}
use Rattle.vx_order.specs.declared.facts.RvgFacts.{RvgFacts}
use Rattle.vx_order.specs.declared.facts.LinkFacts.{LinkFacts}
use Rattle.vx_order.specs.Joining.{can_link}
use Rattle.vx_order.specs.Links.{link_towards}
use Rattle.vx_order.specs.Sites.{rvg_of}
use Rattle.vx_order.specs.Tests.{when}

-- writes arise at the site
abbrev pub has_writes : Option RvgFacts → Bool
has_writes None = false
has_writes (Some rvg) = is_origin rvg.role

-- links start at the site
abbrev pub sends : Option RvgFacts → Bool
sends None = false
sends (Some rvg) = keeps_links rvg.role

-- the link goes by nothing
abbrev pub goes_by_nothing : Option LinkFacts → Bool
goes_by_nothing None = false
goes_by_nothing (Some l) = is_stale_mode l.link.mode

abbrev pub is_fork : Mode → Bool
is_fork Log = false
is_fork Dcm = false
is_fork (Replay id phase left start end) = false
is_fork (Fork maps) = true
is_fork Stale = false

-- what a site takes that a link leads to: a bunker where the link is one to a bunker, else a secondary
abbrev pub is_taker : (bunker : Bool) → Role → Bool
is_taker bunker Primary = false
is_taker bunker Secondary = not bunker
is_taker bunker (Handing to) = false
is_taker bunker Bunker = bunker

-- the second site takes what comes by the link, on the line of the first
abbrev pub takes_from : (bunker : Bool) → (first second : Option RvgFacts) → Bool
takes_from bunker None second = false
takes_from bunker (Some first) None = false
takes_from bunker (Some first) (Some second) = is_taker bunker second.role && same_line second.line first.line

-- The link leads to a site that does not take what comes by it. One that goes by the maps of a fork may: its end is not yet on the line.
abbrev pub leads_astray : Option LinkFacts → (first second : Option RvgFacts) → Bool
leads_astray None first second = false
leads_astray (Some l) first second = not (is_fork l.link.mode) && not (takes_from l.link.bunker first second)

-- 5: the sites have not the roles for what the line asks; or a link is to be settled that goes by nothing, or leads to a site that takes nothing by it
abbrev pub ask_role : Option Ask → (here there : Option ℕ) → (first second : Option SiteFacts) → Option No
ask_role None here there first second = None
ask_role (Some Makes) here there first second = when (not (can_link here there first second)) WrongRole
ask_role (Some Sets) here there first second = when (not (has_writes (rvg_of first))) WrongRole
ask_role (Some Turns) here there first second = when (not (sends (rvg_of first))) WrongRole
ask_role (Some Pumps) here there first second = when (not (sends (rvg_of first))) WrongRole
ask_role (Some Settles) here there first second =
    when ((not (sends (rvg_of first)) || goes_by_nothing (link_towards first there)) || leads_astray (link_towards first there) (rvg_of first) (rvg_of second)) WrongRole
ask_role (Some (Waits number)) here there first second = when (not (has_writes (rvg_of first))) WrongRole

abbrev pub not_linked : Option LinkFacts → Option SiteFacts → Option No
not_linked (Some l) second = None
not_linked None None = None
not_linked None (Some site) = Some (Unknown (Of site.name))

-- the last number of a site
abbrev pub last_number : Option RvgFacts → ℕ
last_number None = 0
last_number (Some rvg) = rvg.last

-- of a site with writes up to `last`
abbrev pub number_unknown : (number last : ℕ) → Option No
number_unknown number last = when (number == 0 || nat_lt last number) (Unknown (Number number))

-- 1: the first site has no link to the second, or no write of this number
abbrev pub ask_unknown : Option Ask → (there : Option ℕ) → (first second : Option SiteFacts) → Option No
ask_unknown None there first second = None
ask_unknown (Some Makes) there first second = None
ask_unknown (Some Sets) there first second = not_linked (link_towards first there) second
ask_unknown (Some Turns) there first second = not_linked (link_towards first there) second
ask_unknown (Some Pumps) there first second = not_linked (link_towards first there) second
ask_unknown (Some Settles) there first second = not_linked (link_towards first there) second
ask_unknown (Some (Waits number)) there first second = number_unknown number (last_number (rvg_of first))

abbrev pub cut_off : Option LinkFacts → Option SiteFacts → Option No
cut_off None second = None
cut_off (Some l) None = None
cut_off (Some l) (Some site) = when (not (l.link.attached && l.link.connected)) (LinkDown (Known site.name))

-- 14: the link that the line needs is not attached or not connected
abbrev pub ask_down : Option Ask → (there : Option ℕ) → (first second : Option SiteFacts) → Option No
ask_down (Some Pumps) there first second = cut_off (link_towards first there) second
ask_down (Some Settles) there first second = cut_off (link_towards first there) second
ask_down other there first second = None

abbrev pub held_up : Option LinkFacts → Option No
held_up None = None
held_up (Some l) = when l.link.paused Paused

-- 23: the link that the line needs is paused
abbrev pub ask_paused : Option Ask → (there : Option ℕ) → Option SiteFacts → Option No
ask_paused (Some Pumps) there first = held_up (link_towards first there)
ask_paused (Some Settles) there first = held_up (link_towards first there)
ask_paused other there first = None

abbrev pub forked : Option LinkFacts → Option SiteFacts → Option No
forked None second = None
forked (Some l) None = None
forked (Some l) (Some site) = when (is_fork l.link.mode) (Replaying (Known site.name))

-- 18: the link is to be settled, and goes by the maps of a fork
abbrev pub ask_replaying : Option Ask → (there : Option ℕ) → (first second : Option SiteFacts) → Option No
ask_replaying (Some Settles) there first second = forked (link_towards first there) second
ask_replaying other there first second = None

-- a link that is down has not confirmed the number
abbrev pub lacks : ℕ → LinkFacts → Bool
lacks number l = is_down l.link && nat_lt l.link.net number

abbrev pub unconfirmed_at : Option SiteFacts → ℕ → Option No
unconfirmed_at None number = None
unconfirmed_at (Some site) number = when (is_up site.state && list_any (lacks number) site.links) (Unconfirmed number)

-- 15: the write of this number cannot be confirmed as some link asks
abbrev pub ask_unconfirmed : Option Ask → Option SiteFacts → Option No
ask_unconfirmed (Some (Waits number)) first = unconfirmed_at first number
ask_unconfirmed other first = None
