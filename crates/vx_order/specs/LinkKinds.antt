-- What the lines of links are refused, each kind by itself.
use Rattle.std.specs.Prelude.{ℕ, not, ◌&&◌, ◌||◌, nat_le, List, Option, Some, None, if◌then◌else◌}
use Rattle.vx_model.specs.declared.limits.TheConstants.{MOST_LINKS}
use Rattle.vx_model.specs.declared.no.Counted.TheVariants.{Links}
use Rattle.vx_model.specs.declared.no.Named.TheVariants.{Of}
use Rattle.vx_model.specs.declared.no.No.{No}
use Rattle.vx_model.specs.declared.no.No.TheVariants.{Unknown, Size, Role, Down, Limit}
use Rattle.vx_model.specs.Sites.{is_up}
use Rattle.vx_order.specs.declared.facts.SiteFacts.{SiteFacts}
use Rattle.vx_order.specs.Joining.{can_link, linked_already, volumes_agree, ring_fits}
use Rattle.vx_order.specs.Links.{link_towards, link_count}
use Rattle.vx_order.specs.Sending.{has_writes, sends, goes_by_nothing, leads_astray, not_linked, last_number, number_unknown, cut_off, held_up, forked, unconfirmed_at}
use Rattle.vx_order.specs.Sites.{rvg_of, halted_one}
use Rattle.vx_order.specs.Tests.{before}

-- sites of these names, of which the first has to be up and must not be halted; then what else is tested
abbrev pub on_first_of : (first second : Option SiteFacts) → (p s : List ℕ) → Option No → Option No
on_first_of None second p s rest = Some (Unknown (Of p))
on_first_of (Some first) None p s rest = Some (Unknown (Of s))
on_first_of (Some first) (Some second) p s rest = if not (is_up first.state) then Some Down else before (halted_one (Some first)) rest

-- the same of both sites
abbrev pub on_both_of : (first second : Option SiteFacts) → (p s : List ℕ) → Option No → Option No
on_both_of None second p s rest = Some (Unknown (Of p))
on_both_of (Some first) None p s rest = Some (Unknown (Of s))
on_both_of (Some first) (Some second) p s rest =
    if not (is_up first.state) || not (is_up second.state) then Some Down
    else before (halted_one (Some first)) (before (halted_one (Some second)) rest)

-- a `link` line of sites with these numbers
abbrev pub link_refusal : (here there : Option ℕ) → (first second : Option SiteFacts) → (p s : List ℕ) → Option No
link_refusal here there first second p s =
    on_both_of first second p s
    (if not (can_link here there first second) then Some Role
    else before (linked_already (link_towards first there) second)
    (if nat_le MOST_LINKS (link_count first) then Some (Limit Links MOST_LINKS)
    else if not (volumes_agree first second && ring_fits (rvg_of first) (rvg_of second)) then Some Size
    else None))

-- a `set` line
abbrev pub set_refusal : (there : Option ℕ) → (first second : Option SiteFacts) → (p s : List ℕ) → Option No
set_refusal there first second p s =
    on_first_of first second p s (if not (has_writes (rvg_of first)) then Some Role else not_linked (link_towards first there) second)

-- a `connect`, `cut`, `pause`, `resume` or `tick` line
abbrev pub turn_refusal : (there : Option ℕ) → (first second : Option SiteFacts) → (p s : List ℕ) → Option No
turn_refusal there first second p s =
    on_first_of first second p s (if not (sends (rvg_of first)) then Some Role else not_linked (link_towards first there) second)

-- a `pump` line
abbrev pub pump_refusal : (there : Option ℕ) → (first second : Option SiteFacts) → (p s : List ℕ) → Option No
pump_refusal there first second p s =
    on_first_of first second p s
    (if not (sends (rvg_of first)) then Some Role
    else before (not_linked (link_towards first there) second) (before (cut_off (link_towards first there) second) (held_up (link_towards first there))))

-- a `settle` line
abbrev pub settle_refusal : (there : Option ℕ) → (first second : Option SiteFacts) → (p s : List ℕ) → Option No
settle_refusal there first second p s =
    on_both_of first second p s
    (if (not (sends (rvg_of first)) || goes_by_nothing (link_towards first there)) || leads_astray (link_towards first there) (rvg_of first) (rvg_of second) then Some Role
    else before (not_linked (link_towards first there) second)
    (before (cut_off (link_towards first there) second) (before (held_up (link_towards first there)) (forked (link_towards first there) second))))

-- a `wait` line
abbrev pub wait_refusal : Option SiteFacts → List ℕ → (number : ℕ) → Option No
wait_refusal None p number = Some (Unknown (Of p))
wait_refusal (Some first) p number =
    if not (is_up first.state) then Some Down
    else before (halted_one (Some first))
    (if not (has_writes (rvg_of (Some first))) then Some Role
    else before (number_unknown number (last_number (rvg_of (Some first)))) (unconfirmed_at (Some first) number))
