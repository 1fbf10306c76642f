-- What the complete kinds of line are refused, each kind by itself.
use Rattle.std.specs.Prelude.{ℕ, ◌+◌, Bool, not, ◌&&◌, ◌||◌, ◌==◌, nat_lt, nat_le, List, length, Option, Some, None, is_some, if◌then◌else◌}
use Rattle.vx_model.specs.declared.limits.TheConstants.{LEAST_BLOCKS, MOST_CALL_BLOCKS, MOST_DISKS, MOST_SITES}
use Rattle.vx_model.specs.declared.no.No.{No}
use Rattle.vx_model.specs.declared.no.No.TheVariants.{Unknown, Exists, Range, Size, Role, Down, Limit}
use Rattle.vx_model.specs.declared.no.Named.TheVariants.{Of, Number}
use Rattle.vx_model.specs.declared.no.Counted.TheVariants.{Sites, Disks, Blocks}
use Rattle.vx_order.specs.declared.facts.SiteFacts.{SiteFacts}
use Rattle.vx_order.specs.declared.facts.VolumeFacts.{VolumeFacts}
use Rattle.vx_order.specs.declared.facts.RvgFacts.{RvgFacts}
use Rattle.vx_order.specs.declared.span.Span.{Span}
use Rattle.vx_order.specs.Sites.{site_named, site_gone, volume_of, rvg_of, halted_one}
use Rattle.vx_model.specs.Sites.{is_bare, is_up}
use Rattle.vx_order.specs.Shapes.{most_disk_blocks}
use Rattle.vx_model.specs.Sizes.{is_raw_shape}
use Rattle.vx_order.specs.Grouping.{is_deported}
use Rattle.vx_order.specs.Holding.{span_down, span_full}
use Rattle.vx_order.specs.Tests.{before}
use Rattle.vx_order.specs.Calls.{takes_calls, asks_role, is_write, outgrows}

-- a `site` line of this name, number of disks and blocks of each
abbrev pub site_refusal : List SiteFacts → Bool → List ℕ → ℕ → ℕ → Option No
site_refusal sites files name disks blocks =
    if is_some (site_named sites name) then Some (Exists name)
    else if nat_le MOST_SITES (length sites) then Some (Limit Sites MOST_SITES)
    else if nat_lt MOST_DISKS disks then Some (Limit Disks MOST_DISKS)
    else if nat_lt (most_disk_blocks files) blocks then Some (Limit Blocks (most_disk_blocks files))
    else if disks == 0 || nat_lt blocks LEAST_BLOCKS then Some Size
    else None

-- a `raw` line of the site of this name
abbrev pub raw_refusal : Option SiteFacts → List ℕ → Option No
raw_refusal None name = Some (Unknown (Of name))
raw_refusal (Some site) name =
    if not (is_bare site.state) then Some Role
    else if not (is_raw_shape site.disks site.blocks) then Some Size
    else None

-- a `disk` line of the site of this name
abbrev pub disk_refusal : Option SiteFacts → List ℕ → ℕ → Option No
disk_refusal None name disk = Some (Unknown (Of name))
disk_refusal (Some site) name disk = if nat_le site.disks disk then Some (Unknown (Number disk)) else None

-- a `status` line of the site of this name
abbrev pub status_refusal : Option SiteFacts → List ℕ → Option No
status_refusal None name = Some (Unknown (Of name))
status_refusal (Some site) name = None

-- a `recover` line of the site of this name
abbrev pub recover_refusal : Option SiteFacts → List ℕ → Option No
recover_refusal None name = Some (Unknown (Of name))
recover_refusal (Some site) name = if is_deported site.state then Some Role else None

-- a `crash` or `fuse` line of the site of this name
abbrev pub up_refusal : Option SiteFacts → List ℕ → Option No
up_refusal None name = Some (Unknown (Of name))
up_refusal (Some site) name = if not (is_up site.state) then Some Down else None

-- an `apply` line of the site of this name
abbrev pub apply_refusal : Option SiteFacts → List ℕ → Option No
apply_refusal None name = Some (Unknown (Of name))
apply_refusal (Some site) name =
    if not (is_up site.state) then Some Down
    else before (halted_one (Some site)) (if not (is_some (rvg_of (Some site))) then Some Role else None)

-- a run of blocks of a volume, at a site that is not halted
abbrev pub call_on : Option RvgFacts → Option VolumeFacts → Span → Option No
call_on rvg None span = Some (Unknown (Of span.volume))
call_on rvg (Some volume) span =
    if asks_role span.way && not (takes_calls volume.kind rvg) then Some Role
    else if span.count == 0 || nat_lt MOST_CALL_BLOCKS span.count || (is_write span.way && outgrows rvg (Some volume) span.count) then Some Size
    else if nat_lt volume.blocks (span.start + span.count) then Some Range
    else None

-- what a write is refused for the links of its site; reads are refused nothing
abbrev pub links_on : List SiteFacts → Option SiteFacts → Span → Option No
links_on sites site span = before (span_down sites site (Some span)) (span_full sites site (Some span))

-- a `write`, `put`, `read` or `show` line of the site of this name
abbrev pub call_refusal : List SiteFacts → Option SiteFacts → List ℕ → Span → Option No
call_refusal sites None name span = Some (Unknown (Of name))
call_refusal sites (Some site) name span =
    if site_gone (Some site) then Some Down
    else before (halted_one (Some site)) (before (call_on (rvg_of (Some site)) (volume_of (Some site) span.volume) span) (links_on sites (Some site) span))
