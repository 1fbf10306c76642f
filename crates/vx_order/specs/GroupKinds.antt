-- What the lines of disk groups are refused, each kind by itself.
use Rattle.std.specs.Prelude.{ℕ, not, nat_lt, List, Option, Some, None, is_some, if◌then◌else◌}
use Rattle.vx_model.specs.declared.no.Named.TheVariants.{Of}
use Rattle.vx_model.specs.declared.no.No.{No}
use Rattle.vx_model.specs.declared.no.No.TheVariants.{Unknown, Exists, Size, Role, Down}
use Rattle.vx_model.specs.Sites.{is_bare, is_up}
use Rattle.vx_model.specs.declared.limits.TheConstants.{LEAST_GROUP_BLOCKS}
use Rattle.vx_script.specs.declared.line.Layout.{Layout}
use Rattle.vx_script.specs.declared.line.ReadPolicy.{ReadPolicy}
use Rattle.vx_order.specs.declared.facts.SiteFacts.{SiteFacts}
use Rattle.vx_order.specs.Grouping.{is_deported}
use Rattle.vx_order.specs.Replicating.{group_unknown, group_word, fits_group}
use Rattle.vx_order.specs.Sites.{volume_of, rvg_of, halted_one}
use Rattle.vx_order.specs.Tests.{before}
use Rattle.vx_order.specs.Volumes.{preferred_unknown, plex_unknown, volume_count, volume_limit, is_volume_shape}

-- a `dg init` line of the site of this name
abbrev pub init_refusal : Option SiteFacts → List ℕ → Option No
init_refusal None name = Some (Unknown (Of name))
init_refusal (Some site) name =
    if not (is_bare site.state) then Some Role
    else if nat_lt site.blocks LEAST_GROUP_BLOCKS then Some Size
    else None

-- a `dg import` line
abbrev pub import_refusal : Option SiteFacts → List ℕ → Option No
import_refusal None name = Some (Unknown (Of name))
import_refusal (Some site) name = if not (is_deported site.state) then Some Role else None

-- a `dg deport` line
abbrev pub deport_refusal : Option SiteFacts → List ℕ → Option No
deport_refusal None name = Some (Unknown (Of name))
deport_refusal (Some site) name =
    if not (is_up site.state) then Some Down
    else before (halted_one (Some site)) (if not site.grouped then Some Role else None)

-- a site of this name that has to be up as a disk group; then what else is tested
abbrev pub on_group : Option SiteFacts → List ℕ → Option No → Option No
on_group None name rest = Some (Unknown (Of name))
on_group (Some site) name rest =
    if not (is_up site.state) then Some Down
    else if not site.grouped then Some Role
    else rest

-- a `vol` line
abbrev pub volume_refusal : Option SiteFacts → List ℕ → (volume : List ℕ) → (blocks mirrors : ℕ) → Layout → ReadPolicy → Option No
volume_refusal site name volume blocks mirrors layout policy =
    on_group site name
    (before (preferred_unknown policy mirrors)
    (if is_some (volume_of site volume) then Some (Exists volume)
    else before (volume_limit (volume_count site) mirrors)
    (if not (is_volume_shape blocks mirrors layout) then Some Size else None)))

-- a `plex` line
abbrev pub plex_refusal : Option SiteFacts → List ℕ → (volume : List ℕ) → (plex : ℕ) → Option No
plex_refusal site name volume plex = on_group site name (plex_unknown (volume_of site volume) volume plex)

-- an `rvg` line
abbrev pub rvg_refusal : Option SiteFacts → List ℕ → (srl maps : List ℕ) → (volumes : List (List ℕ)) → Option No
rvg_refusal site name srl maps volumes =
    on_group site name
    (before (group_unknown site srl maps volumes)
    (if is_some (rvg_of site) then Some (Exists group_word)
    else if not (fits_group site srl maps volumes) then Some Size
    else None))
