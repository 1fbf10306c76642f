-- The tests of a volume of a disk group and of its plexes.
use Rattle.std.specs.Prelude.{ℕ, ◌^◌, Bool, true, ◌&&◌, nat_lt, nat_le, List, length, Option, Some, None, is_some, if◌then◌else◌}
use Rattle.vx_model.specs.declared.limits.TheConstants.{MOST_COLUMNS, MOST_PLEXES, MOST_VOLUME_BLOCKS, MOST_VOLUMES}
use Rattle.vx_model.specs.declared.no.Counted.TheVariants.{Plexes, Volumes}
use Rattle.vx_model.specs.declared.no.Named.TheVariants.{Of, Number}
use Rattle.vx_model.specs.declared.no.No.{No}
use Rattle.vx_model.specs.declared.no.No.TheVariants.{Unknown, Exists, Limit}
use Rattle.vx_model.specs.Sites.{is_up}
use Rattle.vx_script.specs.declared.line.Layout.{Layout}
use Rattle.vx_script.specs.declared.line.Layout.TheVariants.{Concat, Stripe}
use Rattle.vx_script.specs.declared.line.ReadPolicy.{ReadPolicy}
use Rattle.vx_script.specs.declared.line.ReadPolicy.TheVariants.{Round, Prefer}
use Rattle.vx_order.specs.declared.facts.SiteFacts.{SiteFacts}
use Rattle.vx_order.specs.declared.facts.VolumeFacts.{VolumeFacts}
use Rattle.vx_order.specs.Tests.{when}

-- 1: the plex that is read first is none of those that are made
abbrev pub preferred_unknown : ReadPolicy → (mirrors : ℕ) → Option No
preferred_unknown Round mirrors = None
preferred_unknown (Prefer plex) mirrors = when (nat_le mirrors plex) (Unknown (Number plex))

-- 1: the site has no volume of this name, or else the volume no such plex
abbrev pub plex_unknown : Option VolumeFacts → List ℕ → (plex : ℕ) → Option No
plex_unknown None name plex = Some (Unknown (Of name))
plex_unknown (Some volume) name plex = when (nat_le volume.plexes plex) (Unknown (Number plex))

-- 2: the site has a volume of this name
abbrev pub volume_taken : Option VolumeFacts → List ℕ → Option No
volume_taken volume name = when (is_some volume) (Exists name)

-- how many volumes a site has, which only an up site has
abbrev pub volume_count : Option SiteFacts → ℕ
volume_count None = 0
volume_count (Some site) = if is_up site.state then length site.volumes else 0

-- 19: a group of so many volumes has all that it may have, or the new one is to have too many plexes
abbrev pub volume_limit : (volumes mirrors : ℕ) → Option No
volume_limit volumes mirrors =
    if nat_le MOST_VOLUMES volumes then Some (Limit Volumes MOST_VOLUMES)
    else if nat_lt MOST_PLEXES mirrors then Some (Limit Plexes MOST_PLEXES)
    else None

-- 1 to 8 columns, in units of 1 to 2^32 - 1 blocks
abbrev pub is_layout : Layout → Bool
is_layout Concat = true
is_layout (Stripe columns width) = nat_le 1 columns && nat_le columns MOST_COLUMNS && nat_le 1 width && nat_lt width (2 ^ 32)

-- 1 to 2^40 blocks, and at least one plex
abbrev pub is_volume_shape : (blocks mirrors : ℕ) → Layout → Bool
is_volume_shape blocks mirrors layout = nat_le 1 blocks && nat_le blocks MOST_VOLUME_BLOCKS && nat_le 1 mirrors && is_layout layout
