-- The tests of a site's disks, and of what they and their volumes can be made.
use Rattle.std.specs.Prelude.{ℕ, Bool, not, ◌||◌, ◌==◌, nat_lt, nat_le, List, Option, Some, None, is_some, if◌then◌else◌}
use Rattle.vx_model.specs.declared.limits.TheConstants.{LEAST_BLOCKS, MOST_DISKS, MOST_FILE_BLOCKS, MOST_MEMORY_BLOCKS, MOST_SITES}
use Rattle.vx_model.specs.declared.no.No.{No}
use Rattle.vx_model.specs.declared.no.No.TheVariants.{Unknown, Exists, Size, Role as WrongRole, Limit}
use Rattle.vx_model.specs.declared.no.Named.TheVariants.{Number}
use Rattle.vx_model.specs.declared.no.Counted.TheVariants.{Sites, Disks, Blocks}
use Rattle.vx_script.specs.declared.line.ScriptLine.{ScriptLine}
use Rattle.vx_script.specs.declared.line.ScriptLine.TheVariants.{Site, Raw, Disk, Recover, GroupInit, GroupDeport, GroupImport, Volume, PlexDetach, PlexAttach, Rvg, Apply}
use Rattle.vx_order.specs.declared.facts.SiteFacts.{SiteFacts}
use Rattle.vx_order.specs.Tests.{when}
use Rattle.vx_order.specs.Grouping.{group_role, import_role, recover_role, apply_role, group_size}
use Rattle.vx_order.specs.Replicating.{group_unknown, group_taken, fits_group}
use Rattle.vx_order.specs.Sites.{site_named, volume_of, rvg_of}
use Rattle.vx_order.specs.Volumes.{preferred_unknown, plex_unknown, volume_taken, volume_count, volume_limit, is_volume_shape}
use Rattle.vx_model.specs.Sites.{is_bare}
use Rattle.vx_model.specs.Sizes.{is_raw_shape}

-- the greatest number of blocks of a disk, kept in files or in memory
abbrev pub most_disk_blocks : Bool → ℕ
most_disk_blocks files = if files then MOST_FILE_BLOCKS else MOST_MEMORY_BLOCKS

abbrev pub raw_role : Option SiteFacts → Option No
raw_role None = None
raw_role (Some site) = when (not (is_bare site.state)) WrongRole

-- 5: the site of a line does not stand as the line needs it: bare, deported or not deported, a disk group that is up, or with a
-- replicated volume group
unfoldable pub line_role : ScriptLine → Option SiteFacts → Option No
line_role (Raw _) site = raw_role site
line_role (GroupInit _) site = raw_role site
line_role (Recover _) site = recover_role site
line_role (GroupImport _) site = import_role site
line_role (GroupDeport _) site = group_role site
line_role (Volume _ _ _ _ _ _ _ _) site = group_role site
line_role (PlexDetach _ _ _) site = group_role site
line_role (PlexAttach _ _ _) site = group_role site
line_role (Rvg _ _ _ _) site = group_role site
line_role (Apply _ _) site = apply_role site
line_role _ site = None

abbrev pub disk_unknown : ℕ → Option SiteFacts → Option No
disk_unknown disk None = None
disk_unknown disk (Some site) = when (nat_le site.disks disk) (Unknown (Number disk))

-- 1: the line names a disk, volume or plex that the site has not
unfoldable pub line_unknown : ScriptLine → Option SiteFacts → Option No
line_unknown (Disk _ disk _) site = disk_unknown disk site
line_unknown (Volume _ _ _ mirrors _ _ _ policy) site = preferred_unknown policy mirrors
line_unknown (PlexDetach _ volume plex) site = plex_unknown (volume_of site volume) volume plex
line_unknown (PlexAttach _ volume plex) site = plex_unknown (volume_of site volume) volume plex
line_unknown (Rvg _ srl maps volumes) site = group_unknown site srl maps volumes
line_unknown _ site = None

-- 2: a site of the name is there, or the line's site has a volume of the name or a replicated volume group
unfoldable pub taken : List SiteFacts → ScriptLine → Option SiteFacts → Option No
taken sites (Site name _ _) site = when (is_some (site_named sites name)) (Exists name)
taken sites (Volume _ name _ _ _ _ _ _) site = volume_taken (volume_of site name) name
taken sites (Rvg _ _ _ _) site = group_taken (rvg_of site)
taken sites _ site = None

-- the limits of a `site` line: 8 sites, 8 disks, and the blocks of a disk
abbrev pub site_limit : ℕ → Bool → ℕ → ℕ → Option No
site_limit sites files disks blocks =
    if nat_le MOST_SITES sites then Some (Limit Sites MOST_SITES)
    else if nat_lt MOST_DISKS disks then Some (Limit Disks MOST_DISKS)
    else if nat_lt (most_disk_blocks files) blocks then Some (Limit Blocks (most_disk_blocks files))
    else None

-- 19: a site would be too many or too large, or a volume too many or of too many plexes
unfoldable pub over_limit : ℕ → Bool → ScriptLine → Option SiteFacts → Option No
over_limit sites files (Site _ disks blocks) site = site_limit sites files disks blocks
over_limit sites files (Volume _ _ _ mirrors _ _ _ _) site = volume_limit (volume_count site) mirrors
over_limit sites files _ site = None

abbrev pub raw_size : Option SiteFacts → Option No
raw_size None = None
raw_size (Some site) = when (not (is_raw_shape site.disks site.blocks)) Size

-- 4: a site has no disk or disks of fewer than 8 blocks, its disks make no raw set or no group, a volume has no shape, or volumes
-- are no replicated volume group
unfoldable pub wrong_size : ScriptLine → Option SiteFacts → Option No
wrong_size (Site _ disks blocks) site = when (disks == 0 || nat_lt blocks LEAST_BLOCKS) Size
wrong_size (Raw _) site = raw_size site
wrong_size (GroupInit _) site = group_size site
wrong_size (Volume _ _ blocks mirrors layout _ _ _) site = when (not (is_volume_shape blocks mirrors layout)) Size
wrong_size (Rvg _ srl maps volumes) site = when (not (fits_group site srl maps volumes)) Size
wrong_size _ site = None
