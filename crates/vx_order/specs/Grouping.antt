-- The tests of a disk group as a whole.
use Rattle.std.specs.Prelude.{Bool, true, false, not, ◌&&◌, nat_lt, Option, Some, None, is_some}
use Rattle.vx_model.specs.declared.no.No.{No}
use Rattle.vx_model.specs.declared.no.No.TheVariants.{Size, Role as WrongRole}
use Rattle.vx_model.specs.declared.site.SiteState.{SiteState}
use Rattle.vx_model.specs.declared.site.SiteState.TheVariants.{Bare, Up, Deported, Down}
use Rattle.vx_model.specs.Sites.{is_up}
use Rattle.vx_model.specs.declared.limits.TheConstants.{LEAST_GROUP_BLOCKS}
use Rattle.vx_order.specs.declared.facts.SiteFacts.{SiteFacts}
use Rattle.vx_order.specs.Sites.{rvg_of}
use Rattle.vx_order.specs.Tests.{when}

abbrev pub is_deported : SiteState → Bool
is_deported Bare = false
is_deported Up = false
is_deported Deported = true
is_deported Down = false

-- 5: the site is not up as a disk group
abbrev pub group_role : Option SiteFacts → Option No
group_role None = None
group_role (Some site) = when (not (is_up site.state && site.grouped)) WrongRole

-- 5: the site is not deported
abbrev pub import_role : Option SiteFacts → Option No
import_role None = None
import_role (Some site) = when (not (is_deported site.state)) WrongRole

-- 5: the site is deported, so that it is imported and not recovered
abbrev pub recover_role : Option SiteFacts → Option No
recover_role None = None
recover_role (Some site) = when (is_deported site.state) WrongRole

-- 5: the site has no replicated volume group, and is no bunker
abbrev pub apply_role : Option SiteFacts → Option No
apply_role None = None
apply_role (Some site) = when (not (is_some (rvg_of (Some site)))) WrongRole

-- 4: the disks have fewer than 1,024 blocks
abbrev pub group_size : Option SiteFacts → Option No
group_size None = None
group_size (Some site) = when (nat_lt site.blocks LEAST_GROUP_BLOCKS) Size
