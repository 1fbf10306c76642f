-- The loop of `used_links` over `k`: what stays true.
use Rattle.std.proofs.Common.{◌≡◌, length}
use Rattle.vx_history.specs.World.{Node}
use Rattle.vx_model.specs.declared.limits.TheConstants.{LINK_PLACES}
use Rattle.vx_model.specs.declared.site.SiteState.TheVariants.{Up as UpState}
use Rattle.std.specs.Prelude.{None}
use Rattle.vx_diskset.specs.Holds.{KeptBeside}
use Rattle.vx_diskset.specs.Stands.{SiteStands}
use Rattle.vx_site_lines.specs.Rises.{NeedsBelow}
use Rattle.vx_site_lines.proofs.rooms.used_links.Given as goal

-- the links before place k have their needs in their places
abbrev pub invariant-loop-k : goal.invariant-loop-k
invariant-loop-k g l =
    (length l.used ≡ LINK_PLACES)
    × ((beside : KeptBeside) (n : Node) → SiteStands beside n l.fn.disk_set → n.state ≡ UpState → n.halted ≡ None → NeedsBelow n l.fn.links l.used l.k)
