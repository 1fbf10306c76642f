-- The same of a disk set.
use Rattle.std.proofs.Common.{◌∙◌, ap, sym}
use Rattle.vx_diskset.specs.GroupFinds.{bare_again}
use Rattle.vx_diskset.proofs.GroupFinding.{again_rest}
use Rattle.vx_diskset.proofs.group_finds.bare_again.Goals as goal

pub returns-in-OfGroup : goal.returns-in-OfGroup
returns-in-OfGroup g c = c.given_bare.ensures ∙ sym (ap (λ e. bare_again e) c.in-OfGroup.is)

pub returns-in_default : goal.returns-in_default
returns-in_default g c = again_rest c.args.disk_set (λ s is. c.in_default.not-OfGroup s is)
