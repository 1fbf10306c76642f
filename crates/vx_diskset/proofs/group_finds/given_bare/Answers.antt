-- Disks by themselves, as those of a bare site.
use Rattle.std.proofs.Common.{◌∙◌, ap, sym}
use Rattle.vx_diskset.specs.GroupFinds.{given_bare}
use Rattle.vx_diskset.specs.declared.disk_set.DiskSet.TheVariants.{Bare}
use Rattle.vx_diskset.proofs.GroupFinding.{site_rest}
use Rattle.vx_diskset.proofs.group_finds.given_bare.Goals as goal

pub returns-in-Deported : goal.returns-in-Deported
returns-in-Deported g c = ap (λ r. Bare r) c.rack_in.ensures ∙ sym (ap (λ e. given_bare e c.args.cut) c.in-Deported.is)

pub returns-in_default : goal.returns-in_default
returns-in_default g c = site_rest c.args.site c.args.cut (λ idle is. c.in_default.not-Deported idle is)
