-- A new yard over fresh racks.
use Rattle.std.proofs.Common.{◌∙◌, ap, sym, subst, arith}
use Rattle.vx_history.specs.World.{empty_world}
use Rattle.vx_events.specs.Doubts.{sure}
use Rattle.vx_yard.specs.Standing.{SitesAgree}
use Rattle.vx_yard.specs.Stands.{site_faults}
use Rattle.vx_yard.proofs.Carrying.{carries_none, none_held}
use Rattle.vx_yard.proofs.NewYard.{begins_empty, disk_sets_new, counts_new}
use Rattle.vx_yard.proofs.yard.Yard.new.Goals as goal

pub returns-clause-counts : goal.returns-clause-counts
returns-clause-counts g c = λ s d.
    ap (λ es. site_faults es s d) (c.put_racks-racks.ensures.disk_sets c.in-Ok.ensures.items (omega (arith, c.in-Ok.ensures.capacity, c.args.racks.ok, c.requires.eight)))
    ∙ counts_new g.R.Shelf c.args.racks.items s d

pub returns-clause-carries : goal.returns-clause-carries
returns-clause-carries g c =
    carries_none _ c.in-Ok-new.ensures c.in-Ok-empty_assemblies.ensures.many (none_held c.in-Ok-empty_assemblies.assemblies.items c.in-Ok-empty_assemblies.ensures.none) c.in-Ok-no_feeders.ensures

pub returns-clause-stands : goal.returns-clause-stands
returns-clause-stands g c =
    let stood = subst (λ es. SitesAgree (sure empty_world) es) (sym (c.put_racks-racks.ensures.disk_sets c.in-Ok.ensures.items (omega (arith, c.in-Ok.ensures.capacity, c.args.racks.ok, c.requires.eight))))
    (disk_sets_new c.args.racks.items c.requires) in
    begins_empty _ c.new-2.ensures.items stood c.put_racks-racks.ensures.none (omega (arith, c.put_racks-racks.ensures.room, c.args.racks.ok, c.requires.eight, c.args.racks.small))
