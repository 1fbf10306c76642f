-- `put_rack`: a list that has room gets the disk set.
use Rattle.std.proofs.Common.{◌∙◌, ◌++◌, ◌∷◌, [], ap, arith, Bool}
use Rattle.std.specs.Prelude.{if◌then◌else◌}
use Rattle.vx_diskset.specs.declared.disk_set.DiskSet.TheVariants.{Bare}
use Rattle.vx_yard.proofs.racks.put_rack.Goals as goal

pub returns-clause-items : goal.returns-clause-items
returns-clause-items g c = λ low.
    c.push.ensures.items ∙ ap (λ (b : Bool). if b then c.args.disk_sets.now.items ++ Bare c.args.rack ∷ [] else c.args.disk_sets.now.items) (c.push.ensures.succeeds low)

pub returns-clause-room : goal.returns-clause-room
returns-clause-room g c = omega (arith, c.push.ensures.capacity)
