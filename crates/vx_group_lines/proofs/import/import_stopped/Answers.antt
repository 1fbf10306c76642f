-- An import that was not done.
use Rattle.vx_model.proofs.Lists.{get_there}
use Rattle.vx_group_lines.proofs.GroupNamed.{memory_kept, refusal_kept}
use Rattle.vx_group_lines.proofs.import.import_stopped.Goals as goal

pub returns-in-No : goal.returns-in-No
returns-in-No g c = λ f at.
    let it = c.import_refused.ensures in
    refusal_kept c.args.site f c.in-No.no c.args.stop c.args.yard.now c.import_refused.new.yard c.import_refused.result c.in-No.is (it.facts f at) it.assemblies it.same it.said

pub returns-in-OutOfMemory : goal.returns-in-OutOfMemory
returns-in-OutOfMemory g c = λ f at.
    let set = get_there c.args.yard.now.disk_sets.items c.args.site c.requires.disk_set in
    memory_kept c.args.site f c.args.stop c.args.yard.now set.0 c.in-OutOfMemory.is set.1
