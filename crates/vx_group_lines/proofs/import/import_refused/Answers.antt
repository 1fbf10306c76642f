-- An import that the disks refused.
use Rattle.vx_yard.proofs.Lists.{get_at}
use Rattle.vx_group_lines.proofs.import.import_refused.Goals as goal

pub returns-clause-assemblies : goal.returns-clause-assemblies
returns-clause-assemblies g c = record {
  disk_set = c.index.result.now;
  there = get_at c.args.yard.now.disk_sets.items c.args.site c.index.result.now c.requires.disk_set c.index.ensures;
  is = c.let_go_under.ensures;
}
