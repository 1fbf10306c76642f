-- `import_lines`: its result.
use Rattle.vx_order.proofs.GroupLemmas.{import_lines_are}
use Rattle.vx_order.proofs.group_laws.import_lines.Goals as goal

pub returns : goal.returns
returns c = import_lines_are
