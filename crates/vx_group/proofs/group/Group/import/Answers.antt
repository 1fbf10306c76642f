-- `import`: clause again.
use Rattle.vx_group.proofs.AgainLemmas.{stops_behind}
use Rattle.vx_group.proofs.group.Group.import.Goals as goal

pub returns-in-Err-clause-again : goal.returns-in-Err-clause-again
returns-in-Err-clause-again g c = stops_behind (g.S.Shelf.meaning c.args.shelf) (g.S.Shelf.meaning c.import_in.new.shelf) c.in-Err.stop c.requires.can c.in-Err.ensures.ends
