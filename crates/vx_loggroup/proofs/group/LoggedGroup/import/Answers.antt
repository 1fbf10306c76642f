-- `import`: clause again; what stands then.
use Rattle.vx_group.proofs.AgainLemmas.{stops_behind}
use Rattle.vx_loggroup.proofs.FactLemmas.{to_logged}
use Rattle.vx_loggroup.proofs.SettledFacts.{settled_import}
use Rattle.vx_loggroup.proofs.group.LoggedGroup.import.Goals as goal

pub invariant_of-result : goal.invariant_of-result
invariant_of-result g c = record {
  stands = to_logged c.in-Ok.opened.core c.in-Ok.opened.logs.items c.in-Ok.opened.alike c.in-Ok.opened.stopped (g.S.Shelf.meaning c.open_logged.new.shelf) c.in-Ok.ensures.ends.1;
  begins = c.in-Ok.ensures.ends.2;
  settles = settled_import c.in-Ok.opened.core c.in-Ok.opened.alike (g.S.Shelf.meaning c.open_logged.new.shelf) c.in-Ok.ensures.ends.1.group c.in-Ok.ensures.ends.0.free c.in-Ok.ensures.ends.0.newest c.in-Ok.ensures.ends.0.sure;
}

pub returns-in-Ok-clause-imported : goal.returns-in-Ok-clause-imported
returns-in-Ok-clause-imported g c = c.in-Ok.ensures.ends.0

pub returns-in-Err-clause-again : goal.returns-in-Err-clause-again
returns-in-Err-clause-again g c = stops_behind (g.S.Shelf.meaning c.args.shelf) (g.S.Shelf.meaning c.open_logged.new.shelf) c.in-Err.stop c.requires.can c.in-Err.ensures.ends
