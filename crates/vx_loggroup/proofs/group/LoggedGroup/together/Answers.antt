-- `together`: what stands then.
use Rattle.vx_loggroup.proofs.FactLemmas.{to_logged}
use Rattle.vx_loggroup.proofs.group.LoggedGroup.together.Goals as goal

pub invariant_of-result : goal.invariant_of-result
invariant_of-result g c = record { stands = to_logged c.args.rest.core c.args.rest.logs.items c.args.rest.alike c.args.rest.stopped (g.S.Shelf.meaning c.args.shelf) c.requires.stands; begins = c.requires.begins; settles = c.requires.settles }
