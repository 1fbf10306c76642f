-- The group of its parts: what it asks of them.
use Rattle.vx_loggroup.proofs.FactLemmas.{from_logged}
use Rattle.vx_untold.specs.Shades.{shade_meaning}
use Rattle.vx_grouped.proofs.laid.Laid.together.Goals as goal

pub together-requires-clause-stands : goal.together-requires-clause-stands
together-requires-clause-stands g c = from_logged c.args.self.core c.args.self.logs.items c.args.self.alike c.args.self.stopped (shade_meaning g.R.Shelf.meaning c.args.self.shelf) c.args.self.stands

pub together-requires-clause-begins : goal.together-requires-clause-begins
together-requires-clause-begins g c = c.args.self.begins

pub together-requires-clause-settles : goal.together-requires-clause-settles
together-requires-clause-settles g c = c.args.self.settles
