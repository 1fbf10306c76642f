-- `read_whole`: clause stands.
use Rattle.vx_loggroup.proofs.AlikeLemmas.{all_whole, each_below}
use Rattle.vx_loggroup.proofs.keeping.read_whole.Goals as goal

pub read_in-requires-clause-stands : goal.read_in-requires-clause-stands
read_in-requires-clause-stands g c = c.requires.stands.group

pub returns-clause-stands : goal.returns-clause-stands
returns-clause-stands g c = all_whole c.args.core.now c.read_in.new.core c.args.logs.now.items c.args.alike.now c.args.stopped (g.S.Shelf.meaning c.args.shelf.now) (g.S.Shelf.meaning c.read_in.new.shelf) c.requires.stands c.read_in.ensures.stands c.read_in.ensures.goes
    (each_below c.args.core.now c.read_in.new.core (g.S.Shelf.meaning c.args.shelf.now) (g.S.Shelf.meaning c.read_in.new.shelf) c.requires.stands.group c.read_in.ensures.same c.read_in.ensures.held c.read_in.ensures.below)

pub returns-clause-unsure : goal.returns-clause-unsure
returns-clause-unsure g c = c.read_in.ensures.unsure

pub returns-clause-goes : goal.returns-clause-goes
returns-clause-goes g c = c.read_in.ensures.goes

pub returns-clause-ok : goal.returns-clause-ok
returns-clause-ok g c = c.read_in.ensures.ok

pub returns-clause-down : goal.returns-clause-down
returns-clause-down g c = c.read_in.ensures.down

pub returns-clause-shown : goal.returns-clause-shown
returns-clause-shown g c = c.read_in.ensures.shown

pub returns-clause-same : goal.returns-clause-same
returns-clause-same g c = c.read_in.ensures.same

pub returns-clause-held : goal.returns-clause-held
returns-clause-held g c = c.read_in.ensures.held

pub returns-clause-settled : goal.returns-clause-settled
returns-clause-settled g c = c.read_in.ensures.settled

pub returns-clause-trusted : goal.returns-clause-trusted
returns-clause-trusted g c = c.read_in.ensures.trusted

pub returns-clause-below : goal.returns-clause-below
returns-clause-below g c = c.read_in.ensures.below

pub returns-clause-counts : goal.returns-clause-counts
returns-clause-counts g c = c.read_in.ensures.counts

pub returns-clause-turn : goal.returns-clause-turn
returns-clause-turn g c = c.read_in.ensures.turn

pub returns-clause-cause : goal.returns-clause-cause
returns-clause-cause g c = c.read_in.ensures.cause
