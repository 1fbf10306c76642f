-- A plex that is detached beside logs.
use Rattle.vx_disk.specs.Shelf.{Nothing}
use Rattle.vx_group.proofs.UnitLemmas.{acts_units}
use Rattle.vx_logged.proofs.StandLemmas.{each_on, narrowed_acts, narrows_acts}
use Rattle.vx_logged.proofs.detaching.det_beside.Goals as goal

pub returns-clause-logs : goal.returns-clause-logs
returns-clause-logs g c = each_on c.args.core.now c.det_alone.new.core (g.S.Shelf.meaning c.args.shelf.now) (g.S.Shelf.meaning c.det_alone.new.shelf) c.requires.stands (narrows_acts c.args.core.now c.det_alone.new.core (g.S.Shelf.meaning c.args.shelf.now) (g.S.Shelf.meaning c.det_alone.new.shelf) c.requires.stands c.det_alone.ensures.narrows)

pub returns-clause-narrow : goal.returns-clause-narrow
returns-clause-narrow g c = narrowed_acts Nothing c.args.core.now c.det_alone.new.core (g.S.Shelf.meaning c.args.shelf.now) (g.S.Shelf.meaning c.det_alone.new.shelf) (narrows_acts c.args.core.now c.det_alone.new.core (g.S.Shelf.meaning c.args.shelf.now) (g.S.Shelf.meaning c.det_alone.new.shelf) c.requires.stands c.det_alone.ensures.narrows)

pub returns-clause-below : goal.returns-clause-below
returns-clause-below g c = acts_units Nothing _ (g.S.Shelf.meaning c.args.shelf.now) (g.S.Shelf.meaning c.det_alone.new.shelf) c.det_alone.ensures.narrows.acts

pub returns-clause-trusts : goal.returns-clause-trusts
returns-clause-trusts g c = c.det_alone.ensures.logs

pub returns-clause-stays : goal.returns-clause-stays
returns-clause-stays g c = c.det_alone.ensures.stays

pub returns-clause-stands : goal.returns-clause-stands
returns-clause-stands g c = c.det_alone.ensures.stands

pub returns-clause-goes : goal.returns-clause-goes
returns-clause-goes g c = c.det_alone.ensures.goes

pub returns-clause-narrows : goal.returns-clause-narrows
returns-clause-narrows g c = c.det_alone.ensures.narrows

pub returns-clause-parts : goal.returns-clause-parts
returns-clause-parts g c = c.det_alone.ensures.parts

pub returns-clause-disks : goal.returns-clause-disks
returns-clause-disks g c = c.det_alone.ensures.disks

pub returns-clause-off : goal.returns-clause-off
returns-clause-off g c = c.det_alone.ensures.off

pub returns-clause-free : goal.returns-clause-free
returns-clause-free g c = c.det_alone.ensures.free

pub returns-clause-others : goal.returns-clause-others
returns-clause-others g c = c.det_alone.ensures.others

pub returns-clause-trust : goal.returns-clause-trust
returns-clause-trust g c = c.det_alone.ensures.trust

pub returns-clause-agreed : goal.returns-clause-agreed
returns-clause-agreed g c = c.det_alone.ensures.agreed

pub returns-clause-finds : goal.returns-clause-finds
returns-clause-finds g c = c.det_alone.ensures.finds

pub returns-clause-cause : goal.returns-clause-cause
returns-clause-cause g c = c.det_alone.ensures.cause
