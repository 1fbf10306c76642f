-- The parts of a group: what stands of them.
use Rattle.vx_loggroup.proofs.FactLemmas.{to_logged}
use Rattle.vx_untold.specs.Shades.{shade_meaning}
use Rattle.vx_grouped.proofs.laid.Laid.of.Goals as goal

pub invariant_of-result : goal.invariant_of-result
invariant_of-result g c = record {
  stands = to_logged c.apart-shelf.result.1.core c.apart-shelf.result.1.logs.items c.apart-shelf.result.1.alike c.apart-shelf.result.1.stopped (shade_meaning g.R.Shelf.meaning c.apart-shelf.result.0) c.apart-shelf.ensures.stands;
  begins = c.apart-shelf.ensures.begins;
  settles = c.apart-shelf.ensures.settles;
}
