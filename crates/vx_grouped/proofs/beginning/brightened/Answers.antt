-- A group on disks of which the contents are told: what stands of it.
use Rattle.vx_loggroup.proofs.FactLemmas.{to_logged}
use Rattle.vx_grouped.proofs.beginning.brightened.Goals as goal

pub invariant_of-result : goal.invariant_of-result
invariant_of-result g c = record {
  stands = to_logged c.apart-rack.result.1.core c.apart-rack.result.1.logs.items c.apart-rack.result.1.alike c.apart-rack.result.1.stopped (g.R.Shelf.meaning c.apart-rack.result.0) c.apart-rack.ensures.stands;
  begins = c.apart-rack.ensures.begins;
  settles = c.apart-rack.ensures.settles;
}
