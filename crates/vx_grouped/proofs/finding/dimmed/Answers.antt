-- A group on disks of which nothing is told: what stands of it.
use Rattle.vx_loggroup.proofs.FactLemmas.{to_logged}
use Rattle.vx_untold.specs.Untold.{untold}
use Rattle.vx_grouped.proofs.finding.dimmed.Goals as goal

pub invariant_of-result : goal.invariant_of-result
invariant_of-result g c = record {
  stands = to_logged c.apart-untold.result.1.core c.apart-untold.result.1.logs.items c.apart-untold.result.1.alike c.apart-untold.result.1.stopped (untold (g.R.Shelf.meaning c.apart-untold.result.0.shelf)) c.apart-untold.ensures.stands;
  begins = c.apart-untold.ensures.begins;
  settles = c.apart-untold.ensures.settles;
}
