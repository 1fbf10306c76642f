-- A group that is begun: the note of the site, or its disks that are bare still.
use Rattle.std.proofs.Common.{sym, subst}
use Rattle.vx_untold.specs.Shades.{shade_meaning}
use Rattle.vx_watched.specs.Since.{CalledSince}
use Rattle.vx_grouped.proofs.BeginLemmas.{begun_done, begun_refused}
use Rattle.vx_grouped.proofs.beginning.begin_group.Goals as goal

pub returns-in-Ok-clause-begun : goal.returns-in-Ok-clause-begun
returns-in-Ok-clause-begun g c = λ n can.
    let is_rack = (g.met.R.Rack g.world.𝓛 g.world.𝓜 g.world.𝓡 ((λ s x. x), (λ x. x), (λ x. x), λ x. x)).rack in
    begun_done g.R.Shelf c.args.rack n c.args.site can is_rack c.brightened-laid.result c.in-Ok.group.core c.in-Ok.group.shelf c.brightened-laid.result.stands c.brightened-laid.ensures.core c.brightened-laid.ensures.shelf c.spelled.ensures c.in-Ok.ensures.made c.in-Ok.ensures.since

pub returns-in-Ok-clause-since : goal.returns-in-Ok-clause-since
returns-in-Ok-clause-since g c = subst (λ s. CalledSince (g.R.Shelf.meaning c.args.rack) (shade_meaning g.R.Shelf.meaning s)) (sym c.brightened-laid.ensures.shelf) c.in-Ok.ensures.since

pub returns-in-Err-clause-begun : goal.returns-in-Err-clause-begun
returns-in-Err-clause-begun g c = λ n can. begun_refused g.R.Shelf c.args.rack n c.args.site can c.in-Err.rack c.in-Err.stop c.in-Err.ensures.refusals c.in-Err.ensures.since
