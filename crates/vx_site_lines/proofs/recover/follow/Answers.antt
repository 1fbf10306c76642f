-- The session of the site is what its disk set says.
use Rattle.vx_diskset.specs.Stands.{SiteStands}
use Rattle.vx_yard.proofs.Lists.{get_at}
use Rattle.vx_site_lines.proofs.RiseNeeds.{of_place}
use Rattle.vx_site_lines.proofs.recover.follow.Goals as goal

pub returns-clause-session : goal.returns-clause-session
returns-clause-session g c =
    let es = c.args.yard.now.disk_sets.items in
    let there = get_at es c.args.site c.index.result.now c.requires.disk_set c.index.ensures in
    record { each = λ beside n e at stands up apart. c.session-session.ensures.is beside n (of_place (λ x. SiteStands beside n x) es c.args.site e c.index.result.now there at stands) up apart }
