-- `init_group`: the group that is begun on the disks of a bare site.
use Rattle.std.proofs.Common.{ap, subst, sym}
use Rattle.vx_grouped.specs.Begins.{BeginsGroup}
use Rattle.vx_grouped.specs.GroupSites.{site_disks, site_below}
use Rattle.vx_diskset.specs.GroupCalls.{bare_disks, AtPlain}
use Rattle.vx_diskset.specs.Stands.{SiteStands, IsRackTold}
use Rattle.vx_diskset.proofs.GroupBegun.{begin_bare, begin_failing, begin_fuse, begin_later, begin_settled, begun_stays, marked_at, marked_bare, marked_can}
use Rattle.vx_diskset.proofs.GroupCalling.{has_bare, has_group, has_spoiled, told_before}
use Rattle.vx_diskset.proofs.disk_set.DiskSet.init_group.Goals as goal

pub returns-in-Bare-clause-begun : goal.returns-in-Bare-clause-begun
returns-in-Bare-clause-begun g c = λ beside n stands state some large.
    let it = subst (λ e. SiteStands beside n e) c.in-Bare.is stands in
    (subst (λ m. AtPlain (λ e. BeginsGroup c.args.site n m e c.begin_on.result.1) c.begin_on.result.0) (sym (ap (λ x. bare_disks x) c.in-Bare.is)) (c.begin_on.ensures.begun n (begin_bare n (g.R.Shelf.meaning c.in-Bare.rack) it.bare state some large)), c.begin_on.ensures.cut)

pub returns-in-Bare-clause-stays : goal.returns-in-Bare-clause-stays
returns-in-Bare-clause-stays g c = λ beside n stands state some large.
    let it = subst (λ e. SiteStands beside n e) c.in-Bare.is stands in
    begun_stays beside n it.bare.is state it.bare.few it.bare.some c.args.site (g.R.Shelf.meaning c.in-Bare.rack) c.begin_on.result.0 c.begin_on.result.1 c.begin_on.ensures.cut (c.begin_on.ensures.begun n (begin_bare n (g.R.Shelf.meaning c.in-Bare.rack) it.bare state some large))

pub returns-in-Bare-clause-fuse : goal.returns-in-Bare-clause-fuse
returns-in-Bare-clause-fuse g c = λ beside n stands state some large.
    let is_rack = (g.met.R.Rack g.world.𝓛 g.world.𝓜 g.world.𝓡 ((λ s x. x), (λ x. x), (λ x. x), λ x. x)).rack in
    let it = subst (λ e. SiteStands beside n e) c.in-Bare.is stands in
    begin_fuse c.args.self c.begin_on.result.0 (g.R.Shelf.meaning c.in-Bare.rack) (has_bare c.args.self c.in-Bare.rack c.in-Bare.is) c.begin_on.ensures.since (begin_settled is_rack c.args.site n (g.R.Shelf.meaning c.in-Bare.rack) c.begin_on.result.0 c.begin_on.result.1 (c.begin_on.ensures.begun n (begin_bare n (g.R.Shelf.meaning c.in-Bare.rack) it.bare state some large)))

pub returns-in-Bare-clause-failing : goal.returns-in-Bare-clause-failing
returns-in-Bare-clause-failing g c = begin_failing c.args.self c.begin_on.result.0 (g.R.Shelf.meaning c.in-Bare.rack) (has_bare c.args.self c.in-Bare.rack c.in-Bare.is) c.begin_on.ensures.since

pub returns-in-Bare-clause-later : goal.returns-in-Bare-clause-later
returns-in-Bare-clause-later g c = begin_later c.args.self c.begin_on.result.0 (g.R.Shelf.meaning c.in-Bare.rack) (has_bare c.args.self c.in-Bare.rack c.in-Bare.is) c.begin_on.ensures.since (g.R.Shelf.meaning c.in-Bare.rack) (λ told. subst (λ e. IsRackTold e) (sym c.in-Bare.is) told) c.begin_on.ensures.told

pub returns-in-Spoiled-clause-begun : goal.returns-in-Spoiled-clause-begun
returns-in-Spoiled-clause-begun g c = λ beside n stands state some large.
    let it = subst (λ e. SiteStands beside n e) c.in-Spoiled.is stands in
    (subst (λ m. AtPlain (λ e. BeginsGroup c.args.site n m e c.begin_on-in-Spoiled.result.1) c.begin_on-in-Spoiled.result.0) (sym (ap (λ x. bare_disks x) c.in-Spoiled.is)) (c.begin_on-in-Spoiled.ensures.begun n (begin_bare n (g.R.Shelf.meaning c.in-Spoiled.rack) it state some large)), c.begin_on-in-Spoiled.ensures.cut)

pub returns-in-Spoiled-clause-stays : goal.returns-in-Spoiled-clause-stays
returns-in-Spoiled-clause-stays g c = λ beside n stands state some large.
    let it = subst (λ e. SiteStands beside n e) c.in-Spoiled.is stands in
    begun_stays beside n it.is state it.few it.some c.args.site (g.R.Shelf.meaning c.in-Spoiled.rack) c.begin_on-in-Spoiled.result.0 c.begin_on-in-Spoiled.result.1 c.begin_on-in-Spoiled.ensures.cut (c.begin_on-in-Spoiled.ensures.begun n (begin_bare n (g.R.Shelf.meaning c.in-Spoiled.rack) it state some large))

pub returns-in-Spoiled-clause-fuse : goal.returns-in-Spoiled-clause-fuse
returns-in-Spoiled-clause-fuse g c = λ beside n stands state some large.
    let is_rack = (g.met.R.Rack g.world.𝓛 g.world.𝓜 g.world.𝓡 ((λ s x. x), (λ x. x), (λ x. x), λ x. x)).rack in
    let it = subst (λ e. SiteStands beside n e) c.in-Spoiled.is stands in
    begin_fuse c.args.self c.begin_on-in-Spoiled.result.0 (g.R.Shelf.meaning c.in-Spoiled.rack) (has_spoiled c.args.self c.in-Spoiled.rack c.in-Spoiled.is) c.begin_on-in-Spoiled.ensures.since (begin_settled is_rack c.args.site n (g.R.Shelf.meaning c.in-Spoiled.rack) c.begin_on-in-Spoiled.result.0 c.begin_on-in-Spoiled.result.1 (c.begin_on-in-Spoiled.ensures.begun n (begin_bare n (g.R.Shelf.meaning c.in-Spoiled.rack) it state some large)))

pub returns-in-Spoiled-clause-failing : goal.returns-in-Spoiled-clause-failing
returns-in-Spoiled-clause-failing g c = begin_failing c.args.self c.begin_on-in-Spoiled.result.0 (g.R.Shelf.meaning c.in-Spoiled.rack) (has_spoiled c.args.self c.in-Spoiled.rack c.in-Spoiled.is) c.begin_on-in-Spoiled.ensures.since

pub returns-in-Spoiled-clause-later : goal.returns-in-Spoiled-clause-later
returns-in-Spoiled-clause-later g c = begin_later c.args.self c.begin_on-in-Spoiled.result.0 (g.R.Shelf.meaning c.in-Spoiled.rack) (has_spoiled c.args.self c.in-Spoiled.rack c.in-Spoiled.is) c.begin_on-in-Spoiled.ensures.since (g.R.Shelf.meaning c.in-Spoiled.rack) (λ told. subst (λ e. IsRackTold e) (sym c.in-Spoiled.is) told) c.begin_on-in-Spoiled.ensures.told

pub returns-in-OfGroup-clause-begun : goal.returns-in-OfGroup-clause-begun
returns-in-OfGroup-clause-begun g c = λ beside n stands state some large.
    let it = marked_at beside n c.args.self c.in-OfGroup.group c.in-OfGroup.is stands in
    let begun = c.begin_again.ensures.begun n it.stands state (marked_can n c.in-OfGroup.group.site it.stands state it.few some large) in
    (subst (λ m. AtPlain (λ e. BeginsGroup c.args.site n m e c.begin_again.result.1) c.begin_again.result.0) (sym (marked_bare c.args.self c.in-OfGroup.group c.in-OfGroup.is)) begun.0, begun.1)

pub returns-in-OfGroup-clause-stays : goal.returns-in-OfGroup-clause-stays
returns-in-OfGroup-clause-stays g c = λ beside n stands state some large.
    let it = marked_at beside n c.args.self c.in-OfGroup.group c.in-OfGroup.is stands in
    let begun = c.begin_again.ensures.begun n it.stands state (marked_can n c.in-OfGroup.group.site it.stands state it.few some large) in
    begun_stays beside n (it.bare state) state it.few it.some c.args.site (site_disks c.in-OfGroup.group.site) c.begin_again.result.0 c.begin_again.result.1 begun.1 begun.0

pub returns-in-OfGroup-clause-fuse : goal.returns-in-OfGroup-clause-fuse
returns-in-OfGroup-clause-fuse g c = λ beside n stands state some large.
    let is_rack = (g.met.R.Rack g.world.𝓛 g.world.𝓜 g.world.𝓡 ((λ s x. x), (λ x. x), (λ x. x), λ x. x)).rack in
    let it = marked_at beside n c.args.self c.in-OfGroup.group c.in-OfGroup.is stands in
    let begun = c.begin_again.ensures.begun n it.stands state (marked_can n c.in-OfGroup.group.site it.stands state it.few some large) in
    begin_fuse c.args.self c.begin_again.result.0 (site_disks c.in-OfGroup.group.site) (has_group c.args.self c.in-OfGroup.group c.in-OfGroup.is) c.begin_again.ensures.since (begin_settled is_rack c.args.site n (site_disks c.in-OfGroup.group.site) c.begin_again.result.0 c.begin_again.result.1 begun.0)

pub returns-in-OfGroup-clause-failing : goal.returns-in-OfGroup-clause-failing
returns-in-OfGroup-clause-failing g c = begin_failing c.args.self c.begin_again.result.0 (site_disks c.in-OfGroup.group.site) (has_group c.args.self c.in-OfGroup.group c.in-OfGroup.is) c.begin_again.ensures.since

pub returns-in-OfGroup-clause-later : goal.returns-in-OfGroup-clause-later
returns-in-OfGroup-clause-later g c = begin_later c.args.self c.begin_again.result.0 (site_disks c.in-OfGroup.group.site) (has_group c.args.self c.in-OfGroup.group c.in-OfGroup.is) c.begin_again.ensures.since (site_below c.in-OfGroup.group.site) (told_before c.args.self c.in-OfGroup.group c.in-OfGroup.is) c.begin_again.ensures.told
