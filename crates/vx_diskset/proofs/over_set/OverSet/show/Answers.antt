-- What is shown, as it is read over the site.
use Rattle.std.proofs.Common.{◌≡◌, subst, sym}
use Rattle.vx_model.specs.Content.{blocks_in}
use Rattle.vx_diskset.specs.Received.{ShowedAt}
use Rattle.vx_grouped.specs.GroupSites.{site_disks}
use Rattle.vx_diskset.specs.Aboves.{site_in}
use Rattle.vx_diskset.specs.Noted.{OverCalled}
use Rattle.vx_diskset.specs.Stands.{SiteStands}
use Rattle.vx_diskset.specs.declared.disk_set.DiskSet.TheVariants.{Over}
use Rattle.vx_diskset.proofs.over_set.OverSet.show.Goals as goal

pub returns-clause-shows : goal.returns-clause-shows
returns-clause-shows g c = λ beside n stands can. subst (λ s. ShowedAt beside n c.args.volume c.args.start (blocks_in c.args.into.now) c.shown-over.new.into (Over s) (Over c.shown-over.result.0) c.shown-over.result.1) c.replace.ensures.value (c.shown-over.ensures.shows beside n (subst (λ s. SiteStands beside n (Over s)) (sym c.replace.ensures.value) stands) can)

pub returns-clause-called : goal.returns-clause-called
returns-clause-called g c = subst (λ s. OverCalled s c.shown-over.result.0) c.replace.ensures.value c.shown-over.ensures.called

pub returns-clause-down : goal.returns-clause-down
returns-clause-down g c = subst (λ s. (site_disks (site_in c.shown-over.result.0)).down ≡ (site_disks (site_in s)).down) c.replace.ensures.value c.shown-over.ensures.down
