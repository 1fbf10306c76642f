-- A group that is deported where it is kept.
use Rattle.std.proofs.Common.{subst}
use Rattle.vx_watched.specs.Since.{CalledSince}
use Rattle.vx_watched.specs.Traces.{TellsLess}
use Rattle.vx_grouped.specs.GroupSites.{UpNoted, site_below, site_disks}
use Rattle.vx_grouped.specs.SiteEnds.{SiteDeported}
use Rattle.vx_grouped.specs.SiteMaps.{DeportMapped}
use Rattle.vx_diskset.proofs.grouping.deport_site.Goals as goal

pub returns-clause-deported : goal.returns-clause-deported
returns-clause-deported g c = λ n note. subst (λ o. UpNoted n note o → SiteDeported n note o c.deport-left.result.0 c.deport-left.result.1) c.replace.ensures.value (c.deport-left.ensures.deported n note)

pub returns-clause-maps : goal.returns-clause-maps
returns-clause-maps g c = λ n note. subst (λ o. UpNoted n note o → DeportMapped o c.deport-left.result.0 c.deport-left.result.1) c.replace.ensures.value (c.deport-left.ensures.maps n note)

pub returns-clause-since : goal.returns-clause-since
returns-clause-since g c = subst (λ o. CalledSince (site_disks o) (site_disks c.deport-left.result.0)) c.replace.ensures.value c.deport-left.ensures.since

pub returns-clause-told : goal.returns-clause-told
returns-clause-told g c = subst (λ o. TellsLess (site_below o) (site_below c.deport-left.result.0)) c.replace.ensures.value c.deport-left.ensures.told
