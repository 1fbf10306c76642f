-- `look_kept`: what is read where a write may be cut.
use Rattle.std.proofs.Common.{subst, sym}
use Rattle.std.specs.Prelude.{None, Ok}
use Rattle.vx_diskset.specs.Recovers.{LooksKept}
use Rattle.vx_diskset.proofs.GroupRising.{looked_none}
use Rattle.vx_grouped.specs.GroupSites.{site_disks}
use Rattle.vx_watched.proofs.SinceLemmas.{since_none}
use Rattle.vx_grouped.proofs.VolumeLemmas.{site_same}
use Rattle.vx_diskset.proofs.group_starts.look_kept.Goals as goal

pub returns-in-Some-clause-looks : goal.returns-in-Some-clause-looks
returns-in-Some-clause-looks g c = λ n note up.
    subst (λ x. LooksKept n note x c.args.site.now c.kept_at.new.site c.kept_at.result) (sym c.in-Some.is) (c.kept_at.ensures.looks n note up)

pub returns-in-None-clause-looks : goal.returns-in-None-clause-looks
returns-in-None-clause-looks g c = λ n note up.
    subst (λ x. LooksKept n note x c.args.site.now c.args.site.now (Ok None)) (sym c.in-None.is) (looked_none n note c.args.site.now up)

pub returns-in-Some-clause-since : goal.returns-in-Some-clause-since
returns-in-Some-clause-since g c = c.kept_at.ensures.since

pub returns-in-None-clause-since : goal.returns-in-None-clause-since
returns-in-None-clause-since g c = since_none (site_disks c.args.site.now)

pub returns-in-Some-clause-told : goal.returns-in-Some-clause-told
returns-in-Some-clause-told g c = c.kept_at.ensures.told

pub returns-in-None-clause-told : goal.returns-in-None-clause-told
returns-in-None-clause-told g c = λ told. told

pub returns-in-Some-clause-maps : goal.returns-in-Some-clause-maps
returns-in-Some-clause-maps g c = c.kept_at.ensures.maps

pub returns-in-None-clause-maps : goal.returns-in-None-clause-maps
returns-in-None-clause-maps g c = λ n note up own it. it

pub returns-in-Some-clause-volumes : goal.returns-in-Some-clause-volumes
returns-in-Some-clause-volumes g c = c.kept_at.ensures.volumes

pub returns-in-None-clause-volumes : goal.returns-in-None-clause-volumes
returns-in-None-clause-volumes g c = site_same c.args.site.now
