-- `raise_in`: what the import of a recovery leaves of the disks of the site.
use Rattle.std.proofs.Common.{false, refl, subst}
use Rattle.vx_untold.specs.Shades.{shade_lawful, shade_rack}
use Rattle.vx_grouped.specs.GroupSites.{site_disks}
use Rattle.vx_grouped.specs.SiteReturns.{SiteRecovers}
use Rattle.vx_diskset.specs.OverStarts.{HandsOut, WithPlain}
use Rattle.vx_diskset.proofs.GroupCalling.{rises_returned}
use Rattle.vx_diskset.proofs.PlainImports.{import_raises, import_rises, import_tells, imports_done, imports_stopped, raise_mapped, raises_by}
use Rattle.vx_grouped.specs.SiteMaps.{CameMapped}
use Rattle.vx_diskset.proofs.group_starts.raise_in.Goals as goal

pub returns-in-Ok-clause-brought : goal.returns-in-Ok-clause-brought
returns-in-Ok-clause-brought g c =
    raises_by c.args.group.site c.args.group.cut c.with_plain-disk_set.result.0 c.with_plain-disk_set.result.1 c.hands_out.result
    (imports_done false c.args.group.site c.import-site.result.0 c.args.group.cut c.with_plain-disk_set.result.0 c.import-site.result.1 c.with_plain-disk_set.result.1
    (record { imported = c.import-site.ensures.imported; recovered = c.import-site.ensures.recovered; brings = c.import-site.ensures.brings; since = c.import-site.ensures.since; told = c.import-site.ensures.told; maps = c.import-site.ensures.maps; known = c.import-site.ensures.known; less = c.import-site.ensures.less; dark = c.import-site.ensures.dark })
    c.in-Ok.is (subst (λ o. WithPlain false o c.import-site.result.0 c.args.group.cut c.with_plain-disk_set.result.0 c.with_plain-disk_set.result.1) c.rested-tells.ensures c.with_plain-disk_set.ensures.over))
    (subst (λ k. HandsOut k c.with_plain-disk_set.result.1 c.hands_out.result) c.cut_behind-kept.ensures c.hands_out.ensures)

pub returns-in-Ok-clause-raised : goal.returns-in-Ok-clause-raised
returns-in-Ok-clause-raised g c = λ n note down.
    let laws = shade_lawful g.R.Shelf.meaning (g.met.R.Shelf g.world.𝓛 g.world.𝓜 g.world.𝓡 ((λ s x. x), (λ x. x), (λ x. x), λ x. x)).lawful in
    let racks = shade_rack g.R.Shelf.meaning (g.met.R.Rack g.world.𝓛 g.world.𝓜 g.world.𝓡 ((λ s x. x), (λ x. x), (λ x. x), λ x. x)).rack in
    let by = returns-in-Ok-clause-brought g c in
    import_raises racks laws c.args.group.site c.args.group.cut n note c.with_plain-disk_set.result.0 by.answer c.hands_out.result by.by by.is down

pub returns-in-Ok-clause-since : goal.returns-in-Ok-clause-since
returns-in-Ok-clause-since g c =
    let racks = shade_rack g.R.Shelf.meaning (g.met.R.Rack g.world.𝓛 g.world.𝓜 g.world.𝓡 ((λ s x. x), (λ x. x), (λ x. x), λ x. x)).rack in
    let by = returns-in-Ok-clause-brought g c in
    import_rises racks false c.args.group.site c.args.group.cut c.with_plain-disk_set.result.0 by.answer by.by

pub returns-in-Ok-clause-told : goal.returns-in-Ok-clause-told
returns-in-Ok-clause-told g c =
    let by = returns-in-Ok-clause-brought g c in
    import_tells false c.args.group.site c.args.group.cut c.with_plain-disk_set.result.0 by.answer by.by

pub returns-in-Ok-clause-maps : goal.returns-in-Ok-clause-maps
returns-in-Ok-clause-maps g c = λ n note down.
    let laws = shade_lawful g.R.Shelf.meaning (g.met.R.Shelf g.world.𝓛 g.world.𝓜 g.world.𝓡 ((λ s x. x), (λ x. x), (λ x. x), λ x. x)).lawful in
    let racks = shade_rack g.R.Shelf.meaning (g.met.R.Rack g.world.𝓛 g.world.𝓜 g.world.𝓡 ((λ s x. x), (λ x. x), (λ x. x), λ x. x)).rack in
    let by = returns-in-Ok-clause-brought g c in
    raise_mapped racks laws c.args.group.site n note c.args.group.cut c.with_plain-disk_set.result.0 by.answer c.hands_out.result by.by by.is down

pub returns-in-Err-clause-brought : goal.returns-in-Err-clause-brought
returns-in-Err-clause-brought g c =
    raises_by c.args.group.site c.args.group.cut _ _ _
    (imports_stopped false c.args.group.site c.import-site.result.0 c.args.group.cut c.import-site.result.1 c.in-Err.stop
    (record { imported = c.import-site.ensures.imported; recovered = c.import-site.ensures.recovered; brings = c.import-site.ensures.brings; since = c.import-site.ensures.since; told = c.import-site.ensures.told; maps = c.import-site.ensures.maps; known = c.import-site.ensures.known; less = c.import-site.ensures.less; dark = c.import-site.ensures.dark })
    c.in-Err.is)
    refl

pub returns-in-Err-clause-raised : goal.returns-in-Err-clause-raised
returns-in-Err-clause-raised g c = λ n note down.
    record {
      refused = subst (λ r. SiteRecovers n note c.args.group.site c.import-site.result.0 r) c.in-Err.is (c.import-site.ensures.recovered n note down);
      cut_stays = refl;
    }

pub returns-in-Err-clause-since : goal.returns-in-Err-clause-since
returns-in-Err-clause-since g c = rises_returned (site_disks c.args.group.site) (site_disks c.import-site.result.0) c.import-site.ensures.since

pub returns-in-Err-clause-told : goal.returns-in-Err-clause-told
returns-in-Err-clause-told g c = c.import-site.ensures.told

pub returns-in-Err-clause-maps : goal.returns-in-Err-clause-maps
returns-in-Err-clause-maps g c = λ n note down. subst (λ r. CameMapped c.args.group.site c.import-site.result.0 r) c.in-Err.is c.import-site.ensures.maps
