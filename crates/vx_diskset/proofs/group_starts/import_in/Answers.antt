-- `import_in`: what an import leaves of the disks of the site.
use Rattle.std.proofs.Common.{true, refl, subst}
use Rattle.vx_untold.specs.Shades.{shade_lawful, shade_rack}
use Rattle.vx_grouped.specs.GroupSites.{site_disks}
use Rattle.vx_grouped.specs.SiteMaps.{CameMapped}
use Rattle.vx_grouped.specs.SiteReturns.{SiteImports}
use Rattle.vx_diskset.specs.OverStarts.{BroughtBy, WithPlain}
use Rattle.vx_diskset.proofs.GroupCalling.{rises_returned}
use Rattle.vx_diskset.proofs.PlainImports.{import_found, import_mapped, import_rises, import_tells, imports_done, imports_stopped, past_group}
use Rattle.vx_diskset.proofs.group_starts.import_in.Goals as goal

pub returns-in-Ok-clause-brought : goal.returns-in-Ok-clause-brought
returns-in-Ok-clause-brought g c =
    let by : BroughtBy c.args.group.site c.import-site.result.0 c.import-site.result.1
    = record {
      imported = c.import-site.ensures.imported;
      recovered = c.import-site.ensures.recovered;
      brings = c.import-site.ensures.brings;
      since = c.import-site.ensures.since;
      told = c.import-site.ensures.told;
      maps = c.import-site.ensures.maps;
      known = c.import-site.ensures.known;
      less = c.import-site.ensures.less;
      dark = c.import-site.ensures.dark;
    } in
    imports_done true c.args.group.site c.import-site.result.0 c.args.group.cut c.with_plain.result.0 c.import-site.result.1 c.with_plain.result.1 by c.in-Ok.is
    (subst (λ o. WithPlain true o c.import-site.result.0 c.args.group.cut c.with_plain.result.0 c.with_plain.result.1) c.rested-tells.ensures c.with_plain.ensures.over)

pub returns-in-Ok-clause-imported : goal.returns-in-Ok-clause-imported
returns-in-Ok-clause-imported g c = λ n note away.
    let is_rack = (g.met.R.Rack g.world.𝓛 g.world.𝓜 g.world.𝓡 ((λ s x. x), (λ x. x), (λ x. x), λ x. x)).rack in
    let lawful = (g.met.R.Shelf g.world.𝓛 g.world.𝓜 g.world.𝓡 ((λ s x. x), (λ x. x), (λ x. x), λ x. x)).lawful in
    import_found (shade_rack g.R.Shelf.meaning is_rack) (shade_lawful g.R.Shelf.meaning lawful) c.args.group.site n note c.args.group.cut c.with_plain.result.0 c.with_plain.result.1 (returns-in-Ok-clause-brought g c) away

pub returns-in-Ok-clause-cut : goal.returns-in-Ok-clause-cut
returns-in-Ok-clause-cut g c = past_group c.args.group c.with_plain.result.0 c.with_plain.result.1 (returns-in-Ok-clause-brought g c)

pub returns-in-Ok-clause-since : goal.returns-in-Ok-clause-since
returns-in-Ok-clause-since g c =
    let is_rack = (g.met.R.Rack g.world.𝓛 g.world.𝓜 g.world.𝓡 ((λ s x. x), (λ x. x), (λ x. x), λ x. x)).rack in
    import_rises (shade_rack g.R.Shelf.meaning is_rack) true c.args.group.site c.args.group.cut c.with_plain.result.0 c.with_plain.result.1 (returns-in-Ok-clause-brought g c)

pub returns-in-Ok-clause-told : goal.returns-in-Ok-clause-told
returns-in-Ok-clause-told g c = import_tells true c.args.group.site c.args.group.cut c.with_plain.result.0 c.with_plain.result.1 (returns-in-Ok-clause-brought g c)

pub returns-in-Ok-clause-maps : goal.returns-in-Ok-clause-maps
returns-in-Ok-clause-maps g c = λ n note away.
    let is_rack = (g.met.R.Rack g.world.𝓛 g.world.𝓜 g.world.𝓡 ((λ s x. x), (λ x. x), (λ x. x), λ x. x)).rack in
    let lawful = (g.met.R.Shelf g.world.𝓛 g.world.𝓜 g.world.𝓡 ((λ s x. x), (λ x. x), (λ x. x), λ x. x)).lawful in
    import_mapped (shade_rack g.R.Shelf.meaning is_rack) (shade_lawful g.R.Shelf.meaning lawful) c.args.group.site n note c.args.group.cut c.with_plain.result.0 c.with_plain.result.1 (returns-in-Ok-clause-brought g c) away

pub returns-in-Err-clause-brought : goal.returns-in-Err-clause-brought
returns-in-Err-clause-brought g c =
    imports_stopped true c.args.group.site c.import-site.result.0 c.args.group.cut c.import-site.result.1 c.in-Err.stop
    (record {
      imported = c.import-site.ensures.imported;
      recovered = c.import-site.ensures.recovered;
      brings = c.import-site.ensures.brings;
      since = c.import-site.ensures.since;
      told = c.import-site.ensures.told;
      maps = c.import-site.ensures.maps;
      known = c.import-site.ensures.known;
      less = c.import-site.ensures.less;
      dark = c.import-site.ensures.dark;
    }) c.in-Err.is

pub returns-in-Err-clause-imported : goal.returns-in-Err-clause-imported
returns-in-Err-clause-imported g c = λ n note away. subst (λ r. SiteImports n note c.args.group.site c.import-site.result.0 r) c.in-Err.is (c.import-site.ensures.imported n note away)

pub returns-in-Err-clause-cut : goal.returns-in-Err-clause-cut
returns-in-Err-clause-cut g c = refl

pub returns-in-Err-clause-since : goal.returns-in-Err-clause-since
returns-in-Err-clause-since g c = rises_returned (site_disks c.args.group.site) (site_disks c.import-site.result.0) c.import-site.ensures.since

pub returns-in-Err-clause-told : goal.returns-in-Err-clause-told
returns-in-Err-clause-told g c = c.import-site.ensures.told

pub returns-in-Err-clause-maps : goal.returns-in-Err-clause-maps
returns-in-Err-clause-maps g c = λ n note away. subst (λ r. CameMapped c.args.group.site c.import-site.result.0 r) c.in-Err.is c.import-site.ensures.maps
