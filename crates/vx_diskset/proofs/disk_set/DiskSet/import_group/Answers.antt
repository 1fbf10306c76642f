-- `import_group`: what it leaves of the disks of the site.
use Rattle.std.proofs.Common.{true, ap, refl, subst, sym, ◌∙◌}
use Rattle.std.specs.Prelude.{Err}
use Rattle.vx_model.specs.declared.errors.Stop.TheVariants.{No as Refused}
use Rattle.vx_model.specs.declared.no.No.TheVariants.{Role}
use Rattle.vx_grouped.specs.GroupSites.{AwayNoted}
use Rattle.vx_grouped.specs.SiteReturns.{SiteImports}
use Rattle.vx_diskset.specs.Asked.{FuseGoesOn}
use Rattle.vx_diskset.specs.GroupCalls.{ImportsOn}
use Rattle.vx_diskset.specs.Recovers.{cut_past}
use Rattle.vx_diskset.proofs.GroupCalling.{at_sites}
use Rattle.vx_diskset.proofs.GroupRising.{imported_settled, rise_failing, rise_fuse, rise_later}
use Rattle.vx_diskset.proofs.KeepsFailing.{failing_same}
use Rattle.vx_diskset.proofs.OverCalling.{at_overs}
use Rattle.vx_diskset.proofs.OverImports.{take_rises, take_tells}
use Rattle.vx_diskset.proofs.OverMaking.{fuse_rest}
use Rattle.vx_diskset.proofs.OverRisen.{over_failing, over_fuse, over_later}
use Rattle.vx_diskset.proofs.OverTakes.{takes_over, takes_rest}
use Rattle.vx_diskset.proofs.OverTaking.{take_cut, take_settles}
use Rattle.vx_diskset.specs.Aboves.{site_in}
use Rattle.vx_diskset.proofs.PlainImports.{import_settles, imports_none, imports_rest}
use Rattle.vx_diskset.proofs.PlainRises.{finds_away, finds_rest}
use Rattle.vx_untold.specs.Shades.{shade_lawful, shade_rack}
use Rattle.vx_grouped.specs.SiteMaps.{CameMapped}
use Rattle.vx_diskset.specs.OverRises.{FindsOver}
use Rattle.vx_diskset.specs.OverStarts.{ImportsIn}
use Rattle.vx_diskset.specs.OverTakes.{TakesAbove}
use Rattle.vx_diskset.specs.Stands.{SiteStands}
use Rattle.vx_diskset.proofs.disk_set.DiskSet.import_group.Goals as goal

pub returns-in-OfGroup-clause-imported : goal.returns-in-OfGroup-clause-imported
returns-in-OfGroup-clause-imported g c = λ n note away.
    subst (λ x. ImportsOn (λ o e. SiteImports n note o e c.import_in.result.1) x c.import_in.result.0) (sym c.in-OfGroup.is)
    (c.import_in.ensures.imported n note (at_sites (AwayNoted n note) (AwayNoted n note c.in-OfGroup.group.site) c.args.self c.in-OfGroup.group c.in-OfGroup.is (λ it. it) away))

pub returns-in-OfGroup-clause-cut : goal.returns-in-OfGroup-clause-cut
returns-in-OfGroup-clause-cut g c = c.import_in.ensures.cut ∙ ap (λ x. cut_past c.import_in.result.1 x) (sym c.in-OfGroup.is)

pub returns-in-OfGroup-clause-fuse : goal.returns-in-OfGroup-clause-fuse
returns-in-OfGroup-clause-fuse g c = λ n note.
    let is_rack = (g.met.R.Rack g.world.𝓛 g.world.𝓜 g.world.𝓡 ((λ s x. x), (λ x. x), (λ x. x), λ x. x)).rack in
    at_sites (AwayNoted n note) (FuseGoesOn c.args.self c.import_in.result.0) c.args.self c.in-OfGroup.group c.in-OfGroup.is
    (λ it.
    let by = c.import_in.ensures.brought in
    rise_fuse c.args.self c.import_in.result.0 c.in-OfGroup.group c.in-OfGroup.is c.import_in.ensures.since c.import_in.ensures.told
    (import_settles (shade_rack g.R.Shelf.meaning is_rack) true c.in-OfGroup.group.site c.in-OfGroup.group.cut c.import_in.result.0 c.import_in.result.1 by
    (imported_settled is_rack n note c.in-OfGroup.group.site by.mid by.answer (by.by.imported n note it))))

pub returns-in-OfGroup-clause-failing : goal.returns-in-OfGroup-clause-failing
returns-in-OfGroup-clause-failing g c = rise_failing c.args.self c.import_in.result.0 c.in-OfGroup.group c.in-OfGroup.is c.import_in.ensures.since c.import_in.ensures.told

pub returns-in-OfGroup-clause-later : goal.returns-in-OfGroup-clause-later
returns-in-OfGroup-clause-later g c = rise_later c.args.self c.import_in.result.0 c.in-OfGroup.group c.in-OfGroup.is c.import_in.ensures.since c.import_in.ensures.told

pub returns-in-OfGroup-clause-maps : goal.returns-in-OfGroup-clause-maps
returns-in-OfGroup-clause-maps g c = λ n note away.
    subst (λ x. ImportsOn (λ o e. CameMapped o e c.import_in.result.1) x c.import_in.result.0) (sym c.in-OfGroup.is)
    (c.import_in.ensures.maps n note (at_sites (AwayNoted n note) (AwayNoted n note c.in-OfGroup.group.site) c.args.self c.in-OfGroup.group c.in-OfGroup.is (λ it. it) away))

pub returns-in-OfGroup-clause-brought : goal.returns-in-OfGroup-clause-brought
returns-in-OfGroup-clause-brought g c = subst (λ x. ImportsIn x c.import_in.result.0 c.import_in.result.1) (sym c.in-OfGroup.is) c.import_in.ensures.brought

pub returns-in_default-clause-imported : goal.returns-in_default-clause-imported
returns-in_default-clause-imported g c = λ n note. imports_rest (AwayNoted n note) (λ o e. SiteImports n note o e (Err (Refused Role))) c.args.self c.in_default.not-OfGroup

pub returns-in_default-clause-maps : goal.returns-in_default-clause-maps
returns-in_default-clause-maps g c = λ n note. imports_rest (AwayNoted n note) (λ o e. CameMapped o e (Err (Refused Role))) c.args.self c.in_default.not-OfGroup

pub returns-in_default-clause-cut : goal.returns-in_default-clause-cut
returns-in_default-clause-cut g c = refl

pub returns-in_default-clause-fuse : goal.returns-in_default-clause-fuse
returns-in_default-clause-fuse g c = λ n note away. fuse_rest c.args.self

pub returns-in_default-clause-failing : goal.returns-in_default-clause-failing
returns-in_default-clause-failing g c = failing_same c.args.self

pub returns-in_default-clause-brought : goal.returns-in_default-clause-brought
returns-in_default-clause-brought g c = imports_none c.args.self c.args.self _ c.in_default.not-OfGroup c.in_default.not-Over

pub returns-in-OfGroup-clause-found : goal.returns-in-OfGroup-clause-found
returns-in-OfGroup-clause-found g c = λ beside n note stands group away.
    let laws = shade_lawful g.R.Shelf.meaning (g.met.R.Shelf g.world.𝓛 g.world.𝓜 g.world.𝓡 ((λ s x. x), (λ x. x), (λ x. x), λ x. x)).lawful in
    subst (λ x. FindsOver beside n note x c.import_in.result.0) (sym c.in-OfGroup.is)
    (finds_away laws beside n note c.in-OfGroup.group (subst (λ x. SiteStands beside n x) c.in-OfGroup.is stands) group c.import_in.result.0 c.import_in.result.1 away c.import_in.ensures.brought)

pub returns-in_default-clause-found : goal.returns-in_default-clause-found
returns-in_default-clause-found g c = λ beside n note stands group away. finds_rest beside n note c.args.self c.args.self c.in_default.not-OfGroup

pub returns-in-Over-clause-imported : goal.returns-in-Over-clause-imported
returns-in-Over-clause-imported g c = λ n note away. subst (λ x. ImportsOn (λ o e. SiteImports n note o e c.take_over.result.1) x c.take_over.result.0) (sym c.in-Over.is) tt

pub returns-in-Over-clause-maps : goal.returns-in-Over-clause-maps
returns-in-Over-clause-maps g c = λ n note away. subst (λ x. ImportsOn (λ o e. CameMapped o e c.take_over.result.1) x c.take_over.result.0) (sym c.in-Over.is) tt

pub returns-in-Over-clause-cut : goal.returns-in-Over-clause-cut
returns-in-Over-clause-cut g c = take_cut c.in-Over.over c.take_over.result.0 c.take_over.result.1 c.take_over.ensures.brought ∙ ap (λ x. cut_past c.take_over.result.1 x) (sym c.in-Over.is)

pub returns-in-Over-clause-brought : goal.returns-in-Over-clause-brought
returns-in-Over-clause-brought g c = subst (λ x. ImportsIn x c.take_over.result.0 c.take_over.result.1) (sym c.in-Over.is) c.take_over.ensures.brought

pub returns-in-Over-clause-found : goal.returns-in-Over-clause-found
returns-in-Over-clause-found g c = λ beside n note stands group away. subst (λ x. FindsOver beside n note x c.take_over.result.0) (sym c.in-Over.is) tt

pub returns-in-Over-clause-fuse : goal.returns-in-Over-clause-fuse
returns-in-Over-clause-fuse g c = λ n note.
    let is_rack = (g.met.R.Rack g.world.𝓛 g.world.𝓜 g.world.𝓡 ((λ s x. x), (λ x. x), (λ x. x), λ x. x)).rack in
    let racks = shade_rack g.R.Shelf.meaning is_rack in
    at_overs (AwayNoted n note) (FuseGoesOn c.args.self c.take_over.result.0) c.args.self c.in-Over.over c.in-Over.is
    (λ it.
    let by = c.take_over.ensures.brought in
    over_fuse c.args.self c.take_over.result.0 c.in-Over.over c.in-Over.is (take_rises racks (site_in c.in-Over.over) c.in-Over.over.cut c.take_over.result.0 c.take_over.result.1 by)
    (take_settles racks (site_in c.in-Over.over) c.in-Over.over.cut c.take_over.result.0 c.take_over.result.1 by (imported_settled is_rack n note (site_in c.in-Over.over) by.mid by.answer (by.by.imported n note it))))

pub returns-in-Over-clause-failing : goal.returns-in-Over-clause-failing
returns-in-Over-clause-failing g c =
    let racks = shade_rack g.R.Shelf.meaning (g.met.R.Rack g.world.𝓛 g.world.𝓜 g.world.𝓡 ((λ s x. x), (λ x. x), (λ x. x), λ x. x)).rack in
    over_failing c.args.self c.take_over.result.0 c.in-Over.over c.in-Over.is (take_rises racks (site_in c.in-Over.over) c.in-Over.over.cut c.take_over.result.0 c.take_over.result.1 c.take_over.ensures.brought)

pub returns-in-Over-clause-later : goal.returns-in-Over-clause-later
returns-in-Over-clause-later g c =
    let racks = shade_rack g.R.Shelf.meaning (g.met.R.Rack g.world.𝓛 g.world.𝓜 g.world.𝓡 ((λ s x. x), (λ x. x), (λ x. x), λ x. x)).rack in
    over_later c.args.self c.take_over.result.0 c.in-Over.over c.in-Over.is (take_rises racks (site_in c.in-Over.over) c.in-Over.over.cut c.take_over.result.0 c.take_over.result.1 c.take_over.ensures.brought)
    (take_tells (site_in c.in-Over.over) c.in-Over.over.cut c.take_over.result.0 c.take_over.result.1 c.take_over.ensures.brought)

pub returns-in-OfGroup-clause-above : goal.returns-in-OfGroup-clause-above
returns-in-OfGroup-clause-above g c = subst (λ x. TakesAbove x c.import_in.result.0 c.import_in.result.1) (sym c.in-OfGroup.is) tt

pub returns-in-Over-clause-above : goal.returns-in-Over-clause-above
returns-in-Over-clause-above g c =
    let lawful = (g.met.R.Shelf g.world.𝓛 g.world.𝓜 g.world.𝓡 ((λ s x. x), (λ x. x), (λ x. x), λ x. x)).lawful in
    let is_rack = (g.met.R.Rack g.world.𝓛 g.world.𝓜 g.world.𝓡 ((λ s x. x), (λ x. x), (λ x. x), λ x. x)).rack in
    subst (λ x. TakesAbove x c.take_over.result.0 c.take_over.result.1) (sym c.in-Over.is)
    (takes_over (shade_rack g.R.Shelf.meaning is_rack) (shade_lawful g.R.Shelf.meaning lawful) c.in-Over.over c.take_over.result.0 c.take_over.result.1 c.take_over.ensures.brought)

pub returns-in_default-clause-above : goal.returns-in_default-clause-above
returns-in_default-clause-above g c = takes_rest c.args.self c.args.self (Err (Refused Role)) c.in_default.not-Over
