-- `import`: a recovery, or an import of disks that were deported.
use Rattle.std.proofs.Common.{◌≡◌, true, false, subst, sym}
use Rattle.vx_grouped.specs.GroupSites.{AwayNoted, DownNoted, site_below, site_disks}
use Rattle.vx_grouped.specs.SiteReturns.{LessLeft, ReturnSince, SiteImports, SiteRecovers, as_imported}
use Rattle.vx_watched.specs.Traces.{TellsLess}
use Rattle.vx_grouped.specs.Brings.{BringsAtSite}
use Rattle.vx_grouped.proofs.LessLemmas.{left_self}
use Rattle.vx_grouped.proofs.ComeLemmas.{brings_refused, comes_away, comes_down, comes_refused, known_away, known_down, known_rest}
use Rattle.vx_model.specs.declared.errors.Stop.TheVariants.{No as Refused}
use Rattle.vx_model.specs.declared.no.No.TheVariants.{Role}
use Rattle.vx_grouped.specs.SiteMaps.{CameMapped}
use Rattle.vx_grouped.proofs.group_site.GroupSite.import.Goals as goal

pub returns-in-Down-clause-recovered : goal.returns-in-Down-clause-recovered
returns-in-Down-clause-recovered g c = λ n note it.
    subst (λ e. SiteRecovers n note e c.recover_idle.result.0 c.recover_idle.result.1) (sym c.in-Down.is) (c.recover_idle.ensures.recovered n note (subst (λ e. DownNoted n note e) c.in-Down.is it))

pub returns-in-Down-clause-since : goal.returns-in-Down-clause-since
returns-in-Down-clause-since g c = subst (λ e. ReturnSince (site_disks e) (site_disks c.recover_idle.result.0)) (sym c.in-Down.is) c.recover_idle.ensures.since

pub returns-in-Down-clause-told : goal.returns-in-Down-clause-told
returns-in-Down-clause-told g c = subst (λ e. TellsLess (site_below e) (site_below c.recover_idle.result.0)) (sym c.in-Down.is) c.recover_idle.ensures.told

pub returns-in-Deported-clause-imported : goal.returns-in-Deported-clause-imported
returns-in-Deported-clause-imported g c = λ n note it.
    subst (λ e. SiteImports n note e c.import_idle.result.0 c.import_idle.result.1) (sym c.in-Deported.is) (c.import_idle.ensures.imported n note (subst (λ e. AwayNoted n note e) c.in-Deported.is it))

pub returns-in-Deported-clause-since : goal.returns-in-Deported-clause-since
returns-in-Deported-clause-since g c = subst (λ e. ReturnSince (site_disks e) (site_disks c.import_idle.result.0)) (sym c.in-Deported.is) c.import_idle.ensures.since

pub returns-in-Deported-clause-told : goal.returns-in-Deported-clause-told
returns-in-Deported-clause-told g c = subst (λ e. TellsLess (site_below e) (site_below c.import_idle.result.0)) (sym c.in-Deported.is) c.import_idle.ensures.told

pub returns-in-Down-clause-maps : goal.returns-in-Down-clause-maps
returns-in-Down-clause-maps g c = subst (λ e. CameMapped e c.recover_idle.result.0 c.recover_idle.result.1) (sym c.in-Down.is) c.recover_idle.ensures.maps

pub returns-in-Deported-clause-maps : goal.returns-in-Deported-clause-maps
returns-in-Deported-clause-maps g c = subst (λ e. CameMapped e c.import_idle.result.0 c.import_idle.result.1) (sym c.in-Deported.is) c.import_idle.ensures.maps

pub returns-in-Down-clause-brings : goal.returns-in-Down-clause-brings
returns-in-Down-clause-brings g c = subst (λ e. BringsAtSite (as_imported e) c.recover_idle.result.0 c.recover_idle.result.1) (sym c.in-Down.is) c.recover_idle.ensures.brings

pub returns-in-Deported-clause-brings : goal.returns-in-Deported-clause-brings
returns-in-Deported-clause-brings g c = subst (λ e. BringsAtSite (as_imported e) c.import_idle.result.0 c.import_idle.result.1) (sym c.in-Deported.is) c.import_idle.ensures.brings

pub returns-in_default-clause-brings : goal.returns-in_default-clause-brings
returns-in_default-clause-brings g c = brings_refused (as_imported c.args.self) c.args.self (Refused Role)

pub returns-in-Down-clause-comes : goal.returns-in-Down-clause-comes
returns-in-Down-clause-comes g c = comes_down c.args.self c.recover_idle.result.0 c.in-Down.idle c.recover_idle.result.1 c.recover_idle.ensures.comes c.in-Down.is

pub returns-in-Deported-clause-comes : goal.returns-in-Deported-clause-comes
returns-in-Deported-clause-comes g c = comes_away c.args.self c.import_idle.result.0 c.in-Deported.idle c.import_idle.result.1 c.import_idle.ensures.comes c.in-Deported.is

pub returns-in_default-clause-comes : goal.returns-in_default-clause-comes
returns-in_default-clause-comes g c = comes_refused c.args.self (Refused Role)

pub returns-in-Down-clause-known : goal.returns-in-Down-clause-known
returns-in-Down-clause-known g c = known_down c.args.self c.in-Down.idle c.recover_idle.result.1 c.in-Down.is c.recover_idle.ensures.known

pub returns-in-Deported-clause-known : goal.returns-in-Deported-clause-known
returns-in-Deported-clause-known g c = known_away c.args.self c.in-Deported.idle c.import_idle.result.1 c.in-Deported.is

pub returns-in_default-clause-known : goal.returns-in_default-clause-known
returns-in_default-clause-known g c = known_rest c.args.self _ c.in_default.not-Down

pub returns-in-Down-clause-less : goal.returns-in-Down-clause-less
returns-in-Down-clause-less g c = subst (λ e. LessLeft (as_imported e) c.recover_idle.result.0 c.recover_idle.result.1) (sym c.in-Down.is) c.recover_idle.ensures.less

pub returns-in-Deported-clause-less : goal.returns-in-Deported-clause-less
returns-in-Deported-clause-less g c = subst (λ e. LessLeft (as_imported e) c.import_idle.result.0 c.import_idle.result.1) (sym c.in-Deported.is) c.import_idle.ensures.less

pub returns-in_default-clause-less : goal.returns-in_default-clause-less
returns-in_default-clause-less g c = λ early. left_self (as_imported c.args.self)

pub returns-in-Down-clause-dark : goal.returns-in-Down-clause-dark
returns-in-Down-clause-dark g c = c.recover_idle.ensures.dark

pub returns-in-Deported-clause-dark : goal.returns-in-Deported-clause-dark
returns-in-Deported-clause-dark g c = c.import_idle.ensures.dark

pub returns-in_default-clause-dark : goal.returns-in_default-clause-dark
returns-in_default-clause-dark g c = λ late. absurd (let clash : true ≡ false = late in cc)
