-- An import of disks that were deported, unless their logs were stopped.
use Rattle.std.proofs.Common.{◌∙◌, IsTrue, ap, refl, subst, sym, ◌≡◌, false, true}
use Rattle.vx_untold.specs.Shades.{rack_of, shade_meaning}
use Rattle.std.specs.Prelude.{Err}
use Rattle.vx_untold.specs.declared.shade.Shade.TheVariants.{Dark}
use Rattle.vx_grouped.specs.SiteReturns.{LessLeft, SiteImports, TellsNone, stops_early}
use Rattle.vx_grouped.specs.declared.group_site.GroupSite.TheVariants.{Deported}
use Rattle.vx_grouped.proofs.GivenUpLemmas.{given_away}
use Rattle.vx_grouped.proofs.ReadyLemmas.{imported_ready, since_ready, told_ready}
use Rattle.vx_grouped.proofs.SinceReturns.{dark_none, return_at, return_dark}
use Rattle.vx_grouped.specs.Brings.{BringsAtSite}
use Rattle.vx_grouped.proofs.ReturnMapLemmas.{imported_maps}
use Rattle.vx_grouped.proofs.site_returning.import_idle.Goals as goal

pub returns-in-Some-clause-imported : goal.returns-in-Some-clause-imported
returns-in-Some-clause-imported g c = imported_ready (Deported c.args.idle) c.args.idle c.into_ready.result c.into_ready.ensures.ready c.import_site.result.0 c.import_site.result.1 refl c.import_site.ensures.imported

pub returns-in-Some-clause-since : goal.returns-in-Some-clause-since
returns-in-Some-clause-since g c = since_ready (Deported c.args.idle) c.args.idle c.into_ready.result c.into_ready.ensures.ready c.import_site.result.0 c.import_site.result.1 refl c.import_site.ensures.since

pub returns-in-Some-clause-told : goal.returns-in-Some-clause-told
returns-in-Some-clause-told g c = told_ready (Deported c.args.idle) c.args.idle c.into_ready.result c.into_ready.ensures.ready c.import_site.result.0 refl c.import_site.ensures.told

pub returns-in-None-clause-imported : goal.returns-in-None-clause-imported
returns-in-None-clause-imported g c = λ n note it.
    subst (λ x. SiteImports n note (Deported c.args.idle) (Deported c.given_up.result) (Err x)) (sym c.too_few.ensures) (given_away n note c.args.idle c.given_up.result c.given_up.ensures.rack c.given_up.ensures.agreed it)

pub returns-in-None-clause-since : goal.returns-in-None-clause-since
returns-in-None-clause-since g c = return_at (λ s. shade_meaning g.R.Shelf.meaning s) (shade_meaning g.R.Shelf.meaning c.args.idle.rack) (Dark (rack_of c.args.idle.rack)) c.given_up.result.rack c.given_up.ensures.rack (return_dark g.R.Shelf.meaning c.args.idle.rack)

pub returns-in-None-clause-told : goal.returns-in-None-clause-told
returns-in-None-clause-told g c = λ told. subst (λ s. IsTrue (g.R.Shelf.meaning (rack_of s)).tells) c.given_up.ensures.rack told

pub returns-in-Some-clause-maps : goal.returns-in-Some-clause-maps
returns-in-Some-clause-maps g c = imported_maps c.args.idle c.into_ready.result c.into_ready.ensures.ready c.in-Some.rested c.in-Some.is c.import_site.result.0 c.import_site.result.1 c.import_site.ensures.maps

pub returns-in-None-clause-maps : goal.returns-in-None-clause-maps
returns-in-None-clause-maps g c = λ early w x it. absurd (let clash : false ≡ true = sym (ap stops_early c.too_few.ensures) ∙ early in cc)

pub returns-in-Some-clause-brings : goal.returns-in-Some-clause-brings
returns-in-Some-clause-brings g c = subst (λ s. BringsAtSite (shade_meaning g.R.Shelf.meaning s) c.import_site.result.0 c.import_site.result.1) c.into_ready.ensures.ready c.import_site.ensures.brings

pub returns-in-Some-clause-comes : goal.returns-in-Some-clause-comes
returns-in-Some-clause-comes g c = c.import_site.ensures.comes

pub returns-in-Some-clause-less : goal.returns-in-Some-clause-less
returns-in-Some-clause-less g c = subst (λ s. LessLeft (shade_meaning g.R.Shelf.meaning s) c.import_site.result.0 c.import_site.result.1) c.into_ready.ensures.ready c.import_site.ensures.less

pub returns-in-None-clause-less : goal.returns-in-None-clause-less
returns-in-None-clause-less g c = λ early. absurd (let clash : false ≡ true = sym (ap stops_early c.too_few.ensures) ∙ early in cc)

pub returns-in-Some-clause-dark : goal.returns-in-Some-clause-dark
returns-in-Some-clause-dark g c = c.import_site.ensures.dark

pub returns-in-None-clause-dark : goal.returns-in-None-clause-dark
returns-in-None-clause-dark g c = λ late. subst (λ s. TellsNone (shade_meaning g.R.Shelf.meaning s)) (sym c.given_up.ensures.rack) (dark_none g.R.Shelf.meaning c.args.idle.rack)
