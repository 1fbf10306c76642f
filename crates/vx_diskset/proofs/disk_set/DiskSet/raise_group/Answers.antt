-- `raise_group`: what it leaves of the disks of the site.
use Rattle.std.proofs.Common.{subst, sym}
use Rattle.vx_grouped.specs.GroupSites.{DownNoted}
use Rattle.vx_diskset.specs.Recovers.{RaisesGroup, RaisesMaps}
use Rattle.vx_diskset.specs.Aboves.{site_in}
use Rattle.vx_diskset.proofs.GroupCalling.{at_sites}
use Rattle.vx_diskset.proofs.OverImports.{raise_rises, raise_tells}
use Rattle.vx_diskset.proofs.OverRisen.{over_failing, over_later}
use Rattle.vx_diskset.proofs.GroupRising.{rise_failing, rise_later}
use Rattle.vx_untold.specs.Shades.{shade_lawful, shade_rack}
use Rattle.vx_diskset.specs.OverRises.{FindsOver, RaisesAbove}
use Rattle.vx_diskset.specs.OverStarts.{RaisesIn}
use Rattle.vx_diskset.specs.Stands.{SiteStands}
use Rattle.vx_diskset.proofs.OverRecovers.{recovers_over, recovers_rest}
use Rattle.vx_diskset.proofs.PlainImports.{raises_rest}
use Rattle.vx_diskset.proofs.PlainRises.{finds_down, finds_rest}
use Rattle.vx_diskset.proofs.disk_set.DiskSet.raise_group.Goals as goal

pub returns-in-OfGroup-clause-raised : goal.returns-in-OfGroup-clause-raised
returns-in-OfGroup-clause-raised g c = λ n note down.
    subst (λ x. RaisesGroup n note x c.raise_in.result.0 c.raise_in.result.1) (sym c.in-OfGroup.is)
    (c.raise_in.ensures.raised n note (at_sites (DownNoted n note) (DownNoted n note c.in-OfGroup.group.site) c.args.self c.in-OfGroup.group c.in-OfGroup.is (λ it. it) down))

pub returns-in-OfGroup-clause-failing : goal.returns-in-OfGroup-clause-failing
returns-in-OfGroup-clause-failing g c = rise_failing c.args.self c.raise_in.result.0 c.in-OfGroup.group c.in-OfGroup.is c.raise_in.ensures.since c.raise_in.ensures.told

pub returns-in-OfGroup-clause-later : goal.returns-in-OfGroup-clause-later
returns-in-OfGroup-clause-later g c = rise_later c.args.self c.raise_in.result.0 c.in-OfGroup.group c.in-OfGroup.is c.raise_in.ensures.since c.raise_in.ensures.told

pub returns-in-OfGroup-clause-maps : goal.returns-in-OfGroup-clause-maps
returns-in-OfGroup-clause-maps g c = λ n note down.
    subst (λ x. RaisesMaps x c.raise_in.result.0 c.raise_in.result.1) (sym c.in-OfGroup.is)
    (c.raise_in.ensures.maps n note (at_sites (DownNoted n note) (DownNoted n note c.in-OfGroup.group.site) c.args.self c.in-OfGroup.group c.in-OfGroup.is (λ it. it) down))

pub returns-in-OfGroup-clause-brought : goal.returns-in-OfGroup-clause-brought
returns-in-OfGroup-clause-brought g c = subst (λ x. RaisesIn x c.raise_in.result.0 c.raise_in.result.1) (sym c.in-OfGroup.is) c.raise_in.ensures.brought

pub returns-in-Over-clause-raised : goal.returns-in-Over-clause-raised
returns-in-Over-clause-raised g c = λ n note down. subst (λ x. RaisesGroup n note x c.raise_over.result.0 c.raise_over.result.1) (sym c.in-Over.is) tt

pub returns-in-Over-clause-maps : goal.returns-in-Over-clause-maps
returns-in-Over-clause-maps g c = λ n note down. subst (λ x. RaisesMaps x c.raise_over.result.0 c.raise_over.result.1) (sym c.in-Over.is) tt

pub returns-in-Over-clause-brought : goal.returns-in-Over-clause-brought
returns-in-Over-clause-brought g c = subst (λ x. RaisesIn x c.raise_over.result.0 c.raise_over.result.1) (sym c.in-Over.is) c.raise_over.ensures.brought

pub returns-in-Over-clause-failing : goal.returns-in-Over-clause-failing
returns-in-Over-clause-failing g c =
    let racks = shade_rack g.R.Shelf.meaning (g.met.R.Rack g.world.𝓛 g.world.𝓜 g.world.𝓡 ((λ s x. x), (λ x. x), (λ x. x), λ x. x)).rack in
    over_failing c.args.self c.raise_over.result.0 c.in-Over.over c.in-Over.is (raise_rises racks (site_in c.in-Over.over) c.in-Over.over.cut c.raise_over.result.0 c.raise_over.result.1 c.raise_over.ensures.brought)

pub returns-in-Over-clause-later : goal.returns-in-Over-clause-later
returns-in-Over-clause-later g c =
    let racks = shade_rack g.R.Shelf.meaning (g.met.R.Rack g.world.𝓛 g.world.𝓜 g.world.𝓡 ((λ s x. x), (λ x. x), (λ x. x), λ x. x)).rack in
    over_later c.args.self c.raise_over.result.0 c.in-Over.over c.in-Over.is (raise_rises racks (site_in c.in-Over.over) c.in-Over.over.cut c.raise_over.result.0 c.raise_over.result.1 c.raise_over.ensures.brought)
    (raise_tells (site_in c.in-Over.over) c.in-Over.over.cut c.raise_over.result.0 c.raise_over.result.1 c.raise_over.ensures.brought)

pub returns-in_default-clause-brought : goal.returns-in_default-clause-brought
returns-in_default-clause-brought g c = raises_rest c.args.self c.args.self _ c.in_default.not-OfGroup c.in_default.not-Over

pub returns-in-OfGroup-clause-above : goal.returns-in-OfGroup-clause-above
returns-in-OfGroup-clause-above g c = subst (λ x. RaisesAbove x c.raise_in.result.0 c.raise_in.result.1) (sym c.in-OfGroup.is) tt

pub returns-in-Over-clause-above : goal.returns-in-Over-clause-above
returns-in-Over-clause-above g c =
    let laws = shade_lawful g.R.Shelf.meaning (g.met.R.Shelf g.world.𝓛 g.world.𝓜 g.world.𝓡 ((λ s x. x), (λ x. x), (λ x. x), λ x. x)).lawful in
    let racks = shade_rack g.R.Shelf.meaning (g.met.R.Rack g.world.𝓛 g.world.𝓜 g.world.𝓡 ((λ s x. x), (λ x. x), (λ x. x), λ x. x)).rack in
    subst (λ x. RaisesAbove x c.raise_over.result.0 c.raise_over.result.1) (sym c.in-Over.is) (recovers_over racks laws c.in-Over.over c.raise_over.result.0 c.raise_over.result.1 c.raise_over.ensures.brought)

pub returns-in_default-clause-above : goal.returns-in_default-clause-above
returns-in_default-clause-above g c = recovers_rest c.args.self c.args.self _ c.in_default.not-Over

pub returns-in-OfGroup-clause-found : goal.returns-in-OfGroup-clause-found
returns-in-OfGroup-clause-found g c = λ beside n note stands group down.
    let laws = shade_lawful g.R.Shelf.meaning (g.met.R.Shelf g.world.𝓛 g.world.𝓜 g.world.𝓡 ((λ s x. x), (λ x. x), (λ x. x), λ x. x)).lawful in
    subst (λ x. FindsOver beside n note x c.raise_in.result.0) (sym c.in-OfGroup.is)
    (finds_down laws beside n note c.in-OfGroup.group (subst (λ x. SiteStands beside n x) c.in-OfGroup.is stands) group c.raise_in.result.0 c.raise_in.ensures.brought.answer down c.raise_in.ensures.brought.by)

pub returns-in-Over-clause-found : goal.returns-in-Over-clause-found
returns-in-Over-clause-found g c = λ beside n note stands group down. subst (λ x. FindsOver beside n note x c.raise_over.result.0) (sym c.in-Over.is) tt

pub returns-in_default-clause-found : goal.returns-in_default-clause-found
returns-in_default-clause-found g c = λ beside n note stands group down. finds_rest beside n note c.args.self c.args.self c.in_default.not-OfGroup
