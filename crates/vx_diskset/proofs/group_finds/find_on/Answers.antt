-- `find_on`: the group that was found, or the disks that were handed back.
use Rattle.std.proofs.Common.{refl, subst}
use Rattle.std.specs.Prelude.{IfErr}
use Rattle.vx_untold.specs.Shades.{shade_lawful, shade_rack}
use Rattle.vx_grouped.specs.Begins.{group_begun}
use Rattle.vx_grouped.specs.Finds.{FindStops, FindsUp, FoundSince, FoundTells}
use Rattle.vx_grouped.specs.GroupSites.{site_disks, site_below}
use Rattle.vx_diskset.proofs.FoundOvers.{dark_untold, found_over_set}
use Rattle.vx_diskset.proofs.GroupCalling.{rises_returned}
use Rattle.vx_diskset.proofs.GroupFinding.{back_failing, back_later, finds_with, starts_failing, starts_later}
use Rattle.vx_diskset.proofs.group_finds.find_on.Goals as goal

pub returns-in-Ok-clause-found : goal.returns-in-Ok-clause-found
returns-in-Ok-clause-found g c = λ n can.
    let is_rack = (g.met.R.Rack g.world.𝓛 g.world.𝓜 g.world.𝓡 ((λ s x. x), (λ x. x), (λ x. x), λ x. x)).rack in
    let lawful = (g.met.R.Shelf g.world.𝓛 g.world.𝓜 g.world.𝓡 ((λ s x. x), (λ x. x), (λ x. x), λ x. x)).lawful in
    let racks = shade_rack g.R.Shelf.meaning is_rack in
    finds_with racks c.args.site n c.args.rack can
    (λ laid units s up has dark started beside sure unlinked.
    (found_over_set (shade_lawful g.R.Shelf.meaning lawful) n (group_begun up.0 c.args.site n) up.0 units laid s up.4 has (dark_untold g.R.Shelf.meaning laid.shelf dark) started refl refl refl up.2.cut beside sure unlinked).0)
    c.in-Ok.group c.found_with.result.0 c.found_with.result.1 (subst (λ r. FindsUp c.args.site n r) c.in-Ok.is (c.find_group.ensures.found n can))
    (subst (λ r. FoundSince (g.R.Shelf.meaning c.args.rack) (λ x. g.R.Shelf.meaning x) (λ e. site_disks e) r) c.in-Ok.is c.find_group.ensures.since) c.found_with.ensures

pub returns-in-Ok-clause-failing : goal.returns-in-Ok-clause-failing
returns-in-Ok-clause-failing g c =
    let is_rack = (g.met.R.Rack g.world.𝓛 g.world.𝓜 g.world.𝓡 ((λ s x. x), (λ x. x), (λ x. x), λ x. x)).rack in
    starts_failing (shade_rack g.R.Shelf.meaning is_rack) c.args.rack c.in-Ok.group
    (rises_returned (g.R.Shelf.meaning c.args.rack) (site_disks c.in-Ok.group) (subst (λ r. FoundSince (g.R.Shelf.meaning c.args.rack) (λ x. g.R.Shelf.meaning x) (λ e. site_disks e) r) c.in-Ok.is c.find_group.ensures.since))
    c.found_with.result.0 c.found_with.result.1 c.found_with.ensures

pub returns-in-Ok-clause-later : goal.returns-in-Ok-clause-later
returns-in-Ok-clause-later g c =
    let is_rack = (g.met.R.Rack g.world.𝓛 g.world.𝓜 g.world.𝓡 ((λ s x. x), (λ x. x), (λ x. x), λ x. x)).rack in
    starts_later (shade_rack g.R.Shelf.meaning is_rack) c.args.rack c.in-Ok.group
    (rises_returned (g.R.Shelf.meaning c.args.rack) (site_disks c.in-Ok.group) (subst (λ r. FoundSince (g.R.Shelf.meaning c.args.rack) (λ x. g.R.Shelf.meaning x) (λ e. site_disks e) r) c.in-Ok.is c.find_group.ensures.since))
    c.found_with.result.0 c.found_with.result.1
    (subst (λ r. FoundTells (g.R.Shelf.meaning c.args.rack) (λ x. g.R.Shelf.meaning x) (λ e. site_below e) r) c.in-Ok.is c.find_group.ensures.told)
    c.found_with.ensures

pub returns-in-Err-clause-found : goal.returns-in-Err-clause-found
returns-in-Err-clause-found g c = λ n can. subst (λ r. IfErr r (λ e. FindStops n (g.R.Shelf.meaning c.args.rack) (g.R.Shelf.meaning e.0) e.1)) c.in-Err.is (c.find_group.ensures.stops n can)

pub returns-in-Err-clause-failing : goal.returns-in-Err-clause-failing
returns-in-Err-clause-failing g c = back_failing c.args.rack c.in-Err.rack (subst (λ r. FoundSince (g.R.Shelf.meaning c.args.rack) (λ x. g.R.Shelf.meaning x) (λ e. site_disks e) r) c.in-Err.is c.find_group.ensures.since)

pub returns-in-Err-clause-later : goal.returns-in-Err-clause-later
returns-in-Err-clause-later g c = back_later c.args.rack c.in-Err.rack (subst (λ r. FoundSince (g.R.Shelf.meaning c.args.rack) (λ x. g.R.Shelf.meaning x) (λ e. site_disks e) r) c.in-Err.is c.find_group.ensures.since)
