-- `stand_over`: what is said of a group that came up with its replicated volume group.
use Rattle.std.proofs.Common.{◌∙◌, subst}
use Rattle.vx_disk.specs.Moves.{Nowhere}
use Rattle.vx_untold.specs.Shades.{shade_lawful, shade_rack}
use Rattle.vx_watched.specs.Traces.{TellsLess}
use Rattle.vx_grouped.specs.GroupSites.{site_below, site_disks}
use Rattle.vx_diskset.specs.Aboves.{site_in}
use Rattle.vx_diskset.specs.Noted.{below_rvg}
use Rattle.vx_diskset.specs.Recovers.{LooksKept, RisesSince}
use Rattle.vx_diskset.proofs.GroupCalling.{rises_called}
use Rattle.vx_diskset.proofs.GroupRising.{rises_crash}
use Rattle.vx_diskset.proofs.OverFrames.{site_stays}
use Rattle.vx_diskset.proofs.OverLooks.{looks_done, looks_lost, up_old}
use Rattle.vx_diskset.proofs.OverPlain.{carried_site}
use Rattle.vx_diskset.proofs.group_starts.stand_over.Goals as goal

pub of-requires-after_bounds : goal.of-requires-after_bounds
of-requires-after_bounds g c = λ κs lives. site_stays Nowhere c.parts-site.result.1 c.parts-site.result.0 c.look_kept.new.site c.look_kept.ensures.volumes c.parts-site.ensures.stays

pub of-requires-in-Err-after_bounds : goal.of-requires-in-Err-after_bounds
of-requires-in-Err-after_bounds g c = λ κs lives. site_stays Nowhere c.parts-site.result.1 c.parts-site.result.0 c.look_kept.new.site c.look_kept.ensures.volumes c.parts-site.ensures.stays

pub returns-in-Ok-clause-stands : goal.returns-in-Ok-clause-stands
returns-in-Ok-clause-stands g c = λ beside n note stands state running noted none.
    let laws = shade_lawful g.R.Shelf.meaning (g.met.R.Shelf g.world.𝓛 g.world.𝓜 g.world.𝓡 ((λ s x. x), (λ x. x), (λ x. x), λ x. x)).lawful in
    let racks = shade_rack g.R.Shelf.meaning (g.met.R.Rack g.world.𝓛 g.world.𝓜 g.world.𝓡 ((λ s x. x), (λ x. x), (λ x. x), λ x. x)).rack in
    let was = up_old racks laws beside n note c.args.cut c.args.over c.parts-site.result.0 c.look_kept.new.site c.parts-site.result.1 c.parts-site.ensures.site c.parts-site.ensures.above c.parts-site.ensures.stays c.look_kept.ensures.volumes stands state noted in
    looks_done racks laws beside n note c.args.cut c.args.over c.parts-site.result.0 c.look_kept.new.site c.parts-site.result.1 c.parts-site.ensures.site c.parts-site.ensures.above c.parts-site.ensures.stays c.look_kept.ensures.volumes stands state noted
    c.in-Ok.kept (subst (λ r. LooksKept (below_rvg n) note c.args.cut c.parts-site.result.0 c.look_kept.new.site r) c.in-Ok.is (c.look_kept.ensures.looks (below_rvg n) note was))
    c.of.result c.of.ensures.site c.of.ensures.above (c.of.ensures.cut ∙ c.parts-site.ensures.cut)

pub returns-in-Ok-clause-since : goal.returns-in-Ok-clause-since
returns-in-Ok-clause-since g c =
    carried_site (λ o e. RisesSince (site_disks o) (site_disks e)) (site_in c.args.over) c.parts-site.result.0 (site_in c.of.result) c.look_kept.new.site c.parts-site.ensures.site c.of.ensures.site
    (rises_called (site_disks c.parts-site.result.0) (site_disks c.look_kept.new.site) c.look_kept.ensures.since)

pub returns-in-Ok-clause-told : goal.returns-in-Ok-clause-told
returns-in-Ok-clause-told g c =
    carried_site (λ o e. TellsLess (site_below o) (site_below e)) (site_in c.args.over) c.parts-site.result.0 (site_in c.of.result) c.look_kept.new.site c.parts-site.ensures.site c.of.ensures.site c.look_kept.ensures.told

pub returns-in-Err-clause-stands : goal.returns-in-Err-clause-stands
returns-in-Err-clause-stands g c = λ beside n note stands state running noted none.
    let laws = shade_lawful g.R.Shelf.meaning (g.met.R.Shelf g.world.𝓛 g.world.𝓜 g.world.𝓡 ((λ s x. x), (λ x. x), (λ x. x), λ x. x)).lawful in
    let racks = shade_rack g.R.Shelf.meaning (g.met.R.Rack g.world.𝓛 g.world.𝓜 g.world.𝓡 ((λ s x. x), (λ x. x), (λ x. x), λ x. x)).rack in
    let was = up_old racks laws beside n note c.args.cut c.args.over c.parts-site.result.0 c.look_kept.new.site c.parts-site.result.1 c.parts-site.ensures.site c.parts-site.ensures.above c.parts-site.ensures.stays c.look_kept.ensures.volumes stands state noted in
    looks_lost racks laws beside n note c.args.cut c.args.over c.parts-site.result.0 c.look_kept.new.site c.parts-site.result.1 c.parts-site.ensures.site c.parts-site.ensures.above c.parts-site.ensures.stays c.look_kept.ensures.volumes stands state noted
    c.in-Err.no (subst (λ r. LooksKept (below_rvg n) note c.args.cut c.parts-site.result.0 c.look_kept.new.site r) c.in-Err.is (c.look_kept.ensures.looks (below_rvg n) note was))
    c.of-in-Err.result c.of-in-Err.ensures.site c.of-in-Err.ensures.above c.of-in-Err.ensures.cut
    c.crash.result c.crash.ensures.crashed c.crash.ensures.noted c.crash.ensures.named c.crash.ensures.cut 0xffff_ffff_ffff_ffff c.crash.ensures.stopped

pub returns-in-Err-clause-since : goal.returns-in-Err-clause-since
returns-in-Err-clause-since g c =
    rises_crash (site_disks (site_in c.args.over)) 0xffff_ffff_ffff_ffff (site_in c.of-in-Err.result) (site_in c.crash.result)
    (carried_site (λ o e. RisesSince (site_disks o) (site_disks e)) (site_in c.args.over) c.parts-site.result.0 (site_in c.of-in-Err.result) c.look_kept.new.site c.parts-site.ensures.site c.of-in-Err.ensures.site
    (rises_called (site_disks c.parts-site.result.0) (site_disks c.look_kept.new.site) c.look_kept.ensures.since))
    c.crash.ensures.stopped

pub returns-in-Err-clause-told : goal.returns-in-Err-clause-told
returns-in-Err-clause-told g c =
    let before = carried_site (λ o e. TellsLess (site_below o) (site_below e)) (site_in c.args.over) c.parts-site.result.0 (site_in c.of-in-Err.result) c.look_kept.new.site c.parts-site.ensures.site c.of-in-Err.ensures.site c.look_kept.ensures.told in
    λ told. before (c.crash.ensures.told told)
