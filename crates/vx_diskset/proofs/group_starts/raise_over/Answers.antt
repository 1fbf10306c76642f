-- `raise_over`: the import of a recovery, of disks that have a replicated volume group over them.
use Rattle.std.proofs.Common.{◌∙◌, ap, subst}
use Rattle.vx_grouped.specs.Brings.{ComesUp}
use Rattle.vx_diskset.specs.Aboves.{site_in}
use Rattle.vx_diskset.specs.GroupSets.{cut_value}
use Rattle.vx_diskset.specs.OverStarts.{HandsOut}
use Rattle.vx_diskset.proofs.OverImports.{above_refused, brought_as, raises_done, raises_stopped}
use Rattle.vx_diskset.proofs.group_starts.raise_over.Goals as goal

pub of-requires-after_bounds : goal.of-requires-after_bounds
of-requires-after_bounds g c = λ κs lives.
    above_refused c.parts-site.result.1 c.parts-site.result.0 c.import-site.result.0 c.in-Err.stop (subst (λ r. ComesUp c.parts-site.result.0 c.import-site.result.0 r) c.in-Err.is c.import-site.ensures.comes) c.parts-site.ensures.stays

pub returns-in-Ok : goal.returns-in-Ok
returns-in-Ok g c = record {
  brought = raises_done (site_in c.args.over) c.import-site.result.0 c.parts-site.result.2 c.args.over.cut c.with_rvg-disk_set.result.0 c.import-site.result.1 c.with_rvg-disk_set.result.1 c.hands_out.result
      (brought_as c.parts-site.result.0 (site_in c.args.over) c.import-site.result.0 c.import-site.result.1 c.parts-site.ensures.site
      (record { imported = c.import-site.ensures.imported; recovered = c.import-site.ensures.recovered; brings = c.import-site.ensures.brings; since = c.import-site.ensures.since; told = c.import-site.ensures.told; maps = c.import-site.ensures.maps; known = c.import-site.ensures.known; less = c.import-site.ensures.less; dark = c.import-site.ensures.dark }))
      c.parts-site.ensures.cut c.in-Ok.is c.with_rvg-disk_set.ensures.over
      (subst (λ k. HandsOut k c.with_rvg-disk_set.result.1 c.hands_out.result) c.cut_above-kept.ensures c.hands_out.ensures);
}

pub returns-in-Err : goal.returns-in-Err
returns-in-Err g c = record {
  brought = raises_stopped (site_in c.args.over) c.import-site.result.0 c.args.over.cut _ c.import-site.result.1 c.in-Err.stop
      (brought_as c.parts-site.result.0 (site_in c.args.over) c.import-site.result.0 c.import-site.result.1 c.parts-site.ensures.site
      (record { imported = c.import-site.ensures.imported; recovered = c.import-site.ensures.recovered; brings = c.import-site.ensures.brings; since = c.import-site.ensures.since; told = c.import-site.ensures.told; maps = c.import-site.ensures.maps; known = c.import-site.ensures.known; less = c.import-site.ensures.less; dark = c.import-site.ensures.dark }))
      c.in-Err.is c.of.ensures.site (ap (λ k. cut_value k) (c.of.ensures.cut ∙ c.parts-site.ensures.cut));
}
