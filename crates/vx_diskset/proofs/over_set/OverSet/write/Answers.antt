-- A write, as it is made over the site.
use Rattle.std.proofs.Common.{subst, sym}
use Rattle.std.specs.Prelude.{IsFalse}
use Rattle.vx_grouped.specs.GroupSites.{site_disks}
use Rattle.vx_diskset.specs.Aboves.{site_in}
use Rattle.vx_model.specs.Content.{Write}
use Rattle.vx_diskset.specs.DiskSets.{LoggedUp}
use Rattle.vx_diskset.specs.Noted.{OverCalled}
use Rattle.vx_diskset.specs.Stands.{SiteStands}
use Rattle.vx_diskset.specs.declared.disk_set.DiskSet.TheVariants.{Over}
use Rattle.vx_diskset.proofs.over_set.OverSet.write.Goals as goal

pub returns-clause-wrote : goal.returns-clause-wrote
returns-clause-wrote g c = λ beside n stands origin can has.
    let x = (let w : Write = record { volume = c.args.volume; start = c.args.start; bytes = c.args.bytes.now } in w) in
    subst (λ s. LoggedUp beside n x (Over s) (Over c.written-over.result.0) c.written-over.result.1) c.replace.ensures.value (c.written-over.ensures.wrote beside n (subst (λ s. SiteStands beside n (Over s)) (sym c.replace.ensures.value) stands) origin can has)

pub returns-clause-called : goal.returns-clause-called
returns-clause-called g c = subst (λ s. OverCalled s c.written-over.result.0) c.replace.ensures.value c.written-over.ensures.called

pub returns-clause-off : goal.returns-clause-off
returns-clause-off g c = λ up. c.written-over.ensures.off (subst (λ s. IsFalse (site_disks (site_in s)).down) (sym c.replace.ensures.value) up)
