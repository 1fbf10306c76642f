-- `prepare`: its result.
use Rattle.std.proofs.Common.{arith}
use Rattle.vx_group.proofs.CreateLemmas.{labels_ready, prepared}
use Rattle.vx_group.proofs.Standing.{still_large}
use Rattle.vx_group.proofs.UnitLemmas.{goes_units, then_units}
use Rattle.vx_group.proofs.create.prepare.Goals as goal

pub returns : goal.returns
returns g c =
    let m0 = (g.S.Shelf.meaning c.args.shelf.now) in
    let m1 = g.S.Shelf.meaning c.clear.new.shelf in
    let m2 = g.S.Shelf.meaning c.label.new.shelf in
    record {
      counts = λ d. let one = c.clear.ensures.goes.disk_faults d in let two = c.label.ensures.goes.disk_faults d in omega (arith, one, two);
      faults = λ u. let one = c.clear.ensures.goes.faults u in let two = c.label.ensures.goes.faults u in omega (arith, one, two);
      same = then_units m0 m1 m2 (goes_units _ m0 m1 c.clear.ensures.goes) (goes_units _ m1 m2 c.label.ensures.goes);
      ready = labels_ready c.args.site m0 m1 m2 c.clear.ensures.goes.disk_faults c.label.result
          (λ labelled. prepared c.args.site m0 m1 m2 c.ranges.site.fits (g.met.S.Shelf.lawful c.clear.new.shelf) c.clear.ensures.goes c.in-Ok.ensures.cleared c.label.ensures.goes labelled)
          (c.label.ensures.labels (still_large m0 m1 c.clear.ensures.goes.units c.clear.ensures.goes.size c.requires.large));
    }
