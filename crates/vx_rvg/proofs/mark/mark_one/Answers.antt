-- The mark of one region.
use Rattle.std.proofs.lemmas.Result.{on_ok_weaker}
use Rattle.vx_dcm.proofs.RunMarks.{one_marked, one_was, others_stay}
use Rattle.vx_rvg.proofs.mark.mark_one.Goals as goal

pub returns-clause-marked : goal.returns-clause-marked
returns-clause-marked g c =
    on_ok_weaker c.mark_regions.result (λ all. one_marked c.mark_regions.new.core.maps c.args.slot c.args.vol c.args.region c.args.on all) c.mark_regions.ensures.marked

pub returns-clause-others : goal.returns-clause-others
returns-clause-others g c = others_stay c.args.slot c.args.vol c.args.region c.args.on c.args.core.now.maps c.mark_regions.new.core.maps c.mark_regions.ensures.part

pub returns-clause-nothing : goal.returns-clause-nothing
returns-clause-nothing g c = λ was. c.mark_regions.ensures.nothing (one_was c.args.core.now.maps c.args.slot c.args.vol c.args.region c.args.on was)
