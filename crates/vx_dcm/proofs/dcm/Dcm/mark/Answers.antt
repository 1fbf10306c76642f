-- A region that a mark changed, and the others.
use Rattle.std.proofs.lemmas.Result.{on_ok_weaker}
use Rattle.vx_dcm.proofs.RunMarks.{one_marked, one_stays, one_was, others_stay}
use Rattle.vx_dcm.proofs.dcm.Dcm.mark.Goals as goal

pub returns-clause-marked : goal.returns-clause-marked
returns-clause-marked g c = on_ok_weaker c.mark_run.result (λ all. one_marked c.mark_run.new.self c.args.slot c.args.vol c.args.region c.args.on all) c.mark_run.ensures.marked

pub returns-clause-stays : goal.returns-clause-stays
returns-clause-stays g c = λ was. one_stays c.args.slot c.args.vol c.args.region c.args.on c.args.self.now c.mark_run.new.self c.requires.exists c.mark_run.ensures.part was

pub returns-clause-others : goal.returns-clause-others
returns-clause-others g c = others_stay c.args.slot c.args.vol c.args.region c.args.on c.args.self.now c.mark_run.new.self c.mark_run.ensures.part

pub returns-clause-nothing : goal.returns-clause-nothing
returns-clause-nothing g c = λ was. c.mark_run.ensures.nothing (one_was c.args.self.now c.args.slot c.args.vol c.args.region c.args.on was)
