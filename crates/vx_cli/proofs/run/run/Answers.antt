-- `run`: clause run; what `answer_all-status` asks.
use Rattle.std.proofs.Common.{ap, ◌∙◌}
use Rattle.vx_yard.specs.Holds.{rack_faults}
use Rattle.vx_cli.proofs.RunLemmas.{begins, run_is, run_stops}
use Rattle.vx_cli.proofs.run.run.Goals as goal

pub answer_all-status-requires-clause-serves : goal.answer_all-status-requires-clause-serves
answer_all-status-requires-clause-serves g c = λ κs within. begins c.in-Ok.yard c.in-Ok.ensures.stands c.in-Ok.ensures.carries

pub returns-in-Ok-clause-run : goal.returns-in-Ok-clause-run
returns-in-Ok-clause-run g c =
    run_is _ _ _ c.in-Ok.yard c.answer_all-status.new.yard _ _ _ _ _ _ c.answer_all-status.ensures.run c.in-Ok.ensures.files c.into_racks.ensures.holds c.into_racks.ensures.groups c.into_racks.ensures.told
    (λ s d. c.in-Ok.ensures.counts s d ∙ ap (λ v. rack_faults g.R.Shelf.meaning v.items s d) c.replace-taken.ensures.value) c.into_racks.ensures.counts

pub returns-in-Err-clause-run : goal.returns-in-Err-clause-run
returns-in-Err-clause-run g c = run_stops _ _ _ _ _ _ _ c.requires.fresh (ap (λ v. v.items) (c.in-Err.ensures.back ∙ c.replace-taken.ensures.value))
