-- `vx_main`: clauses run, complete, bad, long and clean.
use Rattle.vx_cli.proofs.CompleteLemmas.{run_asked, run_complete, run_bad, run_long, run_clean_is, asked_is}
use Rattle.vx_cli.proofs.main_call.vx_main.Goals as goal

pub returns-then-files-clause-run : goal.returns-then-files-clause-run
returns-then-files-clause-run g c = λ files asked. run_asked _ _ _ _ _ _ _ _ _ c.run.ensures.run files (asked_is _ _ _ _ _ c.in-Some.is c.if-files.true c.asks_run.ensures.asks asked)

pub returns-then-files-clause-complete : goal.returns-then-files-clause-complete
returns-then-files-clause-complete g c = λ files asked.
    run_complete _ _ _ _ _ _ _ _ _ c.run.ensures.run files (asked_is _ _ _ _ _ c.in-Some.is c.if-files.true c.asks_run.ensures.asks asked)

pub returns-then-files-clause-bad : goal.returns-then-files-clause-bad
returns-then-files-clause-bad g c = λ files asked.
    run_bad _ _ _ _ _ _ _ _ _ c.run.ensures.run files (asked_is _ _ _ _ _ c.in-Some.is c.if-files.true c.asks_run.ensures.asks asked)

pub returns-then-files-clause-long : goal.returns-then-files-clause-long
returns-then-files-clause-long g c = λ files asked.
    run_long _ _ _ _ _ _ _ _ _ c.run.ensures.run files (asked_is _ _ _ _ _ c.in-Some.is c.if-files.true c.asks_run.ensures.asks asked)

pub returns-then-files-clause-clean : goal.returns-then-files-clause-clean
returns-then-files-clause-clean g c = λ files asked.
    run_clean_is _ _ _ _ _ _ _ _ _ c.run.ensures.run files (asked_is _ _ _ _ _ c.in-Some.is c.if-files.true c.asks_run.ensures.asks asked) _ _ _ _ c.run.ensures.read c.run.ensures.write

pub returns-else-files-clause-run : goal.returns-else-files-clause-run
returns-else-files-clause-run g c = λ files asked. run_asked _ _ _ _ _ _ _ _ _ c.run-else-files.ensures.run files (asked_is _ _ _ _ _ c.in-Some.is c.if-files.false c.asks_run.ensures.asks asked)

pub returns-else-files-clause-complete : goal.returns-else-files-clause-complete
returns-else-files-clause-complete g c = λ files asked.
    run_complete _ _ _ _ _ _ _ _ _ c.run-else-files.ensures.run files (asked_is _ _ _ _ _ c.in-Some.is c.if-files.false c.asks_run.ensures.asks asked)

pub returns-else-files-clause-bad : goal.returns-else-files-clause-bad
returns-else-files-clause-bad g c = λ files asked.
    run_bad _ _ _ _ _ _ _ _ _ c.run-else-files.ensures.run files (asked_is _ _ _ _ _ c.in-Some.is c.if-files.false c.asks_run.ensures.asks asked)

pub returns-else-files-clause-long : goal.returns-else-files-clause-long
returns-else-files-clause-long g c = λ files asked.
    run_long _ _ _ _ _ _ _ _ _ c.run-else-files.ensures.run files (asked_is _ _ _ _ _ c.in-Some.is c.if-files.false c.asks_run.ensures.asks asked)

pub returns-else-files-clause-clean : goal.returns-else-files-clause-clean
returns-else-files-clause-clean g c = λ files asked.
    run_clean_is _ _ _ _ _ _ _ _ _ c.run-else-files.ensures.run files (asked_is _ _ _ _ _ c.in-Some.is c.if-files.false c.asks_run.ensures.asks asked) _ _ _ _ c.run-else-files.ensures.read c.run-else-files.ensures.write
