-- `keep_runs`: clauses kept and none; what stays true in its loop over `k`.
use Rattle.std.proofs.Common.{◌≡◌, ◌+◌, ◌≤◌, ℕ, Bool, false, List, length, replicate, get_or, refl, ap, sym, ◌∙◌, arith}
use Rattle.vx_disk.specs.Blocks.{block_at}
use Rattle.vx_disk.specs.Runs.{run_at}
use Rattle.vx_disk.specs.declared.keeping.Run.{Run}
use Rattle.vx_disk.proofs.Kept.{run_clean, run_left, all_kept, all_false}
use Rattle.vx_disk.proofs.keeping.keep_runs.Goals as goal

pub loop-k-preserved : goal.loop-k-preserved
loop-k-preserved c =
    let before = c.loop-k.invariant in
    let k = c.loop-k.k in
    let blocks : length c.loop-k.loose ≡ length c.args.loose.now = c.loop-k.auto.loose in
    let run : Run = run_at c.args.runs.now k in
    let inside : run.first + run.count ≤ length c.args.loose.now = c.requires.inside k (omega (arith, c.loop-k-test.true)) in
    record {
      clean = λ b is.
          ap (λ (xs : List ℕ). block_at xs b) c.keep_run.ensures.kept
          ∙ run_clean c.loop-k.stable c.args.latest.now c.loop-k.loose run.first run.count (omega (arith, c.loop-k.auto.stable, c.requires.stable, blocks)) (omega (arith, c.requires.latest, blocks))
          (omega (arith, inside, blocks)) before.clean b (sym (ap (λ (xs : List Bool). get_or xs b false) c.keep_run.ensures.none) ∙ is);
      left = λ b outside.
          ap (λ (xs : List Bool). get_or xs b false) c.keep_run.ensures.none
          ∙ run_left c.args.runs.now c.loop-k.loose k c.args.number run refl (omega (arith, inside, blocks)) before.left b (λ i above below. outside i (omega (arith, above)) below);
    }

pub returns-clause-kept : goal.returns-clause-kept
returns-clause-kept c =
    let blocks : length c.loop-k.loose ≡ length c.args.loose.now = c.loop-k.auto.loose in
    let at_end = c.loop-k-test.false in
    all_kept c.loop-k.stable c.args.latest.now c.loop-k.loose (omega (arith, c.loop-k.auto.stable, c.requires.stable, blocks)) (omega (arith, c.requires.latest, blocks)) c.loop-k.invariant.clean
    (λ b. c.loop-k.invariant.left b (λ i above below. absurd (omega (arith, at_end, above, below))))

pub returns-clause-none : goal.returns-clause-none
returns-clause-none c =
    let at_end = c.loop-k-test.false in
    all_false c.loop-k.loose (λ b. c.loop-k.invariant.left b (λ i above below. absurd (omega (arith, at_end, above, below)))) ∙ ap (λ (n : ℕ). replicate n false) c.loop-k.auto.loose
