-- `answer_all`: clause run; what `turn` asks; what stays true in its loop over `number`.
use Rattle.std.proofs.Common.{◌≡◌, subst, sym, arith}
use Rattle.vx_script.specs.Lines.{HasNoNewline}
use Rattle.vx_yard.proofs.Kept.{kept_for}
use Rattle.vx_cli.proofs.TurnLemmas.{reaches_first, reaches_more, reaches_end, turn_end, turn_fault, turn_memory, turn_most}
use Rattle.vx_cli.proofs.run.answer_all.Goals as goal

pub turn-requires-clause-kept : goal.turn-requires-clause-kept
turn-requires-clause-kept g c = λ κs within. kept_for c.loop-number.invariant.reaches.world _ c.loop-number.invariant.reaches.serves.stands c.loop-number.invariant.reaches.serves.carries

pub loop-number-init : goal.loop-number-init
loop-number-init g c = record {
  reaches = reaches_first c.args.yard.now _ _ _ c.requires.serves c.new-held.ensures.items;
  read = omega arith;
  write = omega arith;
}

pub returns-in-Some-clause-run : goal.returns-in-Some-clause-run
returns-in-Some-clause-run g c =
    let at = c.loop-number.invariant.reaches in
    reaches_end _ _ _ _ _ _ _ _ _ _ c.in-Some.status _ _ at c.in-Some.ensures.told (c.in-Some.ensures.turn at.world at.serves)

pub loop-number-preserved : goal.loop-number-preserved
loop-number-preserved g c =
    let at = c.loop-number.invariant.reaches in
    record {
      reaches = reaches_more _ _ _ _ _ _ _ _ _ _ _ _ _ at (c.in_default.ensures.turn at.world at.serves) c.in_default.ensures.told c.in_default.ensures.files;
      read = omega (arith, c.loop-number.invariant.read, c.in_default.ensures.read_later);
      write = omega (arith, c.loop-number.invariant.write, c.in_default.ensures.write_later);
    }

pub returns-then-follows-clause-run : goal.returns-then-follows-clause-run
returns-then-follows-clause-run g c =
    let at = c.loop-number.invariant.reaches in
    let most : c.loop-number.number ≡ 1000000 = omega arith in
    let more = rw c.if-follows.true at c.in-Ok.ensures.more in
    reaches_end _ _ _ _ _ _ _ _ _ _ _ _ _ at (λ t. t) (turn_most _ at.world _ _ _ _ _ most more at.serves)

pub returns-in-Ok-clause-run : goal.returns-in-Ok-clause-run
returns-in-Ok-clause-run g c =
    let at = c.loop-number.invariant.reaches in
    let more = rw c.if-follows.false at c.in-Ok.ensures.more in
    reaches_end _ _ _ _ _ _ _ _ _ _ _ _ _ at (λ t. t) (turn_end _ at.world _ _ _ _ _ more.0 more.1 (omega arith) at.serves)

pub returns-in-Err-Fault-clause-run : goal.returns-in-Err-Fault-clause-run
returns-in-Err-Fault-clause-run g c =
    let at = c.loop-number.invariant.reaches in
    let more = rw c.in-Err-Fault.field-0-is at c.in-Err-Fault.ensures.more in
    reaches_end _ _ _ _ _ _ _ _ _ _ _ _ _ at (λ t. t) (turn_fault _ at.world _ _ _ _ _ _ (subst HasNoNewline (sym more.0) tt) more.1 (omega arith) at.serves)

pub returns-clause-run : goal.returns-clause-run
returns-clause-run g c =
    let at = c.loop-number.invariant.reaches in
    reaches_end _ _ _ _ _ _ _ _ _ _ _ _ _ at (λ t. t) (turn_memory _ at.world _ _ _ _ _ (omega arith) at.serves)
