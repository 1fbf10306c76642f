-- `write_body`: clauses follows, arrives, spends, least and works; what `write_part` asks.
use Rattle.std.proofs.Common.{arith, ◌∙◌, eqb-true, sym}
use Rattle.std.proofs.lemmas.Result.{on_ok_weaker}
use Rattle.vx_ringio.proofs.Parts.{body_parts, in_parts, first_follows, first_arrives, both_follow, both_arrive}
use Rattle.vx_disk.proofs.Burning.{then_calls}
use Rattle.vx_disk.proofs.Naming.{names_before}
use Rattle.vx_disk.proofs.Spending.{on_always, at_least, at_least_fewer, then_spends}
use Rattle.vx_ringio.proofs.writes.write_body.Goals as goal

pub write_part-requires-clause-body : goal.write_part-requires-clause-body
write_part-requires-clause-body g c = (body_parts c.args.bytes.now c.split_at.result.0.now c.split_at.result.1.now c.split_at.ensures.by_index.0 (omega arith) c.requires.body).0

pub write_part-requires-else-is_empty-clause-body : goal.write_part-requires-else-is_empty-clause-body
write_part-requires-else-is_empty-clause-body g c = (body_parts c.args.bytes.now c.split_at.result.0.now c.split_at.result.1.now c.split_at.ensures.by_index.0 (omega arith) c.requires.body).1

pub returns-in_err-write_part-clause-follows : goal.returns-in_err-write_part-clause-follows
returns-in_err-write_part-clause-follows g c =
    let parts = in_parts c.args.ring c.args.place _ _ _ _ (omega arith) c.min-before_end.ensures c.split_at.ensures.front_len c.split_at.ensures.back_len c.requires.blocks.whole in
    first_follows c.args.ring c.args.place _ _ parts c.args.unit _ c.split_at.ensures.by_index.0 _ _ c.write_part.ensures.follows

pub returns-then-is_empty-clause-follows : goal.returns-then-is_empty-clause-follows
returns-then-is_empty-clause-follows g c =
    let parts = in_parts c.args.ring c.args.place _ _ _ _ (omega arith) c.min-before_end.ensures c.split_at.ensures.front_len c.split_at.ensures.back_len c.requires.blocks.whole in
    first_follows c.args.ring c.args.place _ _ parts c.args.unit _ c.split_at.ensures.by_index.0 _ _ c.write_part.ensures.follows

pub returns-then-is_empty-clause-arrives : goal.returns-then-is_empty-clause-arrives
returns-then-is_empty-clause-arrives g c =
    let parts = in_parts c.args.ring c.args.place _ _ _ _ (omega arith) c.min-before_end.ensures c.split_at.ensures.front_len c.split_at.ensures.back_len c.requires.blocks.whole in
    first_arrives c.args.ring c.args.place _ _ parts c.args.unit _ c.split_at.ensures.by_index.0 _ _ (eqb-true _ 0 (sym c.is_empty.ensures ∙ c.if-is_empty.true)) c.in_ok-write_part.ensures.arrives

pub returns-else-is_empty-clause-follows : goal.returns-else-is_empty-clause-follows
returns-else-is_empty-clause-follows g c =
    let parts = in_parts c.args.ring c.args.place _ _ _ _ (omega arith) c.min-before_end.ensures c.split_at.ensures.front_len c.split_at.ensures.back_len c.requires.blocks.whole in
    both_follow c.args.ring c.args.place _ _ parts c.args.unit _ c.split_at.ensures.by_index.0 _ _ _ c.in_ok-write_part.ensures.arrives c.write_part.ensures.follows c.write_part-else-is_empty.ensures.follows

pub returns-else-is_empty-clause-arrives : goal.returns-else-is_empty-clause-arrives
returns-else-is_empty-clause-arrives g c =
    let parts = in_parts c.args.ring c.args.place _ _ _ _ (omega arith) c.min-before_end.ensures c.split_at.ensures.front_len c.split_at.ensures.back_len c.requires.blocks.whole in
    on_ok_weaker c.write_part-else-is_empty.result
    (both_arrive c.args.ring c.args.place _ _ parts c.args.unit _ c.split_at.ensures.by_index.0 _ _ _ c.in_ok-write_part.ensures.arrives)
    c.write_part-else-is_empty.ensures.arrives

pub returns-else-is_empty-clause-spends : goal.returns-else-is_empty-clause-spends
returns-else-is_empty-clause-spends g c = then_spends _ _ _ c.write_part.ensures.spends c.write_part-else-is_empty.ensures.spends

pub returns-then-is_empty-clause-least : goal.returns-then-is_empty-clause-least
returns-then-is_empty-clause-least g c = at_least 1 _ _ c.in_ok-write_part.ensures.calls

pub returns-else-is_empty-clause-least : goal.returns-else-is_empty-clause-least
returns-else-is_empty-clause-least g c = on_ok_weaker c.write_part-else-is_empty.result
    (λ made. at_least_fewer 1 2 (omega arith) _ _ (at_least 2 _ _ (then_calls 1 1 _ _ _ c.in_ok-write_part.ensures.calls made)))
    c.write_part-else-is_empty.ensures.calls

pub returns-else-is_empty-clause-works : goal.returns-else-is_empty-clause-works
returns-else-is_empty-clause-works g c = on_always c.write_part-else-is_empty.result c.in_ok-write_part.ensures.works

pub returns-else-is_empty-clause-names : goal.returns-else-is_empty-clause-names
returns-else-is_empty-clause-names g c = names_before (Unit {0}) _ _ _ _ c.write_part-else-is_empty.result c.write_part.ensures.spends.told c.write_part-else-is_empty.ensures.names
