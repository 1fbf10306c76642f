-- `get_record`: clauses seen, only and damaged.
use Rattle.std.proofs.Common.{arith, ◌≡◌, take}
use Rattle.vx_wire.specs.Numbers.{be_bytes}
use Rattle.vx_wire.proofs.NumberLemmas.{magic_is}
use Rattle.vx_srlfmt.specs.Records.{record_magic}
use Rattle.vx_srlfmt.proofs.RecordAgain.{begins_record}
use Rattle.vx_srlfmt.proofs.RecordLaws.{front_record, seen_only, seen_damaged}
use Rattle.vx_srlfmt.proofs.record.get_record.Goals as goal

pub returns-then-get_u64-ne-RECORD_MAGIC-clause-seen : goal.returns-then-get_u64-ne-RECORD_MAGIC-clause-seen
returns-then-get_u64-ne-RECORD_MAGIC-clause-seen c =
    let other : take 8 c.args.block.now ≡ be_bytes 8 record_magic → ⊥ = λ begins. c.if-get_u64-ne-RECORD_MAGIC.true (magic_is c.get_u64.result record_magic c.args.block.now (omega arith) (omega arith) c.get_u64.ensures.spelled begins) in
    (λ r is. other (begins_record c.args.block.now r is), λ damaged. other damaged.begins)

pub returns-then-get_u64-ne-RECORD_MAGIC-clause-only : goal.returns-then-get_u64-ne-RECORD_MAGIC-clause-only
returns-then-get_u64-ne-RECORD_MAGIC-clause-only c = seen_only c.args.block.now _ (returns-then-get_u64-ne-RECORD_MAGIC-clause-seen c)

pub returns-then-get_u64-ne-RECORD_MAGIC-clause-damaged : goal.returns-then-get_u64-ne-RECORD_MAGIC-clause-damaged
returns-then-get_u64-ne-RECORD_MAGIC-clause-damaged c = seen_damaged c.args.block.now _ (returns-then-get_u64-ne-RECORD_MAGIC-clause-seen c)

pub returns-in-Some-clause-only : goal.returns-in-Some-clause-only
returns-in-Some-clause-only c r is = absurd (c.in-Some.ensures.differ (front_record c.args.block.now r is).1)

pub returns-in-None-clause-only : goal.returns-in-None-clause-only
returns-in-None-clause-only c = seen_only c.args.block.now c.whole_record.result c.whole_record.ensures
