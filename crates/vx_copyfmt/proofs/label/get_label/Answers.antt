-- `get_label`: its result; what `whole_label` asks.
use Rattle.std.proofs.Common.{arith, ◌≡◌, ◌∙◌, sym, ap, true, false}
use Rattle.std.specs.Option.{is_some}
use Rattle.vx_wire.specs.Numbers.{be_bytes}
use Rattle.vx_wire.proofs.NumberLemmas.{magic_is}
use Rattle.vx_wire.proofs.SealLemmas.{from_sealed, sealed_from}
use Rattle.vx_copyfmt.specs.Labels.{label_magic, begins_label}
use Rattle.vx_copyfmt.proofs.LabelLemmas.{begins_from, from_begins, seen_none}
use Rattle.vx_copyfmt.proofs.Told.{not_both}
use Rattle.vx_copyfmt.proofs.label.get_label.Goals.{else-get_u64-eq-LABEL_MAGIC-via-then-get_u64-eq-LABEL_MAGIC+else-is_none, else-get_u64-eq-LABEL_MAGIC-via-else-get_u64-eq-LABEL_MAGIC}
use Rattle.vx_copyfmt.proofs.label.get_label.Goals as goal

pub whole_label-requires : goal.whole_label-requires
whole_label-requires c =
    begins_from c.args.block.now (sym c.get_u64.ensures.spelled ∙ ap (be_bytes 8) c.if-get_u64-eq-LABEL_MAGIC.true)
    (sealed_from c.broken_seal.result c.args.block.now c.broken_seal.ensures c.if-is_none.ensures)

pub returns-else-get_u64-eq-LABEL_MAGIC : goal.returns-else-get_u64-eq-LABEL_MAGIC
returns-else-get_u64-eq-LABEL_MAGIC c = seen_none c.args.block.now not_so
  where
    not_so : begins_label c.args.block.now ≡ true → ⊥
    not_so begins =
        let parts = from_begins c.args.block.now begins in
        elim c.else-get_u64-eq-LABEL_MAGIC.branch [
          | else-get_u64-eq-LABEL_MAGIC-via-then-get_u64-eq-LABEL_MAGIC+else-is_none w ↦
              let whole : is_some w.broken_seal.result ≡ false = from_sealed w.broken_seal.result c.args.block.now w.broken_seal.ensures parts.1 in
              not_both (sym whole ∙ w.if-is_none.ensures)
          | else-get_u64-eq-LABEL_MAGIC-via-else-get_u64-eq-LABEL_MAGIC w ↦
              w.if-get_u64-eq-LABEL_MAGIC.false (magic_is c.get_u64.result label_magic c.args.block.now (omega arith) (omega arith) c.get_u64.ensures.spelled parts.0)
        ]
