-- `whole_label`: its result.
use Rattle.std.proofs.Common.{◌∙◌, sym}
use Rattle.vx_copyfmt.proofs.LabelLemmas.{seen_format, seen_label, seen_other}
use Rattle.vx_copyfmt.proofs.Told.{not_both}
use Rattle.vx_copyfmt.proofs.label.whole_label.Goals as goal

pub returns-then-version-ne-VERSION : goal.returns-then-version-ne-VERSION
returns-then-version-ne-VERSION c = seen_format c.args.block.now c.get_u32-version.result c.requires c.get_u32-version.ensures.number c.if-version-ne-VERSION.true

pub returns-then-is_spelled : goal.returns-then-is_spelled
returns-then-is_spelled c =
    seen_label c.args.block.now c.read_label-label.result c.requires (sym c.if-version-ne-VERSION.false ∙ c.get_u32-version.ensures.number) c.read_label-label.ensures (c.is_spelled.ensures.0 c.if-is_spelled.true)

pub returns-else-is_spelled : goal.returns-else-is_spelled
returns-else-is_spelled c =
    seen_other c.args.block.now c.read_label-label.result c.requires (sym c.if-version-ne-VERSION.false ∙ c.get_u32-version.ensures.number) c.read_label-label.ensures
    (λ same. not_both (c.if-is_spelled.ensures.1 same))
