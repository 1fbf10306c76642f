-- `whole_record`: its result.
use Rattle.std.proofs.Common.{◌≡◌, ◌∙◌, ap, sym, subst, refl}
use Rattle.vx_wire.specs.Seals.{filled}
use Rattle.vx_wire.proofs.SealLemmas.{sealed-is}
use Rattle.vx_srlfmt.specs.Records.{record_fields, record_block, CanSpellHead}
use Rattle.vx_srlfmt.specs.declared.record.RecordHead.{RecordHead}
use Rattle.vx_srlfmt.proofs.RecordAgain.{head_in-is}
use Rattle.vx_srlfmt.proofs.RecordLaws.{front_record}
use Rattle.vx_srlfmt.proofs.Told.{not_both}
use Rattle.vx_srlfmt.proofs.record.whole_record.Goals.{else-can_spell-via-then-can_spell+else-is_spelled, else-can_spell-via-else-can_spell}
use Rattle.vx_srlfmt.proofs.record.whole_record.Goals as goal

pub returns-then-is_spelled : goal.returns-then-is_spelled
unfolding record_block
returns-then-is_spelled c = record {
  can = c.if-can_spell.ensures.0 refl;
  typed = c.is_typed.ensures;
  is = sealed-is c.args.block.now (record_fields c.read_head-head.result) (c.if-is_spelled.ensures.0 refl) c.requires;
}

pub returns-else-can_spell : goal.returns-else-can_spell
returns-else-can_spell c = (
  λ r is.
      let same : r ≡ c.read_head-head.result = sym (c.read_head-head.ensures ∙ head_in-is c.args.block.now r is) in
      elim c.else-can_spell.branch [
        | else-can_spell-via-then-can_spell+else-is_spelled w ↦
            not_both (w.if-is_spelled.ensures.1 ((front_record c.args.block.now r is).0 ∙ ap (λ (h : RecordHead). filled (record_fields h)) same))
        | else-can_spell-via-else-can_spell w ↦ not_both (w.if-can_spell.ensures.1 (subst CanSpellHead same is.can))
      ],
  λ damaged. damaged.broken c.requires,
)
