-- `get_area`: its result.
use Rattle.std.proofs.Common.{◌≡◌, ◌∙◌, ap, sym, subst, false, refl}
use Rattle.std.specs.Option.{is_some}
use Rattle.vx_wire.specs.Seals.{filled}
use Rattle.vx_wire.proofs.SealLemmas.{from_sealed, sealed-is, sealed_from}
use Rattle.vx_copyfmt.specs.Areas.{area_fields, area_block, CanSpellArea, IsArea}
use Rattle.vx_copyfmt.specs.declared.area.AreaHeader.{AreaHeader}
use Rattle.vx_copyfmt.proofs.AreaLemmas.{area_in-is, front_area, header_of-is, header_of-none}
use Rattle.vx_copyfmt.proofs.Told.{not_both}
use Rattle.vx_copyfmt.proofs.area.get_area.Goals.{else-can_spell-via-then-can_spell+then-is_spelled+else-is_none, else-can_spell-via-then-can_spell+else-is_spelled, else-can_spell-via-else-can_spell}
use Rattle.vx_copyfmt.proofs.area.get_area.Goals as goal

pub returns-then-is_none : goal.returns-then-is_none
unfolding area_block
returns-then-is_none c =
    let is : IsArea c.args.block.now c.read_area-header.result = record {
      can = c.if-can_spell.ensures.0 refl;
      typed = c.is_typed.ensures;
      is = sealed-is c.args.block.now (area_fields c.read_area-header.result) (c.if-is_spelled.ensures.0 refl) (sealed_from c.broken_seal.result c.args.block.now c.broken_seal.ensures c.if-is_none.ensures);
    } in
    sym (header_of-is c.args.block.now c.read_area-header.result is)

pub returns-else-can_spell : goal.returns-else-can_spell
returns-else-can_spell c = sym (header_of-none c.args.block.now none)
  where
    none : (h : AreaHeader) → IsArea c.args.block.now h → ⊥
    none h is =
        let same : h ≡ c.read_area-header.result = sym (c.read_area-header.ensures ∙ area_in-is c.args.block.now h is) in
        let parts = front_area c.args.block.now h is in
        elim c.else-can_spell.branch [
          | else-can_spell-via-then-can_spell+then-is_spelled+else-is_none w ↦
              let whole : is_some w.broken_seal.result ≡ false = from_sealed w.broken_seal.result c.args.block.now w.broken_seal.ensures parts.1 in
              not_both (sym whole ∙ w.if-is_none.ensures)
          | else-can_spell-via-then-can_spell+else-is_spelled w ↦ not_both (w.if-is_spelled.ensures.1 (parts.0 ∙ ap (λ (g : AreaHeader). filled (area_fields g)) same))
          | else-can_spell-via-else-can_spell w ↦ not_both (w.if-can_spell.ensures.1 (subst CanSpellArea same is.can))
        ]
