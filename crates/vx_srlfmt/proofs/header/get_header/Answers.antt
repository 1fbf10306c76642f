-- `get_header`: clauses found and only; what `can_spell` asks.
use Rattle.std.proofs.Common.{arith, ◌≡◌, ◌≤◌, ◌∙◌, ap, sym, subst, List, ℕ, length, take, false, Some, refl}
use Rattle.std.specs.Option.{is_some}
use Rattle.vx_wire.specs.Seals.{filled, IsSealed}
use Rattle.vx_wire.proofs.SealLemmas.{take-sealed, IsSealed-sealed, sealed-is, from_sealed, sealed_from}
use Rattle.vx_srlfmt.specs.Headers.{header_fields, header_block, CanSpellHeader, IsHeader}
use Rattle.vx_srlfmt.specs.declared.header.Header.{Header}
use Rattle.vx_srlfmt.proofs.HeaderAgain.{Agrees-header_in, few-header_in, header_in-is}
use Rattle.vx_srlfmt.proofs.Lengths.{length-header_fields}
use Rattle.vx_srlfmt.proofs.Told.{not_both}
use Rattle.vx_srlfmt.proofs.header.get_header.Goals.{else-can_spell-via-then-can_spell+then-is_spelled+else-is_none, else-can_spell-via-then-can_spell+else-is_spelled, else-can_spell-via-else-can_spell}
use Rattle.vx_srlfmt.proofs.header.get_header.Goals as goal

pub can_spell-requires-clause-role : goal.can_spell-requires-clause-role
can_spell-requires-clause-role c = rw c.read_header-header.ensures.header (Agrees-header_in c.args.block.now)

pub can_spell-requires-clause-few : goal.can_spell-requires-clause-few
can_spell-requires-clause-few c = rw c.read_header-header.ensures.header (few-header_in c.args.block.now)

pub returns-then-is_none-clause-found : goal.returns-then-is_none-clause-found
unfolding header_block
returns-then-is_none-clause-found c = record {
  can = c.if-can_spell.ensures.0 refl;
  typed = c.read_header-header.ensures.typed;
  place = c.read_header-header.ensures.place;
  is = sealed-is c.args.block.now (header_fields c.read_header-header.result) (c.if-is_spelled.ensures.0 refl) (sealed_from c.broken_seal.result c.args.block.now c.broken_seal.ensures c.if-is_none.ensures);
}

pub returns-then-is_none-clause-only : goal.returns-then-is_none-clause-only
returns-then-is_none-clause-only c h is = ap Some (c.read_header-header.ensures.header ∙ header_in-is c.args.block.now h is)

-- a header's block has its fields and a good digest
front : (block : List ℕ) (h : Header) → IsHeader block h → (take 480 block ≡ filled (header_fields h)) × IsSealed block
unfolding header_block
front block h is =
    let few : length (header_fields h) ≤ 480 = omega (arith, length-header_fields h, is.can.state.few) in
    (ap (take 480) is.is ∙ take-sealed (header_fields h) few, subst IsSealed (sym is.is) (IsSealed-sealed (header_fields h) few))

pub returns-else-can_spell-clause-only : goal.returns-else-can_spell-clause-only
returns-else-can_spell-clause-only c h is =
    let same : h ≡ c.read_header-header.result = sym (c.read_header-header.ensures.header ∙ header_in-is c.args.block.now h is) in
    let parts : (take 480 c.args.block.now ≡ filled (header_fields h)) × IsSealed c.args.block.now = front c.args.block.now h is in
    elim c.else-can_spell.branch [
      | else-can_spell-via-then-can_spell+then-is_spelled+else-is_none w ↦
          let none : is_some w.broken_seal.result ≡ false = from_sealed w.broken_seal.result c.args.block.now w.broken_seal.ensures parts.1 in
          absurd (not_both (sym none ∙ w.if-is_none.ensures))
      | else-can_spell-via-then-can_spell+else-is_spelled w ↦ absurd (not_both (w.if-is_spelled.ensures.1 (parts.0 ∙ ap (λ (g : Header). filled (header_fields g)) same)))
      | else-can_spell-via-else-can_spell w ↦ absurd (not_both (w.if-can_spell.ensures.1 (subst CanSpellHeader same is.can)))
    ]
