-- `broken_seal`: its result.
use Rattle.std.proofs.Common.{arith, ◌≡◌, ◌∙◌, sym, drop, true, false}
use lib.Pointwise.{pointwise}
use Rattle.std.specs.Prelude.{nat_eq}
use Rattle.std.proofs.lemmas.Cmp.{nat_list_eq_equiv}
use Rattle.std.specs.Cmp.Lexicographic.{same_text}
use Rattle.std.proofs.lemmas.List.{take_all, length-drop}
use Rattle.vx_wire.proofs.sealed.broken_seal.Goals as goal

pub returns-then-eq : goal.returns-then-eq
returns-then-eq c =
    let stored : c.get_bytes-stored.result ≡ drop 480 c.args.block.now = c.get_bytes-stored.ensures ∙ take_all 32 (drop 480 c.args.block.now) (omega (arith, length-drop 480 c.args.block.now)) in
    sym stored ∙ same_text c.get_bytes-stored.result c.digest-computed.result (sym c.if-eq.true ∙ c.eq.ensures) ∙ c.digest-computed.ensures

pub returns-else-eq : goal.returns-else-eq
returns-else-eq c =
    let stored : c.get_bytes-stored.result ≡ drop 480 c.args.block.now = c.get_bytes-stored.ensures ∙ take_all 32 (drop 480 c.args.block.now) (omega (arith, length-drop 480 c.args.block.now)) in
    record {
      stored = stored;
      computed = c.digest-computed.ensures;
      differ = λ is.
          let same : c.get_bytes-stored.result ≡ c.digest-computed.result = stored ∙ is ∙ sym c.digest-computed.ensures in
          let alike : pointwise nat_eq c.get_bytes-stored.result c.digest-computed.result ≡ true = rw same (nat_list_eq_equiv.refl c.digest-computed.result) in
          let both : false ≡ true = sym c.if-eq.false ∙ c.eq.ensures ∙ alike in
          cc;
    }
