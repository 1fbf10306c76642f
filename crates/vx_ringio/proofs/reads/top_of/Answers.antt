-- `top_of`: clauses is and of_ring.
use Rattle.std.proofs.Common.{◌≡◌, ℕ, List, Option, Some, None}
use Rattle.vx_srlfmt.specs.Headers.{IsHeader}
use Rattle.vx_srlfmt.specs.declared.header.Header.{Header}
use Rattle.vx_ringio.proofs.Classing.{class_top}
use Rattle.vx_ringio.proofs.Seeing.{is_of, is_of_other, of_other_ring, no_top, not_begun, begun, broken_top}
use Rattle.vx_ringio.proofs.reads.top_of.Goals as goal

none_found : (b : List ℕ) (found : Option Header) → found ≡ None → ((h : Header) → IsHeader b h → found ≡ Some h) → (h : Header) → IsHeader b h → ⊥
none_found b found none only h is = let some : found ≡ Some h = only h is in cc

pub returns-then-header-clause-is : goal.returns-then-header-clause-is
returns-then-header-clause-is c = class_top c.args.ring _ _ c.in-Some.ensures.found (is_of c.args.ring c.in-Some.header c.if-header-ring.true c.if-header-gt0.true c.if-header.true)

pub returns-then-header-clause-of_ring : goal.returns-then-header-clause-of_ring
returns-then-header-clause-of_ring c = (c.in-Some.ensures.found.can, is_of c.args.ring c.in-Some.header c.if-header-ring.true c.if-header-gt0.true c.if-header.true)

pub returns-in-Some-clause-is : goal.returns-in-Some-clause-is
returns-in-Some-clause-is c = of_other_ring c.args.ring _ c.in-Some.header c.in-Some.ensures.found (is_of_other c.args.ring c.in-Some.header c.else-header-ring.either)

pub returns-then-get_u64-ne-HEADER_MAGIC-clause-is : goal.returns-then-get_u64-ne-HEADER_MAGIC-clause-is
returns-then-get_u64-ne-HEADER_MAGIC-clause-is c = (
  no_top c.args.ring _ (none_found _ _ c.in_default.is c.get_header.ensures.only),
  not_begun _ _ c.get_u64.ensures.number c.if-get_u64-ne-HEADER_MAGIC.true,
)

pub returns-in-Some-broken_seal-clause-is : goal.returns-in-Some-broken_seal-clause-is
returns-in-Some-broken_seal-clause-is c =
    broken_top c.args.ring _ c.in-Some-broken_seal.broken (none_found _ _ c.in_default.is c.get_header.ensures.only)
    (begun _ _ c.get_u64.ensures.spelled c.if-get_u64-ne-HEADER_MAGIC.false) c.in-Some-broken_seal.ensures

pub returns-in-None-clause-is : goal.returns-in-None-clause-is
returns-in-None-clause-is c = (no_top c.args.ring _ (none_found _ _ c.in_default.is c.get_header.ensures.only), (λ damaged. damaged.broken c.in-None.ensures))
