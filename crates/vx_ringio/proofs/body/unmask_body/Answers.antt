-- `unmask_body`: clause is; what stays true in its loop over `k`.
use Rattle.std.proofs.Common.{◌≡◌, ◌∙◌, ap, sym, List, ℕ, true, false, refl}
use Rattle.std.specs.Prelude.{bytes_eq}
use Rattle.std.specs.Cmp.Lexicographic.{same_text}
use Rattle.std.proofs.lemmas.Cmp.{nat_list_eq_equiv}
use Rattle.vx_wire.specs.Seals.{digest_of}
use Rattle.vx_ringio.proofs.Masks.{unmask_more, unmasked_all}
use Rattle.vx_ringio.proofs.body.unmask_body.Goals as goal

alike : (xs ys : List ℕ) → xs ≡ ys → bytes_eq xs ys ≡ true
alike xs ys is = ap (λ (t : List ℕ). bytes_eq t ys) is ∙ nat_list_eq_equiv.refl ys

unlike : (xs ys : List ℕ) → bytes_eq xs ys ≡ false → ys ≡ xs → ⊥
unlike xs ys not is = let yes : bytes_eq xs ys ≡ true = alike xs ys (sym is) in cc

pub loop-k-preserved : goal.loop-k-preserved
loop-k-preserved c = unmask_more c.loop-k.k _ c.args.bytes.now c.loop-k.bytes c.loop-k-test.true c.requires.whole c.loop-k.invariant

pub returns-then-eq-clause-is : goal.returns-then-eq-clause-is
returns-then-eq-clause-is c = (
  unmasked_all c.loop-k.k _ c.args.bytes.now c.loop-k.bytes c.loop-k-test.false c.requires.whole c.loop-k.invariant,
  sym (same_text c.digest-computed.result c.args.head.now.digest (sym (sym c.eq.ensures ∙ c.if-eq.true))) ∙ c.digest-computed.ensures,
)

pub returns-else-eq-clause-is : goal.returns-else-eq-clause-is
returns-else-eq-clause-is c = (
  refl,
  c.digest-computed.ensures ∙ ap (λ (bytes : List ℕ). digest_of bytes) (unmasked_all c.loop-k.k _ c.args.bytes.now c.loop-k.bytes c.loop-k-test.false c.requires.whole c.loop-k.invariant),
  unlike c.digest-computed.result c.args.head.now.digest (sym c.eq.ensures ∙ c.if-eq.false),
)
