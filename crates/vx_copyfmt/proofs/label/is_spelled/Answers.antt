-- `is_spelled`: its result.
use Rattle.std.proofs.Common.{arith, ◌≡◌, ◌≤◌, ◌∙◌, sym, ap, List, ℕ, length, take, replicate}
use lib.Pointwise.{pointwise}
use Rattle.std.specs.Prelude.{nat_eq}
use Rattle.std.specs.Cmp.Lexicographic.{same_text}
use Rattle.std.proofs.lemmas.Cmp.{nat_list_eq_equiv}
use Rattle.vx_wire.specs.Seals.{filled}
use Rattle.vx_wire.proofs.SealLemmas.{length-filled}
use Rattle.vx_copyfmt.specs.Labels.{label_fields}
use Rattle.vx_wire.proofs.PlaceLemmas.{put_at-whole}
use Rattle.vx_copyfmt.proofs.LabelLemmas.{length-label_table}
use Rattle.vx_copyfmt.proofs.label.is_spelled.Goals as goal

pub returns : goal.returns
returns c =
    let front : List ℕ = filled (label_fields c.args.label.now) in
    let few : length (label_fields c.args.label.now) ≤ 480 = omega (arith, length-label_table c.args.label.now) in
    let again : c.put_front.new.into ≡ front = c.put_front.ensures ∙ put_at-whole front (replicate 480 0) (length-filled (label_fields c.args.label.now) few) in
    let told : c.eq.result ≡ pointwise nat_eq front (take 480 c.args.block.now) = c.eq.ensures ∙ ap (λ (a : List ℕ). pointwise nat_eq a (take 480 c.args.block.now)) again in (
      λ yes. sym (same_text front (take 480 c.args.block.now) (sym yes ∙ told)),
      λ same. told ∙ ap (λ (a : List ℕ). pointwise nat_eq front a) same ∙ nat_list_eq_equiv.refl front,
    )
