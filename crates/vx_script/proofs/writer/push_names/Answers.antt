-- `push_names`: what stays true in its loop over `i`.
use Rattle.std.proofs.Common.{◌∙◌, ◌<◌, sym, ap, List, ◌++◌, ℕ, take, length, append_assoc, arith}
use Rattle.std.specs.List.{join_with_byte}
use Rattle.vx_script.specs.Tokens.{comma_name}
use Rattle.vx_script.proofs.NamesLemmas.{join_next}
use Rattle.vx_script.proofs.writer.push_names.Goals as goal

pub loop-i-preserved : goal.loop-i-preserved
loop-i-preserved c =
    let h : c.loop-i.i < length c.args.names.now = omega arith in
    let joined : List ℕ = join_with_byte 44 (take c.loop-i.i c.args.names.now) in
    c.in_ok-push_one.ensures
    ∙ ap (λ (xs : List ℕ). xs ++ comma_name c.loop-i.i c.index-names-i.result) c.loop-i.invariant
    ∙ append_assoc c.push_word.new.out.items joined (comma_name c.loop-i.i c.index-names-i.result)
    ∙ ap (λ (r : List ℕ). c.push_word.new.out.items ++ r)
    (ap (λ (n : List ℕ). joined ++ comma_name c.loop-i.i n) c.index-names-i.is ∙ sym (join_next c.args.names.now c.loop-i.i c.index-names-i.result h))
