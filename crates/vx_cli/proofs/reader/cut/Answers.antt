-- `cut`: clause cut.
use Rattle.std.proofs.Common.{◌≡◌, ◌<◌, ℕ, List, false, eqb, get_or, length, take, refl, subst, arith, ◌∙◌, ap}
use Rattle.vx_script.specs.Lines.{without_return}
use Rattle.vx_cli.proofs.ReaderLemmas.{cut_true, cut_false}
use Rattle.vx_cli.proofs.reader.cut.Goals as goal

pub returns-then-end-len-clause-cut : goal.returns-then-end-len-clause-cut
returns-then-end-len-clause-cut c =
    let all : c.first_newline-end.result ≡ length c.args.held.now.items = omega arith in
    let before = subst (λ (xs : List ℕ). (k : ℕ) → k < c.first_newline-end.result → eqb (get_or xs k 0) 10 ≡ false) c.deref.ensures.value c.first_newline-end.ensures.before in
    cut_false c.args.held.now.items c.args.line.now.items c.args.held.now.items c.first_newline-end.result all before refl

pub returns-clause-cut : goal.returns-clause-cut
returns-clause-cut c =
    let below : c.first_newline-end.result < length c.args.held.now.items = omega arith in
    let before = subst (λ (xs : List ℕ). (k : ℕ) → k < c.first_newline-end.result → eqb (get_or xs k 0) 10 ≡ false) c.deref.ensures.value c.first_newline-end.ensures.before in
    let here = subst (λ (xs : List ℕ). c.first_newline-end.result < length xs → get_or xs c.first_newline-end.result 0 ≡ 10) c.deref.ensures.value c.first_newline-end.ensures.found below in
    let line : c.extend_from_slice.new.self.items ≡ take c.first_newline-end.result c.args.held.now.items = grind arith in
    cut_true c.args.held.now.items c.strip_return.new.line.items c.drop_front.new.held.items c.first_newline-end.result below before here (c.strip_return.ensures ∙ ap without_return line) c.drop_front.ensures
