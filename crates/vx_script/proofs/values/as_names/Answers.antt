-- `as_names`: its result.
use Rattle.std.proofs.Common.{◌≡◌, ◌∙◌, sym, ap, subst, List, [], ◌∷◌, ◌++◌, ℕ, Some, None, take}
use Rattle.std.specs.List.{position_or_len}
use Rattle.vx_script.proofs.NamesLemmas.{front_none, one_more_name, last_name, wrong_name}
use Rattle.vx_script.specs.Words.{word_name, names_of, with_front, is_comma}
use Rattle.vx_script.proofs.values.as_names.Goals as goal

pub parts-init : goal.parts-init
parts-init c = subst (λ (ns : List (List ℕ)). names_of c.args.word.now ≡ with_front ns (names_of c.args.word.now)) (sym c.new-names.ensures) (front_none (names_of c.args.word.now))

pub returns-in-None : goal.returns-in-None
returns-in-None c =
    let e : word_name (take (position_or_len is_comma c.parts.rest.now) c.parts.rest.now) ≡ None = ap word_name (sym c.split_comma.ensures.part) ∙ sym c.as_name.ensures ∙ c.in-None.is in
    c.parts.invariant ∙ wrong_name c.parts.names c.parts.rest.now e

pub parts-preserved : goal.parts-preserved
parts-preserved c =
    let m = rw c.in-Some-more.is at c.split_comma.ensures.more in
    let e : word_name (take (position_or_len is_comma c.parts.rest.now) c.parts.rest.now) ≡ Some c.in-Some.name = ap word_name (sym c.split_comma.ensures.part) ∙ sym c.as_name.ensures ∙ c.in-Some.is in
    c.parts.invariant
    ∙ one_more_name c.parts.names c.in-Some.name c.parts.rest.now m.0 e
    ∙ ap (λ (r : List ℕ). with_front (c.parts.names ++ c.in-Some.name ∷ []) (names_of r)) (sym m.1)
    ∙ ap (λ (ns : List (List ℕ)). with_front ns (names_of c.in-Some-more.others.now)) (sym c.in_ok-push-in-Some.ensures)

pub returns-in-None-more : goal.returns-in-None-more
returns-in-None-more c =
    let m = rw c.in-None-more.is at c.split_comma.ensures.more in
    let e : word_name (take (position_or_len is_comma c.parts.rest.now) c.parts.rest.now) ≡ Some c.in-Some.name = ap word_name (sym c.split_comma.ensures.part) ∙ sym c.as_name.ensures ∙ c.in-Some.is in
    c.parts.invariant
    ∙ last_name c.parts.names c.in-Some.name c.parts.rest.now m e
    ∙ ap (λ (ns : List (List ℕ)). Some ns) (sym c.in_ok-push-in-Some.ensures)
