-- The lines of a list of entries, with one more or another in place.
use Rattle.std.proofs.Common.{◌≡◌, ℕ, zero, suc, ◌<◌, Bool, true, false, List, [], ◌∷◌, ◌++◌, length, get_or, refl, sym, ap, ◌∙◌, arith, subst}
use Rattle.std.specs.Prelude.{if◌then◌else◌}
use Rattle.std.proofs.Math.ListN.{set, get_or-append}
use Rattle.std.proofs.Math.Seq.{get_or-append_seam}
use Rattle.std.proofs.lemmas.List.{length-append}
use Rattle.std.proofs.Math.Path.{fun_ext}
use Rattle.vx_history.specs.World.{no_history, line_updated, History as PlainHistory}
use Rattle.vx_model.specs.Sites.{same_line}
use Rattle.vx_model.specs.declared.history.Line.{Line}
use Rattle.vx_history.proofs.Updates.{same_line_equal, same_line_self}
use Rattle.vx_sites.specs.declared.history.History.{History}
use Rattle.vx_sites.specs.declared.history.Entry.{Entry}
use Rattle.vx_sites.specs.Shapes.{history_of, lines_of, IsEntry, IsNewLine}

-- one more line of which nothing is recorded
pub lines-push : (es : List Entry) (e : Entry) → history_of e.history ≡ no_history → lines_of (es ++ e ∷ []) ≡ lines_of es
lines-push es e h = fun_ext (at_line es)
  where
    at_line : (xs : List Entry) (k : Line) → lines_of (xs ++ e ∷ []) k ≡ lines_of xs k
    at_line [] k = last (same_line k e.line)
      where
        last : (b : Bool) → (if b then history_of e.history else no_history) ≡ no_history
        last true = h
        last false = refl
    at_line (x ∷ xs) k = ap (λ (rest : PlainHistory). if same_line k x.line then history_of x.history else rest) (at_line xs k)

first_line_is : (es : List Entry) (i : ℕ) (line : Line) (d : Entry) → i < length es → same_line line (get_or es i d).line ≡ true
    → ((k : ℕ) → k < i → same_line line (get_or es k d).line ≡ false) → lines_of es line ≡ history_of (get_or es i d).history
first_line_is [] i line d h here first = absurd (omega arith)
first_line_is (e ∷ es) zero line d h here first = ap (λ (b : Bool). if b then history_of e.history else lines_of es line) here
first_line_is (e ∷ es) (suc i) line d h here first =
    ap (λ (b : Bool). if b then history_of e.history else lines_of es line) (first 0 (omega arith))
    ∙ first_line_is es i line d (omega arith) here (λ k lt. first (suc k) (omega arith))

twice : (b : Bool) (x y z : PlainHistory) → (if b then x else z) ≡ (if b then x else (if b then y else z))
twice true x y z = refl
twice false x y z = refl

swapped : (a b : Bool) (x y z : PlainHistory) → (a ≡ true → b ≡ true → ⊥) → (if a then x else (if b then y else z)) ≡ (if b then y else (if a then x else z))
swapped true true x y z apart = absurd (apart refl refl)
swapped true false x y z apart = refl
swapped false b x y z apart = refl

set_at_line : (es : List Entry) (i : ℕ) (line : Line) (d : Entry) (h : History) → i < length es → same_line line (get_or es i d).line ≡ true
    → ((k : ℕ) → k < i → same_line line (get_or es k d).line ≡ false)
    → (k : Line) → lines_of (set es i (record { line = (get_or es i d).line; history = h })) k ≡ line_updated (lines_of es) line (history_of h) k
set_at_line [] i line d h lt here first k = absurd (omega arith)
set_at_line (e ∷ es) zero line d h lt here first k =
    twice (same_line k e.line) (history_of h) (history_of e.history) (lines_of es k)
    ∙ ap (λ (l : Line). if same_line k l then history_of h else lines_of (e ∷ es) k) (sym (same_line_equal line e.line here))
set_at_line (e ∷ es) (suc i) line d h lt here first k =
    ap (λ (rest : PlainHistory). if same_line k e.line then history_of e.history else rest) (set_at_line es i line d h (omega arith) here (λ j below. first (suc j) (omega arith)) k)
    ∙ swapped (same_line k e.line) (same_line k line) (history_of e.history) (history_of h) (lines_of es k) apart
  where
    apart : same_line k e.line ≡ true → same_line k line ≡ true → ⊥
    apart a b =
        let other : same_line line e.line ≡ false = first 0 (omega arith) in
        let same : same_line line e.line ≡ true = subst (λ (l : Line). same_line l e.line ≡ true) (same_line_equal k line b) a in
        absurd (cc)

-- the entry at its place tells what is recorded of the line
pub entry_is : (es : List Entry) (line : Line) (i : ℕ) (e : Entry) → IsEntry es line i → e ≡ get_or es i e → lines_of es line ≡ history_of e.history
entry_is es line i e h is =
    first_line_is es i line e h.within (h.here e) (λ k lt. h.first k e lt) ∙ ap (λ (x : Entry). history_of x.history) (sym is)

pub entry_set : (es : List Entry) (line : Line) (i : ℕ) (e : Entry) (h : History) → IsEntry es line i → e ≡ get_or es i e
    → lines_of (set es i (record { line = e.line; history = h })) ≡ line_updated (lines_of es) line (history_of h)
entry_set es line i e h there is =
    ap (λ (x : Entry). lines_of (set es i (record { line = x.line; history = h }))) is
    ∙ fun_ext (λ k. set_at_line es i line e h there.within (there.here e) (λ j lt. there.first j e lt) k)

-- behind the entries of other lines
pub entry_pushed : (es : List Entry) (line : Line) (e : Entry) → IsNewLine es line → e.line ≡ line → IsEntry (es ++ e ∷ []) line (length es)
entry_pushed es line e others is = record {
  within = omega (arith, length-append es (e ∷ []));
  here = λ d. rw (get_or-append_seam es e [] d) (subst (λ (l : Line). same_line line l ≡ true) (sym is) (same_line_self line));
  first = λ k d lt. rw (get_or-append es (e ∷ []) d k lt) (others k d lt);
}

-- what is recorded of the line changes
pub line_changed : (es old : List Entry) (line : Line) (i : ℕ) (e : Entry) (h : History) (change : PlainHistory → PlainHistory) → IsEntry es line i → e ≡ get_or es i e
    → lines_of es ≡ lines_of old → history_of h ≡ change (history_of e.history)
    → lines_of (set es i (record { line = e.line; history = h })) ≡ line_updated (lines_of old) line (change (lines_of old line))
line_changed es old line i e h change there is same changed =
    let was : lines_of old line ≡ history_of e.history = ap (λ (f : Line → PlainHistory). f line) (sym same) ∙ entry_is es line i e there is in
    entry_set es line i e h there is
    ∙ ap (λ (f : Line → PlainHistory). line_updated f line (history_of h)) same
    ∙ ap (λ (x : PlainHistory). line_updated (lines_of old) line x) (changed ∙ ap change (sym was))
