-- The reader of lines, over plain lists.
use Rattle.std.proofs.Common.{◌≡◌, ◌≤◌, ◌<◌, ℕ, ◌+◌, ◌-◌, Bool, true, false, List, [], ◌∷◌, ◌++◌, length, take, drop, get_or, Option, Some, None, Result, Ok, Err, refl, arith, ◌∙◌, ap, eqb, sym, subst, append_assoc}
use Rattle.std.proofs.lemmas.List.{take-append-drop, drop_more, get_or-take, length-take}
use Rattle.vx_script.specs.Lines.{split_lines, whole_lines_of, without_return, HasNoNewline}
use Rattle.vx_script.proofs.LineLemmas.{plain_from, lines_of_line, whole_lines_of_line, lines_of_last, lines_of_long, BeginsLong, without_return_strips, without_return_keeps}
use Rattle.vx_cli.specs.Reading.{Ahead, FollowsInput, FillIs, CutIs, NextIs, IsByteAhead, MoreIs}
use Rattle.vx_cli.specs.declared.reader.ReadError.{ReadError}
use Rattle.vx_cli.specs.declared.reader.ReadError.TheVariants.{Fault, Memory}
use Rattle.vx_cli.specs.declared.reader.Next.TheVariants.{Line, Last, End, Long}

-- something may be ahead
pub ahead_some : (held : List ℕ) (left : Option (List ℕ)) → (bytes : List ℕ) × Ahead held left bytes
ahead_some held None = (held ++ [], record { rest = []; has = tt; is = refl })
ahead_some held (Some told) = (held ++ told, record { rest = told; has = refl; is = refl })

pub follows_same : (held : List ℕ) (left : Option (List ℕ)) → FollowsInput held left [] held left
follows_same held left = record { before = λ bytes ahead. ahead }

pub follows_then : (a b c : List ℕ) (u v w : Option (List ℕ)) (done : List ℕ) → FollowsInput a u [] b v → FollowsInput b v done c w → FollowsInput a u done c w
follows_then a b c u v w done first second = record { before = λ bytes ahead. first.before (done ++ bytes) (second.before bytes ahead) }

split_at : (xs : List ℕ) (n : ℕ) → n < length xs → get_or xs n 0 ≡ 10 → xs ≡ take n xs ++ 10 ∷ drop (n + 1) xs
split_at xs n below here =
    sym (take-append-drop n xs) ∙ ap (λ (t : List ℕ). take n xs ++ t) (drop_more xs n 0 below ∙ ap (λ (b : ℕ). b ∷ drop (n + 1) xs) here)

-- a line was cut off at a newline
pub cut_true : (held line new : List ℕ) (n : ℕ) → n < length held → ((k : ℕ) → k < n → eqb (get_or held k 0) 10 ≡ false)
    → get_or held n 0 ≡ 10 → line ≡ without_return (take n held) → new ≡ drop (n + 1) held → CutIs true held line new
cut_true held line new n below before here is rest =
    let len : length (take n held) ≡ n = omega (arith, length-take n held) in (
      take n held,
      plain_from (take n held) (λ k small. let lt : k < n = omega arith in subst (λ (b : ℕ). eqb b 10 ≡ false) (sym (get_or-take n held k 0 lt)) (before k lt)),
      split_at held n below here ∙ ap (λ (t : List ℕ). take n held ++ 10 ∷ t) (sym rest),
      is,
    )

pub cut_false : (held line new : List ℕ) (n : ℕ) → n ≡ length held → ((k : ℕ) → k < n → eqb (get_or held k 0) 10 ≡ false) → new ≡ held → CutIs false held line new
cut_false held line new n all before same = (plain_from held (λ k small. before k (omega arith)), same)

pub stripped : (line new : List ℕ) → 0 < length line → get_or line (length line - 1) 0 ≡ 13 → new ≡ take (length line - 1) line → new ≡ without_return line
stripped line new some e is = is ∙ sym (without_return_strips line (length line - 1) (omega arith) e)

pub unstripped : (line : List ℕ) → (0 < length line → eqb (get_or line (length line - 1) 0) 13 ≡ false) → line ≡ without_return line
unstripped line h =
    sym (without_return_keeps line (λ n len. let at : n ≡ length line - 1 = omega arith in subst (λ (m : ℕ). eqb (get_or line m 0) 13 ≡ false) (sym at) (h (omega arith))))

-- where nothing was held, what was taken is ahead
pub more_is : (r : Result Bool ReadError) (held new : List ℕ) (left now : Option (List ℕ))
    → held ≡ [] → FillIs held left r new now → (r ≡ Ok true → length held < length new) → MoreIs held left r new now
more_is (Ok true) held [] left now none is some = absurd (omega (arith, some refl))
more_is (Ok true) held (b ∷ new) left now none is some =
    let some = ahead_some (b ∷ new) now in let at = some.1 in
    record { first = b; others = new ++ at.rest; ahead = is.before (b ∷ new ++ at.rest) (record { rest = at.rest; has = at.has; is = refl }) }
more_is (Ok false) held new left now none is some = (subst (Ahead held left) none is.2, is.1)
more_is (Err Fault) held new left now none is some = (is.0 ∙ none, is.1)
more_is (Err Memory) held new left now none is some = tt

pub more_held : (held : List ℕ) (left : Option (List ℕ)) → 0 < length held → IsByteAhead held left
more_held [] left some = absurd (omega arith)
more_held (b ∷ held) left some =
    let some = ahead_some (b ∷ held) left in let at = some.1 in
    record { first = b; others = held ++ at.rest; ahead = record { rest = at.rest; has = at.has; is = refl } }

follows_cut : (held raw new : List ℕ) (left : Option (List ℕ)) → held ≡ raw ++ 10 ∷ new → FollowsInput held left (raw ++ 10 ∷ []) new left
follows_cut held raw new left cut = record {
  before = λ bytes ahead. record {
    rest = ahead.rest;
    has = ahead.has;
    is = append_assoc raw (10 ∷ []) bytes ∙ ap (λ (t : List ℕ). raw ++ 10 ∷ t) ahead.is ∙ sym (append_assoc raw (10 ∷ new) ahead.rest) ∙ ap (λ (t : List ℕ). t ++ ahead.rest) (sym cut);
  };
}

-- a line that was cut off is the next one
pub next_cut : (first held line new : List ℕ) (left0 left : Option (List ℕ)) → CutIs true held line new → FollowsInput first left0 [] held left → NextIs first left0 (Ok Line) line new left
next_cut first held line new left0 left cut before = (
  cut.0 ++ 10 ∷ [],
  record {
    lines = λ tail. ap split_lines (append_assoc cut.0 (10 ∷ []) tail) ∙ lines_of_line cut.0 tail cut.1 ∙ ap (λ (l : List ℕ). l ∷ split_lines tail) (sym cut.3);
    whole = λ tail. ap whole_lines_of (append_assoc cut.0 (10 ∷ []) tail) ∙ whole_lines_of_line cut.0 tail cut.1 ∙ ap (λ (l : List ℕ). l ∷ whole_lines_of tail) (sym cut.3);
  },
  follows_then _ _ _ _ _ _ _ before (follows_cut held cut.0 new left cut.2),
)

-- a last line
pub next_last : (first held line new : List ℕ) (left0 left now : Option (List ℕ)) → FollowsInput first left0 [] held left → HasNoNewline held → 0 < length held
    → FillIs held left (Ok false) new now → line ≡ new → NextIs first left0 (Ok Last) line [] now
next_last first held line new left0 left now before plain some is same = (
  record {
    bytes = held;
    ahead = before.before held is.2;
    lines = lines_of_last held plain some ∙ ap (λ (l : List ℕ). l ∷ []) (sym (same ∙ is.0));
  },
  is.1,
)

pub next_end : (first held line new : List ℕ) (left0 left now : Option (List ℕ)) → FollowsInput first left0 [] held left → length new ≡ 0 → FillIs held left (Ok false) new now
    → NextIs first left0 (Ok End) line new now
next_end first [] line new left0 left now before none is = (before.before [] is.2, is.1)
next_end first (b ∷ held) line new left0 left now before none is = absurd (omega (arith, ap length is.0))

pub next_long : (first held line : List ℕ) (left0 left : Option (List ℕ)) → FollowsInput first left0 [] held left → HasNoNewline held → 4098 ≤ length held → NextIs first left0 (Ok Long) line held left
next_long first held line left0 left before plain long =
    let at = (ahead_some held left).1 in
    let begins : BeginsLong (held ++ at.rest) (length held) = lines_of_long held at.rest plain (omega arith) in
    record {
      bytes = held ++ at.rest;
      ahead = before.before (held ++ at.rest) (record { rest = at.rest; has = at.has; is = refl });
      line = begins.line;
      others = begins.others;
      lines = begins.lines;
      long = let h = begins.long in omega arith;
    }

-- a cut that found nothing
pub follows_uncut : (first held new : List ℕ) (left0 left : Option (List ℕ)) → new ≡ held → FollowsInput first left0 [] held left → FollowsInput first left0 [] new left
follows_uncut first held new left0 left same before = subst (λ (h : List ℕ). FollowsInput first left0 [] h left) (sym same) before
