-- What a receiver is after it took updates and applied some, step by step.
use Rattle.std.proofs.Common.{◌≡◌, ◌∙◌, ◌⊎◌, inl, inr, ◌≤◌, ◌++◌, ℕ, zero, suc, List, [], ◌∷◌, length, take, drop, refl, ap, sym, arith, append_assoc, length-append}
use Rattle.std.proofs.Math.ListN.{drop_of_length-le}
use Rattle.std.proofs.lemmas.List.{append-nil, length-take, take-append-le}
use Rattle.vx_model.specs.Content.{Content, Write, fold_writes}
use Rattle.vx_model.specs.declared.site.Mark.{Mark}
use Rattle.vx_model.specs.declared.site.SPhase.TheVariants.{Quiet}
use Rattle.vx_history.proofs.GoodLemmas.{fold_append}
use Rattle.vx_history.specs.Events.{applied, with_write}
use Rattle.vx_history.specs.World.{Node}
use Rattle.vx_events.specs.LinkFinds.{TakesOf}

-- ---- parts of lists

front : (b c : ℕ) (xs : List Write) → b ≤ c → take b xs ++ drop b (take c xs) ≡ take c xs
front zero c xs below = refl
front (suc b) zero xs below = absurd (omega (arith, below))
front (suc b) (suc c) [] below = refl
front (suc b) (suc c) (x ∷ xs) below = ap (λ (ys : List Write). x ∷ ys) (front b c xs (omega (arith, below)))

parts : (a b c : ℕ) (xs : List Write) → a ≤ b → b ≤ c → drop a (take b xs) ++ drop b (take c xs) ≡ drop a (take c xs)
parts zero b c xs first second = front b c xs second
parts (suc a) zero c xs first second = absurd (omega (arith, first))
parts (suc a) (suc b) zero xs first second = absurd (omega (arith, second))
parts (suc a) (suc b) (suc c) [] first second = refl
parts (suc a) (suc b) (suc c) (x ∷ xs) first second = parts a b c xs (omega (arith, first)) (omega (arith, second))

none_new : (k : ℕ) (xs : List Write) → drop k (take k xs) ≡ []
none_new k xs = drop_of_length-le (take k xs) (omega (arith, length-take k xs))

none_folded : (c : Content) (k : ℕ) (xs : List Write) → c ≡ fold_writes c (drop k (take k xs))
none_folded c k xs = sym (ap (λ (ws : List Write). fold_writes c ws) (none_new k xs))

-- what is folded on in two steps
folded_on : (start base last : Content) (a b c : ℕ) (xs ys : List Write) → a ≤ b → b ≤ c → b ≤ length xs → base ≡ fold_writes start (drop a (take b xs))
    → last ≡ fold_writes base (drop b (take c (xs ++ ys))) → last ≡ fold_writes start (drop a (take c (xs ++ ys)))
folded_on start base last a b c xs ys first second within is then_is =
    then_is
    ∙ ap (λ (k : Content). fold_writes k (drop b (take c (xs ++ ys)))) (is ∙ ap (λ (ws : List Write). fold_writes start (drop a ws)) (sym (take-append-le b xs ys within)))
    ∙ sym (fold_append start (drop a (take b (xs ++ ys))) (drop b (take c (xs ++ ys))))
    ∙ ap (λ (ws : List Write). fold_writes start ws) (parts a b c (xs ++ ys) first second)

-- ---- receivers

pub takes_same : (p : ℕ) (n : Node) → TakesOf p n n
takes_same p n = record {
  rest = refl;
  fed = inl refl;
  came = [];
  log = sym (append-nil n.log);
  least = omega arith;
  most = λ le. le;
  base = λ le. none_folded n.base n.safe n.log;
  mark = λ quiet. refl;
}

-- one update more waits
pub takes_written : (p : ℕ) (n : Node) (x : Write) → TakesOf p n (with_write n p x)
takes_written p n x = record {
  rest = refl;
  fed = inr refl;
  came = x ∷ [];
  log = refl;
  least = omega arith;
  most = λ le. omega (arith, le, length-append n.log (x ∷ []));
  base = λ le. none_folded n.base n.safe (n.log ++ x ∷ []);
  mark = λ quiet. refl;
}

-- those that wait were applied, up to this number
pub takes_applied : (p : ℕ) (n : Node) (number : ℕ) (mark : Mark) → n.safe ≤ number → number ≤ length n.log → (n.phase ≡ Quiet → mark ≡ n.mark) → TakesOf p n (applied n number mark)
takes_applied p n number mark least most same = record {
  rest = refl;
  fed = inl refl;
  came = [];
  log = sym (append-nil n.log);
  least = least;
  most = λ le. most;
  base = λ le. refl;
  mark = same;
}

pub takes_then : (p : ℕ) (n k m : Node) → TakesOf p n k → TakesOf p k m → TakesOf p n m
takes_then p n k m one two = record {
  rest = two.rest ∙ ap (λ (x : Node). let y : Node = record x { fed_by = m.fed_by; base = m.base; log = m.log; safe = m.safe; mark = m.mark } in y) one.rest;
  fed = by_last two.fed one.fed;
  came = one.came ++ two.came;
  log = two.log ∙ ap (λ (xs : List Write). xs ++ two.came) one.log ∙ append_assoc n.log one.came two.came;
  least = let first = one.least in let second = two.least in omega (arith, first, second);
  most = λ le. two.most (one.most le);
  base = λ le.
      folded_on n.base k.base m.base n.safe k.safe m.safe k.log two.came one.least two.least (one.most le) (one.base le)
      (two.base (one.most le) ∙ ap (λ (xs : List Write). fold_writes k.base (drop k.safe (take m.safe xs))) two.log)
      ∙ ap (λ (xs : List Write). fold_writes n.base (drop n.safe (take m.safe xs))) (sym two.log);
  mark = λ quiet. two.mark (ap (λ (x : Node). x.phase) one.rest ∙ quiet) ∙ one.mark quiet;
}
  where
    by_last : (m.fed_by ≡ k.fed_by) ⊎ (m.fed_by ≡ p) → (k.fed_by ≡ n.fed_by) ⊎ (k.fed_by ≡ p) → (m.fed_by ≡ n.fed_by) ⊎ (m.fed_by ≡ p)
    by_last (inl same) (inl before) = inl (same ∙ before)
    by_last (inl same) (inr new) = inr (same ∙ new)
    by_last (inr new) before = inr new
