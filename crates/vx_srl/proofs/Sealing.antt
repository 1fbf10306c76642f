-- What a seal makes of the log that memory keeps.
use Rattle.std.proofs.Common.{◌≡◌, ℕ, ◌≤◌, List, [], ◌++◌, length, take, drop, sym, ◌∙◌, ap, subst, arith, length-drop}
use Rattle.std.proofs.lemmas.List.{drop_all, take-append-drop, take_all}
use Rattle.vx_srlfmt.specs.declared.header.Header.{Header}
use Rattle.vx_srl.specs.Calls.{sealed_log}
use Rattle.vx_srl.specs.Views.{IsOrdered, Log, all_of}
use Rattle.vx_srl.specs.declared.kept.Kept.{Kept}

-- the fields of the log, of whose records the first s are held
module _ (unit ring : ℕ) (h : Header) (ks : List Kept) (s : ℕ) (l : Log) (same : record { unit = unit; ring = ring; header = h; held = take s ks; staged = drop s ks } ≡ l) where
  pub view_ordered : IsOrdered ring h ks → IsOrdered l.ring l.header (all_of l)
  view_ordered ordered =
      subst (λ (x : Log). IsOrdered x.ring x.header (all_of x)) same (subst (λ (xs : List Kept). IsOrdered ring h xs) (sym (take-append-drop s ks)) ordered)

  pub is_sealed : (n : ℕ) → n ≡ length ks → record { unit = unit; ring = ring; header = h; held = take n ks; staged = drop n ks } ≡ sealed_log l
  is_sealed n all =
      ap (λ (xs : List Kept). record { unit = unit; ring = ring; header = h; held = xs; staged = drop n ks }) (take_all n ks (omega (arith, all)) ∙ sym (take-append-drop s ks))
      ∙ ap (λ (xs : List Kept). record { unit = unit; ring = ring; header = h; held = take s ks ++ drop s ks; staged = xs }) (drop_all n ks (omega (arith, all)))
      ∙ ap sealed_log same

  pub some_staged : s ≤ length ks → (s ≡ length ks → ⊥) → l.staged ≡ [] → ⊥
  some_staged few not_all none =
      let gone : length (drop s ks) ≡ 0 = ap (λ (x : Log). length x.staged) same ∙ ap (λ (xs : List Kept). length xs) none in
      not_all (omega (arith, few, gone, length-drop s ks))
