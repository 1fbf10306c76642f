-- Taking the lowest free blocks of a disk, run by run.
use Rattle.std.proofs.Common.{◌≡◌, ◌⊎◌, inl, inr, ℕ, ◌+◌, ◌-◌, ◌<◌, ◌≤◌, List, [], ◌∷◌, ◌++◌, append_assoc, refl, ap, sym, ◌∙◌, subst, arith}
use Rattle.std.specs.Prelude.{min}
use Rattle.std.proofs.lemmas.Bool.{cases_lt}
use Rattle.std.proofs.lemmas.List.{append-nil}
use Rattle.vx_config.specs.declared.entry.Subdisk.{Subdisk}
use Rattle.vx_layout.specs.Free.{AddsLowest, AreLowest, IsGap, IsNext, free_in, is_free}
use Rattle.vx_layout.specs.Reaches.{Taking}
use Rattle.vx_layout.specs.declared.gap.Gap.{Gap}
use Rattle.vx_layout.proofs.Gaps.{free_gap, free_le, free_run}

-- some are left to take: the end is not reached
pub before_end : (used : List Subdisk) (disk end wanted block left : ℕ) (old new : List Subdisk) → 0 < left → Taking used disk end wanted block left old new → block ≤ end
before_end used disk end wanted block left old new some is = omega (arith, some, is.enough, free_le used disk block (end - block))

-- the gap has some
pub gap_some : (used : List Subdisk) (disk end wanted block left blocks : ℕ) (old new : List Subdisk) (gap : Gap) → 0 < left → Taking used disk end wanted block left old new → IsGap used disk block end gap → blocks ≡ min gap.blocks left → 0 < blocks
gap_some used disk end wanted block left blocks old new gap some is g min_is = by (cases_lt gap.start end)
  where
    by : (gap.start < end) ⊎ (end ≤ gap.start) → 0 < blocks
    by (inl lt) = omega (arith, g.some lt, some, min_is)
    by (inr le) = absurd (omega (arith, some, is.enough, free_gap used disk block end gap g, free_le used disk (gap.start + gap.blocks) (end - (gap.start + gap.blocks)), le, g.within))

next_of : (used : List Subdisk) (disk end left block blocks : ℕ) (gap : Gap) → IsGap used disk block end gap → 0 < blocks → blocks ≡ min gap.blocks left → IsNext used disk block end left (record { disk = disk; start = gap.start; blocks = blocks })
next_of used disk end left block blocks gap g some min_is = record {
  on = refl;
  some = some;
  few = omega (arith, min_is);
  behind = g.behind;
  within = omega (arith, g.within, min_is);
  before = g.before;
  free = λ b low high. g.free b low (omega (arith, high, min_is));
  stops = λ lt inside.
      let whole : blocks ≡ gap.blocks = omega (arith, min_is, lt) in
      let stop = g.stops (omega (arith, inside, whole)) in
      ap (λ (n : ℕ). is_free used disk (gap.start + n)) whole ∙ stop;
}

pub take_more : (used : List Subdisk) (disk end wanted block left blocks : ℕ) (old new next : List Subdisk) (gap : Gap) → 0 < left → Taking used disk end wanted block left old new → IsGap used disk block end gap → blocks ≡ min gap.blocks left
    → next ≡ new ++ (record { disk = disk; start = gap.start; blocks = blocks } ∷ []) → Taking used disk end wanted (gap.start + blocks) (left - blocks) old next
take_more used disk end wanted block left blocks old new next gap left_some is g min_is push =
    let s : Subdisk = record { disk = disk; start = gap.start; blocks = blocks } in
    let some = gap_some used disk end wanted block left blocks old new gap left_some is g min_is in
    let first = next_of used disk end left block blocks gap g some min_is in
    record {
      done = is.done ++ (s ∷ []);
      is = push ∙ ap (λ (xs : List Subdisk). xs ++ (s ∷ [])) is.is ∙ append_assoc old is.done (s ∷ []);
      enough = enough;
      rest = λ ss more. subst (λ (xs : List Subdisk). AreLowest used disk 512 end wanted xs) (sym (append_assoc is.done (s ∷ []) ss)) (is.rest (s ∷ ss) (first, more));
    }
  where
    enough : left - blocks ≤ free_in used disk (gap.start + blocks) (end - (gap.start + blocks))
    enough =
        let cut : free_in used disk (gap.start + blocks) (end - (gap.start + blocks)) ≡ (gap.blocks - blocks) + free_in used disk (gap.start + blocks + (gap.blocks - blocks)) (end - (gap.start + gap.blocks)) =
        free_run used disk (gap.start + blocks) (gap.blocks - blocks) (end - (gap.start + gap.blocks)) (end - (gap.start + blocks)) (omega (arith, min_is, g.within)) (λ b low high. g.free b (omega (arith, low)) (omega (arith, high, min_is))) in
        let at : free_in used disk (gap.start + blocks + (gap.blocks - blocks)) (end - (gap.start + gap.blocks)) ≡ free_in used disk (gap.start + gap.blocks) (end - (gap.start + gap.blocks)) =
        ap (λ (b : ℕ). free_in used disk b (end - (gap.start + gap.blocks))) (let e : gap.start + blocks + (gap.blocks - blocks) ≡ gap.start + gap.blocks = omega (arith, min_is) in e) in
        omega (arith, is.enough, free_gap used disk block end gap g, cut, at, min_is)

pub take_start : (used : List Subdisk) (disk end wanted : ℕ) (old : List Subdisk) → wanted ≤ free_in used disk 512 (end - 512) → Taking used disk end wanted 512 wanted old old
take_start used disk end wanted old enough = record { done = []; is = sym (append-nil old); enough = enough; rest = λ ss are. are }

pub take_end : (used : List Subdisk) (disk end wanted block left : ℕ) (old new : List Subdisk) → left ≡ 0 → Taking used disk end wanted block left old new → AddsLowest used disk end wanted old new
take_end used disk end wanted block left old new none is = record {
  runs = is.done;
  are = subst (λ (xs : List Subdisk). AreLowest used disk 512 end wanted xs) (append-nil is.done) (is.rest [] none);
  is = is.is;
}
