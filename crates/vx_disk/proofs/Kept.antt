-- What a flush of a disk in memory keeps, run by run.
use Rattle.std.proofs.Common.{◌≡◌, ◌⊎◌, inl, inr, ℕ, suc, ◌+◌, ◌*◌, ◌<◌, ◌≤◌, Bool, true, false, List, [], ◌∷◌, length, take, drop, get_or, refl, ap, sym, subst, ◌∙◌, arith, length-drop}
use Rattle.std.specs.Prelude.{replicate}
use Rattle.std.proofs.lemmas.List.{length-take-le}
use Rattle.std.proofs.lemmas.Bool.{cases_lt}
use Rattle.vx_disk.specs.Blocks.{block_at, over}
use Rattle.vx_disk.specs.Runs.{run_at, Outside, AreInside, AreNoted, IsNoted}
use Rattle.vx_disk.specs.declared.keeping.Run.{Run}
use Rattle.vx_disk.proofs.Blocks.{block-over_before, block-over_in, block-over_after, piece-take}
use Rattle.vx_disk.proofs.Flags.{over_in, over_out}
use Rattle.vx_disk.proofs.Same.{same_blocks}

-- flags that are all false
pub all_false : (xs : List Bool) → ((b : ℕ) → get_or xs b false ≡ false) → xs ≡ replicate (length xs) false
all_false [] none = refl
all_false (x ∷ xs) none = rw (none 0, sym (all_false xs (λ b. none (suc b))))

-- one run is kept
module _ (stable latest : List ℕ) (loose : List Bool) (first count : ℕ) (sized : length stable ≡ 512 * length loose) (same : length latest ≡ 512 * length loose)
    (fits : first + count ≤ length loose) where
  abbrev part : List ℕ
  part = take (512 * count) (drop (512 * first) latest)

  part_length : length part ≡ 512 * count
  part_length = length-take-le (512 * count) (drop (512 * first) latest) (omega (arith, length-drop (512 * first) latest))

  pub run_clean : ((b : ℕ) → get_or loose b false ≡ false → block_at stable b ≡ block_at latest b)
      → (b : ℕ) → get_or (over loose first (replicate count false)) b false ≡ false → block_at (over stable (512 * first) part) b ≡ block_at latest b
  run_clean clean b is = elim (cases_lt b first) [
    | inl before ↦ block-over_before stable part first count b part_length (omega arith) before ∙ clean b (sym (over_out loose first count false fits b (inl before)) ∙ is)
    | inr from ↦ elim (cases_lt b (first + count)) [
      | inl below ↦ block-over_in stable part first count b part_length (omega arith) from below ∙ piece-take latest first b (512 * count) count refl from (omega arith)
      | inr after ↦ block-over_after stable part first count b part_length (omega arith) after ∙ clean b (sym (over_out loose first count false fits b (inr after)) ∙ is)
    ]
  ]

-- a block that lies in none of the later runs is not loose behind the first of them
pub run_left : (runs : List Run) (loose : List Bool) (k number : ℕ) (run : Run) → run ≡ run_at runs k → run.first + run.count ≤ length loose
    → ((b : ℕ) → ((i : ℕ) → k ≤ i → i < number → Outside (run_at runs i) b) → get_or loose b false ≡ false)
    → (b : ℕ) → ((i : ℕ) → suc k ≤ i → i < number → Outside (run_at runs i) b) → get_or (over loose run.first (replicate run.count false)) b false ≡ false
run_left runs loose k number run here fits left b outside = elim (cases_lt b run.first) [
  | inl before ↦ over_out loose run.first run.count false fits b (inl before) ∙ left b (out (inl before))
  | inr from ↦ elim (cases_lt b (run.first + run.count)) [
    | inl below ↦ over_in loose run.first run.count false fits b from below
    | inr after ↦ over_out loose run.first run.count false fits b (inr after) ∙ left b (out (inr after))
  ]
] where
  out : Outside run b → (i : ℕ) → k ≤ i → i < number → Outside (run_at runs i) b
  out not_here i above below = elim (cases_lt k i) [
    | inl later ↦ outside i later below
    | inr same ↦ subst (λ (r : Run). Outside r b) (here ∙ ap (λ (n : ℕ). run_at runs n) (omega (arith, above, same))) not_here
  ]

-- where no block is loose, the two values of each are one
pub all_kept : (stable latest : List ℕ) (loose : List Bool) → length stable ≡ 512 * length loose → length latest ≡ 512 * length loose
    → ((b : ℕ) → get_or loose b false ≡ false → block_at stable b ≡ block_at latest b) → ((b : ℕ) → get_or loose b false ≡ false) → stable ≡ latest
all_kept stable latest loose sized same clean none = same_blocks (length loose) stable latest sized same (λ b. clean b (none b))

-- behind a write its run is one of the noted ones
module _ (old new : List Run) (number next first count : ℕ) (n : IsNoted number first count old next new) where
  pub noted_next : (loose : List Bool) → first + count ≤ length loose → AreNoted number old loose → AreNoted next new (over loose first (replicate count true))
  noted_next loose fits noted b outside = over_out loose first count true fits b here ∙ noted b before where
    here : (b < first) ⊎ (first + count ≤ b)
    here = subst (λ (r : Run). Outside r b) n.here (outside number (omega (arith, n.next_is)))

    before : (k : ℕ) → k < number → Outside (run_at old k) b
    before k below = subst (λ (r : Run). Outside r b) (n.kept k below) (outside k (omega (arith, n.next_is, below)))

  pub inside_next : (blocks : ℕ) → first + count ≤ blocks → AreInside number old blocks → AreInside next new blocks
  inside_next blocks fits inside k below = elim (cases_lt k number) [
    | inl before ↦ subst (λ (r : Run). r.first + r.count ≤ blocks) (sym (n.kept k before)) (inside k before)
    | inr last ↦ subst (λ (r : Run). r.first + r.count ≤ blocks) (sym (ap (λ (j : ℕ). run_at new j) (omega (arith, below, last, n.next_is)) ∙ n.here)) fits
  ]

-- the same of a write, whose lists are seen by what they were and are
pub noted_write : (old held new items : List Run) (loose marked : List Bool) (number next first count : ℕ) → (next < length new → IsNoted number first count held next new)
    → held ≡ old → items ≡ new → length new ≡ length held → marked ≡ over loose first (replicate count true) → first + count ≤ length loose
    → (number < length old → AreNoted number old loose) → next < length items → AreNoted next items marked
noted_write old held new items loose marked number next first count notes held_is items_is many marked_is fits noted room =
    let below : next < length new = subst (λ (l : List Run). next < length l) items_is room in
    let is = subst (λ (l : List Run). IsNoted number first count l next new) held_is (notes below) in
    let before = noted (omega (arith, is.next_is, below, many, ap (λ (l : List Run). length l) held_is)) in
    λ b outside.
    ap (λ (l : List Bool). get_or l b false) marked_is
    ∙ noted_next old new number next first count is loose fits before b (λ k less. subst (λ (l : List Run). Outside (run_at l k) b) items_is (outside k less))

pub inside_write : (old held new items : List Run) (blocks number next first count : ℕ) → (next < length new → IsNoted number first count held next new)
    → held ≡ old → items ≡ new → length new ≡ length held → first + count ≤ blocks
    → (number < length old → AreInside number old blocks) → next < length items → AreInside next items blocks
inside_write old held new items blocks number next first count notes held_is items_is many fits inside room =
    let below : next < length new = subst (λ (l : List Run). next < length l) items_is room in
    let is = subst (λ (l : List Run). IsNoted number first count l next new) held_is (notes below) in
    let before = inside (omega (arith, is.next_is, below, many, ap (λ (l : List Run). length l) held_is)) in
    λ k less. subst (λ (l : List Run). (run_at l k).first + (run_at l k).count ≤ blocks) (sym items_is) (inside_next old new number next first count is blocks fits before k less)
