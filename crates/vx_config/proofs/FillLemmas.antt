-- Subdisks that fill columns.
use Rattle.std.proofs.Common.{◌≡◌, ◌<◌, ◌≤◌, ℕ, suc, ◌+◌, ◌-◌, List, length, drop, get_or, refl, ap, sym, ◌∙◌, arith, Bool, true, false, ◌&&◌, ◌||◌}
use Rattle.std.specs.Prelude.{◌==◌, nat_le, if◌then◌else◌}
use Rattle.std.proofs.Math.Seq.{drop-cons}
use Rattle.std.proofs.lemmas.Bool.{le-leb, lt-leb, eq-eqb, eqb-true, false_from_ne_true}
use Rattle.std.proofs.lemmas.List.{drop_all}
use Rattle.vx_config.specs.Checks.{fill, next_room}
use Rattle.vx_config.specs.declared.entry.Subdisk.{Subdisk}

-- what stands where there is no subdisk
abbrev pub no_subdisk : Subdisk
no_subdisk = record { disk = 0; start = 0; blocks = 0 }

abbrev step : ℕ → ℕ → ℕ → Subdisk → List Subdisk → Bool
step column columns room s ss = nat_le s.blocks room && (if s.blocks == room then fill column (columns - 1) (next_room column columns) ss else fill column columns (room - s.blocks) ss)

-- the first of what is left
fill-drop : (column columns room : ℕ) (ss : List Subdisk) (i : ℕ) → i < length ss → fill column columns room (drop i ss) ≡ step column columns room (get_or ss i no_subdisk) (drop (i + 1) ss)
fill-drop column columns room ss i lt =
    let next : suc i ≡ i + 1 = omega arith in
    ap (fill column columns room) (drop-cons ss i no_subdisk lt) ∙ ap (λ (n : ℕ). step column columns room (get_or ss i no_subdisk) (drop n ss)) next

-- it is larger than the room
pub fill-over : (column columns room blocks : ℕ) (ss : List Subdisk) (i : ℕ) (whole : Bool) → i < length ss → blocks ≡ (get_or ss i no_subdisk).blocks → room < blocks → fill column columns room (drop i ss) ≡ whole → false ≡ whole
fill-over column columns room blocks ss i whole lt is over so_far =
    let large : nat_le (get_or ss i no_subdisk).blocks room ≡ false = lt-leb (get_or ss i no_subdisk).blocks room (omega arith) in
    let none : step column columns room (get_or ss i no_subdisk) (drop (i + 1) ss) ≡ false = rw large refl in
    sym (fill-drop column columns room ss i lt ∙ none) ∙ so_far

-- it fills the column
pub fill-full : (column columns room blocks : ℕ) (ss : List Subdisk) (i : ℕ) (whole : Bool) → i < length ss → blocks ≡ (get_or ss i no_subdisk).blocks → blocks ≡ room → fill column columns room (drop i ss) ≡ whole
    → fill column (columns - 1) (next_room column columns) (drop (i + 1) ss) ≡ whole
fill-full column columns room blocks ss i whole lt is full so_far =
    let small : nat_le (get_or ss i no_subdisk).blocks room ≡ true = le-leb (get_or ss i no_subdisk).blocks room (omega arith) in
    let same : ((get_or ss i no_subdisk).blocks == room) ≡ true = eq-eqb (get_or ss i no_subdisk).blocks room (omega arith) in
    let one : step column columns room (get_or ss i no_subdisk) (drop (i + 1) ss) ≡ fill column (columns - 1) (next_room column columns) (drop (i + 1) ss) = rw (small, same) refl in
    sym (fill-drop column columns room ss i lt ∙ one) ∙ so_far

-- it leaves room
pub fill-part : (column columns room blocks : ℕ) (ss : List Subdisk) (i : ℕ) (whole : Bool) → i < length ss → blocks ≡ (get_or ss i no_subdisk).blocks → blocks ≤ room → (blocks ≡ room → ⊥) → fill column columns room (drop i ss) ≡ whole
    → fill column columns (room - blocks) (drop (i + 1) ss) ≡ whole
fill-part column columns room blocks ss i whole lt is fits other so_far =
    let small : nat_le (get_or ss i no_subdisk).blocks room ≡ true = le-leb (get_or ss i no_subdisk).blocks room (omega arith) in
    let differs : ((get_or ss i no_subdisk).blocks == room) ≡ false = false_from_ne_true ((get_or ss i no_subdisk).blocks == room) (λ t. let same : (get_or ss i no_subdisk).blocks ≡ room = eqb-true (get_or ss i no_subdisk).blocks room t in other (omega arith)) in
    let one : step column columns room (get_or ss i no_subdisk) (drop (i + 1) ss) ≡ fill column columns (room - blocks) (drop (i + 1) ss) = rw (small, differs, is) refl in
    sym (fill-drop column columns room ss i lt ∙ one) ∙ so_far

-- none is left
fill-all : (column columns room : ℕ) (ss : List Subdisk) (i : ℕ) (whole : Bool) → length ss ≤ i → fill column columns room (drop i ss) ≡ whole → (columns == 0 || column == 0) ≡ whole
fill-all column columns room ss i whole le so_far = sym (ap (fill column columns room) (drop_all i ss le)) ∙ so_far

-- all columns are filled
pub fill-ends : (column columns room : ℕ) (ss : List Subdisk) (i : ℕ) (whole : Bool) → length ss ≤ i → columns ≡ 0 → fill column columns room (drop i ss) ≡ whole → (columns == 0) ≡ whole
fill-ends column columns room ss i whole le none so_far =
    let test : (columns == 0) ≡ true = eq-eqb columns 0 none in
    let first : (columns == 0 || column == 0) ≡ (columns == 0) = rw test refl in
    sym first ∙ fill-all column columns room ss i whole le so_far

-- some column is not
pub fill-stops : (column columns room : ℕ) (ss : List Subdisk) (i : ℕ) (whole : Bool) → length ss ≤ i → (columns ≡ 0 → ⊥) → fill column columns room (drop i ss) ≡ whole → (column == 0) ≡ whole
fill-stops column columns room ss i whole le other so_far =
    let test : (columns == 0) ≡ false = false_from_ne_true (columns == 0) (λ t. other (eqb-true columns 0 t)) in
    let second : (columns == 0 || column == 0) ≡ (column == 0) = rw test refl in
    sym second ∙ fill-all column columns room ss i whole le so_far

pub not-zero : (n : ℕ) → (n ≡ 0 → ⊥) → (n == 0) ≡ false
not-zero n other = false_from_ne_true (n == 0) (λ t. other (eqb-true n 0 t))
