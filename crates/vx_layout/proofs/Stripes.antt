-- The order of a striped plex's blocks: units by turns in columns.
use Rattle.std.proofs.Common.{◌≡◌, ℕ, zero, suc, ◌+◌, ◌-◌, ◌*◌, ◌/◌, ◌%◌, ◌<◌, ◌≤◌, Bool, true, false, List, [], ◌∷◌, refl, ap, sym, ◌∙◌, subst, arith}
use Rattle.std.specs.Prelude.{◌||◌, ◌==◌, nat_le, sum_by, if◌then◌else◌}
use Rattle.std.specs.Int.{div_ceil}
use Rattle.std.proofs.lemmas.Bool.{eq-eqb, eqb-true, leb-true, lt-leb}
use Rattle.std.proofs.lemmas.Grind.{div_ceil_times}
use Rattle.std.proofs.lemmas.List.Sums.{sum_by-cons}
use Rattle.std.proofs.lemmas.Nat.{div-add-mod', div-mul-add, mod-mul-add, mul-add-lt}
use Rattle.std.proofs.Math.Nat.{div-div-eq-div-mul, div-lt_iff_lt-mul, mod-lt, mul_comm}
use Rattle.vx_config.specs.Checks.{fill, next_room}
use Rattle.vx_config.specs.declared.entry.Subdisk.{Subdisk}
use Rattle.vx_config.proofs.FillLemmas.{not-zero}
use Rattle.vx_layout.specs.Places.{subdisk_blocks, linear}
use Rattle.vx_layout.proofs.Pairs.{and_left, and_right}

pub striped : (column ncol w b : ℕ) → 0 < w → linear column ncol w b ≡ ((b / w) % ncol) * column + ((b / w) / ncol) * w + b % w
striped column ncol w b some = ap (λ (t : Bool). if t then b else ((b / w) % ncol) * column + ((b / w) / ncol) * w + b % w) (not-zero w (λ none. omega arith))

pub plain : (column ncol b : ℕ) → linear column ncol 0 b ≡ b
plain column ncol b = refl

-- blocks of one unit stand one behind the other
pub linear_run : (column ncol w b j : ℕ) → 0 < w → j < w - b % w → linear column ncol w (b + j) ≡ linear column ncol w b + j
linear_run column ncol w b j some lt =
    let parts : b / w * w + b % w ≡ b = div-add-mod' b w in
    let same : b / w * w + (b % w + j) ≡ b + j = omega (arith, parts) in
    let in_unit : b % w + j < w = omega (arith, lt) in
    let unit : (b + j) / w ≡ b / w = ap (λ (n : ℕ). n / w) (sym same) ∙ div-mul-add (b / w) w (b % w + j) in_unit in
    let rest : (b + j) % w ≡ b % w + j = ap (λ (n : ℕ). n % w) (sym same) ∙ mod-mul-add (b / w) w (b % w + j) in_unit in
    let one : linear column ncol w (b + j) ≡ ((b / w) % ncol) * column + ((b / w) / ncol) * w + (b % w + j) = striped column ncol w (b + j) some ∙ ap (λ (u : ℕ). (u % ncol) * column + (u / ncol) * w + (b + j) % w) unit ∙ ap (λ (r : ℕ). ((b / w) % ncol) * column + ((b / w) / ncol) * w + r) rest in
    omega (arith, one, striped column ncol w b some)

-- where in its column a block is
pub offset_below : (blocks ncol w b : ℕ) → 0 < w → 0 < ncol → b < blocks → ((b / w) / ncol) * w + b % w < div_ceil blocks (ncol * w) * w
offset_below blocks ncol w b some columns lt =
    let wide : 0 < ncol * w = mul_pos ncol w columns some in
    let whole : blocks ≤ div_ceil blocks (ncol * w) * (ncol * w) = (div_ceil_times blocks (ncol * w) wide).0 in
    let below : b < div_ceil blocks (ncol * w) * (ncol * w) = omega (arith, lt, whole) in
    let unit : b / (ncol * w) < div_ceil blocks (ncol * w) = (div-lt_iff_lt-mul {k = ncol * w} {x = b} {y = div_ceil blocks (ncol * w)} wide).1 below in
    let by : (b / w) / ncol ≡ b / (ncol * w) = div-div-eq-div-mul b w ncol ∙ ap (λ (n : ℕ). b / n) (mul_comm w ncol) in
    let lower : (b / w) / ncol < div_ceil blocks (ncol * w) = omega (arith, by, unit) in
    let at = mul-add-lt ((b / w) / ncol) w (b % w) (div_ceil blocks (ncol * w)) lower (mod-lt b some) in
    let turned : w * div_ceil blocks (ncol * w) ≡ div_ceil blocks (ncol * w) * w = mul_comm w (div_ceil blocks (ncol * w)) in
    omega (arith, at, turned)
  where
    mul_pos : (a b : ℕ) → 0 < a → 0 < b → 0 < a * b
    mul_pos a b x y = grind arith

-- a block of the volume is one of the plex's subdisks
pub linear_below : (blocks ncol w column b : ℕ) → 0 < w → 0 < ncol → column ≡ div_ceil blocks (ncol * w) * w → b < blocks → linear column ncol w b < ncol * column
linear_below blocks ncol w column b some columns is lt =
    let offset : ((b / w) / ncol) * w + b % w < column = omega (arith, is, offset_below blocks ncol w b some columns lt) in
    let at = mul-add-lt ((b / w) % ncol) column (((b / w) / ncol) * w + b % w) ncol (mod-lt (b / w) columns) offset in
    omega (arith, at, striped column ncol w b some, mul_comm ncol column)

-- two blocks of the volume are two of the plex's subdisks
pub linear_one : (blocks ncol w column b d : ℕ) → 0 < w → 0 < ncol → column ≡ div_ceil blocks (ncol * w) * w → b < blocks → d < blocks → linear column ncol w b ≡ linear column ncol w d → b ≡ d
linear_one blocks ncol w column b d some columns is lt lt' same =
    let o : ℕ = ((b / w) / ncol) * w + b % w in
    let o' : ℕ = ((d / w) / ncol) * w + d % w in
    let in_b : o < column = omega (arith, is, offset_below blocks ncol w b some columns lt) in
    let in_d : o' < column = omega (arith, is, offset_below blocks ncol w d some columns lt') in
    let both : ((b / w) % ncol) * column + o ≡ ((d / w) % ncol) * column + o' = omega (arith, same, striped column ncol w b some, striped column ncol w d some) in
    let turn : (b / w) % ncol ≡ (d / w) % ncol = sym (div-mul-add ((b / w) % ncol) column o in_b) ∙ ap (λ (n : ℕ). n / column) both ∙ div-mul-add ((d / w) % ncol) column o' in_d in
    let offset : o ≡ o' = sym (mod-mul-add ((b / w) % ncol) column o in_b) ∙ ap (λ (n : ℕ). n % column) both ∙ mod-mul-add ((d / w) % ncol) column o' in_d in
    let row : (b / w) / ncol ≡ (d / w) / ncol = sym (div-mul-add ((b / w) / ncol) w (b % w) (mod-lt b some)) ∙ ap (λ (n : ℕ). n / w) offset ∙ div-mul-add ((d / w) / ncol) w (d % w) (mod-lt d some) in
    let rest : b % w ≡ d % w = sym (mod-mul-add ((b / w) / ncol) w (b % w) (mod-lt b some)) ∙ ap (λ (n : ℕ). n % w) offset ∙ mod-mul-add ((d / w) / ncol) w (d % w) (mod-lt d some) in
    let unit : b / w ≡ d / w = sym (div-add-mod' (b / w) ncol) ∙ ap (λ (n : ℕ). n * ncol + (b / w) % ncol) row ∙ ap (λ (n : ℕ). (d / w) / ncol * ncol + n) turn ∙ div-add-mod' (d / w) ncol in
    sym (div-add-mod' b w) ∙ ap (λ (n : ℕ). n * w + b % w) unit ∙ ap (λ (n : ℕ). d / w * w + n) rest ∙ div-add-mod' d w

-- ---- subdisks that fill so many columns have as many blocks

pub fill_none : (column : ℕ) (ss : List Subdisk) → fill column 0 0 ss ≡ true → sum_by subdisk_blocks ss ≡ 0
fill_none column [] is = refl
fill_none column (s ∷ ss) is =
    let le : s.blocks ≤ 0 = leb-true s.blocks 0 (and_left (nat_le s.blocks 0) _ is) in
    let zero_is : s.blocks ≡ 0 = omega (arith, le) in
    let test : (s.blocks == 0) ≡ true = eq-eqb s.blocks 0 zero_is in
    let rest : fill column 0 0 ss ≡ true = by (s.blocks == 0) _ _ test (and_right (nat_le s.blocks 0) _ is) in
    omega (arith, sum_by-cons subdisk_blocks s ss, zero_is, fill_none column ss rest)
  where
    by : (t a b : Bool) → t ≡ true → (if t then a else b) ≡ true → a ≡ true
    by true a b is e = e
    by false a b is e = absurd (let clash : false ≡ true = is in cc)

pub fill_sum : (column m room : ℕ) (ss : List Subdisk) → room ≤ column → fill column (suc m) room ss ≡ true → sum_by subdisk_blocks ss ≡ m * column + room
fill_sum column m room [] le is = by (column == 0) refl (ap (λ (t : Bool). t || column == 0) (sym (not-zero (suc m) (λ none. omega (arith, none)))) ∙ is)
  where
    by : (t : Bool) → (column == 0) ≡ t → t ≡ true → 0 ≡ m * column + room
    by true empty is = let none : column ≡ 0 = eqb-true column 0 empty in let flat : m * column ≡ 0 = ap (λ (n : ℕ). m * n) none ∙ (let nil : m * 0 ≡ 0 = omega arith in nil) in omega (arith, le, none, flat)
    by false empty is = absurd (let clash : false ≡ true = is in cc)
fill_sum column m room (s ∷ ss) le is = by (s.blocks == room) refl (and_right (nat_le s.blocks room) _ is) (λ rest. fill_sum column m (room - s.blocks) ss (omega (arith, le)) rest) (next m (λ k more. fill_sum column k column ss (omega arith) more))
  where
    fits : s.blocks ≤ room
    fits = leb-true s.blocks room (and_left (nat_le s.blocks room) _ is)

    next : (n : ℕ) → ((k : ℕ) → fill column (suc k) column ss ≡ true → sum_by subdisk_blocks ss ≡ k * column + column) → fill column (suc n - 1) (next_room column (suc n)) ss ≡ true → sum_by subdisk_blocks ss ≡ n * column
    next zero again rest = let none = fill_none column ss rest in omega (arith, none)
    next (suc k) again rest =
        let down : suc (suc k) - 1 ≡ suc k = omega arith in
        let many : nat_le (suc (suc k)) 1 ≡ false = lt-leb (suc (suc k)) 1 (omega arith) in
        let room_is : next_room column (suc (suc k)) ≡ column = ap (λ (t : Bool). if t then 0 else column) many in
        let more : fill column (suc k) column ss ≡ true = subst (λ (n : ℕ). fill column n column ss ≡ true) down (subst (λ (n : ℕ). fill column (suc (suc k) - 1) n ss ≡ true) room_is rest) in
        omega (arith, again k more)

    by : (b : Bool) → (s.blocks == room) ≡ b → (if b then fill column (suc m - 1) (next_room column (suc m)) ss else fill column (suc m) (room - s.blocks) ss) ≡ true → (fill column (suc m) (room - s.blocks) ss ≡ true → sum_by subdisk_blocks ss ≡ m * column + (room - s.blocks))
        → (fill column (suc m - 1) (next_room column (suc m)) ss ≡ true → sum_by subdisk_blocks ss ≡ m * column) → sum_by subdisk_blocks (s ∷ ss) ≡ m * column + room
    by true same rest more end = let here : s.blocks ≡ room = eqb-true s.blocks room same in omega (arith, sum_by-cons subdisk_blocks s ss, here, end rest)
    by false not rest more end = omega (arith, sum_by-cons subdisk_blocks s ss, fits, more rest)
