-- Regions of a map by its blocks, and a block that changes.
use Rattle.std.proofs.Common.{◌≡◌, ◌∙◌, ◌⊎◌, inl, inr, ⊎_elim, ℕ, ◌+◌, ◌-◌, ◌*◌, ◌/◌, ◌%◌, ◌<◌, ◌≤◌, Bool, true, false, List, ◌++◌, length, take, drop, get_or, refl, sym, ap, subst, arith, length-append, length-take, length-drop}
use Rattle.std.specs.Prelude.{◌&&◌, ◌==◌, leb, if◌then◌else◌, nat_eq}
use Rattle.std.specs.Cmp.Lexicographic.{same_text}
use Rattle.std.proofs.lemmas.Cmp.{nat_list_eq_equiv}
use lib.Pointwise.{pointwise}
use Rattle.std.proofs.lemmas.Bool.{cases_eq, cases_lt, eqb-true, le-leb}
use Rattle.std.proofs.lemmas.Bool.Decides.{nat_tests}
use Rattle.std.proofs.lemmas.List.{drop-take, take_all}
use Rattle.std.proofs.lemmas.List.{get_or-take, get_or-drop}
use Rattle.std.proofs.lemmas.Slice.{take-put_mid_below, drop-put_mid, between-put_mid}
use borrow.Rule.Slice.PartMut.{put_mid}
use Rattle.vx_model.specs.Content.{block_of}
use Rattle.vx_disk.specs.Moves.{Moves, Run}
use Rattle.vx_disk.specs.Shelf.{Each, Goes, Image, Keeps, KeepsAll, Meaning, Or, Written, piece}
use Rattle.vx_disk.proofs.Moving.{of_goes}
use Rattle.vx_disk.proofs.Runs.{weaker}
use Rattle.vx_bitmap.specs.Bits.{AllAre, bit, Changed, is_among, is_marked}
use Rattle.vx_bitmap.specs.Maps.{ChangedAt, Changing, Map, MapOn, map_block_count, is_marked_in}

-- a region is marked where its block has it marked
pub by_block : (bytes : List ℕ) (r : ℕ) → is_marked bytes r ≡ is_marked (block_of bytes (r / 4096)) (r % 4096)
by_block bytes r =
    ap (λ (b : ℕ). bit b (r % 8)) (sym (get_or-take 512 (drop (512 * (r / 4096)) bytes) ((r % 4096) / 8) 0 (omega arith) ∙ get_or-drop (512 * (r / 4096)) bytes ((r % 4096) / 8) 0
    ∙ ap (λ (k : ℕ). get_or bytes k 0) (let e : 512 * (r / 4096) + (r % 4096) / 8 ≡ r / 8 = omega arith in e)))
    ∙ ap (λ (k : ℕ). bit (get_or (block_of bytes (r / 4096)) ((r % 4096) / 8) 0) k) (let e : r % 8 ≡ (r % 4096) % 8 = omega arith in e)

piece_whole : (at b : ℕ) (bytes : List ℕ) → length bytes ≡ 512 → b ≡ at → piece at bytes b ≡ bytes
piece_whole at b bytes long is = ap (λ (k : ℕ). take 512 (drop k bytes)) (let none : 512 * (b - at) ≡ 0 = omega (arith, is) in none) ∙ take_all 512 bytes (omega (arith, long))

chosen : (t : Bool) (value old new : Bool) → new ≡ (if t then value else old) → (new ≡ old) ⊎ ((t ≡ true) × (new ≡ value))
chosen true value old new is = inr (refl, is)
chosen false value old new is = inl is

-- ---- one block put over its own

module _ (n w : ℕ) (xs block : List ℕ) (w_is : w ≡ 512) (long : length block ≡ 512) (fits : 512 * n + 512 ≤ length xs) where
  abbrev put_in : List ℕ
  put_in = put_mid (512 * n) w xs block

  pub put_size : length put_in ≡ length xs
  put_size =
      let rest : List ℕ = drop w (drop (512 * n) xs) in
      omega (arith, length-append (take (512 * n) xs) (block ++ rest), length-append block rest, length-take (512 * n) xs, length-drop w (drop (512 * n) xs), length-drop (512 * n) xs, w_is, long, fits)

  pub put_same : block_of put_in n ≡ block
  put_same =
      let wide : 512 * n + 512 - 512 * n ≡ 512 = omega arith in
      subst (λ (m : ℕ). take m (drop (512 * n) put_in) ≡ block) wide (between-put_mid (512 * n) w xs block (512 * n + 512) (omega (arith, fits)) (omega (arith, long)))

  put_below : (k : ℕ) → k < n → block_of put_in k ≡ block_of xs k
  put_below k low =
      sym (drop-take (512 * k) 512 put_in)
      ∙ ap (λ (l : List ℕ). drop (512 * k) l) (take-put_mid_below (512 * n) w xs block (512 * k + 512) (omega (arith, low)) (omega (arith, fits)))
      ∙ drop-take (512 * k) 512 xs

  put_above : (k : ℕ) → n < k → block_of put_in k ≡ block_of xs k
  put_above k high = ap (λ (l : List ℕ). take 512 l) (drop-put_mid (512 * n) w xs block (512 * k) (omega (arith, w_is, high)) (omega (arith, fits)) (long ∙ sym w_is))

  pub put_other : (k : ℕ) → (k ≡ n → ⊥) → block_of put_in k ≡ block_of xs k
  put_other k other = ⊎_elim (λ low. put_below k low) (λ high. put_above k (omega (arith, high, other))) (cases_lt k n)

-- ---- a run within one block of a map

-- a run of the map as one of the block
shifted : (block start end r : ℕ) → 4096 * block ≤ start → start ≤ end → end < 4096 * block + 4096 → r / 4096 ≡ block → is_among (start - 4096 * block) (end - 4096 * block) (r % 4096) ≡ is_among start end r
shifted block start end r from some to here =
    let a : leb (start - 4096 * block) (r % 4096) ≡ leb start r = both (start - 4096 * block) (r % 4096) start r (λ le. omega (arith, le, from, here)) (λ le. omega (arith, le, from, here)) in
    let b : leb (r % 4096) (end - 4096 * block) ≡ leb r end = both (r % 4096) (end - 4096 * block) r end (λ le. omega (arith, le, from, some, here)) (λ le. omega (arith, le, from, some, here)) in
    rw (a, b) refl
  where
    both : (i j k l : ℕ) → (i ≤ j → k ≤ l) → (k ≤ l → i ≤ j) → leb i j ≡ leb k l
    both i j k l one two =
        ⊎_elim
        (λ (gt : j < i). let x : leb i j ≡ false = grind (arith, nat_tests) in let y : l < k = (⊎_elim (λ (lt : l < k). lt) (λ (ge : k ≤ l). absurd (omega (arith, two ge, gt))) (cases_lt l k)) in let z : leb k l ≡ false = grind (arith, nat_tests) in x ∙ sym z)
        (λ (le : i ≤ j). le-leb i j le ∙ sym (le-leb k l (one le)))
        (cases_lt j i)

outside : (block start end r : ℕ) → 4096 * block ≤ start → end < 4096 * block + 4096 → (r / 4096 ≡ block → ⊥) → is_among start end r ≡ false
outside block start end r from to other =
    ⊎_elim
    (λ (lt : r < start). let no : leb start r ≡ false = grind (arith, nat_tests) in ap (λ (b : Bool). b && leb r end) no)
    (λ (ge : start ≤ r). let past : end < r = past_end ge in let no : leb r end ≡ false = grind (arith, nat_tests) in ap (λ (b : Bool). leb start r && b) no ∙ and_no (leb start r))
    (cases_lt r start)
  where
    and_no : (b : Bool) → (b && false) ≡ false
    and_no true = refl
    and_no false = refl

    past_end : start ≤ r → end < r
    past_end ge = ⊎_elim (λ (lt : end < r). lt) (λ (le : r ≤ end). absurd (other (omega (arith, from, to, ge, le)))) (cases_lt end r)

module _ (map : Map) (block start end : ℕ) (value : Bool) (fresh : List ℕ) (from : 4096 * block ≤ start) (some : start ≤ end) (to : end < 4096 * block + 4096)
    (changed : Changed (start - 4096 * block) (end - 4096 * block) value 4096 (is_marked (block_of map.bytes block)) (is_marked fresh)) where
  -- a region of that block, in the fresh one
  fresh_marks : (r : ℕ) → r / 4096 ≡ block → is_marked fresh (r % 4096) ≡ (if is_among start end r then value else is_marked map.bytes r)
  fresh_marks r here =
      changed.each (r % 4096) (omega arith)
      ∙ ap (λ (b : Bool). if b then value else is_marked (block_of map.bytes block) (r % 4096)) (shifted block start end r from some to here)
      ∙ ap (λ (k : ℕ). if is_among start end r then value else is_marked (block_of map.bytes k) (r % 4096)) (sym here)
      ∙ ap (λ (b : Bool). if is_among start end r then value else b) (sym (by_block map.bytes r))

  -- the bytes with the fresh block
  pub bytes_changed : (bytes : List ℕ) (regions : ℕ) → block_of bytes block ≡ fresh → ((k : ℕ) → (k ≡ block → ⊥) → block_of bytes k ≡ block_of map.bytes k) → Changed start end value regions (is_marked map.bytes) (is_marked bytes)
  bytes_changed bytes regions same others = record {
    each = λ r low.
        by_block bytes r
        ∙ ⊎_elim
        (λ (here : r / 4096 ≡ block). ap (λ (k : ℕ). is_marked (block_of bytes k) (r % 4096)) here ∙ ap (λ (b : List ℕ). is_marked b (r % 4096)) same ∙ fresh_marks r here)
        (λ (other : r / 4096 ≡ block → ⊥).
        ap (λ (b : List ℕ). is_marked b (r % 4096)) (others (r / 4096) other) ∙ sym (by_block map.bytes r)
        ∙ ap (λ (b : Bool). if b then value else is_marked map.bytes r) (sym (outside block start end r from to other)))
        (cases_eq (r / 4096) block);
  }

  -- what a crash leaves while the fresh block is written
  image_changing : (m : Meaning) (i : Image) → length map.bytes % 512 ≡ 0 → length fresh ≡ 512 → Each (Or m.leaves (Written map.unit (map.first + block) fresh)) i → Changing map start end value m i
  image_changing m i whole long each = record {
    each = λ on. record {
      each = λ r low.
          elim (each map.unit (map.first + r / 4096)) [
            | inl was ↦ inl (ap (λ (b : List ℕ). is_marked b (r % 4096)) ((on.each (r / 4096) (omega (arith, whole, low))).only (i map.unit (map.first + r / 4096)) was) ∙ sym (by_block map.bytes r))
            | inr now ↦
                (let here : r / 4096 ≡ block = omega (arith, now.covers.first, now.covers.last, long) in
                let is : i map.unit (map.first + r / 4096) ≡ fresh = now.value ∙ piece_whole (map.first + block) (map.first + r / 4096) fresh long (omega (arith, here)) in
                chosen (is_among start end r) value (is_marked map.bytes r) (is_marked_in map i r) (ap (λ (b : List ℕ). is_marked b (r % 4096)) is ∙ fresh_marks r here))
          ];
    };
  }

  pub block_moves : (m m' : Meaning) → length map.bytes % 512 ≡ 0 → length fresh ≡ 512 → block < map_block_count map → Goes (Written map.unit (map.first + block) fresh) m m'
      → Moves (Run map.unit map.first (map_block_count map)) (Changing map start end value m) m m'
  block_moves m m' whole long inside goes =
      of_goes (Run map.unit map.first (map_block_count map)) (Changing map start end value m) (Written map.unit (map.first + block) fresh) m m' goes
      (λ u b v is. record { there = is.covers.there; first = omega (arith, is.covers.first); last = omega (arith, is.covers.first, is.covers.last, long, inside) })
      (λ i each. image_changing m i whole long each)

  -- and what it leaves of each block
  pub block_writes : (m m' : Meaning) → length fresh ≡ 512 → block < map_block_count map → Goes (Written map.unit (map.first + block) fresh) m m' → Goes (ChangedAt map start end value m) m m'
  block_writes m m' long inside goes =
      weaker (Written map.unit (map.first + block) fresh) (ChangedAt map start end value m) m m' goes
      (λ u b x is.
      let at : map.first + block ≡ b = omega (arith, is.covers.first, is.covers.last, long) in
      let same : x ≡ fresh = is.value ∙ piece_whole (map.first + block) b fresh long (sym at) in
      record {
        run = record { there = is.covers.there; first = omega (arith, at); last = omega (arith, at, inside) };
        so = λ on. record { each = λ r low. by r x b same at (map.first + r / 4096 == b) refl };
      })
    where
      by : (r : ℕ) (x : List ℕ) (b : ℕ) → x ≡ fresh → map.first + block ≡ b → (t : Bool) → (map.first + r / 4096 == b) ≡ t
          → ((if t then is_marked x (r % 4096) else is_marked map.bytes r) ≡ is_marked map.bytes r) ⊎ ((is_among start end r ≡ true) × ((if t then is_marked x (r % 4096) else is_marked map.bytes r) ≡ value))
      by r x b same at false test = inl refl
      by r x b same at true test =
          let here : map.first + r / 4096 ≡ b = eqb-true (map.first + r / 4096) b test in
          chosen (is_among start end r) value (is_marked map.bytes r) (is_marked x (r % 4096)) (ap (λ (y : List ℕ). is_marked y (r % 4096)) same ∙ fresh_marks r (omega (arith, here, at)))

  -- behind it the map stands with the fresh block
  pub block_stands : (m m' : Meaning) (bytes : List ℕ) → length fresh ≡ 512 → Goes (Written map.unit (map.first + block) fresh) m m' → KeepsAll m' map.unit (map.first + block) fresh
      → length bytes ≡ length map.bytes → block_of bytes block ≡ fresh → ((k : ℕ) → (k ≡ block → ⊥) → block_of bytes k ≡ block_of map.bytes k) → MapOn map m
      → MapOn (record { unit = map.unit; first = map.first; bytes = bytes }) m'
  block_stands m m' bytes long goes kept same here others on = record {
    each = λ k low.
        ⊎_elim
        (λ (is : k ≡ block).
        subst (λ (x : List ℕ). Keeps m' map.unit (map.first + k) x) (piece_whole (map.first + block) (map.first + k) fresh long (omega (arith, is)) ∙ sym here ∙ ap (λ (j : ℕ). block_of bytes j) (sym is))
        (kept.each (map.first + k) (record { there = refl; first = omega (arith, is); last = omega (arith, is, long) })))
        (λ (is : k ≡ block → ⊥).
        subst (λ (x : List ℕ). Keeps m' map.unit (map.first + k) x) (sym (others k is))
        (record {
          only = λ v left. elim (goes.leaves map.unit (map.first + k) v left) [
            | inl was ↦ (on.each k (omega (arith, low, same))).only v was
            | inr now ↦ absurd (is (omega (arith, now.covers.first, now.covers.last, long)))
          ];
        }))
        (cases_eq k block);
  }

-- a run of the map that has the value already has it in the block
pub all_in_block : (bytes block_bytes : List ℕ) (block start end : ℕ) (value : Bool) → 4096 * block ≤ start → start ≤ end → end < 4096 * block + 4096 → block_bytes ≡ block_of bytes block
    → AllAre start end value (is_marked bytes) → AllAre (start - 4096 * block) (end - 4096 * block) value (is_marked block_bytes)
all_in_block bytes block_bytes block start end value from some to is all = record {
  each = λ r first last.
      let at : ℕ = 4096 * block + r in
      let q : at / 4096 ≡ block = omega (arith, last, to, from, some) in
      let m : at % 4096 ≡ r = omega (arith, last, to, from, some) in
      ap (λ (b : List ℕ). is_marked b r) is
      ∙ ap (λ (k : ℕ). is_marked (block_of bytes block) k) (sym m) ∙ ap (λ (k : ℕ). is_marked (block_of bytes k) (at % 4096)) (sym q) ∙ sym (by_block bytes at)
      ∙ all.each at (omega (arith, first, from)) (omega (arith, last, from, some));
}

-- ---- the test of equal blocks

pub equal_bytes : (b : Bool) (xs ys : List ℕ) → b ≡ pointwise nat_eq xs ys → b ≡ true → xs ≡ ys
equal_bytes b xs ys is set = same_text xs ys (sym set ∙ is)

pub unequal_bytes : (b : Bool) (xs ys : List ℕ) → b ≡ pointwise nat_eq xs ys → b ≡ false → xs ≡ ys → ⊥
unequal_bytes b xs ys is set same = let wrong : true ≡ false = sym (is ∙ ap (λ (t : List ℕ). pointwise nat_eq xs t) (sym same) ∙ nat_list_eq_equiv.refl xs) ∙ set in cc
