-- The volumes of a group over writes and flushes, as its site notes them.
use Rattle.std.proofs.Common.{◌≡◌, ◌⊎◌, inl, inr, ℕ, suc, ◌+◌, ◌-◌, ◌*◌, ◌<◌, ◌≤◌, Bool, true, false, List, [], ◌∷◌, length, leb, refl, sym, ◌∙◌, subst, arith}
use Rattle.std.specs.Prelude.{if◌then◌else◌, Contains}
use Rattle.std.proofs.lemmas.Bool.Decides.{nat_tests}
use Rattle.std.proofs.lemmas.Bool.{cases_eq}
use Rattle.vx_model.specs.Content.{Write, put, block_of, blocks_in, touches}
use Rattle.vx_model.proofs.Tests.{shows, tells}
use Rattle.vx_disk.specs.Shelf.{Covers, Fits, Flushed, Goes, Lawful, Meaning, Nothing, Written, Wrote}
use Rattle.vx_history.specs.Groups.{GroupNode, BlockMay, note_cut, note_doubt, note_write}
use Rattle.vx_grouped.specs.Ends.{plain_write}
use Rattle.vx_grouped.specs.Plain.{HoldsPlain}

-- ---- which blocks a write has

fits : (a b : ℕ) → a ≤ b → leb a b ≡ true
fits a b le = grind (arith, nat_tests)

-- ---- values that a block may have

first_of : (y : List ℕ) (ys : List (List ℕ)) (x : List ℕ) → x ≡ y → Contains (y ∷ ys) x
first_of y ys x same = (0, omega arith, sym same)

later_of : (y : List ℕ) (ys : List (List ℕ)) (x : List ℕ) → Contains ys x → Contains (y ∷ ys) x
later_of y ys x it = (suc it.0, (let low = it.1 in omega (arith, low)), it.2)

more_of : (t : Bool) (y : List ℕ) (ys : List (List ℕ)) (x : List ℕ) → Contains ys x → Contains (if t then y ∷ ys else ys) x
more_of true y ys x it = later_of y ys x it
more_of false y ys x it = it

one_of : (t : Bool) (y : List ℕ) (ys : List (List ℕ)) (x : List ℕ) → t ≡ true → x ≡ y → Contains (if t then y ∷ ys else ys) x
one_of true y ys x is same = first_of y ys x same
one_of false y ys x is same = cc

same_of : (t : Bool) (ys : List (List ℕ)) (x : List ℕ) → t ≡ false → Contains ys x → Contains (if t then [] else ys) x
same_of true ys x is it = cc
same_of false ys x is it = it

put_here : (w t : Bool) (y z : List ℕ) → w ≡ true → t ≡ true → y ≡ (if w then (if t then y else z) else z)
put_here true true y z is on = refl
put_here true false y z is on = cc
put_here false t y z is on = cc

put_beside : (w t : Bool) (y z : List ℕ) → t ≡ false → z ≡ (if w then (if t then y else z) else z)
put_beside true true y z off = cc
put_beside true false y z off = refl
put_beside false t y z off = refl

module _ (note : GroupNode) (v block : ℕ) (bytes : List ℕ) where
  abbrev own : Write
  own = plain_write v block bytes

  to_covers : (u b : ℕ) → touches own u b ≡ true → Covers v block bytes u b
  to_covers u b is =
      let parts : (u ≡ v) × (block ≤ b) × (512 * (b - block) < length bytes) = tells u v block b (512 * (b - block)) (length bytes) is in
      record { there = parts.0; first = parts.1; last = parts.2 }

  of_covers : (u b : ℕ) → Covers v block bytes u b → touches own u b ≡ true
  of_covers u b it = shows u v block b (512 * (b - block)) (length bytes) it.there it.first it.last

  doubt_old : (u b : ℕ) (x : List ℕ) → BlockMay note u b x → BlockMay (note_doubt own note) u b x
  doubt_old u b x (inl within) = inl within
  doubt_old u b x (inr (inl same)) = inr (inl same)
  doubt_old u b x (inr (inr among)) = inr (inr (more_of (touches own u b) (block_of bytes (b - block)) (note.others u b) x among))

  doubt_new : (u b : ℕ) (x : List ℕ) → Written v block bytes u b x → BlockMay (note_doubt own note) u b x
  doubt_new u b x put = inr (inr (one_of (touches own u b) (block_of bytes (b - block)) (note.others u b) x (of_covers u b put.covers) put.value))

  write_old : (u b : ℕ) (x : List ℕ) → touches own u b ≡ false → BlockMay note u b x → BlockMay (note_write own note) u b x
  write_old u b x off (inl within) = inl within
  write_old u b x off (inr (inl same)) =
      inr (inl (same ∙ put_beside (leb (block + blocks_in bytes) (note.bytes.size v)) (touches own u b) (block_of bytes (b - block)) (note.bytes.block u b) off))
  write_old u b x off (inr (inr among)) = inr (inr (same_of (touches own u b) (note.others u b) x off among))

  write_new : (u b : ℕ) (x : List ℕ) → block + blocks_in bytes ≤ note.bytes.size v → Written v block bytes u b x → BlockMay (note_write own note) u b x
  write_new u b x within put =
      inr (inl (put.value ∙ put_here (leb (block + blocks_in bytes) (note.bytes.size v)) (touches own u b) (block_of bytes (b - block)) (note.bytes.block u b)
      (fits (block + blocks_in bytes) (note.bytes.size v) within) (of_covers u b put.covers)))

  -- a block is one of the write, or not
  beside : (u b : ℕ) → Covers v block bytes u b ⊎ (touches own u b ≡ false)
  beside u b = by_test (touches own u b) refl
    where
      by_test : (t : Bool) → touches own u b ≡ t → Covers v block bytes u b ⊎ (touches own u b ≡ false)
      by_test true is = inl (to_covers u b is)
      by_test false is = inr is

  -- a write that failed, or was done
  pub doubt_holds : (a c : Meaning) → HoldsPlain note a → Goes (Written v block bytes) a c → HoldsPlain (note_doubt own note) c
  doubt_holds a c it goes = record {
    size = λ w. it.size w ∙ sym (goes.size w);
    has = λ u b x there within left. elim (goes.leaves u b x left) [
      | inl was ↦ doubt_old u b x (it.has u b x (let same = goes.units in omega (arith, there, same)) (let same = goes.size u in omega (arith, within, same)) was)
      | inr put ↦ doubt_new u b x put
    ];
  }

  module _ (a b c : Meaning) (lawful : Lawful a) (it : HoldsPlain note a) (room : Fits a v block (length bytes)) (goes : Goes (Written v block bytes) a b) (wrote : Wrote v block bytes a b)
      (still : Goes Nothing b c) (flushed : Flushed v b c) where
    here : (k : ℕ) (x : List ℕ) → v < a.units → k < a.size v → c.leaves v k x → BlockMay (note_write own note) v k x
    here k x there within left = elim (wrote.each v k x (flushed.each k x left)) [
      | inl put ↦ write_new v k x (let low = room.within in let same = it.size v in omega (arith, low, same)) put
      | inr out ↦ elim (beside v k) [
        | inl covers ↦ absurd (out.0 covers)
        | inr off ↦ write_old v k x off (it.has v k x there within (lawful.shown v k x out.1))
      ]
    ]

    away : (u k : ℕ) (x : List ℕ) → (u ≡ v → ⊥) → u < a.units → k < a.size u → c.leaves u k x → BlockMay (note_write own note) u k x
    away u k x apart there within left = elim (beside u k) [
      | inl covers ↦ absurd (apart covers.there)
      | inr off ↦ elim (still.leaves u k x left) [
        | inl mid ↦ elim (goes.leaves u k x mid) [
          | inl was ↦ write_old u k x off (it.has u k x there within was)
          | inr put ↦ absurd (apart put.covers.there)
        ]
        | inr none ↦ absurd none
      ]
    ]

    by_unit : (u k : ℕ) (x : List ℕ) → (u ≡ v) ⊎ (u ≡ v → ⊥) → u < a.units → k < a.size u → c.leaves u k x → BlockMay (note_write own note) u k x
    by_unit u k x (inl same) there within left =
        subst (λ (w : ℕ). BlockMay (note_write own note) w k x) (sym same)
        (here k x (subst (λ (w : ℕ). w < a.units) same there) (subst (λ (w : ℕ). k < a.size w) same within) (subst (λ (w : ℕ). c.leaves w k x) same left))
    by_unit u k x (inr apart) there within left = away u k x apart there within left

    pub write_holds : HoldsPlain (note_write own note) c
    write_holds = record {
      size = λ w. it.size w ∙ sym (goes.size w) ∙ sym (still.size w);
      has = λ u k x there within left.
          by_unit u k x (cases_eq u v) (let one = goes.units in let two = still.units in omega (arith, there, one, two))
          (let one = goes.size u in let two = still.size u in omega (arith, within, one, two)) left;
    }

-- ---- notes that say the same of the volumes

pub same_holds : (note : GroupNode) (m : Meaning) (config : List ℕ) (begun : List (List ℕ)) (loose : Bool) → HoldsPlain note m → HoldsPlain (record note { config = config; begun = begun; loose = loose }) m
same_holds note m config begun loose it = record { size = it.size; has = it.has }

pub cut_holds : (note : GroupNode) (v block : ℕ) (bytes : List ℕ) (m : Meaning) → HoldsPlain (note_doubt (plain_write v block bytes) note) m → HoldsPlain (note_cut (plain_write v block bytes) note) m
cut_holds note v block bytes m it = record { size = it.size; has = it.has }

-- where nothing is written they have what they had
pub still_holds : (note : GroupNode) (a c : Meaning) → HoldsPlain note a → Goes Nothing a c → HoldsPlain note c
still_holds note a c it goes = record {
  size = λ w. it.size w ∙ sym (goes.size w);
  has = λ u b x there within left. elim (goes.leaves u b x left) [
    | inl was ↦ it.has u b x (let same = goes.units in omega (arith, there, same)) (let same = goes.size u in omega (arith, within, same)) was
    | inr none ↦ absurd none
  ];
}
