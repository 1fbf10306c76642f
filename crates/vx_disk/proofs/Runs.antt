-- How a run of calls on a shelf goes on. For clients.
use Rattle.std.proofs.Common.{◌≡◌, ◌≢◌, inl, inr, ⊎_elim, ℕ, ◌-◌, ◌*◌, List, length, take, drop, IsTrue, refl, ◌∙◌, ap, arith}
use Rattle.std.proofs.lemmas.List.{take_all}
use Rattle.vx_disk.specs.Shelf.{Image, Values, Meaning, Each, Lawful, Covers, Written, Nothing, Or, Goes, Wrote, Flushed, Holds, Keeps, HoldsAll, KeepsAll, LeavesOnly, piece}

pub begins : (m : Meaning) (P : Image → Type 0) → Lawful m → ((i : Image) → Each m.leaves i → P i) → LeavesOnly m m P
begins m P lawful here = record { later = omega arith; each = λ i left. here i (lawful.within i (lawful.only_now i left)) }

pub goes_on : (start old new : Meaning) (written : Values) (P : Image → Type 0) → LeavesOnly start old P → Goes written old new
    → ((i : Image) → Each (Or old.leaves written) i → P i) → LeavesOnly start new P
goes_on start old new written P run goes here = record {
  later = omega (arith, run.later, goes.later);
  each = λ i left. elim (goes.since start.moment i run.later left) [ inl before ↦ run.each i before | inr during ↦ here i during ];
}

-- no call at all
pub same_Goes : (written : Values) (m : Meaning) → Goes written m m
same_Goes written m = record {
  units = refl;
  size = λ u. refl;
  tells = refl;
  reads = λ u b v is. inl (inl is);
  leaves = λ u b v left. inl left;
  later = omega arith;
  since = λ t i le left. inl left;
  keeps = λ t i le left. left;
  faults = λ u. omega arith;
  disk_faults = λ d. omega arith;
  falls = λ down. down;
  unarmed = λ no. no;
  safe = λ no down. down;
}

-- one block is its own piece
pub piece_one : (b : ℕ) (bytes : List ℕ) → length bytes ≡ 512 → piece b bytes b ≡ bytes
piece_one b bytes size =
    let zero_at : 512 * (b - b) ≡ 0 = omega arith in
    ap (λ (n : ℕ). take 512 (drop n bytes)) zero_at ∙ take_all 512 bytes (omega arith)

-- a write of one block is at no other
pub elsewhere : (unit b a : ℕ) (bytes : List ℕ) → length bytes ≡ 512 → b ≢ a → Covers unit b bytes unit a → ⊥
elsewhere unit b a bytes size apart covers = omega (arith, covers.first, covers.last, size, apart)

pub covers_one : (unit b : ℕ) (bytes : List ℕ) → length bytes ≡ 512 → Covers unit b bytes unit b
covers_one unit b bytes size = record { there = refl; first = omega arith; last = omega (arith, size) }

module _ (unit b : ℕ) (bytes : List ℕ) (size : length bytes ≡ 512) (old new : Meaning) where
  pub now_holds : Wrote unit b bytes old new → Holds new unit b bytes
  now_holds wrote = record {
    only = λ v reads. elim (wrote.each unit b v reads) [
      | inl put ↦ put.value ∙ piece_one b bytes size
      | inr out ↦ absurd (out.0 (covers_one unit b bytes size))
    ];
  }

  pub still_holds : (a : ℕ) (x : List ℕ) → b ≢ a → Wrote unit b bytes old new → Holds old unit a x → Holds new unit a x
  still_holds a x apart wrote holds = record {
    only = λ v reads. elim (wrote.each unit a v reads) [
      | inl put ↦ absurd (elsewhere unit b a bytes size apart put.covers)
      | inr out ↦ holds.only v out.1
    ];
  }

  pub leaves_there : (a : ℕ) (v : List ℕ) → b ≢ a → Or old.leaves (Written unit b bytes) unit a v → old.leaves unit a v
  leaves_there a v apart (inl left) = left
  leaves_there a v apart (inr put) = absurd (elsewhere unit b a bytes size apart put.covers)

pub at_rest : (m : Meaning) (u b : ℕ) (v : List ℕ) → Or m.leaves Nothing u b v → m.leaves u b v
at_rest m u b v (inl left) = left
at_rest m u b v (inr none) = absurd none

-- a flush at Ok
pub flush_holds : (old new : Meaning) (u b : ℕ) (x : List ℕ) → Goes Nothing old new → (IsTrue new.down → ⊥) → Holds old u b x → Holds new u b x
flush_holds old new u b x goes up holds = record {
  only = λ v reads. elim (goes.reads u b v reads) [
    | inl (inl was) ↦ holds.only v was
    | inl (inr none) ↦ absurd none
    | inr down ↦ absurd (up down)
  ];
}

pub flush_keeps : (old new : Meaning) (u b : ℕ) (x : List ℕ) → Flushed u old new → Holds old u b x → Keeps new u b x
flush_keeps old new u b x flushed holds = record { only = λ v left. holds.only v (flushed.each b v left) }

-- a write of several blocks, and the flush after it
pub wrote_HoldsAll : (unit block : ℕ) (bytes : List ℕ) (old new : Meaning) → Wrote unit block bytes old new → HoldsAll new unit block bytes
wrote_HoldsAll unit block bytes old new wrote = record {
  each = λ b covers. record { only = λ v reads. ⊎_elim (λ put. put.value) (λ out. absurd (out.0 covers)) (wrote.each unit b v reads) };
}

pub flush_HoldsAll : (old new : Meaning) (unit block : ℕ) (bytes : List ℕ) → Goes Nothing old new → (IsTrue new.down → ⊥) → HoldsAll old unit block bytes → HoldsAll new unit block bytes
flush_HoldsAll old new unit block bytes goes up holds = record { each = λ b covers. flush_holds old new unit b (piece block bytes b) goes up (holds.each b covers) }

pub flush_KeepsAll : (old new : Meaning) (unit block : ℕ) (bytes : List ℕ) → Flushed unit old new → HoldsAll old unit block bytes → KeepsAll new unit block bytes
flush_KeepsAll old new unit block bytes flushed holds = record { each = λ b covers. flush_keeps old new unit b (piece block bytes b) flushed (holds.each b covers) }

-- of one block
pub HoldsAll_one : (m : Meaning) (unit b : ℕ) (bytes : List ℕ) → length bytes ≡ 512 → HoldsAll m unit b bytes → Holds m unit b bytes
HoldsAll_one m unit b bytes size holds = record { only = λ v reads. (holds.each b (covers_one unit b bytes size)).only v reads ∙ piece_one b bytes size }

pub KeepsAll_one : (m : Meaning) (unit b : ℕ) (bytes : List ℕ) → length bytes ≡ 512 → KeepsAll m unit b bytes → Keeps m unit b bytes
KeepsAll_one m unit b bytes size keeps = record { only = λ v left. (keeps.each b (covers_one unit b bytes size)).only v left ∙ piece_one b bytes size }

-- what was written is within this
pub weaker : (p q : Values) (old new : Meaning) → Goes p old new → ((u b : ℕ) (v : List ℕ) → p u b v → q u b v) → Goes q old new
weaker p q old new goes in_q = record {
  units = goes.units;
  size = goes.size;
  tells = goes.tells;
  later = goes.later;
  keeps = goes.keeps;
  faults = goes.faults;
  disk_faults = goes.disk_faults;
  falls = goes.falls;
  unarmed = goes.unarmed;
  safe = goes.safe;
  reads = λ u b v is. ⊎_elim (λ or. inl (widen old.reads u b v or)) (λ down. inr down) (goes.reads u b v is);
  leaves = λ u b v left. widen old.leaves u b v (goes.leaves u b v left);
  since = λ t i le left. ⊎_elim (λ was. inl was) (λ during. inr (λ u b. widen old.leaves u b (i u b) (during u b))) (goes.since t i le left);
}
  where
    widen : (s : Values) (u b : ℕ) (v : List ℕ) → Or s p u b v → Or s q u b v
    widen s u b v = ⊎_elim (λ was. inl was) (λ put. inr (in_q u b v put))

pub none_written : (q : Values) (old new : Meaning) → Goes Nothing old new → Goes q old new
none_written q old new goes = weaker Nothing q old new goes (λ u b v none. absurd none)

-- two calls are one
pub both_Goes : (p q : Values) (first mid last : Meaning) → Goes p first mid → Goes q mid last → Goes (Or p q) first last
both_Goes p q first mid last one two = record {
  units = two.units ∙ one.units;
  size = λ u. two.size u ∙ one.size u;
  tells = two.tells ∙ one.tells;
  reads = λ u b v is. elim (two.reads u b v is) [
    | inl (inl was) ↦ ⊎_elim (λ or. inl (⊎_elim (λ old. inl old) (λ put. inr (inl put)) or)) (λ down. inr (two.falls down)) (one.reads u b v was)
    | inl (inr put) ↦ inl (inr (inr put))
    | inr down ↦ inr down
  ];
  leaves = λ u b v left. during u b v (two.leaves u b v left);
  later = omega (arith, one.later, two.later);
  since = λ t i le left. elim (two.since t i (omega (arith, one.later)) left) [
    | inl was ↦ ⊎_elim (λ past. inl past) (λ each. inr (λ u b. ⊎_elim (λ old. inl old) (λ put. inr (inl put)) (each u b))) (one.since t i le was)
    | inr each ↦ inr (λ u b. during u b (i u b) (each u b))
  ];
  keeps = λ t i le left. two.keeps t i (omega (arith, one.later)) (one.keeps t i le left);
  faults = λ u. omega (arith, one.faults u, two.faults u);
  disk_faults = λ d. omega (arith, one.disk_faults d, two.disk_faults d);
  falls = λ down. two.falls (one.falls down);
  unarmed = λ no. two.unarmed (one.unarmed no);
  safe = λ no down. one.safe no (two.safe (one.unarmed no) down);
}
  where
    during : (u b : ℕ) (v : List ℕ) → Or mid.leaves q u b v → Or first.leaves (Or p q) u b v
    during u b v (inl left) = ⊎_elim (λ old. inl old) (λ put. inr (inl put)) (one.leaves u b v left)
    during u b v (inr put) = inr (inr put)

-- a call that writes nothing after one that writes
pub then_nothing : (p : Values) (first mid last : Meaning) → Goes p first mid → Goes Nothing mid last → Goes p first last
then_nothing p first mid last one two = weaker (Or p Nothing) p first last (both_Goes p Nothing first mid last one two) (λ u b v. ⊎_elim (λ put. put) (λ none. absurd none))

-- and before one
pub nothing_then : (p : Values) (first mid last : Meaning) → Goes Nothing first mid → Goes p mid last → Goes p first last
nothing_then p first mid last one two = weaker (Or Nothing p) p first last (both_Goes Nothing p first mid last one two) (λ u b v. ⊎_elim (λ none. absurd none) (λ put. put))

pub still_left : (old new : Meaning) → Goes Nothing old new → (u b : ℕ) (v : List ℕ) → new.leaves u b v → old.leaves u b v
still_left old new goes u b v left = at_rest old u b v (goes.leaves u b v left)
