-- A shelf as one whose crashes leave each block by itself: any mix of what the blocks may have.
use Rattle.std.specs.Prelude.{◌≡◌, ◌⊎◌, ℕ, zero, suc, Bool, true, false, IsFalse, IsTrue, List, [], ◌∷◌, length}
use Rattle.std.proofs.Common.{inl, inr, ⊎_elim, sym, ◌∙◌}
use Rattle.vx_disk.specs.Shelf.{Each, Image, Lawful, Meaning}

-- where contents are told, the shelf at one of these moments from this number on may have left the image, block by block
abbrev pub WasMixed : {S : Type 0} → (S → Meaning) → Bool → List S → ℕ → Image → Type 0
WasMixed meaning told [] t i = ⊥
WasMixed meaning told (s ∷ ss) zero i = (IsTrue told × Each (meaning s).leaves i) ⊎ WasMixed meaning told ss zero i
WasMixed meaning told (s ∷ ss) (suc t) i = WasMixed meaning told ss t i

-- a shelf that was these at earlier moments
abbrev pub blockwise_since : {S : Type 0} → (S → Meaning) → List S → Meaning → Meaning
blockwise_since meaning past m = record m { now = Each m.leaves; moment = length past; left_since = λ t i. Each m.leaves i ⊎ WasMixed meaning m.tells past t i }

-- the same without its past
abbrev pub blockwise : Meaning → Meaning
blockwise m = record m { now = Each m.leaves; moment = 0; left_since = λ t i. Each m.leaves i ⊎ ⊥ }

never_mixed : {S : Type 0} (meaning : S → Meaning) (told : Bool) (past : List S) (t : ℕ) (i : Image) → IsFalse told → WasMixed meaning told past t i → ⊥
never_mixed meaning told [] t i untold was = was
never_mixed meaning told (s ∷ ss) zero i untold (inl here) = let clash : true ≡ false = sym here.0 ∙ untold in cc
never_mixed meaning told (s ∷ ss) zero i untold (inr more) = never_mixed meaning told ss zero i untold more
never_mixed meaning told (s ∷ ss) (suc t) i untold was = never_mixed meaning told ss t i untold was

never_behind : {S : Type 0} (meaning : S → Meaning) (told : Bool) (past : List S) (i : Image) → WasMixed meaning told past (length past) i → ⊥
never_behind meaning told [] i was = was
never_behind meaning told (s ∷ ss) i was = never_behind meaning told ss i was

-- it obeys the laws of a shelf
pub blockwise_lawful : {S : Type 0} (meaning : S → Meaning) (past : List S) (m : Meaning) → Lawful m → Lawful (blockwise_since meaning past m)
blockwise_lawful meaning past m law = record {
  some = law.some;
  image = λ told. ((λ u b. (law.some told u b).0), λ u b. law.shown u b (law.some told u b).0 (law.some told u b).1);
  none = law.none;
  never = λ untold t i left. ⊎_elim (λ each. law.none untold 0 0 (i 0 0) (each 0 0)) (λ was. never_mixed meaning m.tells past t i untold was) left;
  few = law.few;
  small = law.small;
  shown = law.shown;
  counts_now = λ t i le each. inl each;
  only_now = λ i left. ⊎_elim (λ each. each) (λ was. absurd (never_behind meaning m.tells past i was)) left;
  within = λ i each. each;
}

pub alone_lawful : (m : Meaning) → Lawful m → Lawful (blockwise m)
alone_lawful m law = record {
  some = law.some;
  image = λ told. ((λ u b. (law.some told u b).0), λ u b. law.shown u b (law.some told u b).0 (law.some told u b).1);
  none = law.none;
  never = λ untold t i left. ⊎_elim (λ each. law.none untold 0 0 (i 0 0) (each 0 0)) (λ was. was) left;
  few = law.few;
  small = law.small;
  shown = law.shown;
  counts_now = λ t i le each. inl each;
  only_now = λ i left. ⊎_elim (λ each. each) (λ was. absurd was) left;
  within = λ i each. each;
}
