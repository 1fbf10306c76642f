-- Copies come to one part of the disks before the other.
use Rattle.std.proofs.Common.{◌⊎◌, inl, inr, ⊎_elim, ℕ, List, arith}
use Rattle.vx_disk.specs.Shelf.{Meaning}
use Rattle.vx_copyfmt.specs.declared.area.AreaHeader.{AreaHeader}
use Rattle.vx_copyio.specs.Orders.{Ordered}
use Rattle.vx_copyio.specs.Putting.{AllNew, AreasOf, Copied}

module _ (h : AreaHeader) (body : List ℕ) (one two : ℕ → Type 0) (apart : (u : ℕ) → one u → two u → ⊥) (old mid : Meaning) (copied : Copied one h body old mid) where
  before_two : (u b : ℕ) (v : List ℕ) → two u → old.leaves u b v ⊎ AreasOf one u b → old.leaves u b v
  before_two u b v second = ⊎_elim (λ was. was) (λ (mine : AreasOf one u b). absurd (apart u mine.on second))

  -- the second part is as it was
  pub first_ordered : Ordered one two h body old mid
  first_ordered = record {
    along = record {
      each = λ t i le left. elim (copied.moves.since t i le left) [
        | inl was ↦ inl was
        | inr now ↦ inr (inl (λ u second b. before_two u b (i u b) second (now.0 u b)))
      ];
    };
    now = λ i left. inl (λ u second b. before_two u b (i u b) second (copied.moves.leaves u b (i u b) (left u b)));
  }

  module _ (all : AllNew one h body old mid) (new : Meaning) (more : Copied two h body mid new) where
    after_one : (u b : ℕ) (v : List ℕ) → one u → mid.leaves u b v ⊎ AreasOf two u b → mid.leaves u b v
    after_one u b v first = ⊎_elim (λ was. was) (λ (mine : AreasOf two u b). absurd (apart u first mine.on))

    -- the first part has its new copies
    pub second_ordered : Ordered one two h body old new
    second_ordered = record {
      along = record {
        each = λ t i le left. elim (more.moves.since t i (omega (arith, le, copied.moves.later)) left) [
          | inl was ↦ first_ordered.along.each t i le was
          | inr now ↦ inr (inr (λ u first. record { each = λ counts lower counted. (all.each u first).each counts (i u) lower counted (λ b. after_one u b (i u b) first (now.0 u b)) }))
        ];
      };
      now = λ i left. inr (λ u first. record { each = λ counts lower counted. (all.each u first).each counts (i u) lower counted (λ b. after_one u b (i u b) first (more.moves.leaves u b (i u b) (left u b))) });
    }
