-- The places of calls among those that stay.
use Rattle.std.specs.Prelude.{◌≡◌, ℕ, suc, zero, ◌+◌, ◌<◌, ◌≤◌, ◌==◌, List, [], ◌∷◌, length, take, slice_get, Some}
use Rattle.std.specs.List.Sorted.{IsPermutation, IsNonDecreasingBy}
use Rattle.vx_model.specs.Numbers.{one_if}
use Rattle.vx_turn.specs.Acting.{LiesAmong}
use Rattle.vx_burst_threads.specs.declared.plan.Answered.{Answered}
use Rattle.vx_burst.specs.declared.placing.Spot.{Spot}
use Rattle.vx_burst.specs.Finishing.{unplaced}

-- what is noted of an answer with this place
abbrev pub spot_of : ℕ → ℕ → List Spot
spot_of zero at = []
spot_of (suc n) at = record { place = suc n; at = at } ∷ []

-- how many of these are of this member
abbrev pub times_noted : ℕ → List Spot → ℕ
times_noted k [] = 0
times_noted k (s ∷ spots) = one_if (s.at == k) + times_noted k spots

-- each member is noted once at most
abbrev pub NotedOnce : List Spot → Type 0
NotedOnce spots = (k : ℕ) → times_noted k spots ≤ 1

abbrev pub SpotsInside : ℕ → List Spot → Type 0
SpotsInside n spots = (i : ℕ) (s : Spot) → slice_get spots i ≡ Some s → s.at < n

-- of the first k answers those with a place were noted
pub record SpotsNoted (answers : List Answered) (k : ℕ) (spots : List Spot) : Type 0 where
  pub each : (i : ℕ) (s : Spot) → slice_get spots i ≡ Some s → (s.at < k) × ((a : Answered) × (slice_get answers s.at ≡ Some a) × (s.place ≡ a.place) × (0 < a.place))
  pub cover : (j : ℕ) (a : Answered) → j < k → slice_get answers j ≡ Some a → 0 < a.place → (s : Spot) × LiesAmong s spots × (s.at ≡ j)
  pub once : NotedOnce spots
  pub count : length spots + unplaced (take k answers) ≡ k

-- the same spots, by their places
abbrev pub Sorted : List Spot → List Spot → Type 0
Sorted xs ys = IsPermutation xs ys × IsNonDecreasingBy (λ (s : Spot). s.place) ys

-- the answers of the first n spots got their numbers from 1, and nothing else changed
pub record SpotsNumbered (spots : List Spot) (n : ℕ) (olds news : List Answered) : Type 0 where
  pub long : length news ≡ length olds
  pub each : (i : ℕ) (s : Spot) → i < n → slice_get spots i ≡ Some s → (b : Answered) × (slice_get news s.at ≡ Some b) × (b.place ≡ i + 1)
  pub same : (k : ℕ) (b : Answered) → slice_get news k ≡ Some b → (a : Answered) × (slice_get olds k ≡ Some a) × (b.reply ≡ a.reply)
  pub else : (k : ℕ) → ((i : ℕ) (s : Spot) → i < n → slice_get spots i ≡ Some s → s.at ≡ k → ⊥) → slice_get news k ≡ slice_get olds k

-- the answers with places have these in their order from 1 on, and so many of them there are
pub record Renumbered (olds news : List Answered) (n : ℕ) : Type 0 where
  pub spots : List Spot
  pub noted : SpotsNoted olds (length olds) spots
  pub rises : IsNonDecreasingBy (λ (s : Spot). s.place) spots
  pub numbered : SpotsNumbered spots (length spots) olds news
  pub long : length spots ≡ n
