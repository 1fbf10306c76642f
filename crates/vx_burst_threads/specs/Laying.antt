-- What was made, at the places of the plan.
use Rattle.std.specs.Prelude.{◌≡◌, ◌⊎◌, ℕ, List, length, slice_get, Some}
use Rattle.vx_burst_threads.specs.declared.plan.Answered.{Answered}
use Rattle.vx_burst_threads.specs.declared.plan.Waited.TheVariants as waited
use Rattle.vx_burst_threads.specs.declared.writer.Made.{Made}

abbrev pub answered_as : Made → Answered
answered_as m = record { place = m.place; reply = m.reply; waited = waited.No }

-- each answer is as it was, and nothing was made for its place, or is one that was made for it
pub record LaidWith (IsOne : Made → Type 0) (old new : List Answered) : Type 0 where
  pub long : length new ≡ length old
  pub each : (k : ℕ) (b : Answered) → slice_get new k ≡ Some b → ((slice_get old k ≡ Some b) × ((m : Made) → IsOne m → m.at ≡ k → ⊥)) ⊎ ((m : Made) × IsOne m × (m.at ≡ k) × (b ≡ answered_as m))
