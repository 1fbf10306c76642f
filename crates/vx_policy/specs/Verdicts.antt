-- The verdict on a write, as the program hands it out.
use Rattle.std.specs.Prelude.{ℕ, ◌+◌, ◌*◌, Bool, true, false, List, [], ◌∷◌, Option, Some, None, if◌then◌else◌}
use Rattle.vx_history.specs.declared.admission.Change.{Change}
use Rattle.vx_history.specs.declared.admission.Change.TheVariants.{Stays, ToStale, ToDcm}
use Rattle.vx_model.specs.declared.no.No.{No}
use Rattle.vx_history.specs.Admission.{Held, Admitted, Held_by, Goes}
use Rattle.vx_history.specs.Refusals.{why_held}
use Rattle.vx_policy.specs.declared.verdict.Verdict.{Verdict}
use Rattle.vx_policy.specs.declared.verdict.Verdict.TheVariants.{Go, Refuse}

abbrev pub refusal_if : Option Held → Option No
refusal_if None = None
refusal_if (Some why) = Some (why_held why)

abbrev pub goes_stale : Change → Bool
goes_stale Stays = false
goes_stale ToStale = true
goes_stale ToDcm = false

abbrev pub goes_dcm : Change → Bool
goes_dcm Stays = false
goes_dcm ToStale = false
goes_dcm ToDcm = true

abbrev pub bit_for : Bool → ℕ
bit_for b = if b then 1 else 0

-- a set of places as a number: the first place is the lowest bit
unfoldable pub bits_for : (Change → Bool) → List Change → ℕ
bits_for test [] = 0
bits_for test (c ∷ cs) = bit_for (test c) + 2 * bits_for test cs

abbrev pub verdict : Admitted → Verdict
verdict (Held_by why) = Refuse (why_held why)
verdict (Goes changes) = Go (bits_for goes_stale changes) (bits_for goes_dcm changes)
