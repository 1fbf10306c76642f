-- A group whose writes come into their volumes and whose log is emptied behind them, as one call.
use Rattle.std.proofs.Common.{◌≡◌, ◌⊎◌, inl, inr, ℕ, ◌+◌, Option, Some, None, Ok, subst}
use Rattle.vx_model.specs.declared.state.State.{State as SiteState}
use Rattle.vx_disk.specs.Moves.{Blocks, Moves, Run, Union}
use Rattle.vx_disk.specs.Shelf.{Image, Meaning}
use Rattle.vx_disk.proofs.Moving.{goes_on, wider}
use Rattle.vx_rvg.specs.Groups.{ApplyIs, halted_or, core_applied}
use Rattle.vx_rvg.specs.Holdings.{kept_in}
use Rattle.vx_rvg.specs.Saves.{with_restart}
use Rattle.vx_rvg.specs.Stands.{FoundAs, Resting, Rests, Saving}
use Rattle.vx_rvg.specs.Views.{Core, Waits}

-- what an apply that was answered leaves
pub applied_by : (halted : Option ℕ) (core : Core) (count : ℕ) (m m' : Meaning) (core' : Core) (number : ℕ) → ApplyIs (halted_or halted None) core count m m' core' (Ok number)
    → (n : ℕ) × (core' ≡ core_applied core number n)
applied_by (Some disk) core count m m' core' number is = let wrong : _ = is.0 in cc
applied_by None core count m m' core' number is = is.1

module _ (core : Core) (state : SiteState) (head : ℕ) (m mid : Meaning) (moves : Moves (Waits core m) (Resting core m) m mid) where
  abbrev all_blocks : Blocks
  all_blocks = Union (Waits core m) (Run core.units.srl 0 (core.log.ring + 2))

  -- while writes come into their volumes
  pub apply_part : Moves (Union (Waits core m) (Run core.units.srl 0 (core.log.ring + 2))) (Saving core (with_restart core state head) m) m mid
  apply_part =
      wider (Waits core m) all_blocks (Resting core m) (Saving core (with_restart core state head) m) m mid moves (λ u b waits. record { here = inl waits })
      (λ i beside resting. record { each = λ h stands. inl (resting.each h stands) })

  -- and behind that
  module _ (core' : Core) (number n : ℕ) (is : core' ≡ core_applied core number n) (rests : Rests core core' m mid) (new : Meaning) where
    found_since : (i : Image) → Saving core' (with_restart core' state head) mid i → Saving core (with_restart core state head) m i
    found_since i saving = record {
      each = λ h stands.
          subst (λ (k : Core). FoundAs k i h ⊎ FoundAs (with_restart k state head) i (kept_in (with_restart k state head) h)) is (saving.each h (rests.each h stands));
    }

    pub restart_part : Moves (Run core'.units.srl 0 (core'.log.ring + 2)) (Saving core' (with_restart core' state head) mid) mid new
        → Moves (Union (Waits core m) (Run core.units.srl 0 (core.log.ring + 2))) (Saving core (with_restart core state head) m) m new
    restart_part two =
        goes_on all_blocks (Run core'.units.srl 0 (core'.log.ring + 2)) (Saving core (with_restart core state head) m) (Saving core' (with_restart core' state head) mid) m mid new apply_part two
        (λ u b run. record { here = inr (subst (λ (k : Core). Run k.units.srl 0 (k.log.ring + 2) u b) is run) })
        (λ i beside saving. found_since i saving)
