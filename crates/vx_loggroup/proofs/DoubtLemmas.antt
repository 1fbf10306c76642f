-- Volumes that are marked as unsure one after the other, where their plexes are not said to be alike.
use Rattle.std.proofs.Common.{◌≡◌, ◌∙◌, ◌⊎◌, inl, inr, ⊎_elim, ℕ, ◌+◌, ◌<◌, Bool, true, false, List, ap, arith, sym}
use Rattle.std.proofs.lemmas.Bool.{cases_lt}
use Rattle.vx_group.specs.Finds.{MoreUnsure}
use Rattle.vx_group.proofs.UnsureMarks.{then_unsure}
use Rattle.vx_kept.specs.Cleans.{is_unsure}
use Rattle.vx_loggroup.specs.LoggedVolumes.{is_alike}

-- the first n volumes are
pub record DoubtsSoFar (alike start : List Bool) (n : ℕ) (unsure : List Bool) : Type 0 where
  pub sure : (v : ℕ) → v < n → is_unsure unsure v ≡ false → is_alike alike v ≡ true
  pub more : MoreUnsure start unsure

pub none_doubted : (alike start : List Bool) → DoubtsSoFar alike start 0 start
none_doubted alike start = record { sure = λ v lt off. absurd (omega (arith, lt)); more = λ v off. off }

pub more_doubted : (alike start old new : List Bool) (n : ℕ) → DoubtsSoFar alike start n old → (is_unsure new n ≡ false → is_alike alike n ≡ true) → MoreUnsure old new → DoubtsSoFar alike start (n + 1) new
more_doubted alike start old new n was here more = record {
  sure = λ v lt off. ⊎_elim
      (λ low. was.sure v low (more v off))
      (λ high. let same : v ≡ n = omega (arith, lt, high) in ap (λ (k : ℕ). is_alike alike k) same ∙ here (ap (λ (k : ℕ). is_unsure new k) (sym same) ∙ off))
      (cases_lt v n);
  more = then_unsure start old new was.more more;
}
