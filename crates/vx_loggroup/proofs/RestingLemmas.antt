-- What a deport says of the logs of the first volumes.
use Rattle.std.proofs.Common.{◌≡◌, ◌∙◌, inl, inr, ℕ, zero, suc, ◌+◌, ◌<◌, Bool, true, false, Some, List, length, set, get_or-set_same, get_or-set_other, length-set, refl, sym, ap, subst, arith}
use Rattle.std.specs.Prelude.{◌||◌, slice_get}
use Rattle.std.proofs.lemmas.Bool.{cases_eq}
use Rattle.vx_config.specs.declared.config.Config.{Config}
use Rattle.vx_group.specs.Dets.{any_below}
use Rattle.vx_logimport.specs.Rests.{rests}
use Rattle.vx_logs.specs.declared.logs.Logs.{Logs}
use Rattle.vx_model.specs.declared.limits.TheConstants.{MOST_VOLUMES}
use Rattle.vx_loggroup.specs.Resting.{VolumeRests}

pub none_below : (test : ℕ → Bool) (n : ℕ) → any_below test n ≡ false → (k : ℕ) → k < n → test k ≡ false
none_below test zero is k lt = absurd (omega (arith, lt))
none_below test (suc n) is k lt = by (any_below test n) refl (test n) refl (λ off apart. none_below test n off k (omega (arith, lt, apart)))
  where
    by : (a : Bool) → any_below test n ≡ a → (b : Bool) → test n ≡ b → (any_below test n ≡ false → (k ≡ n → ⊥) → test k ≡ false) → test k ≡ false
    by true one b two more = absurd (let clash : true ≡ false = sym (ap (λ (t : Bool). t || test n) one) ∙ is in cc)
    by false one true two more = absurd (let clash : true ≡ false = sym (ap (λ (t : Bool). t || test n) one ∙ two) ∙ is in cc)
    by false one false two more = elim (cases_eq k n) [
      | inl same ↦ ap test same ∙ two
      | inr apart ↦ more one apart
    ]

-- of the volumes below n it is so
pub record RestsSoFar (c : Config) (ls : List Logs) (n : ℕ) (maps drls : List Bool) : Type 0 where
  pub each : (v : ℕ) (l : Logs) → v < n → slice_get ls v ≡ Some l → VolumeRests c v l (rests maps v) (rests drls v)
  pub long_maps : length maps ≡ MOST_VOLUMES
  pub long_drls : length drls ≡ MOST_VOLUMES

pub no_rests : (c : Config) (ls : List Logs) (maps drls : List Bool) → length maps ≡ MOST_VOLUMES → length drls ≡ MOST_VOLUMES → RestsSoFar c ls 0 maps drls
no_rests c ls maps drls one two = record { each = λ v l lt is. absurd (omega (arith, lt)); long_maps = one; long_drls = two }

pub one_rest : (c : Config) (ls : List Logs) (n : ℕ) (maps drls : List Bool) (map drl : Bool) (l : Logs) → RestsSoFar c ls n maps drls → n < MOST_VOLUMES → slice_get ls n ≡ Some l → VolumeRests c n l map drl → RestsSoFar c ls (n + 1) (set maps n map) (set drls n drl)
one_rest c ls n maps drls map drl l was lt is rest = record {
  each = λ v k below at. elim (cases_eq v n) [
    | inl same ↦ here v k same at
    | inr apart ↦
        subst (λ (b : Bool). VolumeRests c v k b (rests (set drls n drl) v)) (sym (get_or-set_other maps n v map false apart))
        (subst (λ (b : Bool). VolumeRests c v k (rests maps v) b) (sym (get_or-set_other drls n v drl false apart)) (was.each v k (omega (arith, below, apart)) at))
  ];
  long_maps = length-set maps n map ∙ was.long_maps;
  long_drls = length-set drls n drl ∙ was.long_drls;
}
  where
    map_here : rests (set maps n map) n ≡ map
    map_here = get_or-set_same maps n map false (let long = was.long_maps in omega (arith, lt, long))

    drl_here : rests (set drls n drl) n ≡ drl
    drl_here = get_or-set_same drls n drl false (let long = was.long_drls in omega (arith, lt, long))

    here : (v : ℕ) (k : Logs) → v ≡ n → slice_get ls v ≡ Some k → VolumeRests c v k (rests (set maps n map) v) (rests (set drls n drl) v)
    here v k same at =
        let at_n : slice_get ls n ≡ Some k = subst (λ (w : ℕ). slice_get ls w ≡ Some k) same at in
        let both : Some l ≡ Some k = sym is ∙ at_n in
        let one : l ≡ k = cc in
        subst (λ (w : ℕ). VolumeRests c w k (rests (set maps n map) w) (rests (set drls n drl) w)) (sym same)
        (subst (λ (x : Logs). VolumeRests c n x (rests (set maps n map) n) (rests (set drls n drl) n)) one
        (subst (λ (b : Bool). VolumeRests c n l b (rests (set drls n drl) n)) (sym map_here) (subst (λ (b : Bool). VolumeRests c n l map b) (sym drl_here) rest)))
