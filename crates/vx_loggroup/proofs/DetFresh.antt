-- A plex that is detached behind a beginning of logs: it may be, where it might before.
use Rattle.std.proofs.Common.{◌≡◌, ◌∙◌, ℕ, zero, suc, ◌-◌, ◌&&◌, ◌||◌, ◌≤◌, Bool, true, false, Option, Some, None, length, refl, ap, sym, arith}
use Rattle.std.specs.Prelude.{◌==◌, Err, IsOk, Ok, Result, if◌then◌else◌, is_some, nat_le, nat_lt, not}
use Rattle.std.proofs.lemmas.Bool.{leb-true}
use Rattle.vx_config.specs.Checks.{plexes_of}
use Rattle.vx_config.specs.Table.{greatest}
use Rattle.vx_config.specs.declared.config.Config.{Config}
use Rattle.vx_disk.specs.Shelf.{Meaning}
use Rattle.vx_grouplogs.proofs.LogShape.{same_count}
use Rattle.vx_group.specs.Dets.{any_below, det_refusal, is_other, margin}
use Rattle.vx_group.specs.declared.group_core.GroupCore.{GroupCore}
use Rattle.vx_group.proofs.HoldLemmas.{wide_shape}
use Rattle.vx_model.specs.declared.no.No.{No}
use Rattle.vx_volume.specs.Plexes.{active}
use Rattle.vx_loggroup.specs.Fresh.{LogsStart}

-- where none of four tests refuses, one of the same answers does not
none_again : (a b e f a' b' e' f' : Bool) (n1 n2 n3 n4 : No) → a' ≡ a → b' ≡ b → e' ≡ e → f' ≡ false → (if a then Some n1 else (if b then Some n2 else (if e then Some n3 else (if f then Some n4 else None)))) ≡ None
    → (if a' then Some n1 else (if b' then Some n2 else (if e' then Some n3 else (if f' then Some n4 else None)))) ≡ None
none_again true b e f a' b' e' f' n1 n2 n3 n4 x y z w none = absurd (let clash : Some n1 ≡ None = none in cc)
none_again false true e f a' b' e' f' n1 n2 n3 n4 x y z w none = absurd (let clash : Some n2 ≡ None = none in cc)
none_again false false true f a' b' e' f' n1 n2 n3 n4 x y z w none = absurd (let clash : Some n3 ≡ None = none in cc)
none_again false false false f a' b' e' f' n1 n2 n3 n4 x y z w none =
    ap (λ (t : Bool). if t then Some n1 else (if b' then Some n2 else (if e' then Some n3 else (if f' then Some n4 else None)))) x
    ∙ ap (λ (t : Bool). if t then Some n2 else (if e' then Some n3 else (if f' then Some n4 else None))) y
    ∙ ap (λ (t : Bool). if t then Some n3 else (if f' then Some n4 else None)) z ∙ ap (λ (t : Bool). if t then Some n4 else None) w

any_same : (c d : Config) (v p : ℕ) → ((q : ℕ) → active d v q ≡ active c v q) → (n : ℕ) → any_below (is_other d v p) n ≡ any_below (is_other c v p) n
any_same c d v p same zero = refl
any_same c d v p same (suc n) = ap (λ (b : Bool). b || (not (n == p) && active d v n)) (any_same c d v p same n) ∙ ap (λ (t : Bool). any_below (is_other c v p) n || (not (n == p) && t)) (same n)

-- a detach that is not refused is not behind such calls, where serials are left
pub may_still : (c d : Config) (v p : ℕ) → length d.volumes ≡ length c.volumes → plexes_of d v ≡ plexes_of c v → ((q : ℕ) → active d v q ≡ active c v q) → nat_lt (greatest - margin) d.serial ≡ false → det_refusal c v p ≡ None → det_refusal d v p ≡ None
may_still c d v p volumes plexes same low none =
    none_again (nat_le (length c.volumes) v) (nat_le (plexes_of c v) p) (active c v p && not (any_below (is_other c v p) (plexes_of c v))) (nat_lt (greatest - margin) c.serial) (nat_le (length d.volumes) v) (nat_le (plexes_of d v) p)
    (active d v p && not (any_below (is_other d v p) (plexes_of d v))) (nat_lt (greatest - margin) d.serial) _ _ _ _ (ap (λ (n : ℕ). nat_le n v) volumes) (ap (λ (n : ℕ). nat_le n p) plexes)
    (ap (λ (b : Bool). b && not (any_below (is_other d v p) (plexes_of d v))) (same p) ∙ ap (λ (n : ℕ). active c v p && not (any_below (is_other d v p) n)) plexes ∙ ap (λ (b : Bool). active c v p && not b) (any_same c d v p same (plexes_of c v))) low none

pub begins_may : (v p : ℕ) (c d : GroupCore) (m m' : Meaning) → LogsStart v c d m m' → d.inner.config.serial ≤ greatest - margin → det_refusal c.inner.config v p ≡ None → det_refusal d.inner.config v p ≡ None
begins_may v p c d m m' begins low none =
    may_still c.inner.config d.inner.config v p (let old = (wide_shape c).volumes in let new = (wide_shape d).volumes in let units = begins.goes.units in omega (arith, old, new, units))
    (sym (same_count d.inner.config c.inner.config v (sym (begins.loses.loses.frames v)) (let old = (wide_shape c).blocks v in let new = (wide_shape d).blocks v in let size = begins.goes.size v in omega (arith, old, new, size))))
    (begins.still v) (low_serial d.inner.config.serial low) none
  where
    low_serial : (s : ℕ) → s ≤ greatest - margin → nat_lt (greatest - margin) s ≡ false
    low_serial s le = by (nat_lt (greatest - margin) s) refl
      where
        by : (b : Bool) → nat_lt (greatest - margin) s ≡ b → b ≡ false
        by false is = refl
        by true is = absurd (let lt = leb-true _ _ is in omega (arith, lt, le))

-- ---- tests

pub some_of : {A : Type 0} (o : Option A) → is_some o ≡ true → o ≡ None → ⊥
some_of None is none = let clash : false ≡ true = is in cc
some_of (Some x) is none = let clash : Some x ≡ None = none in cc

pub never_err : {T E : Type 0} (r : Result T E) (e : E) → r ≡ Err e → IsOk r → ⊥
never_err (Ok x) e is ok = let clash : Ok x ≡ Err e = is in cc
never_err (Err e) f is ok = let clash : false ≡ true = ok in cc
