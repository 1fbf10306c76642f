-- The units of a replicated volume group are inside it.
use Rattle.std.proofs.Common.{◌≡◌, ℕ, zero, suc, ◌<◌, Bool, true, false, List, [], ◌∷◌, length, ap, arith, refl}
use Rattle.std.specs.Prelude.{◌||◌, ◌==◌, get_or}
use Rattle.std.specs.List.{list_any}
use Rattle.std.proofs.lemmas.Bool.{eq-eqb}
use Rattle.vx_events.specs.RvgNotes.{inside_of}
use Rattle.vx_model.specs.declared.units.Units.{Units}
use Rattle.vx_rvg.specs.Views.{unit_of}

pub or_right : (a b : Bool) → b ≡ true → (a || b) ≡ true
or_right true b is = refl
or_right false b is = is

pub any_of : (w : ℕ) (xs : List ℕ) (v : ℕ) → v < length xs → get_or xs v 0 ≡ w → list_any (λ x. x == w) xs ≡ true
any_of w [] v low is = absurd (omega (arith, low))
any_of w (x ∷ xs) zero low is = ap (λ (t : Bool). t || list_any (λ y. y == w) xs) (eq-eqb x w is)
any_of w (x ∷ xs) (suc v) low is = or_right (x == w) (list_any (λ y. y == w) xs) (any_of w xs v (omega (arith, low)) is)

pub log_inside : (u : Units) → inside_of u u.srl ≡ true
log_inside u = ap (λ (t : Bool). t || ((u.srl == u.maps) || list_any (λ x. x == u.srl) u.vols)) (eq-eqb u.srl u.srl refl)

pub vol_inside : (u : Units) (v : ℕ) → v < length u.vols → inside_of u (unit_of u.vols v) ≡ true
vol_inside u v low =
    let w : ℕ = unit_of u.vols v in
    or_right (w == u.srl) ((w == u.maps) || list_any (λ x. x == w) u.vols) (or_right (w == u.maps) (list_any (λ x. x == w) u.vols) (any_of w u.vols v low refl))
