-- A new log stands on the shelf.
use Rattle.std.proofs.Common.{◌≡◌, ℕ, ◌+◌, ◌<◌, List, [], Bool, IsTrue, refl, sym, ◌∙◌, ap, subst, arith}
use Rattle.std.proofs.Math.Nat.{mod-eq_of_lt}
use Rattle.std.proofs.lemmas.Bool.{ne_eqb}
use Rattle.vx_model.specs.declared.state.State.{State as SiteState}
use Rattle.vx_srlfmt.specs.Kinds.{Other}
use Rattle.vx_srlfmt.specs.declared.header.Header.{Header}
use Rattle.vx_disk.specs.Shelf.{Meaning}
use Rattle.vx_ringlog.specs.Logs.{State}
use Rattle.vx_ringlog.specs.Starting.{Made, state_made}
use Rattle.vx_ringlog.proofs.Runs.{made_safe}
use Rattle.vx_srl.specs.Headers.{new_header}
use Rattle.vx_srl.specs.Rings.{RingOn}
use Rattle.vx_srl.specs.Starts.{HasNewHeaders, IsNewLog, new_cells}
use Rattle.vx_srl.specs.Views.{Log}
use Rattle.vx_srl.specs.declared.kept.Kept.{Kept}

abbrev pub new_log : ℕ → ℕ → ℕ → SiteState → Log
new_log unit ring head state = record { unit = unit; ring = ring; header = new_header state head; held = []; staged = [] }

-- behind both headers stand the zeros
zeros_behind : (first second : Header) (b : ℕ) → (new_cells first second).stable (2 + b) ≡ Other
zeros_behind first second b = rw (ne_eqb 0 (2 + b) (λ is. omega (arith, is)), ne_eqb 1 (2 + b) (λ is. omega (arith, is))) refl

is_made : (head : ℕ) (state : SiteState) (second : Header) → second.stamp ≡ 1 → Made head (new_cells (new_header state head) second).stable (new_header state head) second
is_made head state second one = record {
  first = refl;
  second = refl;
  ring = zeros_behind (new_header state head) second;
  stamp = refl;
  second_stamp = one;
  incarnation = refl;
  floor = refl;
  run = refl;
  low = omega arith;
  place = refl;
}

new_stands : (unit ring head : ℕ) (state : SiteState) (second : Header) (old new : Meaning) → 0 < ring → second.stamp ≡ 1 → HasNewHeaders unit ring (new_header state head) second old new → IsTrue old.tells
    → (s : State) × RingOn (new_log unit ring head state) s new × (s.held ≡ []) × (s.staged ≡ [])
new_stands unit ring head state second old new some one written tells = (
  state_made (new_cells (new_header state head) second).stable (new_header state head),
  record {
    is_log = (made_safe ring head (new_cells (new_header state head) second).stable (new_header state head) second (is_made head state second one)).0.0;
    tracks = written.each tells refl one;
    describes = record { header = refl; here = refl; other = refl; place = mod-eq_of_lt some; held = refl; staged = refl };
  },
  refl,
  refl,
)

pub is_new : (unit ring head : ℕ) (state : SiteState) (second : Header) (l : Log) (old new : Meaning) → l ≡ new_log unit ring head state → 0 < ring → second.stamp ≡ 1
    → HasNewHeaders unit ring (new_header state head) second old new → new.tells ≡ old.tells → IsNewLog unit ring head state l new
is_new unit ring head state second l old new is some one written tells = record {
  is = is;
  stands = λ told.
      subst (λ (x : Log). (s : State) × RingOn x s new × (s.held ≡ []) × (s.staged ≡ [])) (sym is)
      (new_stands unit ring head state second old new some one written (subst (λ (t : Bool). IsTrue t) tells told));
}

-- the same of what the program makes
pub makes_new : (unit ring blocks head : ℕ) (state : SiteState) (first second : Header) (held : List Kept) (l : Log) (old new : Meaning) → blocks ≡ ring → first ≡ new_header state head → second.stamp ≡ 1
    → 0 < blocks → held ≡ [] → l ≡ record { unit = unit; ring = blocks; header = first; held = held; staged = [] } → HasNewHeaders unit blocks first second old new → new.tells ≡ old.tells
    → IsNewLog unit ring head state l new
makes_new unit ring blocks head state first second held l old new size top one some none is written tells =
    is_new unit ring head state second l old new
    (is
    ∙ ap (λ (ks : List Kept). record { unit = unit; ring = blocks; header = first; held = ks; staged = [] }) none
    ∙ ap (λ (h : Header). record { unit = unit; ring = blocks; header = h; held = []; staged = [] }) top
    ∙ ap (λ (n : ℕ). new_log unit n head state) size)
    (omega (arith, some, size)) one
    (subst (λ (n : ℕ). HasNewHeaders unit n (new_header state head) second old new) size (subst (λ (h : Header). HasNewHeaders unit blocks h second old new) top written))
    tells
