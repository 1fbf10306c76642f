-- What an import answers of a group that is up, and of one that is not.
use Rattle.std.proofs.Common.{◌≡◌, refl, subst, sym}
use Rattle.std.specs.Prelude.{Err, IsSome, Ok, Option, Result}
use Rattle.vx_disk.specs.Shelf.{Meaning}
use Rattle.vx_disk.specs.declared.shelf.Shelf.{Ghosts}
use Rattle.vx_model.specs.declared.errors.Stop.{Stop}
use Rattle.vx_grouped.specs.Brings.{AnswersUp, BringsAtSite, CameKnown, ComesUp, RestKnown}
use Rattle.vx_grouped.specs.declared.group_site.GroupSite.{GroupSite}
use Rattle.vx_grouped.specs.declared.group_site.GroupSite.TheVariants.{Deported, Down, Gone, Marked, Up}
use Rattle.vx_grouped.specs.declared.idle.Idle.{Idle}
use Rattle.vx_logimport.specs.declared.rested.Rested.{Rested}

pub rest_known : (o : Option Rested) (r : Result (Unit {0}) Stop) → IsSome o → RestKnown o r
rest_known o (Ok done) is = is
rest_known o (Err stop) is = λ early. is

module _ {R : Type 0} {g : Ghosts R} where
  -- a refusal brings nothing
  pub brings_refused : (old : Meaning) (s : GroupSite R g) (stop : Stop) → BringsAtSite old s (Err stop)
  brings_refused old (Up laid) stop = tt
  brings_refused old (Deported idle) stop = tt
  brings_refused old (Down idle) stop = tt
  brings_refused old (Marked rack) stop = tt
  brings_refused old Gone stop = tt

  -- and leaves a site that was not to be imported as it was
  pub comes_refused : (s : GroupSite R g) (stop : Stop) → ComesUp s s (Err stop)
  comes_refused (Up laid) stop = refl
  comes_refused (Deported idle) stop = tt
  comes_refused (Down idle) stop = tt
  comes_refused (Marked rack) stop = refl
  comes_refused Gone stop = tt

  -- whether it is known which volumes rest
  pub known_rest : (s : GroupSite R g) (r : Result (Unit {0}) Stop) → ((idle : Idle R g) → s ≡ Down idle → ⊥) → CameKnown s r
  known_rest (Up laid) r never = tt
  known_rest (Deported idle) r never = tt
  known_rest (Down idle) r never = absurd (never idle refl)
  known_rest (Marked rack) r never = tt
  known_rest Gone r never = tt

  pub known_down : (s : GroupSite R g) (idle : Idle R g) (r : Result (Unit {0}) Stop) → s ≡ Down idle → RestKnown idle.rested r → CameKnown s r
  known_down s idle r is known = subst (λ (e : GroupSite R g). CameKnown e r) (sym is) known

  pub known_away : (s : GroupSite R g) (idle : Idle R g) (r : Result (Unit {0}) Stop) → s ≡ Deported idle → CameKnown s r
  known_away s idle r is = subst (λ (e : GroupSite R g). CameKnown e r) (sym is) tt

  module _ (s new : GroupSite R g) (idle : Idle R g) (r : Result (Unit {0}) Stop) (answers : AnswersUp new r) where
    pub comes_down : s ≡ Down idle → ComesUp s new r
    comes_down is = subst (λ (e : GroupSite R g). ComesUp e new r) (sym is) answers

    pub comes_away : s ≡ Deported idle → ComesUp s new r
    comes_away is = subst (λ (e : GroupSite R g). ComesUp e new r) (sym is) answers
