-- Events leave it as it is whether a world may have strayed.
use Rattle.std.proofs.Common.{◌≡◌, ◌∙◌, ℕ, Bool, List, [], ◌∷◌, Option, Some, None, ap, refl}
use Rattle.vx_history.specs.Doubts.{Doubted, Runs, crashed_by, happened, resolved_for}
use Rattle.vx_history.specs.declared.event.Event.{Event}
use Rattle.vx_events.specs.Doubts.{run_as}

resolved_strays : (o : Option ℕ) (d : Doubted) (taken : Bool) → (resolved_for o d taken).strayed ≡ d.strayed
resolved_strays None d taken = refl
resolved_strays (Some s) d taken = refl

happened_strays : (d : Doubted) (e : Event) (taken : Bool) → (happened d e taken).strayed ≡ d.strayed
happened_strays d e taken = resolved_strays (crashed_by e) d taken

pub run_strays : (taken : Bool) (d : Doubted) (es : List Event) → (run_as taken d es).strayed ≡ d.strayed
run_strays taken d [] = refl
run_strays taken d (e ∷ es) = run_strays taken (happened d e taken) es ∙ happened_strays d e taken

pub runs_strays : (es : List Event) (d new : Doubted) → Runs d es new → new.strayed ≡ d.strayed
runs_strays [] d new is = ap (λ (x : Doubted). x.strayed) is
runs_strays (e ∷ es) d new (taken, rest) = runs_strays es (happened d e taken) new rest ∙ happened_strays d e taken
