-- A log at rest.
use Rattle.std.proofs.Common.{◌≡◌, inl, ⊎_elim, ℕ, zero, suc, List, [], ◌∷◌, ◌++◌, take, refl, ◌∙◌, ap, subst}
use Rattle.std.proofs.lemmas.List.{append-nil}
use Rattle.vx_ringlog.specs.Cells.{flush}
use Rattle.vx_ringlog.specs.Records.{Record}
use Rattle.vx_ringlog.specs.Chain.{Recovers}
use Rattle.vx_ringlog.specs.Ready.{after}
use Rattle.vx_ringlog.specs.Logs.{Seal}
use Rattle.vx_ringlog.specs.Runs.{NothingLoose, RestIsStill}
use Rattle.vx_ringlog.proofs.Calls.{call_safe, fronts_loose}

take_none : (k : ℕ) (ss : List Record) → ss ≡ [] → take k ss ≡ []
take_none zero ss is = refl
take_none (suc k) [] is = refl
take_none (suc k) (s ∷ ss) is = absurd (cc (is))

pub rest_is_still : RestIsStill
rest_is_still size s log none =
    ⊎_elim
    (λ (o : (k : ℕ) × Recovers size s.unit.stable s.header (s.held ++ take k s.staged)). subst (λ (l : List Record). Recovers size s.unit.stable s.header l) (ap (λ (l : List Record). s.held ++ l) (take_none o.0 s.staged none) ∙ append-nil s.held) o.1)
    (λ no_call. absurd no_call)
    ((call_safe size s Seal log tt).0.0 s.unit.stable (λ b. inl refl))

pub nothing_loose : NothingLoose
nothing_loose size s = (fronts_loose size (flush s.unit) (after s.base s.held) s.staged, (λ g gone kept. refl), (λ g. refl))
