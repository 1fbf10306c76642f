-- `hearing_link`: clauses hears, between and deaf.
use Rattle.std.proofs.Common.{◌≡◌, ◌∙◌, ◌<◌, ℕ, true, false, ap, sym, subst}
use Rattle.vx_events.specs.GroupLines.{is_over_group}
use Rattle.vx_history.specs.Sends.{is_linked}
use Rattle.vx_linked.specs.Hearings.{hearing}
use Rattle.vx_linked.proofs.Heard.{between_so, deaf_so, hears_so}
use Rattle.vx_linked.proofs.hearing.hearing_link.Goals as goal

pub returns-clause-hears : goal.returns-clause-hears
returns-clause-hears c = λ w l is some. hears_so w c.args.sites.now c.args.target c.args.source l is (sym c.find_hearing.ensures ∙ some)

pub returns-clause-between : goal.returns-clause-between
returns-clause-between c = λ l some. between_so c.args.sites.now c.args.target c.args.source l (sym c.find_hearing.ensures ∙ some)

pub returns-clause-deaf : goal.returns-clause-deaf
returns-clause-deaf c = λ w p e is none target source below small alone listed heard.
    deaf_so w p e heard c.args.sites.now is
    (ap (λ (i : ℕ). hearing c.args.sites.now i p.source) target ∙ ap (λ (j : ℕ). hearing c.args.sites.now c.args.target j) source ∙ sym c.find_hearing.ensures ∙ none)
    (subst (λ (i : ℕ). i < w.sites) (sym target) below) (subst (λ (j : ℕ). j < w.sites) (sym source) small)
    (subst (λ (j : ℕ). is_over_group (w.nodes p.target) ≡ true → is_linked (w.links p.target j) ≡ false) (sym source)
    (subst (λ (i : ℕ). is_over_group (w.nodes i) ≡ true → is_linked (w.links i c.args.source) ≡ false) (sym target) alone)) listed
