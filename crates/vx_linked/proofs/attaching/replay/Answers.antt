-- `replay`: what the link becomes, and what it holds of the log.
use Rattle.std.proofs.Common.{◌≡◌, ◌∙◌, true, ap, subst}
use Rattle.vx_history.specs.Admission.{hold, is_holding}
use Rattle.vx_model.specs.declared.link.Link.{Link}
use Rattle.vx_order.specs.declared.facts.LinkFacts.{LinkFacts}
use Rattle.vx_replay.specs.Primary.{primary_step}
use Rattle.vx_linked.specs.Converting.{with_need}
use Rattle.vx_linked.proofs.ReplayHolds.{replay_holds}
use Rattle.vx_linked.proofs.attaching.replay.Goals as goal

pub returns-clause-link : goal.returns-clause-link
returns-clause-link c = c.behind-replayed.ensures ∙ ap (λ (x : Link). with_need x c.args.l.now) c.primary-action.ensures.link

pub returns-clause-hold : goal.returns-clause-hold
returns-clause-hold c = λ held now.
    let is : c.behind-replayed.result.link ≡ (primary_step c.args.l.now.link c.args.event.now).link = ap (λ (f : LinkFacts). f.link) c.behind-replayed.ensures ∙ c.primary-action.ensures.link in
    ap (λ (x : Link). hold x) is ∙ replay_holds c.args.l.now.link c.args.event.now held (subst (λ (x : Link). is_holding x ≡ true) is now)
