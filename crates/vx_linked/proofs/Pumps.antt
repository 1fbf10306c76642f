-- A link that a pump left, as an event of the world.
use Rattle.std.proofs.Common.{◌≡◌, ◌∙◌, ◌+◌, ℕ, List, false, ap, sym, refl}
use Rattle.std.specs.Prelude.{max, min, not, ◌&&◌, ltb}
use Rattle.vx_courier.specs.UnderWay.{FlightStands}
use Rattle.vx_history.specs.Admission.{is_live_link}
use Rattle.vx_history.specs.Events.{link_event, link_step}
use Rattle.vx_history.specs.Headers.{is_refused}
use Rattle.vx_history.specs.LinkForms.{plain_link, with_plain}
use Rattle.vx_history.specs.Refusals.{Outcome, unless, when_live}
use Rattle.vx_history.specs.Sending.{Sent, by_log, pumped_up_to, with_nothing}
use Rattle.vx_history.specs.Step.{done, outcome_of, step}
use Rattle.vx_history.specs.World.{Link, Node, World, updated}
use Rattle.vx_history.specs.declared.event.Event.TheVariants.{Pump as PumpAt}
use Rattle.vx_history.specs.declared.event.Said.{Said}
use Rattle.vx_history.specs.declared.sender.Action.TheVariants.{Updates}
use Rattle.vx_history.specs.declared.sender.SEvent.TheVariants.{Pump}
use Rattle.vx_history.proofs.Updates.{at_place, by_test}
use Rattle.vx_model.specs.declared.limits.TheConstants.{MOST_AHEAD}
use Rattle.vx_model.specs.declared.link.Link.{Link as PlainLink}
use Rattle.vx_model.specs.declared.no.No.TheVariants.{LinkDown, Paused}
use Rattle.vx_model.specs.declared.no.SiteName.TheVariants.{Number as SiteNumber}
use Rattle.vx_net.specs.Flights.{Flying}
use Rattle.vx_order.specs.declared.facts.LinkFacts.{LinkFacts}
use Rattle.vx_order.specs.declared.facts.SiteFacts.{SiteFacts}
use Rattle.vx_script.specs.declared.line.ScriptLine.TheVariants.{Pump as PumpLine}
use Rattle.vx_events.specs.Facts.{site_number}
use Rattle.vx_events.specs.LinkedFacts.{needed_by}
use Rattle.vx_events.specs.StepsOver.{facts_over}
use Rattle.vx_events.proofs.LinkAgreeing.{pump_agrees}
use Rattle.vx_linked.specs.Tables.{IsUnrefused, relinked}
use Rattle.vx_linked.specs.Turns.{ComesBehind, Relinked}
use Rattle.vx_linked.proofs.Confirms.{next, peel}
use Rattle.vx_linked.proofs.Finding.{on_link, pump_tested}
use Rattle.vx_linked.proofs.Moves.{comes, passed}
use Rattle.vx_linked.proofs.Shown.{link_there, relinked_is}

module _ (w : World) (from to : List ℕ) (free : IsUnrefused (facts_over w) (PumpLine from to)) where
  abbrev a : ℕ
  a = site_number w from

  abbrev b : ℕ
  b = site_number w to

  abbrev n : Node
  n = w.nodes a

  abbrev l : Link
  l = w.links a b

  -- the link that a pump makes of it
  abbrev next_link : Link
  next_link = with_plain l (link_step w a b Pump).link

  up_to_same : (low high : ℕ) → needed_by n b (with_plain l (pumped_up_to (plain_link b l) low high).link) ≡ needed_by n b l
  up_to_same low high =
      by_test (λ (t : Sent). needed_by n b (with_plain l t.link) ≡ needed_by n b l) (ltb low high)
      (let t : Sent = record { link = record (plain_link b l) { sent = high }; action = Updates (low + 1) high } in t) (with_nothing (record (plain_link b l) { sent = low })) (λ more. refl) (λ none. refl)

  -- its hold is that of before
  used_same : needed_by n b next_link ≡ needed_by n b l
  used_same =
      by_test (λ (t : Sent). needed_by n b (with_plain l t.link) ≡ needed_by n b l) (is_live_link (plain_link b l) && by_log l.mode)
      (pumped_up_to (plain_link b l) (max l.sent l.stored) (min n.safe (l.net + MOST_AHEAD))) (with_nothing (plain_link b l))
      (λ live. up_to_same (max l.sent l.stored) (min n.safe (l.net + MOST_AHEAD))) (λ dead. refl)

  link_is : (link_event w a b Pump).links a b ≡ next_link
  link_is = ap (λ (row : ℕ → Link). row b) (at_place w.links a (updated (w.links a) b next_link)) ∙ at_place (w.links a) b next_link

  outcome_is : outcome_of w (PumpAt a b) ≡ done (link_event w a b Pump)
  outcome_is =
      let o : Outcome = done (link_event w a b Pump) in
      let paused : Outcome = unless l.paused Paused w o in
      let live : Outcome = when_live w b l o in
      let on : outcome_of w (PumpAt a b) ≡ live = passed w from to (pump_tested (facts_over w) from to free) live in
      let said : is_refused (outcome_of w (PumpAt a b)).said ≡ false = ap (λ (s : Said). is_refused s) (pump_agrees w free.0 from to free.1) in
      let r1 = next (outcome_of w (PumpAt a b)) live on said in
      let up = peel (not (l.attached && l.connected)) (LinkDown (SiteNumber b)) w paused r1 in
      let r2 = next live paused up r1 in
      on ∙ up ∙ peel l.paused Paused w o r2

  pump_facts : (new : List SiteFacts) (k : PlainLink) → Relinked from to k (facts_over w) new → k ≡ plain_link b ((link_event w a b Pump).links a b) → new ≡ facts_over (link_event w a b Pump)
  pump_facts new k t is =
      let up = (on_link w from to (pump_tested (facts_over w) from to free)).up in
      let plain : k ≡ plain_link b next_link = is ∙ ap (plain_link b) link_is in
      t.new_is
      ∙ ap (λ (x : LinkFacts). relinked (facts_over w) t.at.here t.at.site t.at.place (record x { link = k })) (link_there w from to t.at up)
      ∙ ap (λ (j : PlainLink). relinked (facts_over w) t.at.here t.at.site t.at.place (let x : LinkFacts = record { link = j; used = needed_by n b l } in x)) plain
      ∙ ap (λ (u : ℕ). relinked (facts_over w) t.at.here t.at.site t.at.place (let x : LinkFacts = record { link = plain_link b next_link; used = u } in x)) (sym used_same)
      ∙ relinked_is w from to t.at up next_link refl

  -- the link as its rule leaves it
  again : plain_link b next_link ≡ (link_step w a b Pump).link
  again =
      by_test (λ (t : Sent). plain_link b (with_plain l t.link) ≡ t.link) (is_live_link (plain_link b l) && by_log l.mode)
      (pumped_up_to (plain_link b l) (max l.sent l.stored) (min n.safe (l.net + MOST_AHEAD))) (with_nothing (plain_link b l))
      (λ live. up_to (max l.sent l.stored) (min n.safe (l.net + MOST_AHEAD))) (λ dead. refl)
    where
      up_to : (low high : ℕ) → (let t : Sent = pumped_up_to (plain_link b l) low high in plain_link b (with_plain l t.link) ≡ t.link)
      up_to low high =
          by_test (λ (t : Sent). plain_link b (with_plain l t.link) ≡ t.link) (ltb low high)
          (let t : Sent = record { link = record (plain_link b l) { sent = high }; action = Updates (low + 1) high } in t) (with_nothing (record (plain_link b l) { sent = low })) (λ more. refl) (λ none. refl)

  pub pump_by_rule : (new : List SiteFacts) (k : PlainLink) → Relinked from to k (facts_over w) new → k ≡ (link_step w a b Pump).link → new ≡ facts_over (step w (PumpAt a b)).world
  pump_by_rule new k t is =
      pump_facts new k t (is ∙ sym again ∙ ap (plain_link b) (sym link_is)) ∙ ap (λ (o : Outcome). facts_over o.world) (sym outcome_is)

  pub pump_comes : (new : List SiteFacts) (k : PlainLink) (f : Flying) → Relinked from to k (facts_over w) new → k ≡ plain_link b ((link_event w a b Pump).links a b) → FlightStands (link_event w a b Pump).packets f
      → ComesBehind w (PumpAt a b) new f
  pump_comes new k f t is flight = comes w (PumpAt a b) new f (done (link_event w a b Pump)) outcome_is refl (pump_facts new k t is) flight
