-- The lines that turn a link, as events of the world.
use Rattle.std.proofs.Common.{◌≡◌, ◌∙◌, ℕ, List, [], ◌++◌, ap, sym, subst, refl}
use Rattle.std.proofs.lemmas.List.{append-nil}
use Rattle.vx_courier.specs.UnderWay.{FlightStands}
use Rattle.vx_history.specs.Events.{greeting_back, link_event, link_step, ticked_at, ticked_link}
use Rattle.vx_history.specs.LinkForms.{with_plain}
use Rattle.vx_history.specs.Refusals.{Outcome, keeps_links, on_link as on_link_at}
use Rattle.vx_history.specs.Sends.{sending, with_link}
use Rattle.vx_history.specs.Step.{done, outcome_of}
use Rattle.vx_history.specs.World.{Link, Packet, World}
use Rattle.vx_history.specs.declared.event.Event.{Event}
use Rattle.vx_history.specs.declared.event.Event.TheVariants.{Connect as ConnectAt, Cut as CutAt, Pause as PauseAt, Resume as ResumeAt, Tick as TickAt}
use Rattle.vx_history.specs.declared.event.Said.TheVariants.{Done}
use Rattle.vx_history.specs.declared.sender.SEvent.{SEvent}
use Rattle.vx_history.specs.declared.sender.SEvent.TheVariants.{Connect, Cut, Pause, Resume, Tick}
use Rattle.vx_net.specs.Flights.{Flying}
use Rattle.vx_order.specs.declared.facts.LinkFacts.{LinkFacts}
use Rattle.vx_order.specs.declared.facts.SiteFacts.{SiteFacts}
use Rattle.vx_events.specs.Facts.{site_number}
use Rattle.vx_events.specs.LinkedFacts.{link_fact}
use Rattle.vx_events.specs.StepsOver.{facts_over}
use Rattle.vx_events.proofs.LinkAgreeing.{passes_link}
use Rattle.vx_linked.specs.Tables.{relinked}
use Rattle.vx_linked.specs.Turns.{ComesBehind, Turned, fact_turned}
use Rattle.vx_linked.proofs.Finding.{Tested, on_link}
use Rattle.vx_linked.proofs.Shown.{link_there, relinked_is}

-- an event with this outcome
pub comes : (w : World) (e : Event) (sites : List SiteFacts) (f : Flying) (o : Outcome) → outcome_of w e ≡ o → o.said ≡ Done → sites ≡ facts_over o.world → FlightStands o.world.packets f → ComesBehind w e sites f
comes w e sites f o is said facts flight = record {
  said = ap (λ (r : Outcome). r.said) is ∙ said;
  stands = record {
    facts = facts ∙ sym (ap (λ (r : Outcome). facts_over r.world) is);
    flight = subst (λ (r : Outcome). FlightStands r.world.packets f) (sym is) flight;
  };
}

module _ (w : World) (from to : List ℕ) (tested : Tested (facts_over w) from to) where
  abbrev a : ℕ
  a = site_number w from

  abbrev b : ℕ
  b = site_number w to

  -- no test of an event on this link holds
  pub passed : (o : Outcome) → on_link_at w a b o ≡ o
  passed o = passes_link w from to keeps_links o (on_link w from to tested)

  -- the facts with the link turned are those of the world with the link that the event makes
  pub turned_facts : (e : SEvent) (new : List SiteFacts) (l : Link) → Turned e from to (facts_over w) new → l.made ≡ (w.links a b).made
      → fact_turned e (link_fact (w.nodes a) b (w.links a b)) ≡ link_fact (w.nodes a) b l → new ≡ facts_over (with_link w a b l)
  turned_facts e new l t same is =
      let up = (on_link w from to tested).up in
      t.new_is
      ∙ ap (λ (x : LinkFacts). relinked (facts_over w) t.at.here t.at.site t.at.place (fact_turned e x)) (link_there w from to t.at up)
      ∙ ap (λ (x : LinkFacts). relinked (facts_over w) t.at.here t.at.site t.at.place x) is
      ∙ relinked_is w from to t.at up l same

  module _ (f : Flying) (flight : FlightStands w.packets f) where
    none_sent : FlightStands (w.packets ++ []) f
    none_sent = subst (λ (ps : List Packet). FlightStands ps f) (sym (append-nil w.packets)) flight

    pub cut_comes : (new : List SiteFacts) → Turned Cut from to (facts_over w) new → ComesBehind w (CutAt a b) new f
    cut_comes new t = comes w (CutAt a b) new f (done (link_event w a b Cut)) (passed (done (link_event w a b Cut))) refl (turned_facts Cut new (with_plain (w.links a b) (link_step w a b Cut).link) t refl refl) none_sent

    pub pause_comes : (new : List SiteFacts) → Turned Pause from to (facts_over w) new → ComesBehind w (PauseAt a b) new f
    pause_comes new t = comes w (PauseAt a b) new f (done (link_event w a b Pause)) (passed (done (link_event w a b Pause))) refl (turned_facts Pause new (with_plain (w.links a b) (link_step w a b Pause).link) t refl refl) none_sent

    pub resume_comes : (new : List SiteFacts) → Turned Resume from to (facts_over w) new → ComesBehind w (ResumeAt a b) new f
    resume_comes new t =
        comes w (ResumeAt a b) new f (done (link_event w a b Resume)) (passed (done (link_event w a b Resume))) refl (turned_facts Resume new (with_plain (w.links a b) (link_step w a b Resume).link) t refl refl) none_sent

    pub tick_comes : (new : List SiteFacts) → Turned Tick from to (facts_over w) new → ComesBehind w (TickAt a b) new f
    tick_comes new t = comes w (TickAt a b) new f (done (ticked_at w a b)) (passed (done (ticked_at w a b))) refl (turned_facts Tick new (ticked_link w a b) t refl refl) flight

  -- a connect, with what the other end sends under way
  pub connect_comes : (new : List SiteFacts) (f : Flying) → Turned Connect from to (facts_over w) new → FlightStands (w.packets ++ greeting_back w a b) f → ComesBehind w (ConnectAt a b) new f
  connect_comes new f t flight =
      let o : Outcome = done (sending (link_event w a b Connect) (greeting_back w a b)) in
      comes w (ConnectAt a b) new f o (passed o) refl (turned_facts Connect new (with_plain (w.links a b) (link_step w a b Connect).link) t refl refl)
      (subst (λ (ps : List Packet). FlightStands (ps ++ greeting_back w a b) f) (sym (append-nil w.packets)) flight)

-- of facts and flight that stand for a world
pub with_facts : (w : World) (old new : List SiteFacts) (e : SEvent) (from to : List ℕ) → old ≡ facts_over w → Turned e from to old new → Turned e from to (facts_over w) new
with_facts w old new e from to is t = subst (λ (fs : List SiteFacts). Turned e from to fs new) is t

pub tested_there : (w : World) (old : List SiteFacts) (from to : List ℕ) → old ≡ facts_over w → Tested old from to → Tested (facts_over w) from to
tested_there w old from to is t = subst (λ (fs : List SiteFacts). Tested fs from to) is t
