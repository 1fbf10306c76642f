-- Where no test of a line on a link refuses, its event does not either.
use Rattle.std.proofs.Common.{◌≡◌, ◌∙◌, ◌+◌, ◌<◌, ℕ, zero, suc, List, length, Bool, false, ap, subst, refl, arith}
use Rattle.std.proofs.lemmas.Bool.{or_parts}
use Rattle.std.specs.Prelude.{Option, Some, None, slice_get, not, ◌&&◌, ◌||◌, ◌==◌, nat_lt, nat_le, if◌then◌else◌}
use Rattle.std.proofs.lemmas.Bool.Decides.{nat_tests}
use Rattle.vx_model.specs.Sites.{is_origin}
use Rattle.vx_model.specs.declared.limits.TheConstants.{MOST_PACKETS}
use Rattle.vx_model.specs.declared.link.SyncMode.{SyncMode}
use Rattle.vx_model.specs.declared.link.Prot.TheVariants.{Fail as FailsWhenFull}
use Rattle.vx_model.specs.declared.link.Prot.{Prot}
use Rattle.vx_model.specs.declared.no.Named.TheVariants.{Number as ByNumber}
use Rattle.vx_model.specs.declared.no.No.TheVariants.{Unknown, Role as WrongRole, LinkDown, Paused}
use Rattle.vx_model.specs.declared.no.SiteName.TheVariants.{Number as SiteNumber}
use Rattle.vx_model.specs.declared.site.Role.{Role}
use Rattle.vx_model.proofs.Lists.{get_there}
use Rattle.vx_history.specs.Events.{packet_at}
use Rattle.vx_history.specs.Refusals.{Outcome, unless, at_site, at_work, on_link_if, keeps_links, when_live}
use Rattle.vx_history.specs.Sends.{is_linked}
use Rattle.vx_history.specs.Step.{step}
use Rattle.vx_history.specs.World.{Link as LinkOf, Packet, World}
use Rattle.vx_history.specs.declared.event.Event.TheVariants.{Set as SetAt, Connect as ConnectAt, Cut as CutAt, Pause as PauseAt, Resume as ResumeAt, Tick as TickAt, Pump as PumpAt}
use Rattle.vx_history.specs.declared.event.Said.TheVariants.{Done}
use Rattle.vx_order.specs.declared.facts.SiteFacts.{SiteFacts}
use Rattle.vx_order.specs.declared.facts.LinkFacts.{LinkFacts}
use Rattle.vx_order.specs.Asks.{ask_of}
use Rattle.vx_order.specs.Sending.{has_writes, sends, cut_off, held_up}
use Rattle.vx_order.specs.Sites.{site_named}
use Rattle.vx_order.specs.Subject.{first_name, second_name, need_of, halt_of}
use Rattle.vx_script.specs.declared.line.ScriptLine.TheVariants.{Set, Connect, Cut, Pause, Resume, Tick, Pump, Deliver}
use Rattle.vx_events.specs.Facts.{site_number}
use Rattle.vx_events.specs.LinkedFacts.{link_fact}
use Rattle.vx_events.specs.StepsOver.{fact_over, facts_over, refused_over}
use Rattle.vx_events.proofs.LinkTesting.{OnLink, on_link_by}
use Rattle.vx_events.proofs.Passing.{off, is_site, is_at_work, above}
use Rattle.vx_events.proofs.Refused.{passes, when_none, lt_false}

-- the tests of an event on such a link do not hold
pub passes_link : (w : World) (p s : List ℕ) (test : Role → Bool) (o : Outcome) → OnLink w p s test → on_link_if test w (site_number w p) (site_number w s) o ≡ o
passes_link w p s test o m =
    let a : ℕ = site_number w p in
    let b : ℕ = site_number w s in
    let linked : Outcome = unless (not (is_linked (w.links a b))) (Unknown (ByNumber b)) w o in
    let led : Outcome = unless (not (test (w.nodes a).role)) WrongRole w linked in
    is_site w a (at_site w b (at_work w a led)) m.here
    ∙ is_site w b (at_work w a led) m.there
    ∙ is_at_work w a led m.up m.running
    ∙ off (not (test (w.nodes a).role)) WrongRole w linked (ap (λ (t : Bool). not t) m.role)
    ∙ off (not (is_linked (w.links a b))) (Unknown (ByNumber b)) w o (ap (λ (t : Bool). not t) m.linked)

module _ (w : World) (files : Bool) (p s : List ℕ) where
  abbrev a : ℕ
  a = site_number w p

  abbrev b : ℕ
  b = site_number w s

  pub set_agrees : (sync : SyncMode) (prot : Prot) → refused_over w files (Set p s sync prot) ≡ None → (step w (SetAt a b sync FailsWhenFull)).said ≡ Done
  unfolding first_name second_name need_of halt_of ask_of
  set_agrees sync prot free =
      let t = passes (facts_over w) files (Set p s sync prot) free in
      ap (λ (o : Outcome). o.said) (passes_link w p s is_origin _ (on_link_by w p s has_writes is_origin (λ n. refl) refl t.known t.other_known t.up t.running t.link_role t.link))

  -- and there is the link
  pub set_link : (sync : SyncMode) (prot : Prot) → refused_over w files (Set p s sync prot) ≡ None → OnLink w p s is_origin
  unfolding first_name second_name need_of halt_of ask_of
  set_link sync prot free =
      let t = passes (facts_over w) files (Set p s sync prot) free in
      on_link_by w p s has_writes is_origin (λ n. refl) refl t.known t.other_known t.up t.running t.link_role t.link

  pub connect_agrees : refused_over w files (Connect p s) ≡ None → (step w (ConnectAt a b)).said ≡ Done
  unfolding first_name second_name need_of halt_of ask_of
  connect_agrees free =
      let t = passes (facts_over w) files (Connect p s) free in
      ap (λ (o : Outcome). o.said) (passes_link w p s keeps_links _ (on_link_by w p s sends keeps_links (λ n. refl) refl t.known t.other_known t.up t.running t.link_role t.link))

  pub cut_agrees : refused_over w files (Cut p s) ≡ None → (step w (CutAt a b)).said ≡ Done
  unfolding first_name second_name need_of halt_of ask_of
  cut_agrees free =
      let t = passes (facts_over w) files (Cut p s) free in
      ap (λ (o : Outcome). o.said) (passes_link w p s keeps_links _ (on_link_by w p s sends keeps_links (λ n. refl) refl t.known t.other_known t.up t.running t.link_role t.link))

  pub pause_agrees : refused_over w files (Pause p s) ≡ None → (step w (PauseAt a b)).said ≡ Done
  unfolding first_name second_name need_of halt_of ask_of
  pause_agrees free =
      let t = passes (facts_over w) files (Pause p s) free in
      ap (λ (o : Outcome). o.said) (passes_link w p s keeps_links _ (on_link_by w p s sends keeps_links (λ n. refl) refl t.known t.other_known t.up t.running t.link_role t.link))

  pub resume_agrees : refused_over w files (Resume p s) ≡ None → (step w (ResumeAt a b)).said ≡ Done
  unfolding first_name second_name need_of halt_of ask_of
  resume_agrees free =
      let t = passes (facts_over w) files (Resume p s) free in
      ap (λ (o : Outcome). o.said) (passes_link w p s keeps_links _ (on_link_by w p s sends keeps_links (λ n. refl) refl t.known t.other_known t.up t.running t.link_role t.link))

  pub tick_agrees : refused_over w files (Tick p s) ≡ None → (step w (TickAt a b)).said ≡ Done
  unfolding first_name second_name need_of halt_of ask_of
  tick_agrees free =
      let t = passes (facts_over w) files (Tick p s) free in
      ap (λ (o : Outcome). o.said) (passes_link w p s keeps_links _ (on_link_by w p s sends keeps_links (λ n. refl) refl t.known t.other_known t.up t.running t.link_role t.link))

  -- a link that is attached and connected, and not paused
  live_passes : (o : Outcome) → cut_off (Some (link_fact (w.nodes a) b (w.links a b))) (Some (fact_over w b)) ≡ None → held_up (Some (link_fact (w.nodes a) b (w.links a b))) ≡ None
      → when_live w b (w.links a b) o ≡ o
  live_passes o down held =
      let l : LinkOf = w.links a b in
      off (not (l.attached && l.connected)) (LinkDown (SiteNumber b)) w (unless l.paused Paused w o) (when_none (not (l.attached && l.connected)) _ down)
      ∙ off l.paused Paused w o (when_none l.paused Paused held)

  pub pump_agrees : refused_over w files (Pump p s) ≡ None → (step w (PumpAt a b)).said ≡ Done
  unfolding first_name second_name need_of halt_of ask_of
  pump_agrees free =
      let t = passes (facts_over w) files (Pump p s) free in
      let m = on_link_by w p s sends keeps_links (λ n. refl) refl t.known t.other_known t.up t.running t.link_role t.link in
      let down = subst (λ (o : Option SiteFacts). cut_off (Some (link_fact (w.nodes a) b (w.links a b))) o ≡ None) m.second (subst (λ (o : Option LinkFacts). cut_off o (site_named (facts_over w) s) ≡ None) m.towards t.link_up) in
      let held = subst (λ (o : Option LinkFacts). held_up o ≡ None) m.towards t.link_goes in
      ap (λ (o : Outcome). o.said) (passes_link w p s keeps_links _ m ∙ live_passes _ down held)

-- ---- packets

le_fails : (m n : ℕ) → nat_le m n ≡ false → n < m
le_fails m n e = grind (arith, nat_tests)

pub packet_agrees : (w : World) (files : Bool) (number : ℕ) → refused_over w files (Deliver number) ≡ None → (q : Packet) × (packet_at w.packets number ≡ Some q)
packet_agrees w files zero free = absurd (cc)
packet_agrees w files (suc k) free =
    let tests = or_parts (suc k == 0) (nat_lt (length w.packets) (suc k) || nat_le (suc k + MOST_PACKETS) (length w.packets)) (when_none (suc k == 0 || (nat_lt (length w.packets) (suc k) || nat_le (suc k + MOST_PACKETS) (length w.packets))) _ free) in
    let bounds = or_parts (nat_lt (length w.packets) (suc k)) (nat_le (suc k + MOST_PACKETS) (length w.packets)) tests.1 in
    let there = get_there w.packets k (omega (arith, lt_false (length w.packets) (suc k) bounds.0)) in
    (there.0, ap (λ (c : Bool). if c then None else slice_get w.packets k) (above (suc k + MOST_PACKETS) (length w.packets) (le_fails (suc k + MOST_PACKETS) (length w.packets) bounds.1)) ∙ there.1)
