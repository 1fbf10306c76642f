-- Where no test of a line that settles a link refuses, the link may be settled.
use Rattle.std.proofs.Common.{◌≡◌, ◌∙◌, ℕ, List, Bool, true, false, ap, subst, refl}
use Rattle.std.proofs.lemmas.Bool.{and_parts, or_parts}
use Rattle.std.specs.Prelude.{Option, Some, None, not, ◌&&◌, ◌||◌}
use Rattle.vx_model.specs.declared.link.Mode.{Mode}
use Rattle.vx_model.specs.declared.link.Mode.TheVariants.{Log, Dcm, Replay, Fork, Stale}
use Rattle.vx_model.specs.declared.no.No.TheVariants.{Down as NotUp, Paused, Role as WrongRole}
use Rattle.vx_model.specs.Sites.{same_line}
use Rattle.vx_model.specs.declared.site.Role.{Role}
use Rattle.vx_model.specs.declared.site.Role.TheVariants.{Primary, Secondary, Handing, Bunker}
use Rattle.vx_history.proofs.Updates.{same_line_equal}
use Rattle.vx_history.specs.Doubts.{Doubted}
use Rattle.vx_history.specs.Refusals.{is_stale_mode, keeps_links}
use Rattle.vx_history.specs.Settling.{MaySettle}
use Rattle.vx_history.specs.World.{Link as LinkOf, World}
use Rattle.vx_order.specs.declared.facts.LinkFacts.{LinkFacts}
use Rattle.vx_order.specs.declared.facts.RvgFacts.{RvgFacts}
use Rattle.vx_order.specs.declared.facts.SiteFacts.{SiteFacts}
use Rattle.vx_order.specs.Asks.{ask_of}
use Rattle.vx_order.specs.Links.{link_towards, place_named}
use Rattle.vx_order.specs.Sending.{cut_off, goes_by_nothing, held_up, is_fork, is_taker, leads_astray, sends, takes_from}
use Rattle.vx_order.specs.Sites.{halted_one, rvg_of, site_named, site_off}
use Rattle.vx_order.specs.Subject.{first_name, second_name, need_of, halt_of}
use Rattle.vx_order.specs.Tests.{first_said_no, when}
use Rattle.vx_script.specs.declared.line.ScriptLine.TheVariants.{Settle}
use Rattle.vx_events.specs.Facts.{group_fact, site_number}
use Rattle.vx_events.specs.LinkedFacts.{link_fact, linked_fact}
use Rattle.vx_events.specs.StepsOver.{fact_over, facts_over, refused_over}
use Rattle.vx_events.specs.LinksFit.{LinksFit, is_plain_mode}
use Rattle.vx_events.specs.Settles.{CanSettle}
use Rattle.vx_events.proofs.LinkJoining.{first_halt, here_by}
use Rattle.vx_events.proofs.LinkTesting.{on_link_by, seat_at, shown}
use Rattle.vx_events.proofs.OverSeats.{apart_shown, fact_apart}
use Rattle.vx_events.proofs.Refused.{not_false, passes, when_none}

-- a plain link that goes by something goes by the log
by_log : (m : Mode) → is_plain_mode m ≡ true → is_stale_mode m ≡ false → m ≡ Log
by_log Log plain goes = refl
by_log Dcm plain goes = absurd (cc)
by_log (Replay id phase left start end) plain goes = absurd (cc)
by_log (Fork maps) plain goes = absurd (cc)
by_log Stale plain goes = absurd (cc)

secondary_of : (role : Role) → is_taker false role ≡ true → role ≡ Secondary
secondary_of Primary e = absurd (cc)
secondary_of Secondary e = refl
secondary_of (Handing to) e = absurd (cc)
secondary_of Bunker e = absurd (cc)

-- a link by the log, to no bunker, that does not lead astray ends at a secondary on the line of its site
ends_on : (mode : Mode) (bunker : Bool) (f g : RvgFacts) → mode ≡ Log → bunker ≡ false → (not (is_fork mode) && not (takes_from bunker (Some f) (Some g))) ≡ false
    → (g.role ≡ Secondary) × (g.line ≡ f.line)
ends_on mode bunker f g log none leads =
    let at : (not (is_fork Log) && not (takes_from false (Some f) (Some g))) ≡ false =
    subst (λ (b : Bool). (not (is_fork Log) && not (takes_from b (Some f) (Some g))) ≡ false) none
    (subst (λ (m : Mode). (not (is_fork m) && not (takes_from bunker (Some f) (Some g))) ≡ false) log leads) in
    let takes = and_parts (is_taker false g.role) (same_line g.line f.line) (not_false (takes_from false (Some f) (Some g)) at) in
    (secondary_of g.role takes.0, same_line_equal g.line f.line takes.1)

-- and so it leads to a site that takes what comes by it
takes_so : (mode : Mode) (bunker : Bool) (f : RvgFacts) (r : Option RvgFacts) → mode ≡ Log → (not (is_fork mode) && not (takes_from bunker (Some f) r)) ≡ false
    → takes_from bunker (Some f) r ≡ true
takes_so mode bunker f r log leads = not_false (takes_from bunker (Some f) r) (subst (λ (m : Mode). (not (is_fork m) && not (takes_from bunker (Some f) r)) ≡ false) log leads)

pub settle_agrees : (d : Doubted) (files : Bool) (p s : List ℕ) → LinksFit d → refused_over d.world files (Settle p s) ≡ None
    → CanSettle d.world (site_number d.world p) (site_number d.world s)
unfolding first_name second_name need_of halt_of ask_of first_said_no
settle_agrees d files p s fits free =
    let w : World = d.world in
    let t = passes (facts_over w) files (Settle p s) free in
    let a : ℕ = site_number w p in
    let b : ℕ = site_number w s in
    let here : Option SiteFacts = site_named (facts_over w) p in
    let there : Option SiteFacts = site_named (facts_over w) s in
    let to : Option LinkFacts = link_towards here (place_named (facts_over w) (Some s)) in
    let first = seat_at w p t.known in
    let two = seat_at w s t.other_known in
    let ups = or_parts (site_off here) (site_off there) (when_none (site_off here || site_off there) NotUp t.up) in
    let halts = first_halt (halted_one here) (halted_one there) t.running in
    let astray : Bool = leads_astray to (rvg_of here) (rvg_of there) in
    let ends = or_parts (not (sends (rvg_of here)) || goes_by_nothing to) astray (when_none ((not (sends (rvg_of here)) || goes_by_nothing to) || astray) WrongRole t.link_role) in
    let roles = or_parts (not (sends (rvg_of here))) (goes_by_nothing to) ends.0 in
    let m = on_link_by w p s sends keeps_links (λ n. refl) refl t.known t.other_known (ap (λ (c : Bool). when c NotUp) ups.0) halts.0 (ap (λ (c : Bool). when c WrongRole) roles.0) t.link in
    let l : LinkOf = w.links a b in
    let live = subst (λ (o : Option SiteFacts). cut_off to o ≡ None) m.second t.link_up in
    let lives = and_parts l.attached l.connected
    (not_false (l.attached && l.connected) (when_none (not (l.attached && l.connected)) _ (subst (λ (o : Option LinkFacts). cut_off o (Some (fact_over w b)) ≡ None) m.towards live))) in
    let plain = (fits.rows a).plain b m.linked in
    let mode : l.mode ≡ Log = by_log l.mode plain.mode (subst (λ (o : Option LinkFacts). goes_by_nothing o ≡ false) m.towards roles.1) in
    let f : RvgFacts = group_fact (w.nodes a) in
    let g : RvgFacts = group_fact (w.nodes b) in
    let first_found : here ≡ Some (linked_fact w a) = first.found ∙ ap (λ (x : SiteFacts). Some x) (fact_apart w a m.apart) in
    let leads = subst (λ (o : Option LinkFacts). leads_astray o (rvg_of here) (rvg_of there) ≡ false) m.towards ends.1 in
    let leads_by = subst (λ (o : Option RvgFacts). leads_astray (Some (link_fact (w.nodes a) b l)) o (rvg_of there) ≡ false) (ap rvg_of first_found ∙ shown w a m.up) leads in
    let leads_there = subst (λ (o : Option SiteFacts). leads_astray (Some (link_fact (w.nodes a) b l)) (Some f) (rvg_of o) ≡ false) two.found leads_by in
    let apart = apart_shown w b (takes_from l.bunker (Some f)) refl (takes_so l.mode l.bunker f (rvg_of (Some (fact_over w b))) mode leads_there) in
    let two_found : there ≡ Some (linked_fact w b) = two.found ∙ ap (λ (x : SiteFacts). Some x) (fact_apart w b apart) in
    let other = here_by w b (subst (λ (o : Option SiteFacts). site_off o ≡ false) two_found ups.1) (subst (λ (o : Option SiteFacts). halted_one o ≡ None) two_found halts.1) in
    let leads_to = subst (λ (o : Option RvgFacts). leads_astray (Some (link_fact (w.nodes a) b l)) (Some f) o ≡ false) (ap rvg_of two_found ∙ shown w b other.up) leads_by in
    let takes = ends_on l.mode l.bunker f g mode plain.bunker leads_to in
    record {
      first = m.here;
      second = m.there;
      apart = (fits.rows a).apart b m.linked;
      here = m.up;
      there = other.up;
      runs_here = m.running;
      runs_there = other.running;
      sender = fits.starts a b m.linked;
      secondary = takes.0;
      line = takes.1;
      linked = m.linked;
      bunker = plain.bunker;
      attached = lives.0;
      connected = lives.1;
      running = when_none l.paused Paused (subst (λ (o : Option LinkFacts). held_up o ≡ None) m.towards t.link_goes);
      mode = mode;
    }

-- what is asked of a link that is settled
pub may_settle : (w : World) (p s : ℕ) → CanSettle w p s → MaySettle w p s
may_settle w p s can = record {
  here = can.here;
  there = can.there;
  runs_here = can.runs_here;
  runs_there = can.runs_there;
  sender = can.sender;
  secondary = can.secondary;
  line = can.line;
  linked = can.linked;
  bunker = can.bunker;
  attached = can.attached;
  connected = can.connected;
  running = can.running;
  mode = can.mode;
}
