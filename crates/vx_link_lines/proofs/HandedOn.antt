-- Each way in which the packet of an update comes to its target.
use Rattle.std.proofs.Common.{◌≡◌, ◌∙◌, ◌⊎◌, inl, inr, ⊎_elim, ◌<◌, ℕ, false, List, [], ◌++◌, length, ap, sym, subst, refl}
use Rattle.std.specs.Prelude.{Option, Some, None, slice_set}
use Rattle.std.proofs.lemmas.List.{append-nil}
use Rattle.vx_model.specs.Content.{Write}
use Rattle.vx_model.specs.Sites.{is_origin}
use Rattle.vx_model.specs.declared.limits.TheConstants.{MOST_SITES}
use Rattle.vx_history.proofs.Updates.{at_place}
use Rattle.vx_history.specs.Doubts.{Doubted, happened}
use Rattle.vx_history.specs.Events.{delivered, packet_at, with_write}
use Rattle.vx_history.specs.Gatherings.{came_after, key_of}
use Rattle.vx_history.specs.Refusals.{Outcome, says}
use Rattle.vx_history.specs.Sends.{packets_of, sending}
use Rattle.vx_history.specs.Stops.{IsOpen}
use Rattle.vx_history.specs.World.{Gathering, NetAck, Node, Packet, Update}
use Rattle.vx_history.specs.declared.event.Event.TheVariants.{Deliver as DeliverAt}
use Rattle.vx_history.specs.declared.receiver.RAction.TheVariants.{Take}
use Rattle.vx_history.specs.declared.event.Said.{Said as EventSaid}
use Rattle.vx_history.specs.declared.event.Said.TheVariants.{Ignored as IsIgnored, Taken as IsTaken}
use Rattle.vx_courier.specs.UnderWay.{FlightStands}
use Rattle.vx_disk.specs.declared.shelf.Shelf.{Ghosts}
use Rattle.vx_effects.proofs.Finding.{fit_finds}
use Rattle.vx_effects.proofs.Fitting.{fit_happened, updated_other}
use Rattle.vx_effects.proofs.Leaving.{fit_worked}
use Rattle.vx_effects.proofs.Packets.{update_effect, update_hands}
use Rattle.vx_effects.specs.Facts.{fact_of, received_fact}
use Rattle.vx_events.specs.Effects.{EffectAt}
use Rattle.vx_events.specs.GroupLines.{is_over_group}
use Rattle.vx_events.specs.LinkEnds.{LinksFind}
use Rattle.vx_events.specs.LinkFinds.{FindsOther, KeepsOther, LosesOther, MayTake, TakesOther, rule_of, target_with}
use Rattle.vx_events.specs.declared.said.Said.TheVariants.{Ignored, Taken}
use Rattle.vx_net.specs.Flights.{Flying}
use Rattle.vx_packet.specs.Assemblies.{Assembled}
use Rattle.vx_peers.proofs.MorePackets.{more_none}
use Rattle.vx_peers.specs.Senders.{Sends}
use Rattle.vx_script.specs.declared.line.ScriptLine.TheVariants.{Deliver}
use Rattle.vx_diskset.specs.Asked.{LeavesAlone}
use Rattle.vx_diskset.specs.Holds.{beside_of}
use Rattle.vx_diskset.specs.Stands.{RoleIs, SiteStands}
use Rattle.vx_diskset.specs.declared.disk_set.DiskSet.{DiskSet}
use Rattle.vx_joins.proofs.TakesUpdate.{node_behind}
use Rattle.vx_joins.specs.Deliveries.{DeliveredTo, IsUnheard, TakesNone, TakesOne, TookTo}
use Rattle.vx_yard.specs.Carries.{Carries}
use Rattle.vx_yard.specs.Standing.{Leads, StandsFor}
use Rattle.vx_yard.specs.Yards.{IsTold}
use Rattle.vx_yard.specs.declared.yard.Yard.{Yard}
use Rattle.vx_yard.proofs.ApplySite.{worked_effect, worked_for}
use Rattle.vx_yard.proofs.OneSite.{Changed}
use Rattle.vx_yard.proofs.OverGroup.{receives_apart}
use Rattle.vx_events.specs.RvgViews.{is_over_rvg}
use Rattle.vx_link_lines.proofs.UpdateLine.{SameSite, carries_handed, done_as, last_shown, leads_new, leads_same, left_at, same_site, stays_ignored, written_site}

-- a site and its packet in another world, of which disks that tell nothing were the source
given_effect : (d : Doubted) (s : ℕ) (m : Node) (o : Option Gathering) (more : List Packet)
    → EffectAt s d (record d { world = target_with d.world s m o more }) m (d.world.links s) (d.world.headers s) (d.after s) (d.world.packets ++ more) o
given_effect d s m o more = record {
  site = record {
    sites = refl;
    nodes = λ i apart. updated_other d.world.nodes s i m apart;
    links = λ i k apart. refl;
    headers = λ i apart. refl;
    after = λ i apart. refl;
    strayed = λ calm. calm;
    gathering = λ i apart. updated_other d.world.gathering s i o apart;
  };
  is = record { node = at_place d.world.nodes s m; links = λ k. refl; headers = refl; after = refl };
  sent = refl;
  gathering = at_place d.world.gathering s o;
}

-- nothing was done
same_effect : (d : Doubted) (s : ℕ) → EffectAt s d d (d.world.nodes s) (d.world.links s) (d.world.headers s) (d.after s) d.world.packets (d.world.gathering s)
same_effect d s = record {
  site = record { sites = refl; nodes = λ i apart. refl; links = λ i k apart. refl; headers = λ i apart. refl; after = λ i apart. refl; strayed = λ calm. calm; gathering = λ i apart. refl };
  is = record { node = refl; links = λ k. refl; headers = refl; after = refl };
  sent = refl;
  gathering = refl;
}

either_site : (n m : Node) (source : ℕ) (x : Write) → (m ≡ n) ⊎ (m ≡ with_write n source x) → SameSite n m
either_site n m source x one = ⊎_elim (λ is. same_site n m is) (λ is. written_site n m source x is) one

module _ {R : Type 0} {g : Ghosts R} where
  -- what the yard has behind the call
  pub record Handed (old new : Yard R g) (s feeder : ℕ) (a : Assembled) : Type 0 where
    pub assemblies : new.assemblies.items ≡ slice_set old.assemblies.items s a
    pub feeders : new.feeders.items ≡ slice_set old.feeders.items s feeder
    pub below : s < MOST_SITES
    pub told : IsTold new → IsTold old

  module _ (d : Doubted) (number : ℕ) (p : Packet) (k : ℕ) (x : Write) (old new : Yard R g) (before after : DiskSet R g) (stands : StandsFor d old) (below : p.target < d.world.sites) (changed : Changed old new p.target before after) (alone : LeavesAlone before after) (role : RoleIs (d.world.nodes p.target) after)
      (off : is_over_rvg (d.world.nodes p.target) ≡ false)
      (feeder : ℕ) (a : Assembled) (at : packet_at d.world.packets number ≡ Some p) (message : p.message ≡ Update k x) (handed : Handed old new p.target feeder a) where
    abbrev s : ℕ
    s = p.target

    abbrev n : Node
    n = d.world.nodes s

    abbrev o : Outcome
    o = delivered d.world number (packet_at d.world.packets number)

    abbrev h : Doubted
    h = happened d (DeliverAt number) false

    effect : EffectAt s d h (o.world.nodes s) (d.world.links s) (d.world.headers s) (d.after s) o.world.packets (o.world.gathering s)
    effect = update_effect d number p k x false at message

    -- a site that receives is over no group
    apart_by : is_origin n.role ≡ false → is_over_group n ≡ false
    apart_by receives = receives_apart (beside_of d s) n before (stands.disk_sets.sites s before below changed.there) receives

    carried : (event : EventSaid) → DeliveredTo o (beside_of d s) s after feeder a new.flight event → Carries d old → Carries (worked_for h s) new
    carried event is carries =
        let hands = update_hands d.world p x number k at message in
        let noted = worked_effect s d h (o.world.nodes s) (d.world.links s) (d.world.headers s) (d.after s) o.world.packets (o.world.gathering s) effect in
        carries_handed d (worked_for h s) s feeder a hands.more old new noted.site hands.sent is.flight (λ tells calm. is.assembly) (is.fed_by ∙ ap (λ (m : Node). m.fed_by) (sym noted.is.node)) handed.assemblies handed.feeders handed.below handed.told carries

    -- as the world has it, and ignored
    pub exact_ignored : DeliveredTo o (beside_of d s) s after feeder a new.flight IsIgnored → new.facts.items ≡ old.facts.items → Leads d (Deliver number) Ignored old new
    exact_ignored is facts =
        leads_same d number p old new before after stands below changed alone role off h (o.world.nodes s) o.world.packets (o.world.gathering s) Ignored effect (fit_worked h s (fit_happened d (DeliverAt number) false tt stands.links))
        (done_as (IsTold new) d number p Ignored IsIgnored at below (sym is.says) refl) (stays_ignored d.world p x number k at message (sym is.says)) is.stands facts (carried IsIgnored is)

    -- as the world has it, and taken
    pub exact_taken : (last : ℕ) → DeliveredTo o (beside_of d s) s after feeder a new.flight IsTaken → is_origin n.role ≡ false → (fact_of n (d.world.links s) d.world.sites).links ≡ [] → last ≡ length (o.world.nodes s).log
        → new.facts.items ≡ slice_set old.facts.items s (received_fact last (fact_of n (d.world.links s) d.world.sites)) → Leads d (Deliver number) Taken old new
    exact_taken last is receives none many facts =
        let one = node_behind d.world p x number k at message in
        leads_new d number p old new before after stands below changed alone role off h (o.world.nodes s) o.world.packets (o.world.gathering s) Taken (received_fact last (fact_of n (d.world.links s) d.world.sites)) effect
        (fit_worked h s (fit_happened d (DeliverAt number) false tt stands.links)) (done_as (IsTold new) d number p Taken IsTaken at below (sym is.says) refl) (apart_by receives) (either_site n (o.world.nodes s) p.source x one) is.stands
        (last_shown n (o.world.nodes s) (d.world.links s) d.world.sites p.source last x receives none one many) facts (carried IsTaken is)

    -- ---- over disks that tell nothing, or where the world has strayed

    module _ (untold : IsTold new → d.strayed ≡ false → ⊥) where
      abbrev given : Node → Option Gathering → List Packet → Doubted
      given m o more = record d { world = target_with d.world s m o more }

      abbrev may : IsOpen n → is_origin n.role ≡ false → rule_of d.world p k ≡ Take k → MayTake d.world number p
      may opens receives next = record { packet = at; count = k; write = x; message = message; opens = opens; receives = receives; next = next }

      given_new : (m : Node) (o : Option Gathering) (more : List Packet) (last : ℕ) (y : Write) → Sends more old.flight new.flight → FindsOther d (Deliver number) [] Taken (given m o more) → feeder ≡ m.fed_by
          → SiteStands (beside_of d s) m after → is_origin n.role ≡ false → (fact_of n (d.world.links s) d.world.sites).links ≡ [] → (m ≡ n) ⊎ (m ≡ with_write n p.source y) → last ≡ length m.log
          → new.facts.items ≡ slice_set old.facts.items s (received_fact last (fact_of n (d.world.links s) d.world.sites)) → Leads d (Deliver number) Taken old new
      given_new m o more last y sends finds fed here receives none one many facts =
          let h' : Doubted = given m o more in
          let noted = worked_effect s d h' m (d.world.links s) (d.world.headers s) (d.after s) (d.world.packets ++ more) o (given_effect d s m o more) in
          leads_new d number p old new before after stands below changed alone role off h' m (d.world.packets ++ more) o Taken (received_fact last (fact_of n (d.world.links s) d.world.sites)) (given_effect d s m o more)
          (fit_worked h' s (fit_finds d (Deliver number) [] Taken h' finds stands.links)) (LinksFind untold h' finds (left_at d h' number p at below)) (apart_by receives) (either_site n m p.source y one) here
          (last_shown n m (d.world.links s) d.world.sites p.source last y receives none one many) facts
          (λ carries. carries_handed d (worked_for h' s) s feeder a more old new noted.site refl (sends d.world.packets carries.flight) (λ tells calm. absurd (untold tells calm)) (fed ∙ ap (λ (i : Node). i.fed_by) (sym noted.is.node))
          handed.assemblies handed.feeders handed.below handed.told carries)

      -- it is ignored as the world has it, and may be acknowledged again
      unheard_leads : (more : List Packet) → o ≡ says (sending d.world more) IsIgnored → SiteStands (beside_of d s) n after → feeder ≡ n.fed_by → Sends more old.flight new.flight → new.facts.items ≡ old.facts.items
          → Leads d (Deliver number) Ignored old new
      unheard_leads more is here fed sends facts =
          let node : o.world.nodes s ≡ n = ap (λ (r : Outcome). r.world.nodes s) is in
          let noted = worked_effect s d h (o.world.nodes s) (d.world.links s) (d.world.headers s) (d.after s) o.world.packets (o.world.gathering s) effect in
          let packets : o.world.packets ≡ d.world.packets ++ more = ap (λ (r : Outcome). r.world.packets) is in
          leads_same d number p old new before after stands below changed alone role off h (o.world.nodes s) o.world.packets (o.world.gathering s) Ignored effect (fit_worked h s (fit_happened d (DeliverAt number) false tt stands.links))
          (done_as (IsTold new) d number p Ignored IsIgnored at below (ap (λ (r : Outcome). r.said) is) refl) node (subst (λ (m : Node). SiteStands (beside_of d s) m after) (sym node) here) facts
          (λ carries. carries_handed d (worked_for h s) s feeder a more old new noted.site packets
          (subst (λ (ps : List Packet). FlightStands ps new.flight) (sym packets) (sends d.world.packets carries.flight))
          (λ tells calm. absurd (untold tells calm)) (fed ∙ ap (λ (m : Node). m.fed_by) (sym node) ∙ ap (λ (m : Node). m.fed_by) (sym noted.is.node)) handed.assemblies handed.feeders handed.below handed.told carries)

      -- nothing came of a part
      lost_leads : FindsOther d (Deliver number) [] Ignored d → SiteStands (beside_of d s) n after → feeder ≡ n.fed_by → new.flight ≡ old.flight → new.facts.items ≡ old.facts.items → Leads d (Deliver number) Ignored old new
      lost_leads finds here fed still facts =
          let noted = worked_effect s d d n (d.world.links s) (d.world.headers s) (d.after s) d.world.packets (d.world.gathering s) (same_effect d s) in
          leads_same d number p old new before after stands below changed alone role off d n d.world.packets (d.world.gathering s) Ignored (same_effect d s) (fit_worked d s stands.links)
          (LinksFind untold d finds (left_at d d number p at below)) refl here facts
          (λ carries. carries_handed d (worked_for d s) s feeder a [] old new noted.site (sym (append-nil d.world.packets)) (subst (λ (f : Flying). FlightStands d.world.packets f) (sym still) carries.flight)
          (λ tells calm. absurd (untold tells calm)) (fed ∙ ap (λ (i : Node). i.fed_by) (sym noted.is.node)) handed.assemblies handed.feeders handed.below handed.told carries)

      -- it was ignored
      pub found_ignored : (a' : Assembled) → TookTo d.world number p k (beside_of d s) after feeder a' a old.flight new.flight IsIgnored → new.facts.items ≡ old.facts.items → Leads d (Deliver number) Ignored old new
      found_ignored a' (TakesOne opens receives next y said here fed sends) facts = absurd (let e : IsIgnored ≡ IsTaken = said in cc)
      found_ignored a' (TakesNone opens receives next how here fed still) facts = lost_leads (LosesOther number p refl (may opens receives next) refl refl refl) here fed still facts
      found_ignored a' (IsUnheard more is said here fed same sends) facts = unheard_leads more is here fed sends facts

      -- it was taken
      pub found_taken : (last : ℕ) (a' : Assembled) → TookTo d.world number p k (beside_of d s) after feeder a' a old.flight new.flight IsTaken → (fact_of n (d.world.links s) d.world.sites).links ≡ []
          → ((m : Node) → SiteStands (beside_of d s) m after → IsOpen m → last ≡ length m.log) → new.facts.items ≡ slice_set old.facts.items s (received_fact last (fact_of n (d.world.links s) d.world.sites)) → Leads d (Deliver number) Taken old new
      found_taken last a' (TakesOne opens receives next y said here fed sends) none many facts =
          given_new (with_write n p.source y) None (packets_of p.target p.source n.line (NetAck n.session k)) last y sends (TakesOther number p y refl (may opens receives next) refl refl refl) fed here receives none (inr refl)
          (many (with_write n p.source y) here opens) facts
      found_taken last a' (TakesNone opens receives next how here fed still) none many facts =
          given_new n (Some (record { key = key_of p; came = came_after (d.world.gathering s) p })) [] last x (more_none old.flight new.flight still) (KeepsOther number p refl (may opens receives next) refl refl refl) fed here receives none (inl refl)
          (many n here opens) facts
      found_taken last a' (IsUnheard more is said here fed same sends) none many facts = absurd (let e : IsTaken ≡ IsIgnored = said in cc)
