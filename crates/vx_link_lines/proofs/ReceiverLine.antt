-- What a line leaves that applies what waits at a site that receives.
use Rattle.std.proofs.Common.{◌≡◌, ◌∙◌, ⊎_elim, ◌<◌, ◌+◌, ◌≤◌, ℕ, Bool, true, false, List, [], ◌∷◌, ◌++◌, length, ap, sym, subst, refl, arith}
use Rattle.std.specs.Prelude.{Option, Some, None, Ok, Err, eqb, leb, min, slice_get, slice_set, ◌-◌, ◌&&◌, if◌then◌else◌}
use Rattle.std.proofs.lemmas.Bool.{cases_eq}
use Rattle.std.proofs.lemmas.List.{append-nil}
use Rattle.std.proofs.lemmas.Option.{slice_get_within}
use Rattle.vx_history.proofs.Updates.{at_place}
use Rattle.vx_model.specs.Sites.{is_origin}
use Rattle.vx_model.specs.declared.limits.TheConstants.{MOST_NUMBER}
use Rattle.vx_model.specs.declared.no.Counted.{Counted}
use Rattle.vx_model.specs.declared.no.No.{No}
use Rattle.vx_model.specs.declared.no.No.TheVariants.{Device, Down as Off, Limit}
use Rattle.vx_model.specs.declared.site.Mark.{Mark}
use Rattle.vx_model.specs.declared.site.Mark.TheVariants.{Consistent}
use Rattle.vx_model.specs.declared.site.SPhase.{SPhase}
use Rattle.vx_model.specs.declared.site.SPhase.TheVariants.{Quiet}
use Rattle.vx_model.specs.declared.site.SiteState.{SiteState}
use Rattle.vx_model.specs.declared.site.SiteState.TheVariants.{Bare as IsBare, Up as IsUp, Deported as IsDeported, Down as IsDown}
use Rattle.vx_courier.proofs.Joining.{stands_later}
use Rattle.vx_courier.specs.Together.{AssemblyStands}
use Rattle.vx_courier.specs.UnderWay.{FlightStands}
use Rattle.vx_history.specs.Doubts.{Doubted, happened}
use Rattle.vx_history.specs.Events.{applied, applied_by, apply_at, reached_at}
use Rattle.vx_history.specs.LinkForms.{plain_receiver}
use Rattle.vx_history.specs.Receiving.{Received, is_log_phase, with_applied}
use Rattle.vx_history.specs.Refusals.{Outcome, at_work}
use Rattle.vx_history.specs.Step.{outcome_of, step}
use Rattle.vx_history.specs.Steps.{burned, worked}
use Rattle.vx_history.specs.World.{DataAck, Gathering, Link, Node, Packet, World}
use Rattle.vx_history.specs.declared.event.Event.{Event}
use Rattle.vx_history.specs.declared.event.Event.TheVariants.{Apply as ApplyAt}
use Rattle.vx_history.specs.declared.event.Said.{Said as EventSaid}
use Rattle.vx_history.specs.declared.event.Said.TheVariants.{DoneAt as IsDoneAt}
use Rattle.vx_history.specs.declared.receiver.RAction.TheVariants.{Nothing as DoesNothing}
use Rattle.vx_history.specs.declared.receiver.RState.{RState}
use Rattle.vx_disk.specs.declared.shelf.Shelf.{Ghosts}
use Rattle.vx_effects.proofs.Facts.{marked_is}
use Rattle.vx_effects.proofs.Fitting.{fit_happened}
use Rattle.vx_effects.proofs.Leaving.{fit_worked}
use Rattle.vx_effects.proofs.Rises.{applied_effect, idle_effect}
use Rattle.vx_effects.specs.Applies.{applied_up_to, behind_apply, mark_behind}
use Rattle.vx_effects.specs.Facts.{fact_of, marked_fact, marked_group}
use Rattle.vx_events.proofs.Passing.{is_at_work, is_site}
use Rattle.vx_events.specs.Doubts.{run_as}
use Rattle.vx_events.specs.Effects.{ChangesNode, EffectAt}
use Rattle.vx_events.specs.Ends.{AllDone, Ends, IsLeft, NoNumber}
use Rattle.vx_events.specs.Facts.{group_by, site_number}
use Rattle.vx_events.specs.GroupLines.{is_over_group}
use Rattle.vx_events.specs.LinksFit.{LinksFit}
use Rattle.vx_events.specs.Lists.{Choice}
use Rattle.vx_events.specs.Sayings.{RepeatsSaid, Replies}
use Rattle.vx_events.specs.Stamps.{most_stamp_at, waiting_of}
use Rattle.vx_events.specs.declared.said.Said.{Said}
use Rattle.vx_events.specs.declared.said.Said.TheVariants.{DoneAt, Refused}
use Rattle.vx_order.specs.declared.facts.RvgFacts.{RvgFacts}
use Rattle.vx_order.specs.declared.facts.SiteFacts.{SiteFacts}
use Rattle.vx_packet.specs.Assemblies.{Assembled}
use Rattle.vx_script.specs.declared.line.ScriptLine.TheVariants.{Apply}
use Rattle.vx_diskset.proofs.Worked.{stands_worked}
use Rattle.vx_diskset.specs.Blames.{BlamesSite}
use Rattle.vx_diskset.specs.Asked.{FusedAs, LeavesFuse, size_in}
use Rattle.vx_diskset.specs.Burning.{Burnt, NoMore}
use Rattle.vx_diskset.specs.Holds.{beside_of}
use Rattle.vx_diskset.specs.Received.{CanReceive, ReachedAt, ReachedBy, reached}
use Rattle.vx_diskset.specs.Needs.{NoneNeeds}
use Rattle.vx_model.specs.declared.state.KeptLink.{KeptLink}
use Rattle.vx_history.specs.KeptLinks.{kept_links}
use Rattle.vx_history.specs.Sends.{is_linked, packets_of}
use Rattle.vx_events.proofs.Steps.{no_sites}
use Rattle.vx_diskset.specs.Stands.{KeepsRole, SiteStands}
use Rattle.vx_diskset.specs.declared.disk_set.DiskSet.{DiskSet}
use Rattle.vx_diskset.specs.declared.receivers.Reached.{Reached}
use Rattle.vx_events.specs.RvgViews.{is_over_rvg}
use Rattle.vx_yard.proofs.RawSites.{raw_told}
use Rattle.vx_yard.proofs.OverGroup.{noted_off, raw_set}
use Rattle.vx_yard.specs.Carries.{Carries}
use Rattle.vx_yard.specs.Standing.{Leads, StandsFor}
use Rattle.vx_yard.specs.Writes.{noted_facts}
use Rattle.vx_yard.specs.Yards.{IsTold}
use Rattle.vx_yard.specs.declared.yard.Yard.{Yard}
use Rattle.vx_yard.proofs.ApplySite.{CanApplyAt, apply_refused, calls_keep, comes_effect, worked_effect, worked_for}
use Rattle.vx_yard.proofs.Carrying.{Feeds, LetsGoBy, carries_node, feeds_like, feeds_same}
use Rattle.vx_yard.proofs.CrashLine.{fuse_fact, rose_still}
use Rattle.vx_yard.proofs.FailsStay.{fails_then}
use Rattle.vx_yard.proofs.FuseStays.{done_by, fused_on, left_passed}
use Rattle.vx_yard.proofs.Lists.{get-set_same, set_same}
use Rattle.vx_yard.proofs.NoteSite.{changes_one, comes_one, with_one}
use Rattle.vx_yard.proofs.OneSite.{Changed, role_kept, still_apart, told_by}
use Rattle.vx_yard.proofs.Rows.{fact_like, fact_same}

-- ---- the world behind an apply

-- outside a replay the mark stays
quiet_mark : (n : Node) (count : ℕ) → n.phase ≡ Quiet → mark_behind n count ≡ n.mark
quiet_mark n count quiet =
    let s : RState = record (plain_receiver n) { waiting = waiting_of n - count } in
    ap (λ (f : SPhase). let r : RState = if is_log_phase f && leb n.end (applied_up_to n count) then record s { mark = Consistent } else s in r.mark) quiet

behind_is : (n : Node) (count : ℕ) → n.phase ≡ Quiet → worked (behind_apply n count) ≡ reached n (applied_up_to n count)
behind_is n count quiet = ap (λ (m : Mark). worked (applied n (applied_up_to n count) m)) (quiet_mark n count quiet)

same_marked : (n : Node) (t : SiteState) → marked_group n.mark (group_by t n) ≡ group_by t n
same_marked n IsBare = refl
same_marked n IsUp = refl
same_marked n IsDeported = refl
same_marked n IsDown = refl

-- and the tests of a line see nothing new
behind_shown : (n : Node) (row : ℕ → Link) (sites count : ℕ) → is_origin n.role ≡ false → n.phase ≡ Quiet → fact_of (worked (behind_apply n count)) row sites ≡ fact_of n row sites
behind_shown n row sites count receives quiet =
    fact_like (behind_apply n count) (worked (behind_apply n count)) row sites (fuse_fact (behind_apply n count) (burned n.fuse)) (λ i l. refl)
    ∙ marked_is n row sites (applied_up_to n count) (mark_behind n count) receives ∙ ap (λ (m : Mark). marked_fact m (fact_of n row sites)) (quiet_mark n count quiet)
    ∙ ap (λ (g : Option RvgFacts). let f : SiteFacts = record (fact_of n row sites) { rvg = g } in f) (same_marked n n.state)

heard_by : Node → (count : ℕ) → Bool → Received
heard_by n count b = if b then (let r : Received = record { state = plain_receiver n; action = DoesNothing } in r) else with_applied (plain_receiver n) (waiting_of n - count)

module _ (w : World) (s count number : ℕ) (below : s < w.sites) (up : (w.nodes s).state ≡ IsUp) (runs : (w.nodes s).halted ≡ None) (receives : is_origin (w.nodes s).role ≡ false) where
  apply_is : outcome_of w (ApplyAt s count number) ≡ apply_at w s count
  apply_is =
      let o : Outcome = if is_origin (w.nodes s).role then reached_at w s count number else apply_at w s count in
      is_site w s (at_work w s o) below ∙ is_at_work w s o up runs ∙ ap (λ (b : Bool). if b then reached_at w s count number else apply_at w s count) receives

  apply_said : (b : Bool) → eqb (min count (waiting_of (w.nodes s))) 0 ≡ b → (step w (ApplyAt s count number)).said ≡ (if b then IsDoneAt (w.nodes s).safe else IsDoneAt (applied_up_to (w.nodes s) count))
  apply_said true is =
      ap (λ (o : Outcome). o.said) apply_is
      ∙ ap (λ (b : Bool). let r : Received = if b then record { state = plain_receiver (w.nodes s); action = DoesNothing } else with_applied (plain_receiver (w.nodes s)) (waiting_of (w.nodes s) - count) in (applied_by w s r.state r.action).said) is
  apply_said false is =
      ap (λ (o : Outcome). o.said) apply_is
      ∙ ap (λ (b : Bool). let r : Received = if b then record { state = plain_receiver (w.nodes s); action = DoesNothing } else with_applied (plain_receiver (w.nodes s)) (waiting_of (w.nodes s) - count) in (applied_by w s r.state r.action).said) is

-- what the rule says of the answer
reached_says : {R : Type 0} {g : Ghosts R} (d : Doubted) (s count : ℕ) (r : Reached) (before after : DiskSet R g) (b : Bool) → eqb (min count (waiting_of (d.world.nodes s))) 0 ≡ b → ReachedAt (beside_of d s) (d.world.nodes s) count before after (Ok r)
    → ReachedBy (let h : Received = if b then record { state = plain_receiver (d.world.nodes s); action = DoesNothing } else with_applied (plain_receiver (d.world.nodes s)) (waiting_of (d.world.nodes s) - count) in h.action) (beside_of d s) (d.world.nodes s) r after
reached_says d s count r before after b is h =
    let n : Node = d.world.nodes s in
    subst (λ (t : Bool). ReachedBy (let x : Received = if t then record { state = plain_receiver n; action = DoesNothing } else with_applied (plain_receiver n) (waiting_of n - count) in x.action) (beside_of d s) n r after) is h

-- none of its links needs a number of its log, as it has none
pub can_receive : (d : Doubted) (s : ℕ) → LinksFit d → is_origin (d.world.nodes s).role ≡ false → (d.world.nodes s).state ≡ IsUp → (d.world.nodes s).halted ≡ None → CanReceive (beside_of d s) (d.world.nodes s)
can_receive d s fits receives up runs = record {
  receives = receives;
  up = up;
  running = runs;
  unneeded = subst (λ (ls : List KeptLink). NoneNeeds ls (length (d.world.nodes s).log)) (sym none) (record { each = λ k l is. absurd (cc) });
}
  where
    unlinked : (k : ℕ) (b : Bool) → is_linked (d.world.links s k) ≡ b → is_linked (d.world.links s k) ≡ false
    unlinked k true is = absurd (let e : false ≡ true = sym receives ∙ fits.starts s k is in cc)
    unlinked k false is = is

    none : (beside_of d s).links ≡ []
    none = ap (λ (ss : List ℕ). kept_links (d.world.links s) ss) (no_sites (d.world.links s) d.world.sites 0 d.world.sites (λ k. unlinked k (is_linked (d.world.links s k)) refl))

module _ {R : Type 0} {g : Ghosts R} where
  -- a yard that sends, and puts together and feeds nothing
  pub carries_sent : (s : ℕ) (d e : Doubted) (more : List Packet) (old new : Yard R g) → ChangesNode s d e → e.world.gathering s ≡ d.world.gathering s → e.world.packets ≡ d.world.packets ++ more → Feeds (d.world.nodes s) (e.world.nodes s)
      → FlightStands e.world.packets new.flight → new.assemblies.items ≡ old.assemblies.items → new.feeders.items ≡ old.feeders.items → (IsTold new → IsTold old) → Carries d old → Carries e new
  carries_sent s d e more old new changes gathering packets feeds flight assemblies feeders told carries = record {
    flight = flight;
    places = ap (λ (xs : List Assembled). length xs) assemblies ∙ carries.places;
    assemblies = λ tells calm i a is.
        subst (λ (ps : List Packet). AssemblyStands ps i (e.world.gathering i) a) (sym packets)
        (stands_later d.world.packets more i (e.world.gathering i) a
        (subst (λ (o : Option Gathering). AssemblyStands d.world.packets i o a) (sym (gathered i))
        (carries.assemblies (told tells) (changes.strayed calm) i a (sym (ap (λ (xs : List Assembled). slice_get xs i) assemblies) ∙ is))));
    numbers = ap (λ (fs : List ℕ). length fs) feeders ∙ carries.numbers;
    feeders = λ i feeder is up receives.
        let was = (fed i).each up receives in
        carries.feeders i feeder (sym (ap (λ (fs : List ℕ). slice_get fs i) feeders) ∙ is) was.0 was.1 ∙ sym was.2;
  }
    where
      gathered : (i : ℕ) → e.world.gathering i ≡ d.world.gathering i
      gathered i = ⊎_elim (λ (same : i ≡ s). subst (λ (k : ℕ). e.world.gathering k ≡ d.world.gathering k) (sym same) gathering) (λ apart. changes.gathering i apart) (cases_eq i s)

      fed : (i : ℕ) → Feeds (d.world.nodes i) (e.world.nodes i)
      fed i = ⊎_elim (λ (same : i ≡ s). subst (λ (k : ℕ). Feeds (d.world.nodes k) (e.world.nodes k)) (sym same) feeds) (λ apart. feeds_same (d.world.nodes i) (e.world.nodes i) (changes.nodes i apart)) (cases_eq i s)

  -- what the call leaves of the yard beside the disks
  pub record Sends (d : Doubted) (old new : Yard R g) (s last : ℕ) (acks : Bool) : Type 0 where
    pub sends : acks ≡ true → (ps : List Packet) → FlightStands ps old.flight → FlightStands (ps ++ packets_of s (d.world.nodes s).fed_by (d.world.nodes s).line (DataAck last)) new.flight
    pub unsent : acks ≡ false → new.flight ≡ old.flight
    pub facts : new.facts.items ≡ old.facts.items
    pub assemblies : new.assemblies.items ≡ old.assemblies.items
    pub feeders : new.feeders.items ≡ old.feeders.items

  module _ (d : Doubted) (old new : Yard R g) (name : List ℕ) (count s : ℕ) (before after : DiskSet R g) (stands : StandsFor d old) (here : CanApplyAt d old name s) (changed : Changed old new s before after) (keeps : KeepsRole before after) (receives : is_origin (d.world.nodes s).role ≡ false)
      (off : is_over_rvg (d.world.nodes s) ≡ false) where
    abbrev n : Node
    n = d.world.nodes s

    fuse : (m : Node) (number : ℕ) → m.fuse ≡ burned n.fuse → LeavesFuse NoMore (DoneAt number) before after → FusedAs m after
    fuse m number is calls = fused_on (Burnt NoMore (DoneAt number) (size_in before)) n m (burned n.fuse) before after is
        (λ x y burns left. left_passed n.fuse x.fuse y.fuse (done_by NoMore (size_in before) (DoneAt number) number x y refl burns).0.fuse left) calls.told (stands.fuses s before here.seat.below changed.there)

    -- the line was done, and the site is this node then
    leads_as : (number : ℕ) (m : Node) (packets more : List Packet) → EffectAt s d (happened d (ApplyAt s count number) false) m (d.world.links s) (d.world.headers s) (d.after s) packets (d.world.gathering s) → packets ≡ d.world.packets ++ more
        → (step d.world (ApplyAt s count number)).said ≡ IsDoneAt number → m ≡ record n { base = m.base; safe = m.safe; mark = m.mark } → SiteStands (beside_of d s) (worked m) after → fact_of (worked m) (d.world.links s) d.world.sites ≡ fact_of n (d.world.links s) d.world.sites
        → LeavesFuse NoMore (DoneAt number) before after → new.facts.items ≡ old.facts.items → (Carries d old → FlightStands packets new.flight) → new.assemblies.items ≡ old.assemblies.items → new.feeders.items ≡ old.feeders.items
        → Leads d (Apply name count) (DoneAt number) old new
    leads_as number m packets more effect sent said same stood shown calls facts flight assemblies feeders =
        let k : ℕ = site_number d.world name in
        let c : Choice = record { kept = 0; reached = number } in
        let h : Doubted = happened d (ApplyAt s count number) false in
        let e : Doubted = worked_for h s in
        let eff = worked_effect s d h m (d.world.links s) (d.world.headers s) (d.after s) packets (d.world.gathering s) effect in
        let ev : (let es : List Event = ApplyAt k count number ∷ [] in es) ≡ ApplyAt s count number ∷ [] = ap (λ (i : ℕ). let es : List Event = ApplyAt i count number ∷ [] in es) here.seat.number in
        record {
          next = e;
          fails = [];
          done = record {
            ends = subst (λ (i : ℕ). Ends (IsTold new) d (Apply name count) i [] (DoneAt number) e) (sym here.seat.number)
                (AllDone c false tt
                (subst (λ (es : List Event). Replies (IsTold new) (Apply name count) s false d es (DoneAt number)) (sym ev)
                (subst (λ (o : EventSaid). RepeatsSaid (step d.world (ApplyAt s count number)).world s o (DoneAt number)) (sym said) refl))
                (subst (λ (es : List Event). IsLeft s (Apply name count) false d (run_as false d es) e) (sym ev) (record { world = refl; after = λ i. refl; strayed = refl })));
            counts = tt;
            works = tt;
            calls = tt;
          };
          stands = still_apart d e old new s before after stands here.seat.below changed
              (comes_effect d e s (worked m) packets (d.world.gathering s) after eff (fit_worked h s (fit_happened d (ApplyAt s count number) false tt stands.links))
              (ap (λ (x : Node). x.name) same) (ap (λ (x : Node). x.disks) same) (ap (λ (x : Node). x.blocks) same) (ap (λ (x : Node). x.volumes) same) (ap (λ (x : Node). x.role) same) stood
              (fails_then n (worked m) before after (ap (λ (x : Node). x.failing) same) (calls_keep NoMore (DoneAt number) before after calls) (stands.failing s before here.seat.below changed.there))
              (fuse (worked m) number (ap (λ (x : Node). burned x.fuse) same) calls) (role_kept d old s before after stands here.seat.below changed.there keeps))
              (λ _. noted_off (beside_of d s) (worked m) (e.world.nodes s) after stood (ap is_over_rvg same ∙ off)) here.seat.apart (ap is_over_group eff.is.node ∙ ap is_over_group same ∙ here.seat.apart)
              (fact_same (worked m) (e.world.nodes s) (d.world.links s) (e.world.links s) d.world.sites e.world.sites eff.is.node (λ j. eff.is.links j) eff.site.sites ∙ shown) facts;
          carries = λ carries. carries_sent s d e more old new eff.site eff.gathering (eff.sent ∙ sent)
              (subst (λ (x : Node). Feeds n x) (sym eff.is.node) (feeds_like n (worked m) (ap (λ (x : Node). x.state) same) (ap (λ (x : Node). x.role) same) (ap (λ (x : Node). x.fed_by) same)))
              (subst (λ (ps : List Packet). FlightStands ps new.flight) (sym eff.sent) (flight carries)) assemblies feeders (told_by old new s before after changed) carries;
          rose = rose_still old new s before after changed.there changed.later changed.disk_sets;
        }

    done_by_test : (b : Bool) (r : Reached) (last : ℕ) → eqb (min count (waiting_of n)) 0 ≡ b → ReachedAt (beside_of d s) n count before after (Ok r) → LeavesFuse NoMore (DoneAt r.number) before after → Sends d old new s last r.acks
        → ((m : Node) → SiteStands (beside_of d s) m after → m.state ≡ IsUp → m.halted ≡ None → last ≡ m.safe) → Leads d (Apply name count) (DoneAt r.number) old new
    done_by_test true r last is h calls sends at_last =
        let t = reached_says d s count r before after true is h in
        leads_as r.number n d.world.packets [] (idle_effect d s count r.number false here.seat.below here.can.up here.can.running receives is) (sym (append-nil d.world.packets))
        (apply_said d.world s count r.number here.seat.below here.can.up here.can.running receives true is ∙ ap (λ (k : ℕ). IsDoneAt k) (sym t.0)) refl t.2 (fact_like n (worked n) (d.world.links s) d.world.sites (fuse_fact n (burned n.fuse)) (λ j l. refl))
        calls sends.facts (λ carries. subst (λ f. FlightStands d.world.packets f) (sym (sends.unsent t.1)) carries.flight) sends.assemblies sends.feeders
    done_by_test false r last is h calls sends at_last =
        let t = reached_says d s count r before after false is h in
        let quiet : n.phase ≡ Quiet = stands.links.quiet s in
        let stood : SiteStands (beside_of d s) (worked (behind_apply n count)) after = subst (λ (m : Node). SiteStands (beside_of d s) m after) (sym (behind_is n count quiet)) t.2 in
        let number : last ≡ applied_up_to n count = at_last (worked (behind_apply n count)) stood here.can.up here.can.running in
        leads_as r.number (behind_apply n count) (d.world.packets ++ packets_of s n.fed_by n.line (DataAck (applied_up_to n count))) (packets_of s n.fed_by n.line (DataAck (applied_up_to n count)))
        (applied_effect d s count r.number false here.seat.below here.can.up here.can.running receives is) refl
        (apply_said d.world s count r.number here.seat.below here.can.up here.can.running receives false is ∙ ap (λ (k : ℕ). IsDoneAt k) (sym t.0)) refl stood (behind_shown n (d.world.links s) d.world.sites count receives quiet)
        calls sends.facts (λ carries. subst (λ (k : ℕ). FlightStands (d.world.packets ++ packets_of s n.fed_by n.line (DataAck k)) new.flight) number (sends.sends t.1 d.world.packets carries.flight)) sends.assemblies sends.feeders

    pub received_done : (r : Reached) (last : ℕ) → ReachedAt (beside_of d s) n count before after (Ok r) → LeavesFuse NoMore (DoneAt r.number) before after → Sends d old new s last r.acks
        → ((m : Node) → SiteStands (beside_of d s) m after → m.state ≡ IsUp → m.halted ≡ None → last ≡ m.safe) → Leads d (Apply name count) (DoneAt r.number) old new
    received_done r last h calls sends at_last = done_by_test (eqb (min count (waiting_of n)) 0) r last refl h calls sends at_last

    -- no number is left for all that waits, and nothing changed
    none_left : (what : Counted) (most : ℕ) (f f' : SiteFacts) → ReachedAt (beside_of d s) n count before after (Err (Limit what most)) → LeavesFuse NoMore (Refused (Limit what most)) before after → slice_get old.facts.items s ≡ Some f → f' ≡ f
        → new.facts.items ≡ slice_set old.facts.items s f' → LetsGoBy (Limit what most) old new s → Leads d (Apply name count) (Refused (Limit what most)) old new
    none_left what most f f' is calls at noted facts lets =
        let k : ℕ = site_number d.world name in
        let c : Choice = record { kept = 0; reached = 0 } in
        let e : Doubted = with_one d s (worked n) in
        let ev : (let es : List Event = ApplyAt k count 0 ∷ [] in es) ≡ ApplyAt s count 0 ∷ [] = ap (λ (i : ℕ). let es : List Event = ApplyAt i count 0 ∷ [] in es) here.seat.number in
        let within = slice_get_within old.disk_sets.items s before changed.there in
        let lacks : IsTold new → MOST_NUMBER ≤ most_stamp_at d.world s + waiting_of n
        = λ told.
        let far = is.1 (raw_told after (raw_set (beside_of d s) n after is.2 off)
        (told.each s after (ap (λ es. slice_get es s) changed.disk_sets ∙ get-set_same old.disk_sets.items s after within))) in omega (arith, far) in
        record {
          next = e;
          fails = [];
          done = record {
            ends = subst (λ (i : ℕ). Ends (IsTold new) d (Apply name count) i [] (Refused (Limit what most)) e) (sym here.seat.number)
                (subst (λ (why : No). Ends (IsTold new) d (Apply name count) s [] (Refused why) e) (sym is.0)
                (NoNumber c false [] (ApplyAt s count 0) [] ev tt (λ told. (receives, lacks told)) refl refl (record { world = refl; after = λ i. refl; strayed = refl })));
            counts = tt;
            works = tt;
            calls = tt;
          };
          stands = still_apart d e old new s before after stands here.seat.below changed
              (comes_one d s (worked n) after refl stands.links (stands_worked (beside_of d s) n after is.2)
              (fails_then n (worked n) before after refl (calls_keep NoMore (Refused (Limit what most)) before after calls) (stands.failing s before here.seat.below changed.there))
              (fused_on (Burnt NoMore (Refused (Limit what most)) (size_in before)) n (worked n) (burned n.fuse) before after refl (λ x y burns left. left_passed n.fuse x.fuse y.fuse burns.fuse left) calls.told
              (stands.fuses s before here.seat.below changed.there)) (role_kept d old s before after stands here.seat.below changed.there keeps))
              (λ _. noted_off (beside_of d s) n (e.world.nodes s) after is.2 off) here.seat.apart (ap is_over_group (at_place d.world.nodes s (worked n)) ∙ here.seat.apart)
              (fact_same (worked n) (e.world.nodes s) (d.world.links s) (d.world.links s) d.world.sites d.world.sites (at_place d.world.nodes s (worked n)) (λ j. refl) refl
              ∙ fact_like n (worked n) (d.world.links s) d.world.sites (fuse_fact n (burned n.fuse)) (λ j l. refl))
              (facts ∙ ap (λ (x : SiteFacts). slice_set old.facts.items s x) noted ∙ set_same old.facts.items s f at);
          carries = carries_node s d e (worked n) old new (record { flight = lets.flight; assemblies = lets.assemblies; feeders = lets.feeders }) (changes_one d s (worked n)) refl refl (at_place d.world.nodes s (worked n)) refl refl refl
              (told_by old new s before after changed);
          rose = rose_still old new s before after changed.there changed.later changed.disk_sets;
        }

    -- it was refused
    pub received_refused : (why : No) (said : Said) (f f' : SiteFacts) → said ≡ Refused why → BlamesSite n why → ReachedAt (beside_of d s) n count before after (Err why) → LeavesFuse NoMore (Refused why) before after → slice_get old.facts.items s ≡ Some f
        → f' ≡ noted_facts why f → new.facts.items ≡ slice_set old.facts.items s f' → LetsGoBy why old new s → Leads d (Apply name count) said old new
    received_refused why said f f' says blames is calls at noted facts lets = subst (λ (r : Said). Leads d (Apply name count) r old new) (sym says) (by_why why blames is calls noted lets)
      where
        by_why : (why : No) → BlamesSite n why → ReachedAt (beside_of d s) n count before after (Err why) → LeavesFuse NoMore (Refused why) before after → f' ≡ noted_facts why f → LetsGoBy why old new s → Leads d (Apply name count) (Refused why) old new
        by_why (Device disk) blames is calls noted lets = apply_refused d old new name count s before after stands here off changed keeps (Device disk) (Refused (Device disk)) f f' refl blames is calls at noted facts lets
        by_why (Limit what most) blames is calls noted lets = none_left what most f f' is calls at noted facts lets
        by_why Off blames is calls noted lets = apply_refused d old new name count s before after stands here off changed keeps Off (Refused Off) f f' refl blames is calls at noted facts lets
        by_why other blames is calls noted lets = absurd is
