-- What a line leaves that hands the packet of an update to its target.
use Rattle.std.proofs.Common.{◌≡◌, ◌∙◌, ◌⊎◌, inl, inr, ⊎_elim, ◌+◌, ◌<◌, ℕ, Bool, true, false, List, [], ◌∷◌, ◌++◌, length, ap, sym, subst, refl, arith, length-append}
use Rattle.std.specs.Prelude.{Option, Some, eqb, is_some, ltb, slice_get, slice_set, if◌then◌else◌, ◌&&◌}
use Rattle.std.proofs.lemmas.Bool.{cases_eq}
use Rattle.std.proofs.lemmas.Bool.Decides.{nat_tests}
use Rattle.vx_model.specs.Content.{Write}
use Rattle.vx_model.specs.Sites.{is_origin, is_up}
use Rattle.vx_model.specs.declared.limits.TheConstants.{MOST_SITES}
use Rattle.vx_model.specs.declared.site.SiteState.{SiteState}
use Rattle.vx_model.specs.declared.site.SiteState.TheVariants.{Bare as IsBare, Up as IsUp, Deported as IsDeported, Down as IsDown}
use Rattle.vx_history.specs.Doubts.{Doubted, happened}
use Rattle.vx_history.specs.Events.{delivered, gathered_if, handed, heard, is_taken, packet_at, taken_if, update_taken, with_write}
use Rattle.vx_history.specs.Gatherings.{completes}
use Rattle.vx_history.specs.LinkForms.{plain_receiver}
use Rattle.vx_history.specs.Receiving.{received_step}
use Rattle.vx_history.specs.Refusals.{Outcome, is_running, says}
use Rattle.vx_history.specs.Steps.{burned, worked, worked_on}
use Rattle.vx_history.specs.Groups.{GroupNode}
use Rattle.vx_history.specs.World.{Fuse, Gathering, Link, Message, Node, Packet, Update, Volume, World}
use Rattle.vx_history.specs.declared.event.Event.TheVariants.{Deliver as DeliverAt}
use Rattle.vx_history.specs.declared.event.Said.{Said as EventSaid}
use Rattle.vx_history.specs.declared.event.Said.TheVariants.{Ignored as IsIgnored, Taken as IsTaken}
use Rattle.vx_history.specs.declared.receiver.RAction.{RAction}
use Rattle.vx_history.specs.declared.receiver.RAction.TheVariants.{DataAck, Ignored as Ignores, IgnoredAck, Nothing, Take}
use Rattle.vx_history.specs.declared.receiver.REvent.TheVariants.{Update as HearUpdate}
use Rattle.vx_courier.proofs.Joining.{stands_later}
use Rattle.vx_courier.specs.Together.{AssemblyStands}
use Rattle.vx_courier.specs.UnderWay.{FlightStands}
use Rattle.vx_disk.specs.Disks.{Untouched}
use Rattle.vx_disk.specs.declared.shelf.Shelf.{Ghosts}
use Rattle.vx_effects.proofs.Packets.{received_is}
use Rattle.vx_effects.proofs.Facts.{over_apart, over_same}
use Rattle.vx_effects.proofs.Notes.{over_burnt}
use Rattle.vx_effects.specs.Facts.{fact_of, last_group, over_of, received_fact}
use Rattle.vx_events.proofs.Places.{some_same}
use Rattle.vx_events.specs.Effects.{ChangesNode, EffectAt}
use Rattle.vx_events.specs.Facts.{group_by, group_fact}
use Rattle.vx_events.specs.LinkEnds.{AreLeft, LinkEnds, LinksDone, link_noted, target_noted}
use Rattle.vx_events.specs.GroupLines.{is_over_group}
use Rattle.vx_events.specs.StepsOver.{fact_over}
use Rattle.vx_events.specs.LinksFit.{LinksFit}
use Rattle.vx_events.specs.Sayings.{RepeatsSaid}
use Rattle.vx_events.specs.declared.said.Said.{Said}
use Rattle.vx_order.specs.declared.facts.RvgFacts.{RvgFacts}
use Rattle.vx_order.specs.declared.facts.SiteFacts.{SiteFacts}
use Rattle.vx_packet.specs.Assemblies.{Assembled}
use Rattle.vx_script.specs.declared.line.ScriptLine.TheVariants.{Deliver}
use Rattle.vx_diskset.proofs.Worked.{stands_worked}
use Rattle.vx_diskset.specs.Asked.{LeavesAlone}
use Rattle.vx_diskset.specs.Fuses.{LeftAs}
use Rattle.vx_diskset.specs.Holds.{beside_of, state_with}
use Rattle.vx_diskset.specs.Stands.{RoleIs, SiteStands}
use Rattle.vx_diskset.specs.declared.disk_set.DiskSet.{DiskSet}
use Rattle.vx_yard.specs.Carries.{Carries}
use Rattle.vx_yard.specs.Standing.{Leads, StandsFor, BeginsFirst}
use Rattle.vx_yard.specs.Yards.{IsTold}
use Rattle.vx_yard.specs.declared.yard.Yard.{Yard}
use Rattle.vx_yard.proofs.ApplySite.{comes_effect, worked_effect, worked_for}
use Rattle.vx_yard.proofs.Carrying.{feeds_same}
use Rattle.vx_yard.proofs.CrashLine.{rose_still}
use Rattle.vx_yard.proofs.FailsStay.{alone_keeps, fails_then}
use Rattle.vx_yard.proofs.FuseStays.{fused_on}
use Rattle.vx_yard.proofs.Lists.{get-set_other, get-set_same, length-set}
use Rattle.vx_yard.proofs.OneSite.{Changed, Comes, stands_at, stands_still}
use Rattle.vx_link_lines.proofs.NotedYard.{left_burned}
use Rattle.vx_yard.proofs.FirstSites.{begins_like}
use Rattle.vx_yard.proofs.OverGroup.{begins_apart, noted_off, rvg_same}
use Rattle.vx_events.specs.RvgViews.{is_over_rvg}

-- ---- what is noted of the target

below_true : (a b : ℕ) → a < b → ltb a b ≡ true
below_true a b low = grind (arith, nat_tests)

noted_at : (d : Doubted) (number : ℕ) (p : Packet) (v : World) → packet_at d.world.packets number ≡ Some p → p.target < d.world.sites → link_noted d.world (Deliver number) v ≡ worked_on v p.target
noted_at d number p v at below =
    ap (λ (o : Option Packet). target_noted d.world.sites o v) at ∙ ap (λ (b : Bool). if b then worked_on v p.target else v) (below_true p.target d.world.sites below)

pub left_at : (d h : Doubted) (number : ℕ) (p : Packet) → packet_at d.world.packets number ≡ Some p → p.target < d.world.sites → AreLeft (Deliver number) d h (worked_for h p.target)
left_at d h number p at below = record { world = sym (noted_at d number p h.world at below); after = λ i. refl; strayed = refl }

-- the line was done
pub done_as : (told : Type 0) (d : Doubted) (number : ℕ) (p : Packet) (said : Said) (event : EventSaid) → packet_at d.world.packets number ≡ Some p → p.target < d.world.sites
    → (delivered d.world number (packet_at d.world.packets number)).said ≡ event → RepeatsSaid (happened d (DeliverAt number) false).world 0 event said
    → LinkEnds told d (Deliver number) [] said (worked_for (happened d (DeliverAt number) false) p.target)
done_as told d number p said event at below is repeats =
    LinksDone (happened d (DeliverAt number) false) (false, refl) refl refl (subst (λ (x : EventSaid). RepeatsSaid (happened d (DeliverAt number) false).world 0 x said) (sym is) repeats)
    (left_at d (happened d (DeliverAt number) false) number p at below)

-- ---- what is not taken leaves the target as it is

module _ (w : World) (p : Packet) (x : Write) where
  abbrev target : Node
  target = w.nodes p.target

  abbrev StaysOr : Outcome → Type 0
  StaysOr o = (o.said ≡ IsTaken) ⊎ (o.world.nodes p.target ≡ target)

  whole_or : (whole : Bool) (number : ℕ) → StaysOr (taken_if whole w p x number)
  whole_or true number = inl refl
  whole_or false number = inr refl

  action_or : (r : RAction) → StaysOr (update_taken w p x r)
  action_or Nothing = inr refl
  action_or Ignores = inr refl
  action_or (IgnoredAck number) = inr refl
  action_or (Take number) = whole_or (completes (w.gathering p.target) p) number
  action_or (DataAck number) = inr refl

  role_or : (origin : Bool) (r : RAction) → StaysOr (if origin then says w IsIgnored else update_taken w p x r)
  role_or true r = inr refl
  role_or false r = action_or r

  state_or : (up : Bool) (k : ℕ) → p.message ≡ Update k x → StaysOr (if up then heard w p p.message else says w IsIgnored)
  state_or true k is = subst (λ (t : Message). StaysOr (heard w p t)) (sym is) (role_or (is_origin target.role) (received_step (plain_receiver target) (HearUpdate p.line k)).action)
  state_or false k is = inr refl

  gathered_or : (taken : Bool) (o : Outcome) → StaysOr o → StaysOr (says (gathered_if taken o.world p) o.said)
  gathered_or true o stays = stays
  gathered_or false o stays = stays

  pub stays_or : (number k : ℕ) → packet_at w.packets number ≡ Some p → p.message ≡ Update k x → StaysOr (delivered w number (packet_at w.packets number))
  stays_or number k at is =
      subst (λ (o : Option Packet). StaysOr (delivered w number o)) (sym at)
      (gathered_or (is_taken (handed w p).said) (handed w p) (state_or (is_up target.state && is_running target.halted) k is))

  pub stays_ignored : (number k : ℕ) → packet_at w.packets number ≡ Some p → p.message ≡ Update k x → (delivered w number (packet_at w.packets number)).said ≡ IsIgnored
      → (delivered w number (packet_at w.packets number)).world.nodes p.target ≡ target
  stays_ignored number k at is ignored = ⊎_elim (λ taken. absurd (let e : IsIgnored ≡ IsTaken = sym ignored ∙ taken in cc)) (λ same. same) (stays_or number k at is)

-- ---- the same site, but for what it received

pub record SameSite (n k : Node) : Type 0 where
  pub name : k.name ≡ n.name
  pub disks : k.disks ≡ n.disks
  pub blocks : k.blocks ≡ n.blocks
  pub volumes : k.volumes ≡ n.volumes
  pub group : k.group ≡ n.group
  pub role : k.role ≡ n.role
  pub failing : k.failing ≡ n.failing
  pub fuse : k.fuse ≡ n.fuse

pub same_site : (n k : Node) → k ≡ n → SameSite n k
same_site n k is = record {
  name = ap (λ (m : Node). m.name) is;
  disks = ap (λ (m : Node). m.disks) is;
  blocks = ap (λ (m : Node). m.blocks) is;
  volumes = ap (λ (m : Node). m.volumes) is;
  group = ap (λ (m : Node). m.group) is;
  role = ap (λ (m : Node). m.role) is;
  failing = ap (λ (m : Node). m.failing) is;
  fuse = ap (λ (m : Node). m.fuse) is;
}

pub written_site : (n k : Node) (source : ℕ) (x : Write) → k ≡ with_write n source x → SameSite n k
written_site n k source x is = record {
  name = ap (λ (m : Node). m.name) is;
  disks = ap (λ (m : Node). m.disks) is;
  blocks = ap (λ (m : Node). m.blocks) is;
  volumes = ap (λ (m : Node). m.volumes) is;
  group = ap (λ (m : Node). m.group) is;
  role = ap (λ (m : Node). m.role) is;
  failing = ap (λ (m : Node). m.failing) is;
  fuse = ap (λ (m : Node). m.fuse) is;
}

over_site : (n k : Node) → SameSite n k → is_over_group k ≡ is_over_group n
over_site n k same =
    ap (λ (o : Option GroupNode). is_some o && eqb (length k.volumes) 0) same.group ∙ ap (λ (vs : List Volume). is_some n.group && eqb (length vs) 0) same.volumes

-- ---- its facts

head_is : (n : Node) → is_origin n.role ≡ false → (if is_origin n.role then n.safe else length n.log) ≡ length n.log
head_is n receives = ap (λ (b : Bool). if b then n.safe else length n.log) receives

same_group : (n : Node) (t : SiteState) → is_origin n.role ≡ false → last_group (length n.log) (group_by t n) ≡ group_by t n
same_group n IsBare receives = refl
same_group n IsUp receives = ap (λ (i : ℕ). Some (let r : RvgFacts = record (group_fact n) { last = i } in r)) (sym (head_is n receives))
same_group n IsDeported receives = refl
same_group n IsDown receives = refl

-- with the number of the last write that came, of a site that took one or none
pub last_shown : (n m : Node) (row : ℕ → Link) (sites source last : ℕ) (x : Write) → is_origin n.role ≡ false → (fact_of n row sites).links ≡ [] → (m ≡ n) ⊎ (m ≡ with_write n source x) → last ≡ length m.log
    → received_fact last (fact_of n row sites) ≡ fact_of m row sites
last_shown n m row sites source last x receives none (inl same) many =
    ap (λ (k : ℕ). received_fact k (fact_of n row sites)) (many ∙ ap (λ (k : Node). length k.log) same)
    ∙ ap (λ (g : Option RvgFacts). let f : SiteFacts = record (fact_of n row sites) { rvg = g } in f) (same_group n n.state receives)
    ∙ ap (λ (k : Node). fact_of k row sites) (sym same)
last_shown n m row sites source last x receives none (inr more) many =
    let long : last ≡ length n.log + 1 = many ∙ ap (λ (k : Node). length k.log) more ∙ length-append n.log (x ∷ []) in
    ap (λ (k : ℕ). received_fact k (fact_of n row sites)) long ∙ sym (received_is n row sites source x receives none) ∙ ap (λ (k : Node). fact_of k row sites) (sym more)

module _ {R : Type 0} {g : Ghosts R} where
  -- ---- what the yard carries

  pub carries_handed : (d e : Doubted) (s feeder : ℕ) (a : Assembled) (more : List Packet) (old new : Yard R g) → ChangesNode s d e → e.world.packets ≡ d.world.packets ++ more → FlightStands e.world.packets new.flight
      → (IsTold new → e.strayed ≡ false → AssemblyStands e.world.packets s (e.world.gathering s) a) → feeder ≡ (e.world.nodes s).fed_by → new.assemblies.items ≡ slice_set old.assemblies.items s a → new.feeders.items ≡ slice_set old.feeders.items s feeder
      → s < MOST_SITES → (IsTold new → IsTold old) → Carries d old → Carries e new
  carries_handed d e s feeder a more old new changes packets flight here fed assemblies feeders below told carries = record {
    flight = flight;
    places = ap (λ (xs : List Assembled). length xs) assemblies ∙ length-set old.assemblies.items s a ∙ carries.places;
    assemblies = λ tells calm i b is. ⊎_elim
        (λ (same : i ≡ s).
        let found : a ≡ b = some_same (sym (get-set_same old.assemblies.items s a (omega (arith, below, carries.places))) ∙ ap (λ (k : ℕ). slice_get (slice_set old.assemblies.items s a) k) (sym same) ∙ at i b is) in
        subst (λ (k : ℕ). AssemblyStands e.world.packets k (e.world.gathering k) b) (sym same) (subst (λ (c : Assembled). AssemblyStands e.world.packets s (e.world.gathering s) c) found (here tells calm)))
        (λ apart.
        subst (λ (ps : List Packet). AssemblyStands ps i (e.world.gathering i) b) (sym packets)
        (stands_later d.world.packets more i (e.world.gathering i) b
        (subst (λ (o : Option Gathering). AssemblyStands d.world.packets i o b) (sym (changes.gathering i apart))
        (carries.assemblies (told tells) (changes.strayed calm) i b (sym (get-set_other old.assemblies.items s i a apart) ∙ at i b is)))))
        (cases_eq i s);
    numbers = ap (λ (fs : List ℕ). length fs) feeders ∙ length-set old.feeders.items s feeder ∙ carries.numbers;
    feeders = λ i f is. ⊎_elim
        (λ (same : i ≡ s) up receives.
        let found : feeder ≡ f = some_same (sym (get-set_same old.feeders.items s feeder (omega (arith, below, carries.numbers))) ∙ ap (λ (k : ℕ). slice_get (slice_set old.feeders.items s feeder) k) (sym same) ∙ by i f is) in
        sym found ∙ fed ∙ ap (λ (k : ℕ). (e.world.nodes k).fed_by) (sym same))
        (λ apart up receives.
        let was = (feeds_same (d.world.nodes i) (e.world.nodes i) (changes.nodes i apart)).each up receives in
        carries.feeders i f (sym (get-set_other old.feeders.items s i feeder apart) ∙ by i f is) was.0 was.1 ∙ sym was.2)
        (cases_eq i s);
  }
    where
      at : (i : ℕ) (b : Assembled) → slice_get new.assemblies.items i ≡ Some b → slice_get (slice_set old.assemblies.items s a) i ≡ Some b
      at i b is = sym (ap (λ (xs : List Assembled). slice_get xs i) assemblies) ∙ is

      by : (i f : ℕ) → slice_get new.feeders.items i ≡ Some f → slice_get (slice_set old.feeders.items s feeder) i ≡ Some f
      by i f is = sym (ap (λ (fs : List ℕ). slice_get fs i) feeders) ∙ is

  -- ---- the yard

  module _ (d : Doubted) (number : ℕ) (p : Packet) (old new : Yard R g) (before after : DiskSet R g) (stands : StandsFor d old) (below : p.target < d.world.sites) (changed : Changed old new p.target before after) (alone : LeavesAlone before after)
      (role : RoleIs (d.world.nodes p.target) after) (off : is_over_rvg (d.world.nodes p.target) ≡ false) where
    abbrev s : ℕ
    s = p.target

    abbrev n : Node
    n = d.world.nodes s

    comes_by : (h : Doubted) (m : Node) (packets : List Packet) (gathered : Option Gathering) → EffectAt s d h m (d.world.links s) (d.world.headers s) (d.after s) packets gathered → LinksFit (worked_for h s) → SameSite n m
        → SiteStands (beside_of d s) m after → Comes d (worked_for h s) s after
    comes_by h m packets gathered eff fits same here =
        comes_effect d (worked_for h s) s (worked m) packets gathered after (worked_effect s d h m (d.world.links s) (d.world.headers s) (d.after s) packets gathered eff) fits same.name same.disks same.blocks same.volumes same.role
        (stands_worked (beside_of d s) m after here)
        (fails_then n (worked m) before after same.failing (alone_keeps before after alone) (stands.failing s before below changed.there))
        (fused_on Untouched n (worked m) (burned n.fuse) before after (ap (λ (f : Fuse). burned f) same.fuse) (λ a b still left. left_burned n.fuse b.fuse (subst (λ (z : Option (ℕ × ℕ)). LeftAs n.fuse z) (sym still.fuse) left)) alone.told
        (stands.fuses s before below changed.there)) role

    -- the facts of the target behind it
    shown : (h : Doubted) (m : Node) (packets : List Packet) (gathered : Option Gathering) → EffectAt s d h m (d.world.links s) (d.world.headers s) (d.after s) packets gathered → fact_over (worked_for h s).world s ≡ over_of m (d.world.links s) d.world.sites
    shown h m packets gathered eff =
        let noted = worked_effect s d h m (d.world.links s) (d.world.headers s) (d.after s) packets gathered eff in
        ap (λ (k : Node). over_of k ((worked_for h s).world.links s) (worked_for h s).world.sites) noted.is.node ∙ ap (λ (k : ℕ). over_of (worked m) ((worked_for h s).world.links s) k) noted.site.sites
        ∙ over_same (worked m) (d.world.links s) ((worked_for h s).world.links s) d.world.sites noted.is.links ∙ over_burnt m (d.world.links s) d.world.sites

    abbrev Ends : Doubted → Said → Type 0
    Ends h said = LinkEnds (IsTold new) d (Deliver number) [] said (worked_for h s)

    -- with other facts, of a site over no group
    pub leads_new : (h : Doubted) (m : Node) (packets : List Packet) (gathered : Option Gathering) (said : Said) (f : SiteFacts) → EffectAt s d h m (d.world.links s) (d.world.headers s) (d.after s) packets gathered → LinksFit (worked_for h s)
        → Ends h said → is_over_group n ≡ false → SameSite n m → SiteStands (beside_of d s) m after → f ≡ fact_of m (d.world.links s) d.world.sites → new.facts.items ≡ slice_set old.facts.items s f → (Carries d old → Carries (worked_for h s) new)
        → Leads d (Deliver number) said old new
    leads_new h m packets gathered said f eff fits ends apart same here fact facts carries = record {
      next = worked_for h s;
      fails = [];
      done = record { ends = ends; counts = tt; works = tt; calls = tt };
      stands = stands_at d (worked_for h s) old new s f before after stands below changed (comes_by h m packets gathered eff fits same here)
          (λ _. subst (λ (q : Node). BeginsFirst s q) (sym (worked_effect s d h m (d.world.links s) (d.world.headers s) (d.after s) packets gathered eff).is.node)
          (begins_apart s (beside_of d s) (worked m) after (stands_worked (beside_of d s) m after here) (over_site n m same ∙ apart)))
          (λ _. noted_off (beside_of d s) m ((worked_for h s).world.nodes s) after here (rvg_same n m same.group same.volumes ∙ off)) (fact ∙ sym (over_apart m (d.world.links s) d.world.sites (over_site n m same ∙ apart)) ∙ sym (shown h m packets gathered eff)) facts;
      carries = carries;
      rose = rose_still old new s before after changed.there changed.later changed.disk_sets;
    }

    -- with the same facts
    pub leads_same : (h : Doubted) (m : Node) (packets : List Packet) (gathered : Option Gathering) (said : Said) → EffectAt s d h m (d.world.links s) (d.world.headers s) (d.after s) packets gathered → LinksFit (worked_for h s)
        → Ends h said → m ≡ n → SiteStands (beside_of d s) m after → new.facts.items ≡ old.facts.items → (Carries d old → Carries (worked_for h s) new) → Leads d (Deliver number) said old new
    leads_same h m packets gathered said eff fits ends same here facts carries = record {
      next = worked_for h s;
      fails = [];
      done = record { ends = ends; counts = tt; works = tt; calls = tt };
      stands = stands_still d (worked_for h s) old new s before after stands below changed (comes_by h m packets gathered eff fits (same_site n m same) here)
          (λ first. subst (λ (q : Node). BeginsFirst s q) (sym (worked_effect s d h m (d.world.links s) (d.world.headers s) (d.after s) packets gathered eff).is.node)
          (begins_like s n (worked m) (λ bare. ap (λ (q : Node). q.state) same ∙ bare) (ap (λ (q : Node). q.volumes) same) (ap (λ (q : Node). state_with q []) same) (ap (λ (q : Node). q.session) same)
          (ap (λ (q : Node). q.low) same) first))
          (λ _. noted_off (beside_of d s) m ((worked_for h s).world.nodes s) after here (ap is_over_rvg same ∙ off))
          (shown h m packets gathered eff ∙ ap (λ (k : Node). over_of k (d.world.links s) d.world.sites) same) facts;
      carries = carries;
      rose = rose_still old new s before after changed.there changed.later changed.disk_sets;
    }
