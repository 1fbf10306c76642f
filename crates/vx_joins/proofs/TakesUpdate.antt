-- The packet of an update at a site that receives.
use Rattle.std.proofs.Common.{◌≡◌, ◌∙◌, ◌⊎◌, inl, inr, ⊎_elim, ◌+◌, ◌-◌, ◌≤◌, ℕ, Bool, true, false, List, [], ◌∷◌, ◌++◌, length, take, drop, ap, sym, subst, refl, arith, length-append, IsTrue}
use Rattle.std.specs.Prelude.{Option, Some, None, Result, Ok, Err, IfOk, OnErr, ◌&&◌, if◌then◌else◌}
use Rattle.std.proofs.lemmas.List.{length-drop, length-map, take-append-le}
use Rattle.vx_model.specs.Content.{Write, fold_writes}
use Rattle.vx_model.specs.Sites.{is_origin, is_up}
use Rattle.vx_model.specs.declared.call.Update.{Update as Logged}
use Rattle.vx_model.specs.declared.errors.OutOfMemory.{OutOfMemory}
use Rattle.vx_model.specs.declared.state.State.{State}
use Rattle.vx_history.specs.Events.{delivered, gathered_if, gathers, handed, heard, is_taken, packet_at, taken_if, update_taken, with_write}
use Rattle.vx_history.specs.Gatherings.{completes}
use Rattle.vx_history.specs.LinkForms.{plain_receiver}
use Rattle.vx_history.specs.Receiving.{received_step}
use Rattle.vx_history.specs.Refusals.{Outcome, is_running, says}
use Rattle.vx_history.specs.World.{Message, Node, Packet, Update, World}
use Rattle.vx_history.specs.declared.event.Said.{Said}
use Rattle.vx_history.specs.declared.event.Said.TheVariants.{Ignored as IsIgnored}
use Rattle.vx_history.specs.declared.receiver.RAction.{RAction}
use Rattle.vx_history.specs.declared.receiver.RAction.TheVariants.{DataAck, Ignored, IgnoredAck, Nothing, Take}
use Rattle.vx_history.specs.declared.receiver.REvent.TheVariants.{Update as HearUpdate}
use Rattle.vx_history.proofs.Updates.{at_place}
use Rattle.vx_courier.specs.Together.{AssemblyStands}
use Rattle.vx_courier.specs.UnderWay.{FlightStands}
use Rattle.vx_net.specs.Flights.{Flying}
use Rattle.vx_packet.specs.Assemblies.{Assembled}
use Rattle.vx_disk.specs.Causes.{OnDisks}
use Rattle.vx_disk.specs.Disks.{Disks, Untouched}
use Rattle.vx_disk.specs.Shelf.{Image, Meaning}
use Rattle.vx_disk.specs.declared.shelf.Shelf.{Ghosts}
use Rattle.vx_rvg.specs.Contents.{write_of_update}
use Rattle.vx_rvg.specs.Views.{Core, last_of}
use Rattle.vx_rvg.specs.declared.group.Rvg.{Rvg}
use Rattle.vx_peers.specs.Receivers.{ReceivesWrites as ReceivesAt, StandsForOutcome}
use Rattle.vx_secondary.specs.Receivers.{receiver_of, writes_of_updates}
use Rattle.vx_secondary.specs.declared.secondary.Secondary.{Secondary}
use Rattle.vx_diskset.specs.Asked.{LeavesAlone, disks_told}
use Rattle.vx_diskset.specs.DiskSets.{Later}
use Rattle.vx_diskset.specs.Holds.{KeptBeside, HasWrites, most_with, state_with}
use Rattle.vx_diskset.specs.Lasts.{FoundWith, StandsHolding}
use Rattle.vx_diskset.specs.Layouts.{units_of}
use Rattle.vx_diskset.specs.Needs.{TakesAs}
use Rattle.vx_diskset.specs.Stands.{IsReceiverAt, RoleIs, SiteStands, IsUngrouped}
use Rattle.vx_diskset.specs.declared.disk_set.DiskSet.{DiskSet}
use Rattle.vx_diskset.specs.declared.disk_set.DiskSet.TheVariants.{Bare, Spoiled, Up, Receives, Down, OfGroup, Over, Gone}
use Rattle.vx_diskset.proofs.GroupStands.{off_or_origin}
use Rattle.vx_diskset.specs.Asked.{IsRawSet}
use Rattle.vx_diskset.proofs.BesideLemmas.{site_sure}
use Rattle.vx_joins.specs.Deliveries.{DeliveredTo}

-- ---- a receiver as its rule sees it

receiver_made : (c : Core) (us : List Logged) (n : Node) → last_of c + length us ≡ length n.log → length us ≡ length n.log - n.safe → c.log.header.incarnation ≡ n.session
    → (s : State) → c.log.header.state ≡ s → s ≡ state_with n s.links → receiver_of c us ≡ plain_receiver n
receiver_made c us n last_is waiting_is session_is s state named =
    ap (λ (t : State). record (receiver_of c us) { line = t.line; mark = t.mark; phase = t.phase; replay = t.replay; end = t.end }) (state ∙ named)
    ∙ ap (λ (k : ℕ). record (receiver_of c us) { line = n.line; mark = n.mark; phase = n.phase; replay = n.replay; end = n.end; last = k }) last_is
    ∙ ap (λ (k : ℕ). record (plain_receiver n) { waiting = k; session = c.log.header.incarnation }) waiting_is
    ∙ ap (λ (k : ℕ). record (plain_receiver n) { session = k }) session_is

module _ {beside : KeptBeside} (n : Node) (c : Core) (us : List Logged) (m : Meaning) (r : IsReceiverAt beside n c us m) (running : n.halted ≡ None) where
  many : length us ≡ length n.log - n.safe
  many =
      let head = r.head running in
      let one : length (writes_of_updates us) ≡ length (drop (last_of c) n.log) = ap (λ (xs : List Write). length xs) r.waits in
      omega (arith, head, one, length-map us write_of_update, length-drop (last_of c) n.log)

  waits_safe : writes_of_updates us ≡ drop n.safe n.log
  waits_safe = r.waits ∙ ap (λ (k : ℕ). drop k n.log) (r.head running)

  least_safe : n.safe ≤ length n.log
  least_safe = omega (arith, r.least, r.most)

  pub receives_at : (fed : ℕ) → fed ≡ n.fed_by → ReceivesAt n c us fed
  receives_at fed is = record {
    up = r.state;
    role = r.role;
    halted = r.halted;
    rule = receiver_made c us n (let head = r.head running in omega (arith, head, many, least_safe)) many r.session (state_with n r.found) r.kept refl;
    logged = least_safe;
    fed_by = is;
    waits = waits_safe;
  }

  -- ---- with other updates behind it, which are its writes that wait

  pub same_receiver : (vs : List Logged) → writes_of_updates vs ≡ drop n.safe n.log → IsReceiverAt beside n c vs m
  same_receiver vs waits = record {
    state = r.state;
    role = r.role;
    up = r.up;
    fuse = r.fuse;
    lies = r.lies;
    low = r.low;
    units = r.units;
    ring = r.ring;
    found = r.found;
    kept = r.kept;
    linked = r.linked;
    session = r.session;
    begun = r.begun;
    stamp = r.stamp;
    first = r.first;
    least = r.least;
    most = r.most;
    head = r.head;
    halted = r.halted;
    waits = waits ∙ sym (ap (λ (k : ℕ). drop k n.log) (r.head running));
    takes = r.takes;
    content = r.content;
    left = r.left;
    sure = r.sure;
    may = r.may;
  }

  -- ---- with one write more

  module _ (source : ℕ) (x : Write) where
    abbrev more : Node
    more = with_write n source x

    front : (k : ℕ) → k ≤ length n.log → take k (n.log ++ x ∷ []) ≡ take k n.log
    front k low = take-append-le k n.log (x ∷ []) low

    has_more : (i : Image) → HasWrites beside n i → HasWrites beside more i
    has_more i has = record {
      count = has.count;
      least = has.least;
      most = omega (arith, has.most, length-append n.log (x ∷ []));
      found = subst (λ (ws : List Write). FoundWith (units_of n) n.ring (state_with n beside.links) n.session (most_with beside n has.count) i ws (fold_writes n.base (drop n.safe ws))) (sym (front has.count has.most)) has.found;
    }

    pub more_receiver : (vs : List Logged) → writes_of_updates vs ≡ drop n.safe (n.log ++ x ∷ []) → IsReceiverAt beside more c vs m
    more_receiver vs waits = record {
      state = r.state;
      role = r.role;
      up = r.up;
      fuse = r.fuse;
      lies = r.lies;
      low = r.low;
      units = r.units;
      ring = r.ring;
      found = r.found;
      kept = r.kept;
      linked = r.linked;
      session = r.session;
      begun = r.begun;
      stamp = r.stamp;
      first = r.first;
      least = r.least;
      most = omega (arith, r.most, length-append n.log (x ∷ []));
      head = r.head;
      halted = r.halted;
      waits = waits ∙ sym (ap (λ (k : ℕ). drop k (n.log ++ x ∷ [])) (r.head running));
      takes = λ none. subst (λ (ws : List Write). TakesAs c.log ws) (sym (front n.safe least_safe)) (r.takes none);
      content = λ none told. subst (λ (ws : List Write). StandsHolding c ws n.base m) (sym (front n.safe least_safe)) (r.content none told);
      left = λ i now. inl (has_more i (site_sure n i (r.sure running) (r.left i now)));
      sure = r.sure;
      may = r.may;
    }

-- ---- the site behind the delivery of an update

-- it is as it was, or has one write more
abbrev IsOneOf : Packet → Write → World → Node → Type 0
IsOneOf p x w n = (w.nodes p.target ≡ n) ⊎ (w.nodes p.target ≡ with_write n p.source x)

gathered_node : (taken : Bool) (p : Packet) (x : Write) (n : Node) (o : Outcome) → is_taken o.said ≡ taken → IsOneOf p x o.world n → IsOneOf p x (gathers p o).world n
gathered_node true p x n o is one = subst (λ (b : Bool). IsOneOf p x (says (gathered_if b o.world p) o.said).world n) (sym is) one
gathered_node false p x n o is one = subst (λ (b : Bool). IsOneOf p x (says (gathered_if b o.world p) o.said).world n) (sym is) one

module _ (w : World) (p : Packet) (x : Write) where
  abbrev target : Node
  target = w.nodes p.target

  taken_node : (whole : Bool) (number : ℕ) → IsOneOf p x (taken_if whole w p x number).world target
  taken_node true number = inr (at_place w.nodes p.target (with_write target p.source x))
  taken_node false number = inl refl

  by_action : (r : RAction) → IsOneOf p x (update_taken w p x r).world target
  by_action Nothing = inl refl
  by_action Ignored = inl refl
  by_action (IgnoredAck number) = inl refl
  by_action (Take number) = taken_node (completes (w.gathering p.target) p) number
  by_action (DataAck number) = inl refl

  by_role : (origin : Bool) (r : RAction) → IsOneOf p x (if origin then says w IsIgnored else update_taken w p x r).world target
  by_role true r = inl refl
  by_role false r = by_action r

  by_state : (up : Bool) (k : ℕ) → p.message ≡ Update k x → IsOneOf p x (if up then heard w p p.message else says w IsIgnored).world target
  by_state true k is = subst (λ (t : Message). IsOneOf p x (heard w p t).world target) (sym is) (by_role (is_origin target.role) (received_step (plain_receiver target) (HearUpdate p.line k)).action)
  by_state false k is = inl refl

  pub node_behind : (number k : ℕ) → packet_at w.packets number ≡ Some p → p.message ≡ Update k x → IsOneOf p x (delivered w number (packet_at w.packets number)).world target
  node_behind number k at is =
      subst (λ (o : Option Packet). IsOneOf p x (delivered w number o).world target) (sym at)
      (gathered_node (is_taken (handed w p).said) p x target (handed w p) refl (by_state _ k is))

-- ---- nothing comes of it

pub halted_off : (h : Option ℕ) (disk : ℕ) → Some disk ≡ h → is_running h ≡ false
halted_off h disk is = sym (ap is_running is)

either_way : (a b : Bool) (o z : Outcome) → ((a ≡ false) ⊎ (b ≡ false)) ⊎ (o ≡ z) → (if a && b then o else z) ≡ z
either_way true true o z (inl (inl off)) = absurd (cc)
either_way true true o z (inl (inr off)) = absurd (cc)
either_way true true o z (inr same) = same
either_way true false o z why = refl
either_way false b o z why = refl

module _ (w : World) (number : ℕ) (p : Packet) (k : ℕ) (x : Write) (at : packet_at w.packets number ≡ Some p) (message : p.message ≡ Update k x) where
  abbrev there : Node
  there = w.nodes p.target

  abbrev behind : Outcome
  behind = delivered w number (packet_at w.packets number)

  unheard : is_origin there.role ≡ true → heard w p p.message ≡ says w IsIgnored
  unheard origin =
      ap (heard w p) message
      ∙ ap (λ (b : Bool). if b then says w IsIgnored else update_taken w p x (received_step (plain_receiver there) (HearUpdate p.line k)).action) origin

  -- it is not up, or is halted, or is an origin
  pub ignored_is : ((is_up there.state ≡ false) ⊎ (is_running there.halted ≡ false)) ⊎ (is_origin there.role ≡ true) → behind ≡ says w IsIgnored
  ignored_is why =
      ap (delivered w number) at
      ∙ ap (gathers p) (either_way (is_up there.state) (is_running there.halted) (heard w p p.message) (says w IsIgnored) (⊎_elim (λ off. inl off) (λ origin. inr (unheard origin)) why))

  module _ {R : Type 0} {g : Ghosts R} (beside : KeptBeside) where
    pub ignored_to : (e : DiskSet R g) (fed : ℕ) (a : Assembled) (f : Flying) → ((is_up there.state ≡ false) ⊎ (is_running there.halted ≡ false)) ⊎ (is_origin there.role ≡ true)
        → SiteStands beside there e → fed ≡ there.fed_by → AssemblyStands w.packets p.target (w.gathering p.target) a → FlightStands w.packets f → DeliveredTo behind beside p.target e fed a f IsIgnored
    ignored_to e fed a f why stands fed_by assembly flight =
        subst (λ (o : Outcome). DeliveredTo o beside p.target e fed a f IsIgnored) (sym (ignored_is why))
        (record { says = refl; stands = stands; fed_by = fed_by; assembly = assembly; flight = flight })

    -- disks that receive nothing
    pub never_heard : (e : DiskSet R g) (fed : ℕ) (a : Assembled) (f : Flying) → ((s : Secondary R g) → e ≡ Receives s → ⊥) → RoleIs there e → IsRawSet e
        → SiteStands beside there e → fed ≡ there.fed_by → AssemblyStands w.packets p.target (w.gathering p.target) a → FlightStands w.packets f → DeliveredTo behind beside p.target e fed a f IsIgnored
    never_heard (Bare rack) fed a f other role raw stands = ignored_to (Bare rack) fed a f (inl (inl (ap (λ (n : Node). is_up n.state) stands.bare.is))) stands
    never_heard (Spoiled rack) fed a f other role raw stands = ignored_to (Spoiled rack) fed a f (inl (inl (ap (λ (n : Node). is_up n.state) stands.is))) stands
    never_heard (Up rvg) fed a f other role raw stands = ignored_to (Up rvg) fed a f (inr role) stands
    never_heard (Receives s) fed a f other role raw stands = absurd (other s refl)
    never_heard (Down rack) fed a f other role raw stands = ignored_to (Down rack) fed a f (inl (inl (ap is_up stands.state))) stands
    never_heard (OfGroup s) fed a f other role raw stands = ignored_to (OfGroup s) fed a f (⊎_elim (λ off. inl (inl off)) (λ origin. inr origin) (off_or_origin beside there s stands)) stands
    never_heard (Over s) fed a f other role raw stands = absurd raw
    never_heard Gone fed a f other role raw stands = absurd stands

    -- a receiver that is halted
    pub halted_to : (s : Secondary R g) (disk : ℕ) (fed : ℕ) (a : Assembled) (f : Flying) → Some disk ≡ s.rvg.core.halted → SiteStands beside there (Receives s) → fed ≡ there.fed_by → AssemblyStands w.packets p.target (w.gathering p.target) a
        → FlightStands w.packets f → DeliveredTo behind beside p.target (Receives s) fed a f IsIgnored
    halted_to s disk fed a f is stands = ignored_to (Receives s) fed a f (inl (inr (halted_off there.halted disk (is ∙ stands.1.halted)))) stands

    -- one that runs
    pub taken_to : (old new : Secondary R g) (fed : ℕ) (a : Assembled) (f : Flying) (said : Said) → new.rvg ≡ old.rvg → SiteStands beside there (Receives old) → there.halted ≡ None
        → StandsForOutcome behind p.target new.rvg.core new.waiting fed a f said → DeliveredTo behind beside p.target (Receives new) fed a f said
    taken_to old new fed a f said same r running stood = record {
      says = stood.says;
      stands = (⊎_elim raw_still raw_more (node_behind w p x number k at message), subst (λ (v : Rvg R g). IsReceiverAt beside (behind.world.nodes p.target) v.core new.waiting (g.meaning v.shelf)) (sym same) (⊎_elim still more (node_behind w p x number k at message)));
      fed_by = stood.receiver.fed_by;
      assembly = stood.assembly;
      flight = stood.flight;
    }
      where
        m : Meaning
        m = g.meaning old.rvg.shelf

        raw_still : behind.world.nodes p.target ≡ there → IsUngrouped beside (behind.world.nodes p.target)
        raw_still is = (ap (λ (n : Node). n.group) is ∙ r.0.0, r.0.1)

        raw_more : behind.world.nodes p.target ≡ with_write there p.source x → IsUngrouped beside (behind.world.nodes p.target)
        raw_more is = (ap (λ (n : Node). n.group) is ∙ r.0.0, r.0.1)

        still : behind.world.nodes p.target ≡ there → IsReceiverAt beside (behind.world.nodes p.target) old.rvg.core new.waiting m
        still is = subst (λ (n : Node). IsReceiverAt beside n old.rvg.core new.waiting m) (sym is)
            (same_receiver there old.rvg.core old.waiting m r.1 running new.waiting (subst (λ (n : Node). writes_of_updates new.waiting ≡ drop n.safe n.log) is stood.receiver.waits))

        more : behind.world.nodes p.target ≡ with_write there p.source x → IsReceiverAt beside (behind.world.nodes p.target) old.rvg.core new.waiting m
        more is = subst (λ (n : Node). IsReceiverAt beside n old.rvg.core new.waiting m) (sym is)
            (more_receiver there old.rvg.core old.waiting m r.1 running p.source x new.waiting (subst (λ (n : Node). writes_of_updates new.waiting ≡ drop n.safe n.log) is stood.receiver.waits))

-- ---- the disks

untouched : (d : Disks) → Untouched d d
untouched d = record { blocks = record { stable = λ u b. refl; latest = λ u b. refl; loose = λ u b. refl }; fuse = refl }

alone_self : (o : Option Disks) → OnDisks o o Untouched
alone_self None = tt
alone_self (Some d) = (untouched d, λ u. refl)

module _ {R : Type 0} {g : Ghosts R} where
  pub alone_same : (e : DiskSet R g) → LeavesAlone e e
  alone_same e = record { told = alone_self (disks_told e); sizes = λ u. refl }

  pub later_same : (e : DiskSet R g) → Later e e
  later_same e = record { counts = λ d. omega arith; told = λ t. t }

  pub alone_group : (old new : Secondary R g) → new.rvg ≡ old.rvg → LeavesAlone (Receives old) (Receives new)
  alone_group old new same = record {
    told = subst (λ (v : Rvg R g). OnDisks (g.meaning old.rvg.shelf).disks (g.meaning v.shelf).disks Untouched) (sym same) (alone_self (g.meaning old.rvg.shelf).disks);
    sizes = λ u. ap (λ (v : Rvg R g). (g.meaning v.shelf).size u) same;
  }

  pub later_group : (old new : Secondary R g) → new.rvg ≡ old.rvg → Later (Receives old) (Receives new)
  later_group old new same = record {
    counts = λ d. subst (λ (v : Rvg R g). (g.meaning old.rvg.shelf).disk_faults d ≤ (g.meaning v.shelf).disk_faults d) (sym same) (omega arith);
    told = λ t. subst (λ (v : Rvg R g). IsTrue (g.meaning v.shelf).tells) same t;
  }

  pub same_stands : (old new : Secondary R g) (beside : KeptBeside) (n : Node) → new.rvg ≡ old.rvg → new.waiting ≡ old.waiting → SiteStands beside n (Receives old) → SiteStands beside n (Receives new)
  same_stands old new beside n same waiting r = (
    r.0,
    subst (λ (us : List Logged). IsReceiverAt beside n new.rvg.core us (g.meaning new.rvg.shelf)) (sym waiting)
        (subst (λ (v : Rvg R g). IsReceiverAt beside n v.core old.waiting (g.meaning v.shelf)) (sym same) r.1),
  )

-- ---- by what was answered

pub ok_map : {P Q : Said → Type 0} (r : Result Said OutOfMemory) → IfOk r P → ((s : Said) → P s → Q s) → IfOk r Q
ok_map (Ok s) is f = f s is
ok_map (Err e) is f = tt

pub err_map : {P Q : Type 0} (r : Result Said OutOfMemory) → OnErr r P → (P → Q) → OnErr r Q
err_map (Ok s) is f = tt
err_map (Err e) is f = f is
