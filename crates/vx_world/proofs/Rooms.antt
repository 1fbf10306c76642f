-- No event changes the log and the data volumes of a site that has some.
use Rattle.std.proofs.Common.{◌≡◌, ◌∙◌, ℕ, ◌+◌, ◌-◌, List, [], ◌∷◌, ◌++◌, refl, ap, sym, subst, arith, Bool, true, false}
use Rattle.std.proofs.lemmas.Bool.{not-false}
use Rattle.std.specs.Prelude.{leb, not, eqb, ltb, ◌&&◌, ◌||◌, if◌then◌else◌, Option, Some, None, bytes_eq}
use Rattle.vx_model.specs.Answer.{is_too_large}
use Rattle.vx_model.specs.Content.{Content, Write, blocks_in}
use Rattle.vx_model.specs.Sites.{is_bare, is_origin, is_up}
use Rattle.vx_model.specs.Sizes.{is_raw_shape, ring_of}
use Rattle.vx_model.specs.declared.limits.TheConstants.{MOST_DISKS, MOST_LINKS, MOST_SITES}
use Rattle.vx_model.specs.declared.link.Prot.{Prot}
use Rattle.vx_model.specs.declared.link.SyncMode.{SyncMode}
use Rattle.vx_model.specs.declared.no.Counted.TheVariants.{Sites, Disks, Links}
use Rattle.vx_model.specs.declared.no.Named.TheVariants.{Number as ByNumber}
use Rattle.vx_model.specs.declared.no.No.TheVariants.{Down as NotUp, Exists, Limit, Role as WrongRole, Size, Unconfirmed, Unknown}
use Rattle.vx_model.specs.declared.site.Mark.TheVariants.{Consistent}
use Rattle.vx_model.specs.declared.site.SiteState.{SiteState}
use Rattle.vx_model.specs.declared.site.SiteState.TheVariants.{Bare, Up, Deported, Down}
use Rattle.vx_history.proofs.GroupLemmas.{group_facts}
use Rattle.vx_history.proofs.StateCases.{bare_is}
use Rattle.vx_history.proofs.Updates.{by_test, eqb_equal}
use Rattle.vx_history.specs.Admission.{Admitted, Goes, Held_by}
use Rattle.vx_history.specs.Events
use Rattle.vx_history.specs.Gatherings.{completes, emptied}
use Rattle.vx_history.specs.Good.{IsMade}
use Rattle.vx_history.specs.LinkForms.{plain_receiver}
use Rattle.vx_history.specs.Receiving.{Received, received_step}
use Rattle.vx_history.specs.Refusals.{Outcome, count_links_of, follows, holds_back, is_primary, is_running, is_unconfirmed, keeps_links, may_link, on_link, on_link_if, rings_fit, says, sizes_meet, some_below, unless, at_work, when_live}
use Rattle.vx_history.specs.Sends.{is_linked, promising, sending, with_link, with_links}
use Rattle.vx_history.specs.Sound.{Sound}
use Rattle.vx_history.specs.Step.{done, link_part, outcome_of, step}
use Rattle.vx_history.specs.Steps.{begun_site, burned, crash_left, crashed, deported_site, fallen_site, group_back, group_up, logged, raw_content, raw_made, raw_volumes, site_made, stopped_by}
use Rattle.vx_history.specs.Volumes.{volumes_made, volumes_set}
use Rattle.vx_history.specs.World.{DataAck, Hello, Link as LinkRecord, Message, NetAck, Node, Packet, Update, Volume, World, bare_site, no_volumes, updated, with_node}
use Rattle.vx_history.specs.declared.event.Event.{Event}
use Rattle.vx_history.specs.declared.event.Event.TheVariants.{Site, Raw, Group, Volumes, Write as WriteAt, Read, Apply, Pump, Tick, Deliver, Connect, Cut, Pause, Resume, Wait, Link, Set, Attach, Detach, Crash, Deport, Fall, Recover, Fault}
use Rattle.vx_history.specs.declared.event.LinkPart.{LinkPart}
use Rattle.vx_history.specs.declared.event.LinkPart.TheVariants.{Joins, Made, Marked, Opened}
use Rattle.vx_history.specs.declared.event.Said.TheVariants.{Done, DoneAt, Ignored as IsIgnored, Pending}
use Rattle.vx_history.specs.declared.receiver.RAction.{RAction}
use Rattle.vx_history.specs.declared.receiver.RAction.TheVariants.{Nothing as DoesNothing, Ignored as Ignores, IgnoredAck, Take, DataAck as AcksFromDisk}
use Rattle.vx_history.specs.declared.receiver.REvent.TheVariants.{Applied, Update as HearUpdate}
use Rattle.vx_history.specs.declared.receiver.RState.{RState}
use Rattle.vx_history.specs.declared.sender.SEvent.{SEvent}
use Rattle.vx_history.specs.declared.sender.SEvent.TheVariants.{Connect as ConnectLink, Cut as CutLink, DataAck as HearDataAck, Hello as HearHello, NetAck as HearNetAck, Pause as PauseLink, Pump as PumpLink, Resume as ResumeLink}
use Rattle.vx_world.proofs.Guards
use Rattle.vx_world.proofs.Nodes
use Rattle.vx_world.specs.Lines.{SameRoom}

-- ---- what an event leaves of a site

-- its log, its data volumes, and what it notes of its group of disks
pub record Unmoved (n m : Node) : Type 0 where
  pub ring : m.ring ≡ n.ring
  pub volumes : m.volumes ≡ n.volumes
  pub group : m.group ≡ n.group

pub room_of : (n m : Node) → Unmoved n m → SameRoom n m
room_of n m x = record { ring = x.ring; volumes = x.volumes }

pub unmoved_self : (n : Node) → Unmoved n n
unmoved_self n = record { ring = refl; volumes = refl; group = refl }

pub unmoved_then : (a b c : Node) → Unmoved a b → Unmoved b c → Unmoved a c
unmoved_then a b c f g = record { ring = g.ring ∙ f.ring; volumes = g.volumes ∙ f.volumes; group = g.group ∙ f.group }

-- ---- sites of the same log and data volumes

pub room_self : (n : Node) → SameRoom n n
room_self n = record { ring = refl; volumes = refl }

pub room_then : (a b c : Node) → SameRoom a b → SameRoom b c → SameRoom a c
room_then a b c f g = record { ring = g.ring ∙ f.ring; volumes = g.volumes ∙ f.volumes }

pub room_back : (a b : Node) → SameRoom a b → SameRoom b a
room_back a b f = record { ring = sym f.ring; volumes = sym f.volumes }

-- a site i of a world of which site q is another one
pub room_at : (w : World) (i q : ℕ) (n : Node) → (i ≡ q → SameRoom (w.nodes q) n) → SameRoom (w.nodes i) (updated w.nodes q n i)
room_at w i q n here =
    by_test (λ (m : Node). SameRoom (w.nodes i) m) (eqb i q) n (w.nodes i)
    (λ e. subst (λ (k : ℕ). SameRoom (w.nodes k) n) (sym (eqb_equal i q e)) (here (eqb_equal i q e))) (λ _. room_self (w.nodes i))

-- ---- events

-- a site i of a world of which site q is another one
pub unmoved_at : (w : World) (i q : ℕ) (n : Node) → (i ≡ q → Unmoved (w.nodes q) n) → Unmoved (w.nodes i) (updated w.nodes q n i)
unmoved_at w i q n here =
    by_test (λ (m : Node). Unmoved (w.nodes i) m) (eqb i q) n (w.nodes i)
    (λ e. subst (λ (k : ℕ). Unmoved (w.nodes k) n) (sym (eqb_equal i q e)) (here (eqb_equal i q e))) (λ _. unmoved_self (w.nodes i))

-- a site that comes back has them
back_room : (n : Node) → Unmoved n (Events.come_back n)
back_room n = Nodes.back_by (λ (m : Node). Unmoved n m) n (λ mark _ _ _ _. record { ring = refl; volumes = refl; group = refl })

-- A site without data volumes gets some by one event alone, and not where a disk halted it.
abbrev pub GivesNone : Event → Node → Type 0
GivesNone (Volumes p log xs) n = n.volumes ≡ [] → is_running n.halted ≡ false
GivesNone other n = Unit {0}

-- the event makes no site, and nothing of one
abbrev pub MakesNothing : Event → Type 0
MakesNothing (Site name disks blocks) = ⊥
MakesNothing (Raw q) = ⊥
MakesNothing (Group q) = ⊥
MakesNothing (Volumes q log xs) = ⊥
MakesNothing other = Unit {0}

module _ (w : World) (i : ℕ) where
  abbrev Stays : World → Type 0
  Stays v = Unmoved (w.nodes i) (v.nodes i)

  abbrev Leaves : Outcome → Type 0
  Leaves o = Unmoved (w.nodes i) (o.world.nodes i)

  still : Unmoved (w.nodes i) (w.nodes i)
  still = unmoved_self (w.nodes i)

  -- site q is another node with the same
  moved : (q : ℕ) (n : Node) → Unmoved (w.nodes q) n → Unmoved (w.nodes i) (updated w.nodes q n i)
  moved q n same = unmoved_at w i q n (λ _. same)

  put_room : (p : ℕ) (x : Write) (fails : Option ℕ) → Leaves (Events.put_in (Events.links_changed w p x) p x fails)
  put_room p x None = moved p (logged (w.nodes p) x) (record { ring = refl; volumes = refl; group = refl })
  put_room p x (Some disk) =
      moved p (record (w.nodes p) { log = (w.nodes p).log ++ x ∷ []; halted = Some disk; fuse = burned (w.nodes p).fuse }) (record { ring = refl; volumes = refl; group = refl })

  written_room : (admitted : Admitted) (p : ℕ) (x : Write) (fails : Option ℕ) → Leaves (Events.written_if admitted w p x fails)
  written_room (Held_by why) p x fails = still
  written_room (Goes changes) p x fails =
      Guards.unless_holds Stays _ _ w (Events.put_in (Events.links_changed w p x) p x fails) still (λ _. put_room p x fails)

  applied_room : (q : ℕ) (r : RState) (action : RAction) → Leaves (Events.applied_by w q r action)
  applied_room q r DoesNothing = still
  applied_room q r Ignores = still
  applied_room q r (IgnoredAck number) = still
  applied_room q r (Take number) = still
  applied_room q r (AcksFromDisk number) = moved q (Events.applied (w.nodes q) number r.mark) (record { ring = refl; volumes = refl; group = refl })

  link_heard_room : (p : Packet) (e : SEvent) → Leaves (Events.link_heard w p e)
  link_heard_room p e =
      by_test Leaves (keeps_links (w.nodes p.target).role && is_linked (w.links p.target p.source)) _ (says w IsIgnored) (λ _. still) (λ _. still)

  taken_room : (whole : Bool) (p : Packet) (x : Write) (number : ℕ) → Leaves (Events.taken_if whole w p x number)
  taken_room true p x number = moved p.target (Events.with_write (w.nodes p.target) p.source x) (record { ring = refl; volumes = refl; group = refl })
  taken_room false p x number = still

  update_room : (p : Packet) (x : Write) (action : RAction) → Leaves (Events.update_taken w p x action)
  update_room p x DoesNothing = still
  update_room p x Ignores = still
  update_room p x (IgnoredAck number) = still
  update_room p x (Take number) = taken_room (completes (w.gathering p.target) p) p x number
  update_room p x (AcksFromDisk number) = still

  heard_room : (p : Packet) (m : Message) → Leaves (Events.heard w p m)
  heard_room p (Hello session number stored) = link_heard_room p (HearHello session number stored)
  heard_room p (Update number x) =
      by_test Leaves (is_origin (w.nodes p.target).role) (says w IsIgnored) _ (λ _. still)
      (λ _. update_room p x (received_step (plain_receiver (w.nodes p.target)) (HearUpdate p.line number)).action)
  heard_room p (NetAck session number) = link_heard_room p (HearNetAck session number)
  heard_room p (DataAck number) = link_heard_room p (HearDataAck number)

  gathered_room : (b : Bool) (p : Packet) (v : World) → Stays v → Stays (Events.gathered_if b v p)
  gathered_room true p v same = same
  gathered_room false p v same = same

  delivered_room : (number : ℕ) (p : Option Packet) → Leaves (Events.delivered w number p)
  delivered_room number None = still
  delivered_room number (Some p) =
      gathered_room (Events.is_taken (Events.handed w p).said) p (Events.handed w p).world
      (by_test Leaves (is_up (w.nodes p.target).state && is_running (w.nodes p.target).halted) _ (says w IsIgnored) (λ _. heard_room p p.message) (λ _. still))

  pub crash_room : (q k : ℕ) → Stays (Events.crash_at w q k)
  crash_room q k =
      let row : ℕ → LinkRecord = λ to. Events.link_left (w.nodes q) k (w.links q to) in
      by_test (λ (v : World). Stays (emptied (with_links v q row) q)) (is_origin (w.nodes q).role) (crash_left w q k) (with_node w q (crashed (w.nodes q) k))
      (λ _. moved q (crashed (w.nodes q) k) (record { ring = refl; volumes = refl; group = refl }))
      (λ _. moved q (crashed (w.nodes q) k) (record { ring = refl; volumes = refl; group = refl }))

  deport_room : (q : ℕ) → Stays (Events.deport_at w q)
  deport_room q =
      let v : World = Events.crash_at w q (Events.kept_of (w.nodes q) 0) in
      let n : Node = deported_site (w.nodes q).fuse (v.nodes q) in
      unmoved_then (w.nodes i) (v.nodes i) (updated v.nodes q n i) (crash_room q (Events.kept_of (w.nodes q) 0))
      (unmoved_at v i q n (λ _. record { ring = refl; volumes = refl; group = refl }))

  recovery_room : (q : ℕ) (fails : Option ℕ) → Leaves (Events.recovery w q fails)
  recovery_room q None = moved q (Events.come_back (w.nodes q)) (back_room (w.nodes q))
  recovery_room q (Some disk) = moved q (record (w.nodes q) { session = (w.nodes q).session + 1 }) (record { ring = refl; volumes = refl; group = refl })

  recover_room : (state : SiteState) (q : ℕ) (fails : Option ℕ) → Leaves (Events.recover_from state w q fails)
  recover_room Bare q fails = still
  recover_room Up q fails = still
  recover_room Deported q fails = Guards.unless_holds Stays _ _ w (Events.recovery w q fails) still (λ _. recovery_room q fails)
  recover_room Down q fails = Guards.unless_holds Stays _ _ w (Events.recovery w q fails) still (λ _. recovery_room q fails)

  fall_room : (state : SiteState) (q : ℕ) → Leaves (Events.fall_from state w q)
  fall_room Bare q = still
  fall_room Up q = still
  fall_room Deported q = moved q (fallen_site (w.nodes q)) (record { ring = refl; volumes = refl; group = refl })
  fall_room Down q = still

  part_room : (part : LinkPart) (p q : ℕ) (sync : SyncMode) (prot : Prot) → Leaves (link_part part w p q sync prot)
  part_room Joins p q sync prot =
      let n : Node = Events.joined (w.nodes p) p (w.nodes q) in
      let o : Outcome = done (emptied (with_node w q n) q) in
      let fits : Outcome = unless (not (sizes_meet (w.nodes p).volumes (w.nodes q).volumes && rings_fit (w.nodes p) (w.nodes q))) Size w o in
      let few : Outcome = unless (leb MOST_LINKS (count_links_of w p)) (Limit Links MOST_LINKS) w fits in
      Guards.unless_holds Stays (not (may_link w p q)) WrongRole w (unless (is_linked (w.links p q)) (Exists (w.nodes q).name) w few) still
      (λ _. Guards.unless_holds Stays (is_linked (w.links p q)) (Exists (w.nodes q).name) w few still
      (λ _. Guards.unless_holds Stays (leb MOST_LINKS (count_links_of w p)) (Limit Links MOST_LINKS) w fits still
      (λ _. Guards.unless_holds Stays (not (sizes_meet (w.nodes p).volumes (w.nodes q).volumes && rings_fit (w.nodes p) (w.nodes q))) Size w o still
      (λ _. moved q n (record { ring = refl; volumes = refl; group = refl })))))
  part_room Made p q sync prot =
      let l : LinkRecord = Events.new_link (count_links_of w p) sync prot (w.nodes q) in
      Guards.unless_holds Stays (not (is_primary (w.nodes p).role && follows w p q)) WrongRole w
      (unless (is_linked (w.links p q)) (Exists (w.nodes q).name) w (done (with_link w p q l))) still
      (λ _. Guards.unless_holds Stays (is_linked (w.links p q)) (Exists (w.nodes q).name) w (done (with_link w p q l)) still (λ _. still))
  part_room Marked p q sync prot =
      let n : Node = record (w.nodes q) { mark = Consistent } in
      Guards.unless_holds Stays _ WrongRole w (done (with_node w q n)) still (λ _. moved q n (record { ring = refl; volumes = refl; group = refl }))
  part_room Opened p q sync prot =
      Guards.unless_holds Stays _ WrongRole w (done (with_link w p q (Events.opened (w.links p q) (w.nodes p).safe))) still (λ _. still)

  on_link_room : (p q : ℕ) (e : SEvent) → Leaves (on_link w p q (done (Events.link_event w p q e)))
  on_link_room p q e = Guards.on_link_holds Stays keeps_links w p q (done (Events.link_event w p q e)) still (λ _ _ _. still)

  -- a link of an origin is set, attached or detached
  set_room : (p q : ℕ) (l : LinkRecord) → Leaves (on_link_if is_origin w p q (done (with_link w p q l)))
  set_room p q l = Guards.on_link_holds Stays is_origin w p q (done (with_link w p q l)) still (λ _ _ _. still)

  -- ---- events that make nothing

  calm_outcome : (e : Event) → MakesNothing e → Leaves (outcome_of w e)
  calm_outcome (Site name disks blocks) calm = absurd calm
  calm_outcome (Raw q) calm = absurd calm
  calm_outcome (Group q) calm = absurd calm
  calm_outcome (Volumes q log xs) calm = absurd calm
  calm_outcome (WriteAt p volume start bytes fails) calm =
      let x : Write = record { volume = volume; start = start; bytes = bytes } in
      Guards.on_volume_holds Stays w p volume start (blocks_in bytes) (is_too_large (w.nodes p).ring (blocks_in bytes))
      (Events.written_if (Events.admitted w p x) w p x fails) still (λ _ _ _. written_room (Events.admitted w p x) p x fails)
  calm_outcome (Read p volume start count) calm = Guards.on_volume_holds Stays w p volume start count false _ still (λ _ _ _. still)
  calm_outcome (Apply q count reached) calm =
      let o : Outcome = if is_origin (w.nodes q).role then Events.reached_at w q count reached else Events.apply_at w q count in
      let r : Received = received_step (plain_receiver (w.nodes q)) (Applied count) in
      Guards.at_site_holds Stays w q (at_work w q o) still
      (λ _. Guards.at_work_holds Stays w q o still
      (λ _ _. by_test Leaves (is_origin (w.nodes q).role) (Events.reached_at w q count reached) (Events.apply_at w q count) (λ _. still)
      (λ _. applied_room q r.state r.action)))
  calm_outcome (Pump p q) calm =
      let o : Outcome = done (Events.link_event w p q PumpLink) in
      Guards.on_link_holds Stays keeps_links w p q (when_live w q (w.links p q) o) still (λ _ _ _. Guards.when_live_holds Stays w q (w.links p q) o still still)
  calm_outcome (Tick p q) calm = Guards.on_link_holds Stays keeps_links w p q (done (Events.ticked_at w p q)) still (λ _ _ _. still)
  calm_outcome (Deliver number) calm = delivered_room number (Events.packet_at w.packets number)
  calm_outcome (Connect p q) calm =
      let v : World = Events.link_event w p q ConnectLink in
      Guards.on_link_holds Stays keeps_links w p q (done (sending v (Events.greeting_back w p q))) still (λ _ _ _. still)
  calm_outcome (Cut p q) calm = on_link_room p q CutLink
  calm_outcome (Pause p q) calm = on_link_room p q PauseLink
  calm_outcome (Resume p q) calm = on_link_room p q ResumeLink
  calm_outcome (Wait p number) calm =
      let unconfirmed : Bool = some_below w.sites (λ k. is_unconfirmed number k (w.links p k)) in
      let held : Bool = some_below w.sites (λ k. holds_back number k (w.links p k)) in
      let promised : Outcome = says (promising w (Events.promises_of (w.nodes p) number (w.links p) w.sites)) (DoneAt number) in
      let answered : Outcome = if held then says w (Pending number) else promised in
      let known : Outcome = unless unconfirmed (Unconfirmed number) w answered in
      let o : Outcome = unless (not (is_origin (w.nodes p).role)) WrongRole w (unless (eqb number 0 || ltb (w.nodes p).safe number) (Unknown (ByNumber number)) w known) in
      Guards.at_site_holds Stays w p (at_work w p o) still
      (λ _. Guards.at_work_holds Stays w p o still
      (λ _ _. Guards.unless_holds Stays (not (is_origin (w.nodes p).role)) WrongRole w
      (unless (eqb number 0 || ltb (w.nodes p).safe number) (Unknown (ByNumber number)) w known) still
      (λ _. Guards.unless_holds Stays (eqb number 0 || ltb (w.nodes p).safe number) (Unknown (ByNumber number)) w known still
      (λ _. Guards.unless_holds Stays unconfirmed (Unconfirmed number) w answered still
      (λ _. by_test Leaves held (says w (Pending number)) promised (λ _. still) (λ _. still))))))
  calm_outcome (Link p q sync prot part) calm =
      Guards.at_site_holds Stays w p _ still
      (λ _. Guards.at_site_holds Stays w q _ still
      (λ _. Guards.both_holds Stays w p q (link_part part w p q sync prot) still (λ _ _ _ _. part_room part p q sync prot)))
  calm_outcome (Set p q sync prot) calm = set_room p q (Events.link_with sync prot (w.links p q))
  calm_outcome (Attach p q) calm = set_room p q (Events.link_attached (w.links p q))
  calm_outcome (Detach p q) calm = set_room p q (Events.link_detached (w.links p q))
  calm_outcome (Crash q kept) calm =
      let o : Outcome = done (Events.crash_at w q (Events.kept_of (w.nodes q) kept)) in
      Guards.at_site_holds Stays w q (unless (not (is_up (w.nodes q).state)) NotUp w o) still
      (λ _. Guards.unless_holds Stays (not (is_up (w.nodes q).state)) NotUp w o still (λ _. crash_room q (Events.kept_of (w.nodes q) kept)))
  calm_outcome (Deport q) calm =
      let o : Outcome = done (Events.deport_at w q) in
      Guards.at_site_holds Stays w q (at_work w q o) still (λ _. Guards.at_work_holds Stays w q o still (λ _ _. deport_room q))
  calm_outcome (Fall q) calm = Guards.at_site_holds Stays w q _ still (λ _. fall_room (w.nodes q).state q)
  calm_outcome (Recover q fails) calm = Guards.at_site_holds Stays w q _ still (λ _. recover_room (w.nodes q).state q fails)
  calm_outcome (Fault q disk) calm =
      let n : Node = record (w.nodes q) { halted = Some disk; fuse = burned (w.nodes q).fuse } in
      Guards.at_site_holds Stays w q _ still
      (λ _. Guards.unless_holds Stays (not (is_up (w.nodes q).state)) NotUp w (says (stopped_by w q disk) _) still
      (λ _. moved q n (record { ring = refl; volumes = refl; group = refl })))

  pub calm_step : (e : Event) → MakesNothing e → Unmoved (w.nodes i) ((step w e).world.nodes i)
  calm_step e calm = calm_outcome e calm

  pub calm_room : (e : Event) → MakesNothing e → SameRoom (w.nodes i) ((step w e).world.nodes i)
  calm_room e calm = room_of (w.nodes i) ((step w e).world.nodes i) (calm_outcome e calm)

  -- ---- a site that is more than bare

  module _ (s : Sound w) (made : IsMade (w.nodes i)) where
    not_bare : (q : ℕ) (n : Node) → (w.nodes q).state ≡ Bare → i ≡ q → Unmoved (w.nodes q) n
    not_bare q n bare e = absurd (made (subst (λ (k : ℕ). (w.nodes k).state ≡ Bare) (sym e) bare))

    site_room : (name : List ℕ) (disks blocks : ℕ) → Stays (site_made w name disks blocks)
    site_room name disks blocks = unmoved_at w i w.sites (bare_site name disks blocks) (not_bare w.sites (bare_site name disks blocks) (s.good.later w.sites (omega arith)))

    begun_room : (q ring : ℕ) (volumes : List Volume) (content : Content) → (w.nodes q).state ≡ Bare
        → Unmoved (w.nodes i) (updated w.nodes q (begun_site q ring volumes content (w.nodes q)) i)
    begun_room q ring volumes content bare =
        unmoved_at w i q (begun_site q ring volumes content (w.nodes q)) (not_bare q (begun_site q ring volumes content (w.nodes q)) bare)

    again_room : (q : ℕ) → Leaves (Events.group_again w q)
    again_room q =
        Guards.unless_holds Stays (not (Events.is_plain_group (w.nodes q))) WrongRole w (says (group_back w q) Done) still
        (λ _. moved q (group_up (w.nodes q)) (record { ring = refl; volumes = refl; group = refl }))

    group_room : (q : ℕ) (state : SiteState) → (w.nodes q).state ≡ state → Leaves (Events.group_from state w q)
    group_room q Bare e = begun_room q 0 [] no_volumes e
    group_room q Up e = still
    group_room q Deported e = again_room q
    group_room q Down e = again_room q

    -- a site that gets data volumes runs, and has none
    volumes_room : (q : ℕ) (n : Node) → ((w.nodes i).volumes ≡ [] → is_running (w.nodes i).halted ≡ false) → (w.nodes q).halted ≡ None
        → Events.is_plain_group (w.nodes q) ≡ true → i ≡ q → Unmoved (w.nodes q) n
    volumes_room q n gives runs plain e =
        let none : (w.nodes i).volumes ≡ [] = subst (λ (k : ℕ). (w.nodes k).volumes ≡ []) (sym e) (group_facts (w.nodes q) plain).1 in
        let running : is_running (w.nodes i).halted ≡ true = ap is_running (subst (λ (k : ℕ). (w.nodes k).halted ≡ None) (sym e) runs) in
        absurd (let f : true ≡ false = sym running ∙ gives none in cc)

    outcome_room : (e : Event) → GivesNone e (w.nodes i) → Leaves (outcome_of w e)
    outcome_room (Site name disks blocks) gives =
        let o : Outcome = done (site_made w name disks blocks) in
        let few : Outcome = unless (eqb disks 0 || ltb blocks 8) Size w o in
        let some : Outcome = unless (ltb MOST_DISKS disks) (Limit Disks MOST_DISKS) w few in
        Guards.unless_holds Stays (some_below w.sites (λ k. bytes_eq (w.nodes k).name name)) (Exists name) w
        (unless (leb MOST_SITES w.sites) (Limit Sites MOST_SITES) w some) still
        (λ _. Guards.unless_holds Stays (leb MOST_SITES w.sites) (Limit Sites MOST_SITES) w some still
        (λ _. Guards.unless_holds Stays (ltb MOST_DISKS disks) (Limit Disks MOST_DISKS) w few still
        (λ _. Guards.unless_holds Stays (eqb disks 0 || ltb blocks 8) Size w o still (λ _. site_room name disks blocks))))
    outcome_room (Raw q) gives =
        let n : Node = w.nodes q in
        let o : Outcome = done (raw_made w q) in
        let shaped : Outcome = unless (not (is_raw_shape n.disks n.blocks)) Size w o in
        Guards.at_site_holds Stays w q (unless (not (is_bare n.state)) WrongRole w shaped) still
        (λ _. Guards.unless_holds Stays (not (is_bare n.state)) WrongRole w shaped still
        (λ bare. Guards.unless_holds Stays (not (is_raw_shape n.disks n.blocks)) Size w o still
        (λ _. begun_room q (ring_of n.blocks) (raw_volumes 1 (n.disks - 2) n.blocks) (raw_content n.disks n.blocks)
        (bare_is n.state (not-false (is_bare n.state) bare)))))
    outcome_room (Group q) gives = Guards.at_site_holds Stays w q _ still (λ _. group_room q (w.nodes q).state refl)
    outcome_room (Volumes q log xs) gives =
        let n : Node = w.nodes q in
        let o : Outcome = done (volumes_made w q log xs) in
        let tested : Outcome = unless (not (Events.is_plain_group n)) WrongRole w o in
        Guards.at_site_holds Stays w q (at_work w q tested) still
        (λ _. Guards.at_work_holds Stays w q tested still
        (λ _ runs. Guards.unless_holds Stays (not (Events.is_plain_group n)) WrongRole w o still
        (λ plain. unmoved_at w i q (volumes_set log xs n)
        (volumes_room q (volumes_set log xs n) gives runs (not-false (Events.is_plain_group n) plain)))))
    outcome_room other gives = calm_outcome other tt

    pub step_room : (e : Event) → GivesNone e (w.nodes i) → Unmoved (w.nodes i) ((step w e).world.nodes i)
    step_room e gives = outcome_room e gives
