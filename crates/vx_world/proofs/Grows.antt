-- Every event leaves what lines hold, what was answered, sent and promised.
use Rattle.std.proofs.Common.{◌≡◌, ℕ, ◌+◌, ◌-◌, ◌≤◌, List, [], ◌∷◌, ◌++◌, take, refl, ap, sym, ◌∙◌, subst, arith, append_assoc, Bool, true, false}
use Rattle.std.proofs.lemmas.Bool.{not-false}
use Rattle.std.specs.Prelude.{leb, not, if◌then◌else◌, Option, Some, None, eqb, ltb, ◌&&◌, ◌||◌, bytes_eq}
use Rattle.std.proofs.lemmas.List.{append-nil, take-take}
use Rattle.vx_model.specs.Content.{Write, Content, IsPrefixOf, blocks_in}
use Rattle.vx_model.specs.Answer.{is_too_large}
use Rattle.vx_history.specs.Admission.{Admitted, Held_by, Goes}
use Rattle.vx_history.specs.Receiving.{Received, received_step}
use Rattle.vx_history.specs.LinkForms.{plain_receiver, with_plain}
use Rattle.vx_history.specs.World.{World, Node, Volume, Link as LinkRecord, History, Gathering, Packet, Promise, Message, Hello, Update, NetAck, DataAck, with_node, with_history, bare_site, no_volumes}
use Rattle.vx_model.specs.Sites.{is_origin}
use Rattle.vx_history.specs.Steps.{burned, logged, told_of, written, half_written, crashed, crash_left, deported_site, fallen_site, site_made, begun_site, begun_line, line_begun, raw_made, raw_volumes, raw_content, group_back, group_up, stopped_by}
use Rattle.vx_history.specs.Good.{IsMade}
use Rattle.vx_model.specs.declared.history.Line.{Line}
use Rattle.vx_model.specs.declared.link.Prot.{Prot}
use Rattle.vx_model.specs.declared.link.SyncMode.{SyncMode}
use Rattle.vx_model.specs.declared.site.Mark.TheVariants.{Consistent}
use Rattle.vx_model.specs.declared.site.SiteState.{SiteState}
use Rattle.vx_model.specs.declared.site.SiteState.TheVariants.{Bare, Up, Deported, Down}
use Rattle.vx_history.specs.declared.sender.SEvent.{SEvent}
use Rattle.vx_history.specs.declared.sender.SEvent.TheVariants.{Connect as ConnectLink, Pump as PumpLink, Cut as CutLink, Pause as PauseLink, Resume as ResumeLink, Hello as HearHello, NetAck as HearNetAck, DataAck as HearDataAck}
use Rattle.vx_history.specs.declared.receiver.REvent.TheVariants.{Update as HearUpdate, Applied}
use Rattle.vx_history.specs.declared.receiver.RState.{RState}
use Rattle.vx_history.specs.declared.receiver.RAction.{RAction}
use Rattle.vx_history.specs.declared.receiver.RAction.TheVariants.{Nothing as DoesNothing, Ignored as Ignores, IgnoredAck, Take, DataAck as AcksFromDisk}
use Rattle.vx_model.specs.declared.no.No.TheVariants.{Size, Role as WrongRole, Down as NotUp, Exists, Limit, Unknown, Unconfirmed}
use Rattle.vx_model.specs.declared.no.Named.TheVariants.{Number as ByNumber}
use Rattle.vx_model.specs.declared.no.Counted.TheVariants.{Sites, Disks, Links}
use Rattle.vx_history.proofs.Updates.{all_updated, all_lines, by_test}
use Rattle.vx_history.proofs.GoodLemmas.{up_is_made}
use Rattle.vx_history.proofs.StateCases.{bare_is, up_is}
use Rattle.vx_history.specs.declared.event.LinkPart.{LinkPart}
use Rattle.vx_history.specs.declared.event.LinkPart.TheVariants.{Joins, Made, Marked, Opened}
use Rattle.vx_history.specs.declared.event.Event.{Event}
use Rattle.vx_history.specs.declared.event.Event.TheVariants.{Site, Raw, Group, Volumes, Write as WriteAt, Read, Apply, Pump, Tick, Deliver, Connect, Cut, Pause, Resume, Wait, Link, Set, Attach, Detach, Crash, Deport, Fall, Recover, Fault}
use Rattle.vx_history.specs.declared.event.Said.TheVariants.{Done, Ignored as IsIgnored, Pending, DoneAt}
use Rattle.vx_history.specs.Refusals.{Outcome, says, unless, at_work, on_link, on_link_if, keeps_links, is_primary, is_running, follows, some_below, is_unconfirmed, holds_back, may_link, sizes_meet, rings_fit, count_links_of}
use Rattle.vx_model.specs.Sites.{is_up, is_bare}
use Rattle.vx_model.specs.Sizes.{is_raw_shape, ring_of}
use Rattle.vx_history.specs.Events
use Rattle.vx_history.specs.Gatherings.{completes, emptied}
use Rattle.vx_history.specs.Volumes.{data_content, starting_with, volumes_made, volumes_set}
use Rattle.vx_history.specs.Step.{done, outcome_of, step, run, link_part}
use Rattle.vx_history.specs.Sends.{is_linked, with_link, with_links, sending, promising, sent_by}
use Rattle.vx_model.specs.declared.limits.TheConstants.{MOST_DISKS, MOST_LINKS, MOST_SITES}
use Rattle.vx_history.specs.Sound.{has_line, Sound}
use Rattle.vx_world.specs.Grown.{GrownWorld}
use Rattle.vx_world.proofs.Lists.{prefix_refl, prefix_trans, prefix_more, prefix_take}
use Rattle.vx_world.proofs.Stood.{more_lines}
use Rattle.vx_world.proofs.Guards
use Rattle.vx_world.proofs.Nodes
use Rattle.vx_world.proofs.Changes.{links_changed_keeps}
use Rattle.vx_world.proofs.Stays.{step_keeps}

pub grown_same : (w : World) → GrownWorld w w
grown_same w = record {
  held = λ l _. prefix_refl (w.lines l).held;
  told = λ l _. omega arith;
  made = λ i made. made;
  came = λ i _ l h. h;
  sent = ([], sym (append-nil w.packets));
  promised = ([], sym (append-nil w.promised));
}

pub grown_trans : (u v w : World) → GrownWorld u v → GrownWorld v w → GrownWorld u w
grown_trans u v w g h = record {
  held = λ l made. prefix_trans (u.lines l).held (v.lines l).held (w.lines l).held (g.held l made) (h.held l (g.made l.origin made));
  told = λ l made. omega (arith, g.told l made, h.told l (g.made l.origin made));
  made = λ i made. h.made i (g.made i made);
  came = λ i made l c. h.came i (g.made i made) l (g.came i made l c);
  sent = (g.sent.0 ++ h.sent.0, h.sent.1 ∙ ap (λ (t : List Packet). t ++ h.sent.0) g.sent.1 ∙ append_assoc u.packets g.sent.0 h.sent.0);
  promised = (
    g.promised.0 ++ h.promised.0,
    h.promised.1 ∙ ap (λ (t : List Promise). t ++ h.promised.0) g.promised.1
        ∙ append_assoc u.promised g.promised.0 h.promised.0,
  );
}

module _ (w v : World) (g : GrownWorld w v) where
  grown_links : (f : ℕ → ℕ → LinkRecord) → GrownWorld w (record v { links = f })
  grown_links f = record { held = g.held; told = g.told; made = g.made; came = g.came; sent = g.sent; promised = g.promised }

  grown_gathering : (f : ℕ → Option Gathering) → GrownWorld w (record v { gathering = f })
  grown_gathering f = record { held = g.held; told = g.told; made = g.made; came = g.came; sent = g.sent; promised = g.promised }

  grown_sending : (more : List Packet) → GrownWorld w (sending v more)
  grown_sending more = record {
    held = g.held;
    told = g.told;
    made = g.made;
    came = g.came;
    sent = (g.sent.0 ++ more, ap (λ (t : List Packet). t ++ more) g.sent.1 ∙ append_assoc w.packets g.sent.0 more);
    promised = g.promised;
  }

  grown_promising : (more : List Promise) → GrownWorld w (promising v more)
  grown_promising more = record {
    held = g.held;
    told = g.told;
    made = g.made;
    came = g.came;
    sent = g.sent;
    promised = (g.promised.0 ++ more, ap (λ (t : List Promise). t ++ more) g.promised.1 ∙ append_assoc w.promised g.promised.0 more);
  }

-- the site stood where it stood
abbrev StoodMore : Node → Node → Type 0
StoodMore a n = IsMade a → (l : Line) → has_line a.stood l ≡ true → has_line n.stood l ≡ true

grown_node : (w : World) (i : ℕ) (n : Node) → (IsMade (w.nodes i) → IsMade n) → StoodMore (w.nodes i) n → GrownWorld w (with_node w i n)
grown_node w i n stays stood = record {
  held = λ l _. prefix_refl (w.lines l).held;
  told = λ l _. omega arith;
  made = all_updated (λ k (m : Node). IsMade (w.nodes k) → IsMade m) w.nodes i n stays (λ k _ made. made);
  came = all_updated (λ k (m : Node). StoodMore (w.nodes k) m) w.nodes i n stood (λ k _ _ l h. h);
  sent = ([], sym (append-nil w.packets));
  promised = ([], sym (append-nil w.promised));
}

grown_history : (w : World) (i : ℕ) (n : Node) (h : History) → (IsMade (w.nodes i) → IsMade n) → StoodMore (w.nodes i) n
    → (IsMade (w.nodes n.line.origin) → IsPrefixOf (w.lines n.line).held h.held × ((w.lines n.line).told ≤ h.told)) → GrownWorld w (with_history w i n h)
grown_history w i n h stays stood grows = record {
  held = all_lines (λ l (r : History). IsMade (w.nodes l.origin) → IsPrefixOf (w.lines l).held r.held) w.lines n.line h (λ made. (grows made).0)
      (λ l _ _. prefix_refl (w.lines l).held);
  told = all_lines (λ l (r : History). IsMade (w.nodes l.origin) → (w.lines l).told ≤ r.told) w.lines n.line h (λ made. (grows made).1) (λ l _ _. omega arith);
  made = all_updated (λ k (m : Node). IsMade (w.nodes k) → IsMade m) w.nodes i n stays (λ k _ made. made);
  came = all_updated (λ k (m : Node). StoodMore (w.nodes k) m) w.nodes i n stood (λ k _ _ l h. h);
  sent = ([], sym (append-nil w.packets));
  promised = ([], sym (append-nil w.promised));
}

-- ## Events

-- an outcome after which the world has grown
abbrev Leaves : World → Outcome → Type 0
Leaves w o = GrownWorld w o.world

put_grows : (w v : World) (p : ℕ) (x : Write) (fails : Option ℕ) → Sound v → GrownWorld w v → Leaves w (Events.put_in v p x fails)
put_grows w v p x None s g =
    let n : Node = v.nodes p in
    let u : World = Events.links_marked v p (x ∷ []) in
    grown_trans w u (written u p x) (grown_trans w v u g (grown_links v v (grown_same v) u.links))
    (grown_history u p (logged n x) (told_of (v.lines n.line) x) (λ made. made) (λ _ _ h. h)
    (λ _. (prefix_more (v.lines n.line).held (x ∷ []), omega (arith, s.good.told n.line))))
put_grows w v p x (Some disk) s g =
    grown_trans w v (half_written v p x disk) g
    (grown_node v p (record (v.nodes p) { log = (v.nodes p).log ++ x ∷ []; halted = Some disk; fuse = burned (v.nodes p).fuse }) (λ made. made) (λ _ _ h. h))

written_grows : (admitted : Admitted) (w : World) (p : ℕ) (x : Write) (fails : Option ℕ) → Sound w → Sound (Events.links_changed w p x)
    → Leaves w (Events.written_if admitted w p x fails)
written_grows (Held_by why) w p x fails s v = grown_same w
written_grows (Goes changes) w p x fails s v =
    Guards.unless_holds (GrownWorld w) _ _ w (Events.put_in (Events.links_changed w p x) p x fails) (grown_same w)
    (λ _. put_grows w (Events.links_changed w p x) p x fails v (grown_links w w (grown_same w) (Events.links_changed w p x).links))

applied_grows : (w : World) (q : ℕ) (r : RState) (action : RAction) → Leaves w (Events.applied_by w q r action)
applied_grows w q r DoesNothing = grown_same w
applied_grows w q r Ignores = grown_same w
applied_grows w q r (IgnoredAck number) = grown_same w
applied_grows w q r (Take number) = grown_same w
applied_grows w q r (AcksFromDisk number) =
    let n : Node = Events.applied (w.nodes q) number r.mark in
    grown_sending w (with_node w q n) (grown_node w q n (λ made. made) (λ _ _ h. h)) _

moved_grows : (w : World) (p q : ℕ) (e : SEvent) → GrownWorld w (Events.link_event w p q e)
moved_grows w p q e =
    let l : LinkRecord = with_plain (w.links p q) (Events.link_step w p q e).link in
    grown_sending w (with_link w p q l) (grown_links w w (grown_same w) (with_link w p q l).links) (sent_by (Events.link_step w p q e).action p q (w.nodes p))

link_heard_grows : (w : World) (p : Packet) (e : SEvent) → Leaves w (Events.link_heard w p e)
link_heard_grows w p e =
    by_test (Leaves w) (keeps_links (w.nodes p.target).role && is_linked (w.links p.target p.source)) _ (says w IsIgnored)
    (λ _. grown_links w w (grown_same w) _)
    (λ _. grown_same w)

taken_grows : (w : World) (p : Packet) (x : Write) (action : RAction) → Leaves w (Events.update_taken w p x action)
taken_grows w p x DoesNothing = grown_same w
taken_grows w p x Ignores = grown_same w
taken_grows w p x (IgnoredAck number) = grown_sending w w (grown_same w) _
taken_grows w p x (Take number) = by_whole (completes (w.gathering p.target) p)
  where
    by_whole : (b : Bool) → Leaves w (Events.taken_if b w p x number)
    by_whole true =
        let n : Node = Events.with_write (w.nodes p.target) p.source x in
        grown_sending w (with_node w p.target n) (grown_node w p.target n (λ made. made) (λ _ _ h. h)) _
    by_whole false = grown_same w
taken_grows w p x (AcksFromDisk number) = grown_same w

heard_grows : (w : World) (p : Packet) (m : Message) → Leaves w (Events.heard w p m)
heard_grows w p (Hello session number stored) = link_heard_grows w p (HearHello session number stored)
heard_grows w p (Update number x) =
    by_test (Leaves w) (is_origin (w.nodes p.target).role) (says w IsIgnored) _ (λ _. grown_same w)
    (λ _. taken_grows w p x (received_step (plain_receiver (w.nodes p.target)) (HearUpdate p.line number)).action)
heard_grows w p (NetAck session number) = link_heard_grows w p (HearNetAck session number)
heard_grows w p (DataAck number) = link_heard_grows w p (HearDataAck number)

gathers_grows : (w : World) (p : Packet) (o : Outcome) → Leaves w o → Leaves w (Events.gathers p o)
gathers_grows w p o g = by_taken (Events.is_taken o.said)
  where
    by_taken : (b : Bool) → GrownWorld w (Events.gathered_if b o.world p)
    by_taken true = grown_gathering w o.world g _
    by_taken false = g

delivered_grows : (w : World) (number : ℕ) (p : Option Packet) → Leaves w (Events.delivered w number p)
delivered_grows w number None = grown_same w
delivered_grows w number (Some p) =
    gathers_grows w p (Events.handed w p)
    (by_test (Leaves w) (is_up (w.nodes p.target).state && is_running (w.nodes p.target).halted) _ (says w IsIgnored)
    (λ _. heard_grows w p p.message)
    (λ _. grown_same w))

crash_grows : (w : World) (q k : ℕ) → Sound w → (w.nodes q).state ≡ Up → (w.nodes q).safe ≤ k → GrownWorld w (Events.crash_at w q k)
crash_grows w q k s up least =
    let n : Node = w.nodes q in
    let made : IsMade n = up_is_made n up in
    let row : ℕ → LinkRecord = λ to. Events.link_left n k (w.links q to) in
    grown_gathering w (with_links (Events.crash_world w q k) q row)
    (by_test (λ (v : World). GrownWorld w (with_links v q row)) (is_origin n.role) (crash_left w q k) (with_node w q (crashed n k))
    (λ o. grown_links w (crash_left w q k)
    (grown_history w q (crashed n k) (record (w.lines n.line) { held = take k n.log }) (λ _ e. cc) (λ _ _ h. h)
    (λ _. (
      subst (λ t. IsPrefixOf t (take k n.log)) (take-take n.safe k n.log least ∙ (s.good.nodes q).origin_log made o)
          (prefix_take n.safe (take k n.log)),
      omega arith,
    )))
    (with_links (crash_left w q k) q row).links)
    (λ _. grown_links w (with_node w q (crashed n k)) (grown_node w q (crashed n k) (λ _ e. cc) (λ _ _ h. h)) (with_links (with_node w q (crashed n k)) q row).links)) _

deport_grows : (w : World) (q : ℕ) → Sound w → (w.nodes q).state ≡ Up → GrownWorld w (Events.deport_at w q)
deport_grows w q s up =
    let k : ℕ = Events.kept_of (w.nodes q) 0 in
    let v : World = Events.crash_at w q k in
    grown_trans w v (Events.deport_at w q) (crash_grows w q k s up (Nodes.kept_least (w.nodes q) 0 (s.good.nodes q).safe_fits))
    (grown_node v q (deported_site (w.nodes q).fuse (v.nodes q)) (λ _ e. cc) (λ _ _ h. h))

recovery_grows : (w : World) (q : ℕ) (fails : Option ℕ) → Leaves w (Events.recovery w q fails)
recovery_grows w q None =
    Nodes.back_by (λ (m : Node). GrownWorld w
    (sending (with_links (with_node w q m) q (λ to. Events.restarted_link m to (w.links q to))) (Events.recovery_greeting q m))) (w.nodes q)
    (λ mark _ _ _ _.
    let m : Node = Nodes.risen (w.nodes q) mark in
    let v : World = with_node w q m in
    let u : World = with_links v q (λ to. Events.restarted_link m to (w.links q to)) in
    grown_sending w u (grown_links w v (grown_node w q m (λ _ e. cc) (λ _ _ h. h)) u.links) (Events.recovery_greeting q m))
recovery_grows w q (Some disk) = grown_node w q (record (w.nodes q) { session = (w.nodes q).session + 1 }) (λ made. made) (λ _ _ h. h)

recover_grows : (w : World) (q : ℕ) (state : SiteState) (fails : Option ℕ) → Leaves w (Events.recover_from state w q fails)
recover_grows w q Bare fails = grown_same w
recover_grows w q Up fails = grown_same w
recover_grows w q Deported fails = Guards.unless_holds (GrownWorld w) _ _ w (Events.recovery w q fails) (grown_same w) (λ _. recovery_grows w q fails)
recover_grows w q Down fails = Guards.unless_holds (GrownWorld w) _ _ w (Events.recovery w q fails) (grown_same w) (λ _. recovery_grows w q fails)

site_grows : (w : World) (name : List ℕ) (disks blocks : ℕ) → Sound w → GrownWorld w (site_made w name disks blocks)
site_grows w name disks blocks s =
    let g : GrownWorld w (with_node w w.sites (bare_site name disks blocks)) = grown_node w w.sites (bare_site name disks blocks)
    (λ made. absurd (made (s.good.later w.sites (omega arith)))) (λ made. absurd (made (s.good.later w.sites (omega arith)))) in
    record { held = g.held; told = g.told; made = g.made; came = g.came; sent = g.sent; promised = g.promised }

begun_grows : (w : World) (q ring : ℕ) (volumes : List Volume) (content : Content) → (w.nodes q).state ≡ Bare → GrownWorld w (line_begun w q ring volumes content)
begun_grows w q ring volumes content bare =
    grown_history w q (begun_site q ring volumes content (w.nodes q)) (begun_line content) (λ made. absurd (made bare)) (λ made. absurd (made bare)) (λ made. absurd (made bare))

raw_grows : (w : World) (q : ℕ) → (w.nodes q).state ≡ Bare → GrownWorld w (raw_made w q)
raw_grows w q = let n : Node = w.nodes q in begun_grows w q (ring_of n.blocks) (raw_volumes 1 (n.disks - 2) n.blocks) (raw_content n.disks n.blocks)

link_part_grows : (part : LinkPart) (w : World) (p q : ℕ) (sync : SyncMode) (prot : Prot) → (w.nodes q).state ≡ Up → Leaves w (link_part part w p q sync prot)
link_part_grows Joins w p q sync prot up =
    let joins : World = with_node w q (Events.joined (w.nodes p) p (w.nodes q)) in
    let o : Outcome = done (emptied joins q) in
    let fits : Outcome = unless (not (sizes_meet (w.nodes p).volumes (w.nodes q).volumes && rings_fit (w.nodes p) (w.nodes q))) Size w o in
    let few : Outcome = unless (leb MOST_LINKS (count_links_of w p)) (Limit Links MOST_LINKS) w fits in
    Guards.unless_holds (GrownWorld w) (not (may_link w p q)) WrongRole w (unless (is_linked (w.links p q)) (Exists (w.nodes q).name) w few) (grown_same w)
    (λ _. Guards.unless_holds (GrownWorld w) (is_linked (w.links p q)) (Exists (w.nodes q).name) w few (grown_same w)
    (λ _. Guards.unless_holds (GrownWorld w) (leb MOST_LINKS (count_links_of w p)) (Limit Links MOST_LINKS) w fits (grown_same w)
    (λ _. Guards.unless_holds (GrownWorld w) (not (sizes_meet (w.nodes p).volumes (w.nodes q).volumes && rings_fit (w.nodes p) (w.nodes q))) Size w o (grown_same w)
    (λ _. grown_gathering w joins (grown_node w q (Events.joined (w.nodes p) p (w.nodes q)) (λ made. made)
    (λ _ l h. more_lines (w.nodes q).stood ((w.nodes p).line ∷ []) l h)) _))))
link_part_grows Made w p q sync prot up =
    let l : LinkRecord = Events.new_link (count_links_of w p) sync prot (w.nodes q) in
    Guards.unless_holds (GrownWorld w) (not (is_primary (w.nodes p).role && follows w p q)) WrongRole w
    (unless (is_linked (w.links p q)) (Exists (w.nodes q).name) w (done (with_link w p q l))) (grown_same w)
    (λ _. Guards.unless_holds (GrownWorld w) (is_linked (w.links p q)) (Exists (w.nodes q).name) w (done (with_link w p q l)) (grown_same w)
    (λ _. grown_links w w (grown_same w) (with_link w p q l).links))
link_part_grows Marked w p q sync prot up =
    Guards.unless_holds (GrownWorld w) _ WrongRole w (done (with_node w q (record (w.nodes q) { mark = Consistent }))) (grown_same w)
    (λ _. grown_node w q (record (w.nodes q) { mark = Consistent }) (λ made. made) (λ _ _ h. h))
link_part_grows Opened w p q sync prot up =
    let l : LinkRecord = Events.opened (w.links p q) (w.nodes p).safe in
    Guards.unless_holds (GrownWorld w) _ WrongRole w (done (with_link w p q l)) (grown_same w) (λ _. grown_links w w (grown_same w) (with_link w p q l).links)

on_link_grows : (w : World) (p q : ℕ) (e : SEvent) → Leaves w (on_link w p q (done (Events.link_event w p q e)))
on_link_grows w p q e = Guards.on_link_holds (GrownWorld w) keeps_links w p q (done (Events.link_event w p q e)) (grown_same w) (λ _ _ _. moved_grows w p q e)

again_grows : (w : World) (q : ℕ) → Leaves w (Events.group_again w q)
again_grows w q =
    Guards.unless_holds (GrownWorld w) (not (Events.is_plain_group (w.nodes q))) WrongRole w (says (group_back w q) Done) (grown_same w)
    (λ _. grown_node w q (group_up (w.nodes q)) (λ _ e. cc) (λ _ _ h. h))

group_grows : (w : World) (q : ℕ) (state : SiteState) → (w.nodes q).state ≡ state → Leaves w (Events.group_from state w q)
group_grows w q Bare e = begun_grows w q 0 [] no_volumes e
group_grows w q Up e = grown_same w
group_grows w q Deported e = again_grows w q
group_grows w q Down e = again_grows w q

fall_grows : (w : World) (q : ℕ) (state : SiteState) → Leaves w (Events.fall_from state w q)
fall_grows w q Bare = grown_same w
fall_grows w q Up = grown_same w
fall_grows w q Deported = grown_node w q (fallen_site (w.nodes q)) (λ _ e. cc) (λ _ _ h. h)
fall_grows w q Down = grown_same w

-- a link of an origin is set, attached or detached
set_grows : (w : World) (p q : ℕ) (l : LinkRecord) → Leaves w (on_link_if is_origin w p q (done (with_link w p q l)))
set_grows w p q l = Guards.on_link_holds (GrownWorld w) is_origin w p q (done (with_link w p q l)) (grown_same w) (λ _ _ _. grown_links w w (grown_same w) (with_link w p q l).links)

outcome_grows : (w : World) (e : Event) → Sound w → Leaves w (outcome_of w e)
outcome_grows w (Site name disks blocks) s =
    let o : Outcome = done (site_made w name disks blocks) in
    let few : Outcome = unless (eqb disks 0 || ltb blocks 8) Size w o in
    let some : Outcome = unless (ltb MOST_DISKS disks) (Limit Disks MOST_DISKS) w few in
    Guards.unless_holds (GrownWorld w) (some_below w.sites (λ k. bytes_eq (w.nodes k).name name)) (Exists name) w
    (unless (leb MOST_SITES w.sites) (Limit Sites MOST_SITES) w some) (grown_same w)
    (λ _. Guards.unless_holds (GrownWorld w) (leb MOST_SITES w.sites) (Limit Sites MOST_SITES) w some (grown_same w)
    (λ _. Guards.unless_holds (GrownWorld w) (ltb MOST_DISKS disks) (Limit Disks MOST_DISKS) w few (grown_same w)
    (λ _. Guards.unless_holds (GrownWorld w) (eqb disks 0 || ltb blocks 8) Size w o (grown_same w) (λ _. site_grows w name disks blocks s))))
outcome_grows w (Raw q) s =
    let o : Outcome = done (raw_made w q) in
    let shaped : Outcome = unless (not (is_raw_shape (w.nodes q).disks (w.nodes q).blocks)) Size w o in
    Guards.at_site_holds (GrownWorld w) w q (unless (not (is_bare (w.nodes q).state)) WrongRole w shaped) (grown_same w)
    (λ _. Guards.unless_holds (GrownWorld w) (not (is_bare (w.nodes q).state)) WrongRole w shaped (grown_same w)
    (λ bare. Guards.unless_holds (GrownWorld w) (not (is_raw_shape (w.nodes q).disks (w.nodes q).blocks)) Size w o (grown_same w)
    (λ _. raw_grows w q (bare_is (w.nodes q).state (not-false (is_bare (w.nodes q).state) bare)))))
outcome_grows w (Group q) s = Guards.at_site_holds (GrownWorld w) w q _ (grown_same w) (λ _. group_grows w q (w.nodes q).state refl)
outcome_grows w (Volumes q log xs) s =
    let n : Node = w.nodes q in
    let o : Outcome = done (volumes_made w q log xs) in
    let tested : Outcome = unless (not (Events.is_plain_group n)) WrongRole w o in
    Guards.at_site_holds (GrownWorld w) w q (at_work w q tested) (grown_same w)
    (λ _. Guards.at_work_holds (GrownWorld w) w q tested (grown_same w)
    (λ _ _. Guards.unless_holds (GrownWorld w) (not (Events.is_plain_group n)) WrongRole w o (grown_same w)
    (λ _. grown_history w q (volumes_set log xs n) (starting_with (data_content n.group xs) (w.lines n.line)) (λ made. made) (λ _ _ h. h)
    (λ _. (prefix_refl (w.lines n.line).held, omega arith)))))
outcome_grows w (WriteAt p volume start bytes fails) s =
    let x : Write = record { volume = volume; start = start; bytes = bytes } in
    Guards.on_volume_holds (GrownWorld w) w p volume start (blocks_in bytes) (is_too_large (w.nodes p).ring (blocks_in bytes))
    (Events.written_if (Events.admitted w p x) w p x fails) (grown_same w)
    (λ _ _ _. written_grows (Events.admitted w p x) w p x fails s (links_changed_keeps w p x s))
outcome_grows w (Read p volume start count) s = Guards.on_volume_holds (GrownWorld w) w p volume start count false _ (grown_same w) (λ _ _ _. grown_same w)
outcome_grows w (Apply q count reached) s =
    let o : Outcome = if is_origin (w.nodes q).role then Events.reached_at w q count reached else Events.apply_at w q count in
    let r : Received = received_step (plain_receiver (w.nodes q)) (Applied count) in
    Guards.at_site_holds (GrownWorld w) w q (at_work w q o) (grown_same w)
    (λ _. Guards.at_work_holds (GrownWorld w) w q o (grown_same w)
    (λ _ _. by_test (Leaves w) (is_origin (w.nodes q).role) (Events.reached_at w q count reached) (Events.apply_at w q count) (λ _. grown_same w)
    (λ _. applied_grows w q r.state r.action)))
outcome_grows w (Pump p q) s =
    Guards.on_link_holds (GrownWorld w) keeps_links w p q _ (grown_same w)
    (λ _ _ _. Guards.when_live_holds (GrownWorld w) w q (w.links p q) (done (Events.link_event w p q PumpLink)) (grown_same w) (moved_grows w p q PumpLink))
outcome_grows w (Tick p q) s =
    Guards.on_link_holds (GrownWorld w) keeps_links w p q (done (Events.ticked_at w p q)) (grown_same w)
    (λ _ _ _. grown_links w w (grown_same w) (Events.ticked_at w p q).links)
outcome_grows w (Deliver number) s = delivered_grows w number (Events.packet_at w.packets number)
outcome_grows w (Connect p q) s =
    let v : World = Events.link_event w p q ConnectLink in
    Guards.on_link_holds (GrownWorld w) keeps_links w p q (done (sending v (Events.greeting_back w p q))) (grown_same w)
    (λ _ _ _. grown_sending w v (moved_grows w p q ConnectLink) (Events.greeting_back w p q))
outcome_grows w (Cut p q) s = on_link_grows w p q CutLink
outcome_grows w (Pause p q) s = on_link_grows w p q PauseLink
outcome_grows w (Resume p q) s = on_link_grows w p q ResumeLink
outcome_grows w (Wait p number) s =
    let unconfirmed : Bool = some_below w.sites (λ k. is_unconfirmed number k (w.links p k)) in
    let held : Bool = some_below w.sites (λ k. holds_back number k (w.links p k)) in
    let promised : Outcome = says (promising w (Events.promises_of (w.nodes p) number (w.links p) w.sites)) (DoneAt number) in
    let answered : Outcome = if held then says w (Pending number) else promised in
    let known : Outcome = unless unconfirmed (Unconfirmed number) w answered in
    let o : Outcome = unless (not (is_origin (w.nodes p).role)) WrongRole w
    (unless (eqb number 0 || ltb (w.nodes p).safe number) (Unknown (ByNumber number)) w known) in
    Guards.at_site_holds (GrownWorld w) w p (at_work w p o) (grown_same w)
    (λ _. Guards.at_work_holds (GrownWorld w) w p o (grown_same w)
    (λ _ _. Guards.unless_holds (GrownWorld w) (not (is_origin (w.nodes p).role)) WrongRole w _ (grown_same w)
    (λ _. Guards.unless_holds (GrownWorld w) (eqb number 0 || ltb (w.nodes p).safe number) (Unknown (ByNumber number)) w known (grown_same w)
    (λ _. Guards.unless_holds (GrownWorld w) unconfirmed (Unconfirmed number) w answered (grown_same w)
    (λ _. by_test (Leaves w) held (says w (Pending number)) promised (λ _. grown_same w)
    (λ _. grown_promising w w (grown_same w) (Events.promises_of (w.nodes p) number (w.links p) w.sites)))))))
outcome_grows w (Link p q sync prot part) s =
    Guards.at_site_holds (GrownWorld w) w p _ (grown_same w)
    (λ _. Guards.at_site_holds (GrownWorld w) w q _ (grown_same w)
    (λ _. Guards.both_holds (GrownWorld w) w p q (link_part part w p q sync prot) (grown_same w) (λ _ up _ _. link_part_grows part w p q sync prot up)))
outcome_grows w (Set p q sync prot) s = set_grows w p q (Events.link_with sync prot (w.links p q))
outcome_grows w (Attach p q) s = set_grows w p q (Events.link_attached (w.links p q))
outcome_grows w (Detach p q) s = set_grows w p q (Events.link_detached (w.links p q))
outcome_grows w (Crash q kept) s =
    let o : Outcome = done (Events.crash_at w q (Events.kept_of (w.nodes q) kept)) in
    Guards.at_site_holds (GrownWorld w) w q (unless (not (is_up (w.nodes q).state)) NotUp w o) (grown_same w)
    (λ _. Guards.unless_holds (GrownWorld w) (not (is_up (w.nodes q).state)) NotUp w o (grown_same w)
    (λ up. crash_grows w q (Events.kept_of (w.nodes q) kept) s (up_is (w.nodes q).state (not-false (is_up (w.nodes q).state) up))
    (Nodes.kept_least (w.nodes q) kept (s.good.nodes q).safe_fits)))
outcome_grows w (Fall q) s = Guards.at_site_holds (GrownWorld w) w q _ (grown_same w) (λ _. fall_grows w q (w.nodes q).state)
outcome_grows w (Deport q) s =
    let o : Outcome = done (Events.deport_at w q) in
    Guards.at_site_holds (GrownWorld w) w q (at_work w q o) (grown_same w)
    (λ _. Guards.at_work_holds (GrownWorld w) w q o (grown_same w) (λ up _. deport_grows w q s up))
outcome_grows w (Recover q fails) s = Guards.at_site_holds (GrownWorld w) w q _ (grown_same w) (λ _. recover_grows w q (w.nodes q).state fails)
outcome_grows w (Fault q disk) s =
    Guards.at_site_holds (GrownWorld w) w q _ (grown_same w)
    (λ _. Guards.unless_holds (GrownWorld w) (not (is_up (w.nodes q).state)) NotUp w (says (stopped_by w q disk) _) (grown_same w)
    (λ _. grown_node w q (record (w.nodes q) { halted = Some disk; fuse = burned (w.nodes q).fuse }) (λ made. made) (λ _ _ h. h)))

-- whatever headers it writes
pub step_grows : (w : World) (e : Event) → Sound w → Leaves w (step w e)
step_grows w e s = let g : GrownWorld w
    (outcome_of w e).world = outcome_grows w e s in record { held = g.held; told = g.told; made = g.made; came = g.came; sent = g.sent; promised = g.promised }

pub run_grows : (w : World) (events : List Event) → Sound w → GrownWorld w (run w events)
run_grows w [] s = grown_same w
run_grows w (e ∷ es) s = grown_trans w (step w e).world (run w (e ∷ es)) (step_grows w e s) (run_grows (step w e).world es (step_keeps w e s))
