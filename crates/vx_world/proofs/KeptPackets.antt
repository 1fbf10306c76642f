-- Packets that are delivered keep all that holds of the world.
use Rattle.std.proofs.Common.{◌≡◌, ◌∙◌, ℕ, zero, suc, ◌+◌, List, length, refl, ap, sym, subst, Bool, true, false}
use Rattle.std.specs.Prelude.{leb, if◌then◌else◌, Option, Some, None, eqb, ltb, ◌&&◌, slice_get}
use Rattle.vx_model.specs.Content.{Write, IsNumber}
use Rattle.vx_model.specs.Sites.{is_origin, is_up, same_line}
use Rattle.vx_model.specs.declared.history.Line.{Line}
use Rattle.vx_model.specs.declared.limits.TheConstants.{MOST_PACKETS}
use Rattle.vx_model.specs.declared.site.SiteState.TheVariants.{Up}
use Rattle.vx_model.proofs.Lists.{found_more}
use Rattle.vx_history.proofs.Updates.{all_updated, by_test, at_place, same_line_equal, and_left}
use Rattle.vx_history.proofs.GoodLemmas.{up_is_made}
use Rattle.vx_history.proofs.StateCases.{up_is}
use Rattle.vx_history.specs.Receiving.{Received, received_step, takes, repeats, with_next, phase_takes}
use Rattle.vx_history.specs.LinkForms.{plain_receiver}
use Rattle.vx_history.specs.World.{World, Node, Gathering, Packet, Message, Hello, Update, NetAck, DataAck, with_node, updated}
use Rattle.vx_history.specs.Sends.{is_linked, packets_of}
use Rattle.vx_history.specs.Refusals.{Outcome, says, keeps_links as has_links, is_running}
use Rattle.vx_history.specs.Gatherings.{key_of, came_after, completes, left_by}
use Rattle.vx_history.specs.Events
use Rattle.vx_history.specs.Fits.{WriteFits, Fitting}
use Rattle.vx_history.specs.GoodGatherings.{Gathers, MayGather}
use Rattle.vx_history.specs.Sound.{Sound, GoodMessage, GoodPacket}
use Rattle.vx_history.specs.declared.event.Said.TheVariants.{Ignored as IsIgnored}
use Rattle.vx_history.specs.declared.sender.SEvent.{SEvent}
use Rattle.vx_history.specs.declared.sender.SEvent.TheVariants.{Hello as HearHello, NetAck as HearNetAck, DataAck as HearDataAck}
use Rattle.vx_history.specs.declared.receiver.REvent.TheVariants.{Update as HearUpdate}
use Rattle.vx_history.specs.declared.receiver.RState.{RState}
use Rattle.vx_history.specs.declared.receiver.RAction.{RAction}
use Rattle.vx_history.specs.declared.receiver.RAction.TheVariants.{Nothing as DoesNothing, Ignored as Ignores, IgnoredAck, Take, DataAck as AcksFromDisk}
use Rattle.vx_world.proofs.Lists.{each_found}
use Rattle.vx_world.proofs.Pair.{after_places, places_in}
use Rattle.vx_world.proofs.Keeping.{Keeps, keeps_same, keeps_links, made_link, keeps_sending, keeps_gathering, keeps_node, fits_alike, all_parts}
use Rattle.vx_world.proofs.Quiet.{Adds, heard_adds}
use Rattle.vx_world.proofs.KeptWrites.{Leaves, longer_fitted, bare_same}

-- ## Packets that are delivered

pub link_heard_leaves : (w : World) (p : Packet) (e : SEvent) → Leaves w (Events.link_heard w p e)
link_heard_leaves w p e =
    by_test (Leaves w) (has_links (w.nodes p.target).role && is_linked (w.links p.target p.source)) _ (says w IsIgnored)
    (λ _. keeps_links w w (keeps_same w) _ (made_link w p.target p.source _ refl))
    (λ _. keeps_same w)

module _ (w : World) (p : Packet) (number : ℕ) (x : Write) (up : (w.nodes p.target).state ≡ Up) (is : IsNumber (w.lines p.line).held number x) where
  pub whole_leaves : p.line ≡ (w.nodes p.target).line → Leaves w (Events.taken_if true w p x number)
  whole_leaves e =
      let n : Node = w.nodes p.target in
      let m : Node = Events.with_write n p.source x in
      keeps_sending w (with_node w p.target m)
      (keeps_node w p.target m
      (λ f. longer_fitted n x n.halted m refl refl refl (λ made. made) refl (λ v. refl) refl (fits f e))
      (bare_same w p.target m refl refl) (λ u. u))
      (packets_of p.target p.source n.line (NetAck n.session number)) (all_parts p.target p.source n.line (NetAck n.session number))
    where
      held : Fitting w → WriteFits (w.nodes p.line.origin) x
      held f = each_found (WriteFits (w.nodes p.line.origin)) (w.lines p.line).held _ x is.1 (f.held p.line)

      fits : Fitting w → p.line ≡ (w.nodes p.target).line → WriteFits (w.nodes p.target) x
      fits f e =
          fits_alike (w.nodes (w.nodes p.target).line.origin) (w.nodes p.target) x (f.alike p.target (up_is_made (w.nodes p.target) up))
          (subst (λ (l : Line). WriteFits (w.nodes l.origin) x) e (held f))

  pub taken_leaves : p.line ≡ (w.nodes p.target).line → Leaves w (Events.update_taken w p x (Take number))
  taken_leaves e = by_whole (completes (w.gathering p.target) p)
    where
      by_whole : (b : Bool) → Leaves w (Events.taken_if b w p x number)
      by_whole true = whole_leaves e
      by_whole false = keeps_same w

  pub update_leaves : Leaves w (Events.update_heard w p number x)
  update_leaves =
      let n : Node = w.nodes p.target in
      let t : RState = plain_receiver n in
      by_test (Leaves w) (is_origin n.role) (says w IsIgnored) _
      (λ _. keeps_same w)
      (λ r. by_test (λ (o : Received). Leaves w (Events.update_taken w p x o.action)) (takes t p.line number)
      (record { state = with_next t; action = Take number }) _
      (λ c. taken_leaves (same_line_equal p.line n.line
      (and_left (same_line p.line n.line) (eqb number (t.last + 1) && (ltb t.waiting 16 && phase_takes t.phase)) c)))
      (λ _. by_test (λ o. Leaves w (Events.update_taken w p x o)) (repeats t p.line number) (IgnoredAck t.last) Ignores
      (λ _. keeps_sending w w (keeps_same w) (packets_of p.target p.source n.line (NetAck n.session (length n.log)))
      (all_parts p.target p.source n.line (NetAck n.session (length n.log))))
      (λ _. keeps_same w)))

pub heard_leaves : (w : World) (p : Packet) (m : Message) → (w.nodes p.target).state ≡ Up → GoodMessage (w.lines p.line).held (w.nodes p.source) p.line m
    → Leaves w (Events.heard w p m)
heard_leaves w p (Hello session number stored) up h = link_heard_leaves w p (HearHello session number stored)
heard_leaves w p (Update number x) up h = update_leaves w p number x up h
heard_leaves w p (NetAck session number) up h = link_heard_leaves w p (HearNetAck session number)
heard_leaves w p (DataAck number) up h = link_heard_leaves w p (HearDataAck number)

-- the target of what is heard stays up
pub taken_up : (w : World) (p : Packet) (x : Write) (action : RAction) → (w.nodes p.target).state ≡ Up
    → ((Events.update_taken w p x action).world.nodes p.target).state ≡ Up
taken_up w p x DoesNothing up = up
taken_up w p x Ignores up = up
taken_up w p x (IgnoredAck number) up = up
taken_up w p x (Take number) up = by_whole (completes (w.gathering p.target) p)
  where
    by_whole : (b : Bool) → ((Events.taken_if b w p x number).world.nodes p.target).state ≡ Up
    by_whole true = ap (λ (n : Node). n.state) (at_place w.nodes p.target (Events.with_write (w.nodes p.target) p.source x)) ∙ up
    by_whole false = up
taken_up w p x (AcksFromDisk number) up = up

pub link_up : (w : World) (p : Packet) (e : SEvent) → (w.nodes p.target).state ≡ Up → ((Events.link_heard w p e).world.nodes p.target).state ≡ Up
link_up w p e up =
    by_test (λ (o : Outcome). (o.world.nodes p.target).state ≡ Up) (has_links (w.nodes p.target).role && is_linked (w.links p.target p.source)) _
    (says w IsIgnored) (λ _. up) (λ _. up)

pub heard_up : (w : World) (p : Packet) (m : Message) → (w.nodes p.target).state ≡ Up → ((Events.heard w p m).world.nodes p.target).state ≡ Up
heard_up w p (Hello session number stored) up = link_up w p (HearHello session number stored) up
heard_up w p (Update number x) up =
    by_test (λ (o : Outcome). (o.world.nodes p.target).state ≡ Up) (is_origin (w.nodes p.target).role) (says w IsIgnored) _ (λ _. up)
    (λ _. taken_up w p x (received_step (plain_receiver (w.nodes p.target)) (HearUpdate p.line number)).action up)
heard_up w p (NetAck session number) up = link_up w p (HearNetAck session number) up
heard_up w p (DataAck number) up = link_up w p (HearDataAck number) up

module _ (w : World) (k : ℕ) (p : Packet) (found : slice_get w.packets k ≡ Some p) (good : GoodPacket w.nodes w.links w.lines p) where
  abbrev pub heard_world : World
  heard_world = (Events.heard w p p.message).world

  -- what is put to the packet's message was sent
  pub gathered_good : (w.nodes p.target).state ≡ Up → Gathers heard_world
      → MayGather p.target (heard_world.nodes p.target) heard_world.packets (left_by (heard_world.gathering p.target) p)
  gathered_good up g =
      let v : World = heard_world in
      let adds : Adds w v = heard_adds w p p.message in
      by_test (λ (h : Option Gathering). MayGather p.target (v.nodes p.target) v.packets h) (completes (v.gathering p.target) p) None
      (Some (record { key = key_of p; came = came_after (v.gathering p.target) p }))
      (λ _. tt)
      (λ some. record {
        up = heard_up w p p.message up;
        places = after_places (v.gathering p.target) p (places_in p.target (v.nodes p.target) v.packets (v.gathering p.target) (g.each p.target));
        missing = some;
        sent = record {
          place = k;
          packet = p;
          is = subst (λ (ps : List Packet). slice_get ps k ≡ Some p) (sym adds.sent)
              (found_more w.packets adds.more k p found);
          target = refl;
          key = refl;
        };
      })

  pub handed_leaves : Leaves w (Events.gathers p (Events.handed w p))
  handed_leaves = by_open (is_up (w.nodes p.target).state && is_running (w.nodes p.target).halted) refl
    where
      kept : (b : Bool) → (w.nodes p.target).state ≡ Up → Keeps w (Events.gathered_if b heard_world p)
      kept true up =
          keeps_gathering w heard_world (heard_leaves w p p.message up good.said)
          (updated heard_world.gathering p.target (left_by (heard_world.gathering p.target) p))
          (λ g. all_updated (λ i (h : Option Gathering). MayGather i (heard_world.nodes i) heard_world.packets h) heard_world.gathering p.target
          (left_by (heard_world.gathering p.target) p) (gathered_good up g) (λ i _. g.each i))
      kept false up = heard_leaves w p p.message up good.said

      by_open : (c : Bool) → (is_up (w.nodes p.target).state && is_running (w.nodes p.target).halted) ≡ c
          → Leaves w (Events.gathers p (if c then Events.heard w p p.message else says w IsIgnored))
      by_open true e = kept (Events.is_taken (Events.heard w p p.message).said)
          (up_is (w.nodes p.target).state (and_left (is_up (w.nodes p.target).state) (is_running (w.nodes p.target).halted) e))
      by_open false e = keeps_same w

pub delivered_leaves : (w : World) (number k : ℕ) (p : Option Packet) → slice_get w.packets k ≡ p → Sound w → Leaves w (Events.delivered w number p)
delivered_leaves w number k None e s = keeps_same w
delivered_leaves w number k (Some p) e s = handed_leaves w k p e (each_found (GoodPacket w.nodes w.links w.lines) w.packets k p e s.packets)

pub deliver_leaves : (w : World) (number : ℕ) → Sound w → Leaves w (Events.delivered w number (Events.packet_at w.packets number))
deliver_leaves w zero s = keeps_same w
deliver_leaves w (suc k) s =
    by_test (λ (p : Option Packet). Leaves w (Events.delivered w (suc k) p)) (leb (suc k + MOST_PACKETS) (length w.packets)) None (slice_get w.packets k)
    (λ _. keeps_same w) (λ _. delivered_leaves w (suc k) k (slice_get w.packets k) refl s)
