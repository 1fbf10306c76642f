-- What events of settling leave of a world, one after another.
use Rattle.std.proofs.Common.{length, suc, zero, ◌+◌, ◌-◌, ◌≡◌, ◌∙◌, ◌++◌, ℕ, List, [], ◌∷◌, Bool, true, false, refl, ap, sym, subst, append_assoc}
use Rattle.std.proofs.lemmas.List.{append-nil}
use Rattle.std.specs.List.{AllByRecursion}
use Rattle.std.specs.Prelude.{eqb, leb, Option, Some, None, if◌then◌else◌}
use Rattle.vx_model.specs.Sites.{is_origin}
use Rattle.vx_history.proofs.Updates.{by_test, eqb_apart, eqb_equal}
use Rattle.vx_history.specs.Doubts.{Doubted, Runs, happened}
use Rattle.vx_history.specs.Events.{greeting_back, link_step, packet_at}
use Rattle.vx_history.specs.Sends.{is_linked, packets_of, sent_by}
use Rattle.vx_history.specs.Settling.{MaySettle, deliver_between, deliver_new, delivery, greeting_events, is_between, is_stuck, settling, turn, turns}
use Rattle.vx_history.specs.Step.{run, step}
use Rattle.vx_history.specs.Stops.{IsFused, all_fails}
use Rattle.vx_history.specs.World.{DataAck, Hello, Link, Message, NetAck, Node, Packet, Update, World}
use Rattle.vx_history.specs.declared.event.Event.{Event}
use Rattle.vx_history.specs.declared.event.Event.TheVariants.{Site, Raw, Group, Volumes, Write, Read, Apply, Pump, Tick, Deliver, Connect, Cut, Pause, Resume, Wait, Link as LinkSites, Set, Attach, Detach, Crash, Deport, Fall, Recover, Fault}
use Rattle.vx_history.specs.declared.sender.SEvent.TheVariants.{Pump as PumpLink}
use Rattle.vx_events.specs.Doubts.{run_as}
use Rattle.vx_world.proofs.Lists.{each_append}
use Rattle.vx_settling.specs.Between.{is_update}
use Rattle.vx_settling.specs.Kinds.{AreSettling, IsStillSite, StaysAs, StillGoes, is_settling}
use Rattle.vx_settling.proofs.Events.{answer_changes, apply_changes, connect_changes, gone_is, pump_changes, tick_changes, update_changes}
use Rattle.vx_settling.proofs.Rules.{goes_same, goes_then}
use Rattle.vx_settling.proofs.Touching.{Changed, touch_same, with_headers}

-- ---- one event

still_then : (n k m : Node) → IsStillSite n k → IsStillSite k m → IsStillSite n m
still_then n k m one two =
    two ∙ ap (λ (x : Node). let y : Node = record x { fed_by = m.fed_by; base = m.base; log = m.log; safe = m.safe; mark = m.mark } in y) one

still_equal : (n k : Node) → k ≡ n → IsStillSite n k
still_equal n k same = subst (λ (m : Node). IsStillSite n m) (sym same) refl

-- place by place
pub changed_stays : (Q : Packet → Type 0) (f t g p s : ℕ) (w v : World) → Changed Q f t g p s w v → StaysAs w v
changed_stays Q f t g p s w v m = record {
  sites = m.site.sites;
  nodes = λ i. at_node i (eqb i t) refl;
  origins = λ i. at_origin i (eqb i t) refl;
  links = λ i k. at_link i k (eqb i p) refl (eqb k s) refl;
  more = m.site.more;
  sent = m.site.sent;
}
  where
    at_node : (i : ℕ) (b : Bool) → eqb i t ≡ b → IsStillSite (w.nodes i) (v.nodes i)
    at_node i true here = subst (λ (j : ℕ). IsStillSite (w.nodes j) (v.nodes j)) (sym (eqb_equal i t here)) m.site.node.rest
    at_node i false there = still_equal (w.nodes i) (v.nodes i) (m.site.nodes i (eqb_apart i t there))

    at_origin : (i : ℕ) (b : Bool) → eqb i t ≡ b → is_origin (w.nodes i).role ≡ true → v.nodes i ≡ w.nodes i
    at_origin i true here = subst (λ (j : ℕ). is_origin (w.nodes j).role ≡ true → v.nodes j ≡ w.nodes j) (sym (eqb_equal i t here)) m.site.still
    at_origin i false there = λ origin. m.site.nodes i (eqb_apart i t there)

    goes_equal : (l n : Link) → n ≡ l → StillGoes l n
    goes_equal l n same = subst (λ (x : Link). StillGoes l x) (sym same) (goes_same l)

    at_link : (i k : ℕ) (a : Bool) → eqb i p ≡ a → (b : Bool) → eqb k s ≡ b → StillGoes (w.links i k) (v.links i k)
    at_link i k false there b _ = goes_equal (w.links i k) (v.links i k) (m.link.rows i k (eqb_apart i p there))
    at_link i k true here false there =
        subst (λ (j : ℕ). StillGoes (w.links j k) (v.links j k)) (sym (eqb_equal i p here)) (goes_equal (w.links p k) (v.links p k) (m.link.links k (eqb_apart k s there)))
    at_link i k true here true too =
        subst (λ (j : ℕ). StillGoes (w.links j k) (v.links j k)) (sym (eqb_equal i p here))
        (subst (λ (j : ℕ). StillGoes (w.links p j) (v.links p j)) (sym (eqb_equal k s too)) m.link.link)

abbrev Any : Packet → Type 0
Any q = Unit {0}

each_any : (qs : List Packet) → AllByRecursion Any qs
each_any [] = tt
each_any (q ∷ qs) = (tt, each_any qs)

delivered_stays : (w : World) (number : ℕ) → StaysAs w (step w (Deliver number)).world
delivered_stays w number = by_packet (packet_at w.packets number) refl
  where
    by_message : (q : Packet) → packet_at w.packets number ≡ Some q → (m : Message) → q.message ≡ m → StaysAs w (step w (Deliver number)).world
    by_message q at (Hello session k stored) is = changed_stays Any 0 0 q.target q.target q.source w (step w (Deliver number)).world (answer_changes Any 0 0 w q number at (ap is_update is))
    by_message q at (Update k x) is = changed_stays Any q.source q.target q.target 0 0 w (step w (Deliver number)).world (update_changes Any 0 0 w q k x is (λ j. each_any (packets_of q.target q.source (w.nodes q.target).line (NetAck (w.nodes q.target).session j))) number at)
    by_message q at (NetAck session k) is = changed_stays Any 0 0 q.target q.target q.source w (step w (Deliver number)).world (answer_changes Any 0 0 w q number at (ap is_update is))
    by_message q at (DataAck k) is = changed_stays Any 0 0 q.target q.target q.source w (step w (Deliver number)).world (answer_changes Any 0 0 w q number at (ap is_update is))

    by_packet : (o : Option Packet) → packet_at w.packets number ≡ o → StaysAs w (step w (Deliver number)).world
    by_packet None at =
        subst (λ (v : World). StaysAs w v) (sym (gone_is w number at))
        (changed_stays Any 0 0 0 0 0 w (record w { headers = λ i. w.headers i + 0 }) (with_headers Any 0 0 0 0 0 w w (λ i. 0) (λ i apart. refl) (touch_same Any 0 0 0 0 0 w)))
    by_packet (Some q) at = by_message q at q.message refl

pub event_stays : (w : World) (e : Event) → is_settling e ≡ true → StaysAs w (step w e).world
event_stays w (Site name disks blocks) is = absurd (cc)
event_stays w (Raw p) is = absurd (cc)
event_stays w (Group p) is = absurd (cc)
event_stays w (Volumes p log xs) is = absurd (cc)
event_stays w (Write p volume start bytes fails) is = absurd (cc)
event_stays w (Read p volume start count) is = absurd (cc)
event_stays w (Apply s count reached) is = changed_stays Any 0 s 0 0 0 w _ (apply_changes Any 0 0 0 0 s w (λ k. each_any (packets_of s (w.nodes s).fed_by (w.nodes s).line (DataAck k))) count reached)
event_stays w (Pump p s) is = changed_stays Any 0 0 0 p s w _ (pump_changes Any 0 0 0 p s w (each_any (sent_by (link_step w p s PumpLink).action p s (w.nodes p))))
event_stays w (Tick p s) is = changed_stays Any 0 0 0 p s w _ (tick_changes Any 0 0 0 p s w)
event_stays w (Deliver number) is = delivered_stays w number
event_stays w (Connect p s) is = changed_stays Any 0 0 0 p s w _ (connect_changes Any 0 0 0 p s w (each_any (greeting_back w p s)))
event_stays w (Cut p s) is = absurd (cc)
event_stays w (Pause p s) is = absurd (cc)
event_stays w (Resume p s) is = absurd (cc)
event_stays w (Wait p number) is = absurd (cc)
event_stays w (LinkSites p s sync prot part) is = absurd (cc)
event_stays w (Set p s sync prot) is = absurd (cc)
event_stays w (Attach p s) is = absurd (cc)
event_stays w (Detach p s) is = absurd (cc)
event_stays w (Crash s kept) is = absurd (cc)
event_stays w (Deport s) is = absurd (cc)
event_stays w (Fall s) is = absurd (cc)
event_stays w (Recover s fails) is = absurd (cc)
event_stays w (Fault s disk) is = absurd (cc)

-- ---- several

pub stays_same : (w : World) → StaysAs w w
stays_same w = record { sites = refl; nodes = λ i. refl; origins = λ i origin. refl; links = λ i k. goes_same (w.links i k); more = []; sent = sym (append-nil w.packets) }

pub stays_then : (w u v : World) → StaysAs w u → StaysAs u v → StaysAs w v
stays_then w u v one two = record {
  sites = two.sites ∙ one.sites;
  nodes = λ i. still_then (w.nodes i) (u.nodes i) (v.nodes i) (one.nodes i) (two.nodes i);
  origins = λ i origin.
      let first : u.nodes i ≡ w.nodes i = one.origins i origin in
      two.origins i (ap (λ (n : Node). is_origin n.role) first ∙ origin) ∙ first;
  links = λ i k. goes_then (w.links i k) (u.links i k) (v.links i k) (one.links i k) (two.links i k);
  more = one.more ++ two.more;
  sent = two.sent ∙ ap (λ (ps : List Packet). ps ++ two.more) one.sent ∙ append_assoc w.packets one.more two.more;
}

pub run_stays : (w : World) (es : List Event) → AreSettling es → StaysAs w (run w es)
run_stays w [] are = stays_same w
run_stays w (e ∷ es) (is, are) =
    let u : World = (step w e).world in
    stays_then w u (run u es) (event_stays w e is) (run_stays u es are)

-- a link that may be settled still may
pub stays_may : (w v : World) (p s : ℕ) → StaysAs w v → MaySettle w p s → MaySettle v p s
stays_may w v p s m may =
    let at = m.nodes s in
    let same : v.nodes p ≡ w.nodes p = m.origins p may.sender in
    let goes = m.links p s in
    record {
      here = ap (λ (n : Node). n.state) same ∙ may.here;
      there = ap (λ (n : Node). n.state) at ∙ may.there;
      runs_here = ap (λ (n : Node). n.halted) same ∙ may.runs_here;
      runs_there = ap (λ (n : Node). n.halted) at ∙ may.runs_there;
      sender = ap (λ (n : Node). is_origin n.role) same ∙ may.sender;
      secondary = ap (λ (n : Node). n.role) at ∙ may.secondary;
      line = ap (λ (n : Node). n.line) at ∙ may.line ∙ ap (λ (n : Node). n.line) (sym same);
      linked = ap (λ (l : Link). is_linked l) goes.rest ∙ may.linked;
      bunker = ap (λ (l : Link). l.bunker) goes.rest ∙ may.bunker;
      attached = ap (λ (l : Link). l.attached) goes.rest ∙ may.attached;
      connected = goes.connects may.connected;
      running = ap (λ (l : Link). l.paused) goes.rest ∙ may.running;
      mode = goes.logs may.mode;
    }

-- a fuse that is set was so
pub stays_fused : (w v : World) (i : ℕ) → StaysAs w v → IsFused (v.nodes i).fuse → IsFused (w.nodes i).fuse
stays_fused w v i m fused = subst IsFused (ap (λ (n : Node). n.fuse) (m.nodes i)) fused

-- ---- the events of settling

pub are_both : (xs ys : List Event) → AreSettling xs → AreSettling ys → AreSettling (xs ++ ys)
are_both xs ys one two = each_append (λ e. is_settling e ≡ true) xs ys one two

pub are_parts : (xs ys : List Event) → AreSettling (xs ++ ys) → AreSettling xs × AreSettling ys
are_parts [] ys are = (tt, are)
are_parts (x ∷ xs) ys (is, are) = let rest = are_parts xs ys are in ((is, rest.0), rest.1)

pub are_delivered : (p s k : ℕ) (qs : List Packet) → AreSettling (deliver_between p s k qs)
are_delivered p s k [] = tt
are_delivered p s k (q ∷ qs) =
    by_test AreSettling (is_between p s q) (Deliver (suc k) ∷ deliver_between p s (suc k) qs) (deliver_between p s (suc k) qs) (λ _. (refl, are_delivered p s (suc k) qs))
    (λ _. are_delivered p s (suc k) qs)

pub are_new : (p s : ℕ) (old w : World) → AreSettling (deliver_new p s old w)
are_new p s old w = are_delivered p s _ _

pub are_deliveries : (p s : ℕ) (old w : World) → AreSettling (delivery p s old w)
are_deliveries p s old w =
    let first : List Event = deliver_new p s old w in
    are_both first (deliver_new p s w (run w first)) (are_new p s old w) (are_new p s w (run w first))

pub are_greeting : (w : World) (p s : ℕ) → AreSettling (greeting_events w p s)
are_greeting w p s = (refl, are_new p s w (step w (Connect p s)).world)

pub are_turn : (w : World) (p s : ℕ) → AreSettling (turn w p s)
are_turn w p s =
    let sent : List Event = Tick p s ∷ Pump p s ∷ [] in
    let w1 : World = run w sent in
    let came : List Event = delivery p s w w1 in
    let w2 : World = run w1 came in
    let applied : List Event = Apply s (length (w2.nodes s).log - (w2.nodes s).safe) 0 ∷ [] in
    let w3 : World = run w2 applied in
    let heard : List Event = delivery p s w2 w3 in
    let w4 : World = run w3 heard in
    let last : List Event = if is_stuck (w.links p s).stored (w4.links p s).stored (w4.nodes p).safe then greeting_events w4 p s else [] in
    let stuck : AreSettling last =
    by_test AreSettling (is_stuck (w.links p s).stored (w4.links p s).stored (w4.nodes p).safe) (greeting_events w4 p s) [] (λ _. are_greeting w4 p s) (λ _. tt) in
    are_both sent (came ++ (applied ++ (heard ++ last))) (refl, (refl, tt))
    (are_both came (applied ++ (heard ++ last)) (are_deliveries p s w w1)
    (are_both applied (heard ++ last) (refl, tt) (are_both heard last (are_deliveries p s w2 w3) stuck)))

pub are_turns : (n : ℕ) (w : World) (p s : ℕ) → AreSettling (turns n w p s)
are_turns zero w p s = tt
are_turns (suc n) w p s =
    let t : List Event = turn w p s in
    by_test AreSettling (leb (w.nodes p).safe (w.links p s).stored) [] (t ++ turns n (run w t) p s) (λ _. tt)
    (λ _. are_both t (turns n (run w t) p s) (are_turn w p s) (are_turns n (run w t) p s))

pub are_all : (w : World) (p s : ℕ) → AreSettling (settling w p s)
are_all w p s =
    let g : List Event = greeting_events w p s in
    are_both g (turns (w.nodes p).safe (run w g) p s) (are_greeting w p s) (are_turns (w.nodes p).safe (run w g) p s)

-- ---- with sites in doubt

-- no disk fails in them by itself
pub no_fails : (es : List Event) → AreSettling es → all_fails es ≡ []
no_fails [] are = refl
no_fails (e ∷ es) (is, are) = one e is ∙ no_fails es are
  where
    one : (e : Event) → is_settling e ≡ true → all_fails (e ∷ es) ≡ all_fails es
    one (Site name disks blocks) is = absurd (cc)
    one (Raw p) is = absurd (cc)
    one (Group p) is = absurd (cc)
    one (Volumes p log xs) is = absurd (cc)
    one (Write p volume start bytes fails) is = absurd (cc)
    one (Read p volume start count) is = absurd (cc)
    one (Apply s count reached) is = refl
    one (Pump p s) is = refl
    one (Tick p s) is = refl
    one (Deliver number) is = refl
    one (Connect p s) is = refl
    one (Cut p s) is = absurd (cc)
    one (Pause p s) is = absurd (cc)
    one (Resume p s) is = absurd (cc)
    one (Wait p number) is = absurd (cc)
    one (LinkSites p s sync prot part) is = absurd (cc)
    one (Set p s sync prot) is = absurd (cc)
    one (Attach p s) is = absurd (cc)
    one (Detach p s) is = absurd (cc)
    one (Crash s kept) is = absurd (cc)
    one (Deport s) is = absurd (cc)
    one (Fall s) is = absurd (cc)
    one (Recover s fails) is = absurd (cc)
    one (Fault s disk) is = absurd (cc)

-- an event that crashes no site leaves the world that it makes, and the doubts as they were
pub happens : (d : Doubted) (e : Event) (taken : Bool) → is_settling e ≡ true → happened d e taken ≡ record d { world = (step d.world e).world }
happens d (Site name disks blocks) taken is = absurd (cc)
happens d (Raw p) taken is = absurd (cc)
happens d (Group p) taken is = absurd (cc)
happens d (Volumes p log xs) taken is = absurd (cc)
happens d (Write p volume start bytes fails) taken is = absurd (cc)
happens d (Read p volume start count) taken is = absurd (cc)
happens d (Apply s count reached) taken is = refl
happens d (Pump p s) taken is = refl
happens d (Tick p s) taken is = refl
happens d (Deliver number) taken is = refl
happens d (Connect p s) taken is = refl
happens d (Cut p s) taken is = absurd (cc)
happens d (Pause p s) taken is = absurd (cc)
happens d (Resume p s) taken is = absurd (cc)
happens d (Wait p number) taken is = absurd (cc)
happens d (LinkSites p s sync prot part) taken is = absurd (cc)
happens d (Set p s sync prot) taken is = absurd (cc)
happens d (Attach p s) taken is = absurd (cc)
happens d (Detach p s) taken is = absurd (cc)
happens d (Crash s kept) taken is = absurd (cc)
happens d (Deport s) taken is = absurd (cc)
happens d (Fall s) taken is = absurd (cc)
happens d (Recover s fails) taken is = absurd (cc)
happens d (Fault s disk) taken is = absurd (cc)

pub run_is : (d : Doubted) (es : List Event) → AreSettling es → run_as false d es ≡ record d { world = run d.world es }
run_is d [] are = refl
run_is d (e ∷ es) (is, are) = ap (λ (x : Doubted). run_as false x es) (happens d e false is) ∙ run_is (record d { world = (step d.world e).world }) es are

-- they lead to one world alone
pub runs_only : (d new : Doubted) (es : List Event) → AreSettling es → Runs d es new → new ≡ record d { world = run d.world es }
runs_only d new [] are runs = runs
runs_only d new (e ∷ es) (is, are) (taken, runs) =
    runs_only (record d { world = (step d.world e).world }) new es are (subst (λ (x : Doubted). Runs x es new) (happens d e taken is) runs)
