-- Settling over disks that tell no contents, step by step.
use Rattle.std.proofs.Common.{◌≡◌, ◌∙◌, ◌⊎◌, inl, inr, ◌++◌, ◌<◌, ◌≤◌, ℕ, zero, suc, List, [], ◌∷◌, Bool, true, false, refl, ap, sym, subst, arith, append_assoc, length}
use Rattle.std.proofs.lemmas.List.{append-nil}
use Rattle.std.specs.List.{AllByRecursion}
use Rattle.std.specs.Prelude.{eqb, Option, Some, None, slice_get}
use Rattle.vx_model.specs.Content.{Write}
use Rattle.vx_model.specs.Sites.{is_origin}
use Rattle.vx_model.specs.declared.link.Mode.{Mode}
use Rattle.vx_model.specs.declared.link.Mode.TheVariants.{Log}
use Rattle.vx_model.specs.declared.limits.TheConstants.{MOST_NUMBER}
use Rattle.vx_model.specs.declared.no.Counted.TheVariants.{Number}
use Rattle.vx_model.specs.declared.no.No.TheVariants.{Limit}
use Rattle.vx_history.proofs.Updates.{at_place, eqb_apart, eqb_equal}
use Rattle.vx_history.specs.Doubts.{Doubted, happened}
use Rattle.vx_history.specs.Events.{packet_at, with_write}
use Rattle.vx_history.specs.Gatherings.{came_after, key_of}
use Rattle.vx_history.specs.Sends.{is_linked, packets_of}
use Rattle.vx_history.specs.Settling.{is_between}
use Rattle.vx_history.specs.Step.{step}
use Rattle.vx_history.specs.Stops.{IsFused}
use Rattle.vx_history.specs.World.{DataAck, Gathering, Hello, Link, Message, NetAck, Node, Packet, Update, World}
use Rattle.vx_history.specs.declared.event.Event.TheVariants.{Apply, Connect, Deliver, Pump, Tick}
use Rattle.vx_script.specs.declared.line.ScriptLine.TheVariants.{Settle}
use Rattle.vx_effects.proofs.Finding.{fit_finds}
use Rattle.vx_effects.proofs.Fitting.{updated_other}
use Rattle.vx_events.specs.Facts.{site_number}
use Rattle.vx_events.specs.Fails.{Fails}
use Rattle.vx_events.specs.LinkEnds.{AreLeft, LinkEnds, LinksFind}
use Rattle.vx_events.specs.LinkFinds.{EndsBetween, GivesUp, GoesOn, HasMoved, MayTake, MovesBetween, PumpSends, SettlesOther, TakesOf, kept_with, pumped_with, taken_with, target_with}
use Rattle.vx_events.specs.LinksFit.{LinksFit}
use Rattle.vx_events.specs.Parts.{StopsBetween, StopsShort}
use Rattle.vx_events.specs.Settles.{CanSettle}
use Rattle.vx_events.specs.declared.said.Said.{Said}
use Rattle.vx_events.specs.declared.said.Said.TheVariants.{Refused}
use Rattle.vx_world.proofs.Lists.{each_append, each_found, each_weaker}
use Rattle.vx_settling.specs.Between.{IsSent, MayMove, is_update}
use Rattle.vx_settling.specs.Kinds.{StillGoes}
use Rattle.vx_settling.proofs.Events.{answer_changes, apply_changes, connect_changes, pump_changes, tick_changes, update_changes}
use Rattle.vx_settling.proofs.Going.{disk_sent, greeting_sent, is_sent, memory_sent, pump_any, pump_sent, went}
use Rattle.vx_settling.proofs.Named.{to_first}
use Rattle.vx_settling.proofs.Taking.{takes_same, takes_then, takes_written}
use Rattle.vx_settling.proofs.Touching.{Changed, link_same}
use Rattle.vx_settling.proofs.Unfolding.{packet_found}

-- ---- one step

moved : (l m : Link) → StillGoes l m → l.connected ≡ true → l.trimmed ≡ 0 → l.mode ≡ Log → HasMoved l m
moved l m goes connected trimmed mode = record {
  rest =
      goes.rest
      ∙ ap (λ (x : Bool). let y : Link = record l { connected = x; session = m.session; net = m.net; stored = m.stored; sent = m.sent; trimmed = m.trimmed; mode = m.mode; since = m.since } in y)
      (goes.connects connected ∙ sym connected)
      ∙ ap (λ (x : ℕ). let y : Link = record l { session = m.session; net = m.net; stored = m.stored; sent = m.sent; trimmed = x; mode = m.mode; since = m.since } in y)
      (goes.trims trimmed ∙ sym trimmed)
      ∙ ap (λ (x : Mode). let y : Link = record l { session = m.session; net = m.net; stored = m.stored; sent = m.sent; mode = x; since = m.since } in y) (goes.logs mode ∙ sym mode);
  session = goes.sessions;
  stored = goes.stores;
}

module _ (p s : ℕ) (d : Doubted) (may : MayMove p s d.world) where
  abbrev Goes : Packet → Type 0
  Goes q = GoesOn p s d.world q

  -- what an event changed that touches no other sites and no other link
  passes_by : (g : ℕ) (v : World) → (g ≡ p) ⊎ (g ≡ s) → Changed Goes p s g p s d.world v → MovesBetween p s d (record d { world = v })
  passes_by g v one m = record {
    apart = may.can.apart;
    up = may.can.there;
    linked = may.can.linked;
    sites = m.site.sites;
    nodes = m.site.nodes;
    takes = m.site.node;
    rows = m.link.rows;
    links = m.link.links;
    moves = moved (d.world.links p s) (v.links p s) m.link.link may.can.connected may.trimmed may.can.mode;
    headers = m.headers;
    written = m.written;
    gathering = λ i apart other. m.site.gathering i (neither i apart other one);
    lines = m.site.lines;
    promised = m.site.promised;
    more = m.site.more;
    sent = m.site.sent;
    all = m.site.all;
    after = λ i. refl;
    strayed = refl;
  }
    where
      neither : (i : ℕ) → (i ≡ p → ⊥) → (i ≡ s → ⊥) → (g ≡ p) ⊎ (g ≡ s) → i ≡ g → ⊥
      neither i apart other (inl here) same = apart (same ∙ here)
      neither i apart other (inr there) same = other (same ∙ there)

  pub begins : MovesBetween p s d d
  begins = record {
    apart = may.can.apart;
    up = may.can.there;
    linked = may.can.linked;
    sites = refl;
    nodes = λ i apart. refl;
    takes = takes_same p (d.world.nodes s);
    rows = λ i k apart. refl;
    links = λ k apart. refl;
    moves = record { rest = refl; session = omega arith; stored = omega arith };
    headers = λ i apart. refl;
    written = omega arith;
    gathering = λ i apart other. refl;
    lines = λ l. refl;
    promised = refl;
    more = [];
    sent = sym (append-nil d.world.packets);
    all = tt;
    after = λ i. refl;
    strayed = refl;
  }

  pub connects : (taken : Bool) → MovesBetween p s d (happened d (Connect p s) taken)
  connects taken = passes_by s (step d.world (Connect p s)).world (inr refl) (connect_changes Goes p s s p s d.world (greeting_sent p s d.world may.can.line))

  pub ticks : (taken : Bool) → MovesBetween p s d (happened d (Tick p s) taken)
  ticks taken = passes_by s (step d.world (Tick p s)).world (inr refl) (tick_changes Goes p s s p s d.world)

  pump_by_log : Changed Goes p s s p s d.world (step d.world (Pump p s)).world
  pump_by_log = pump_changes Goes p s s p s d.world (pump_sent p s d.world)

  pub pumps : (taken : Bool) → MovesBetween p s d (happened d (Pump p s) taken)
  pumps taken = passes_by s (step d.world (Pump p s)).world (inr refl) pump_by_log

  -- of whatever writes
  pub pumps_other : (more : List Packet) → PumpSends d.world p s more → MovesBetween p s d (record d { world = pumped_with d.world p s more })
  pumps_other more sends =
      let m = pump_by_log in
      passes_by s (pumped_with d.world p s more) (inr refl) (record {
        site = record {
          sites = m.site.sites;
          nodes = m.site.nodes;
          node = m.site.node;
          still = m.site.still;
          gathering = m.site.gathering;
          lines = m.site.lines;
          promised = m.site.promised;
          more = more;
          sent = refl;
          all = pump_any p s d.world more sends;
        };
        link = record { rows = m.link.rows; links = m.link.links; link = m.link.link };
        headers = m.headers;
        written = m.written;
      })

  pub applies : (count reached : ℕ) (taken : Bool) → MovesBetween p s d (happened d (Apply s count reached) taken)
  applies count reached taken =
      passes_by s (step d.world (Apply s count reached)).world (inr refl) (apply_changes Goes p s p s s d.world (λ number. disk_sent p s d.world may.can.line (d.world.nodes s).fed_by number) count reached)

  -- s acknowledges an update of p from memory
  acks : (q : Packet) → q.source ≡ p → q.target ≡ s → (number : ℕ) → AllByRecursion Goes (packets_of q.target q.source (d.world.nodes q.target).line (NetAck (d.world.nodes q.target).session number))
  acks q from to number =
      subst (λ (t : ℕ). AllByRecursion Goes (packets_of t q.source (d.world.nodes t).line (NetAck (d.world.nodes t).session number))) (sym to)
      (subst (λ (f : ℕ). AllByRecursion Goes (packets_of s f (d.world.nodes s).line (NetAck (d.world.nodes s).session number))) (sym from) (memory_sent p s d.world may.can.line number))

  -- an update of p comes to s
  update_passes : (number : ℕ) (q : Packet) (m : Message) → packet_at d.world.packets number ≡ Some q → q.message ≡ m → is_update m ≡ true → q.source ≡ p → q.target ≡ s
      → MovesBetween p s d (record d { world = (step d.world (Deliver number)).world })
  update_passes number q (Hello session k stored) at is update from to = absurd (cc)
  update_passes number q (Update k x) at is update from to =
      let v : World = (step d.world (Deliver number)).world in
      passes_by s v (inr refl)
      (subst (λ (f : ℕ). Changed Goes f s s p s d.world v) from
      (subst (λ (t : ℕ). Changed Goes q.source t t p s d.world v) to (update_changes Goes p s d.world q k x is (acks q from to) number at)))
  update_passes number q (NetAck session k) at is update from to = absurd (cc)
  update_passes number q (DataAck k) at is update from to = absurd (cc)

  -- an answer or a greeting of s comes to p
  answer_passes : (number : ℕ) (q : Packet) → packet_at d.world.packets number ≡ Some q → is_update q.message ≡ false → q.source ≡ s → q.target ≡ p
      → MovesBetween p s d (record d { world = (step d.world (Deliver number)).world })
  answer_passes number q at other from to =
      let v : World = (step d.world (Deliver number)).world in
      passes_by p v (inl refl)
      (subst (λ (t : ℕ). Changed Goes p s p p t d.world v) from
      (subst (λ (t : ℕ). Changed Goes p s t t q.source d.world v) to (answer_changes Goes p s d.world q number at other)))

  pub delivers : (number : ℕ) (q : Packet) (taken : Bool) → packet_at d.world.packets number ≡ Some q → IsSent p s q → is_between p s q ≡ true
      → MovesBetween p s d (happened d (Deliver number) taken)
  delivers number q taken at (inl (from, to, update)) between = update_passes number q q.message at refl update from to
  delivers number q taken at (inr (from, other)) between = answer_passes number q at other from (to_first p s q may.can.apart from between)

  -- s took it with whatever was put together, or kept a part of it
  other_passes : (n : Node) (o : Option Gathering) (more : List Packet) → TakesOf p (d.world.nodes s) n → is_origin (d.world.nodes s).role ≡ false → AllByRecursion Goes more
      → MovesBetween p s d (record d { world = target_with d.world s n o more })
  other_passes n o more takes receives all =
      let w : World = d.world in
      let v : World = target_with w s n o more in
      passes_by s v (inr refl) (record {
        site = record {
          sites = refl;
          nodes = λ i apart. updated_other w.nodes s i n apart;
          node = subst (λ (k : Node). TakesOf p (w.nodes s) k) (sym (at_place w.nodes s n)) takes;
          still = λ origin. let same : true ≡ false = sym origin ∙ receives in absurd (cc);
          gathering = λ i apart. updated_other w.gathering s i o apart;
          lines = λ l. refl;
          promised = refl;
          more = more;
          sent = refl;
          all = all;
        };
        link = link_same p s w v (λ i k. refl);
        headers = λ i apart. refl;
        written = omega arith;
      })

  to_second : (number : ℕ) (q : Packet) → MayTake d.world number q → IsSent p s q → (q.source ≡ p) × (q.target ≡ s)
  to_second number q takes (inl (from, to, update)) = (from, to)
  to_second number q takes (inr (from, other)) = let same : true ≡ false = sym (ap is_update takes.message) ∙ other in absurd (cc)

  pub takes_other : (number : ℕ) (q : Packet) (x : Write) (takes : MayTake d.world number q) → IsSent p s q
      → MovesBetween p s d (record d { world = taken_with d.world q takes.count x })
  takes_other number q x takes sent =
      let ends = to_second number q takes sent in
      let receives : is_origin (d.world.nodes s).role ≡ false = subst (λ (t : ℕ). is_origin (d.world.nodes t).role ≡ false) ends.1 takes.receives in
      let more : List Packet = packets_of q.target q.source (d.world.nodes q.target).line (NetAck (d.world.nodes q.target).session takes.count) in
      subst (λ (t : ℕ). MovesBetween p s d (record d { world = target_with d.world t (with_write (d.world.nodes t) q.source x) None more })) (sym ends.1)
      (subst (λ (f : ℕ). MovesBetween p s d (record d { world = target_with d.world s (with_write (d.world.nodes s) f x) None more })) (sym ends.0)
      (other_passes (with_write (d.world.nodes s) p x) None more (takes_written p (d.world.nodes s) x) receives (acks q ends.0 ends.1 takes.count)))

  pub keeps_other : (number : ℕ) (q : Packet) → MayTake d.world number q → IsSent p s q → MovesBetween p s d (record d { world = kept_with d.world q })
  keeps_other number q takes sent =
      let ends = to_second number q takes sent in
      let receives : is_origin (d.world.nodes s).role ≡ false = subst (λ (t : ℕ). is_origin (d.world.nodes t).role ≡ false) ends.1 takes.receives in
      let o : Option Gathering = Some (record { key = key_of q; came = came_after (d.world.gathering q.target) q }) in
      subst (λ (t : ℕ). MovesBetween p s d (record d { world = target_with d.world t (d.world.nodes t) o [] })) (sym ends.1)
      (other_passes (d.world.nodes s) o [] (takes_same p (d.world.nodes s)) receives tt)

-- ---- several

module _ (p s : ℕ) (d e f : Doubted) where
  pub passes_then : MovesBetween p s d e → MovesBetween p s e f → MovesBetween p s d f
  passes_then a b =
      let m : Link = f.world.links p s in
      record {
        apart = a.apart;
        up = a.up;
        linked = a.linked;
        sites = b.sites ∙ a.sites;
        nodes = λ i apart. b.nodes i apart ∙ a.nodes i apart;
        takes = takes_then p (d.world.nodes s) (e.world.nodes s) (f.world.nodes s) a.takes b.takes;
        rows = λ i k apart. b.rows i k apart ∙ a.rows i k apart;
        links = λ k apart. b.links k apart ∙ a.links k apart;
        moves = record {
          rest =
              b.moves.rest
              ∙ ap (λ (x : Link). let y : Link = record x { session = m.session; net = m.net; stored = m.stored; sent = m.sent; since = m.since } in y) a.moves.rest;
          session = let first = a.moves.session in let second = b.moves.session in omega (arith, first, second);
          stored = let first = a.moves.stored in let second = b.moves.stored in omega (arith, first, second);
        };
        headers = λ i apart. b.headers i apart ∙ a.headers i apart;
        written = let first = a.written in let second = b.written in omega (arith, first, second);
        gathering = λ i apart other. b.gathering i apart other ∙ a.gathering i apart other;
        lines = λ l. b.lines l ∙ a.lines l;
        promised = b.promised ∙ a.promised;
        more = a.more ++ b.more;
        sent = b.sent ∙ ap (λ (ps : List Packet). ps ++ b.more) a.sent ∙ append_assoc d.world.packets a.more b.more;
        all = each_append (GoesOn p s d.world) a.more b.more a.all (each_weaker (GoesOn p s e.world) (GoesOn p s d.world) (went p s d e a) b.more b.all);
        after = λ i. b.after i ∙ a.after i;
        strayed = b.strayed ∙ a.strayed;
      }

module _ (p s : ℕ) (d e : Doubted) (m : MovesBetween p s d e) where
  -- it may go on
  pub still_may : MayMove p s d.world → MayMove p s e.world
  still_may may =
      let can : CanSettle d.world p s = may.can in
      let same : e.world.nodes p ≡ d.world.nodes p = m.nodes p (λ (here : p ≡ s). m.apart (sym here)) in
      record {
        can = record {
          first = subst (λ (n : ℕ). p < n) (sym m.sites) can.first;
          second = subst (λ (n : ℕ). s < n) (sym m.sites) can.second;
          apart = can.apart;
          here = ap (λ (n : Node). n.state) same ∙ can.here;
          there = ap (λ (n : Node). n.state) m.takes.rest ∙ can.there;
          runs_here = ap (λ (n : Node). n.halted) same ∙ can.runs_here;
          runs_there = ap (λ (n : Node). n.halted) m.takes.rest ∙ can.runs_there;
          sender = ap (λ (n : Node). is_origin n.role) same ∙ can.sender;
          secondary = ap (λ (n : Node). n.role) m.takes.rest ∙ can.secondary;
          line = ap (λ (n : Node). n.line) m.takes.rest ∙ can.line ∙ sym (ap (λ (n : Node). n.line) same);
          linked = ap (λ (l : Link). is_linked l) m.moves.rest ∙ can.linked;
          bunker = ap (λ (l : Link). l.bunker) m.moves.rest ∙ can.bunker;
          attached = ap (λ (l : Link). l.attached) m.moves.rest ∙ can.attached;
          connected = ap (λ (l : Link). l.connected) m.moves.rest ∙ can.connected;
          running = ap (λ (l : Link). l.paused) m.moves.rest ∙ can.running;
          mode = ap (λ (l : Link). l.mode) m.moves.rest ∙ can.mode;
        };
        trimmed = ap (λ (l : Link). l.trimmed) m.moves.rest ∙ may.trimmed;
      }

  -- a fuse that is set was so
  pub still_fused : (i : ℕ) → IsFused (e.world.nodes i).fuse → IsFused (d.world.nodes i).fuse
  still_fused i fused = by_site (eqb i s) refl
    where
      by_site : (b : Bool) → eqb i s ≡ b → IsFused (d.world.nodes i).fuse
      by_site true here =
          let at : (e.world.nodes s).fuse ≡ (d.world.nodes s).fuse = ap (λ (n : Node). n.fuse) m.takes.rest in
          subst (λ (j : ℕ). IsFused (e.world.nodes j).fuse → IsFused (d.world.nodes j).fuse) (sym (eqb_equal i s here)) (λ (g : IsFused (e.world.nodes s).fuse). subst IsFused at g) fused
      by_site false there = subst IsFused (ap (λ (n : Node). n.fuse) (m.nodes i (eqb_apart i s there))) fused

  -- a packet that was sent since is one that settling sends
  pub sent_since : (k : ℕ) (q : Packet) → length d.world.packets ≤ k → packet_at e.world.packets (suc k) ≡ Some q → IsSent p s q
  sent_since k q least at =
      let there = among d.world.packets k least (subst (λ (ps : List Packet). slice_get ps k ≡ Some q) m.sent (packet_found e.world.packets k q at)) in
      is_sent p s d.world q (each_found (GoesOn p s d.world) m.more there.0 q there.1 m.all)
    where
      among : (xs : List Packet) (j : ℕ) → length xs ≤ j → slice_get (xs ++ m.more) j ≡ Some q → (i : ℕ) × (slice_get m.more i ≡ Some q)
      among [] j long is = (j, is)
      among (x ∷ xs) zero long is = absurd (omega (arith, long))
      among (x ∷ xs) (suc j) long is = among xs j (omega (arith, long)) is

-- ---- a line

pub may_move : (d : Doubted) (p s : ℕ) → LinksFit d → CanSettle d.world p s → MayMove p s d.world
may_move d p s fit can = record { can = can; trimmed = ((fit.rows p).plain s can.linked).trimmed }

module _ (told : Type 0) (d middle : Doubted) (p s : List ℕ) (moves : MovesBetween (site_number d.world p) (site_number d.world s) d middle) where
  pub line_finds : (fails : Fails) (said : Said) (last new : Doubted) → (told → d.strayed ≡ false → ⊥) → EndsBetween (site_number d.world p) (site_number d.world s) d middle fails said last
      → AreLeft (Settle p s) d last new → LinkEnds told d (Settle p s) fails said new
  line_finds fails said last new untold ends left = LinksFind untold last (SettlesOther p s middle refl moves ends) left

  pub line_short : (new : Doubted) → (told → d.strayed ≡ false → ⊥) → AreLeft (Settle p s) d middle new → StopsShort told d (Settle p s) new
  line_short new untold left = StopsBetween untold p s middle refl moves left

pub moved_fits : (d middle : Doubted) (p s : List ℕ) → MovesBetween (site_number d.world p) (site_number d.world s) d middle → LinksFit d → LinksFit middle
moved_fits d middle p s moves fit =
    fit_finds d (Settle p s) [] (Refused (Limit Number MOST_NUMBER)) middle (SettlesOther p s middle refl moves (GivesUp (Limit Number MOST_NUMBER) (inr refl) refl refl refl)) fit
