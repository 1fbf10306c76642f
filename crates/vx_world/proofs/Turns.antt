-- A turn of settling raises what is stored, and turns come to an end.
use Rattle.std.proofs.Common.{◌≡◌, ℕ, zero, suc, ◌+◌, ◌*◌, ◌/◌, ◌-◌, ◌≤◌, ◌<◌, List, [], ◌∷◌, ◌++◌, length, take, drop, refl, ap, sym, ◌∙◌, subst, arith, Bool, true, false, ◌⊎◌, inl, inr, length-append}
use Rattle.std.specs.Prelude.{ltb, eqb, max, min, pred, slice_get, Some, if◌then◌else◌}
use Rattle.std.proofs.lemmas.Bool.Decides.{nat_tests}
use Rattle.std.proofs.Math.Nat.{lt-div-mul-add}
use Rattle.std.proofs.Math.Numerals.{sub-one}
use Rattle.std.proofs.lemmas.Nat.{div_below}
use Rattle.std.proofs.lemmas.List.{length-take, length-drop, append-nil}
use Rattle.std.specs.List.{AllByRecursion}
use Rattle.vx_model.specs.Content.{Write, blocks_in}
use Rattle.vx_model.specs.declared.history.Line.{Line}
use Rattle.vx_model.specs.declared.limits.TheConstants.{MOST_AHEAD, MOST_CALL_BLOCKS, MOST_PACKETS}
use Rattle.vx_history.specs.World.{World, Node, Link, Packet, Update, DataAck, no_regions}
use Rattle.vx_model.specs.declared.site.Mark.{Mark}
use Rattle.vx_model.proofs.Tests.{by_bool}
use Rattle.vx_history.specs.declared.event.Event.{Event}
use Rattle.vx_history.specs.declared.event.Event.TheVariants.{Apply, Pump, Tick, Deliver}
use Rattle.vx_history.proofs.Updates.{eqb_equal}
use Rattle.vx_history.specs.Sends.{packet, updates, between, further_parts}
use Rattle.vx_history.specs.Events.{applied}
use Rattle.vx_history.specs.Step.{step, run}
use Rattle.vx_history.specs.Settling.{is_between, deliver_between, deliver_new, delivery}
use Rattle.vx_world.proofs.Pair.{At, Fit}
use Rattle.vx_world.proofs.Told.{tick_at, pump_at, pump_none, disk_at}
use Rattle.vx_world.proofs.ToldApart.{apply_none, apply_all}
use Rattle.vx_world.proofs.Batches.{deliver_each, all_between, between_back, between_none, updates_between, in_new, fit_log, fit_link, fit_since}
use Rattle.vx_world.proofs.Arriving.{Arrived, Told, parts_length, acks_between, updates_any, acks_any}

pub run_append : (w : World) (xs ys : List Event) → run w (xs ++ ys) ≡ run (run w xs) ys
run_append w [] ys = refl
run_append w (x ∷ xs) ys = run_append (step w x).world xs ys

drop_front : (xs ys : List Packet) → drop (length xs) (xs ++ ys) ≡ ys
drop_front [] ys = refl
drop_front (x ∷ xs) ys = drop_front xs ys

-- what is new is what was sent
pub new_between : (p s : ℕ) (old w : World) (ps more : List Packet) → old.packets ≡ ps → w.packets ≡ ps ++ more
    → deliver_new p s old w ≡ deliver_between p s (length ps) more
new_between p s old w ps more e f =
    ap (λ (x : List Packet). deliver_between p s (length x) (drop (length x) w.packets)) e
    ∙ ap (λ (x : List Packet). deliver_between p s (length ps) (drop (length ps) x)) f
    ∙ ap (λ (x : List Packet). deliver_between p s (length ps) x) (drop_front ps more)

-- and each of it is delivered, where it goes between the two sites
pub new_is : (p s : ℕ) (old w : World) (ps more : List Packet) → old.packets ≡ ps → w.packets ≡ ps ++ more
    → AllByRecursion (λ q. is_between p s q ≡ true) more → deliver_new p s old w ≡ deliver_each (length ps) more
new_is p s old w ps more e f are = new_between p s old w ps more e f ∙ all_between p s (length ps) more are

-- nothing is new
pub nothing_new : (p s : ℕ) (old w : World) (ps : List Packet) → old.packets ≡ ps → w.packets ≡ ps → deliver_new p s old w ≡ []
nothing_new p s old w ps e f = new_between p s old w ps [] e (f ∙ sym (append-nil ps))

length_between : (low high : ℕ) (log : List Write) → low < high → high ≤ length log → 0 < length (between (low + 1) high log)
length_between low high log less most = some (low + 1) (take high log) (omega (arith, less, most, length-take high log)) (omega arith)
  where
    some : (n : ℕ) (xs : List Write) → n ≤ length xs → 0 < n → 0 < length (drop (pred n) xs)
    some n xs h k = omega (arith, h, k, length-drop (pred n) xs)

-- ## The updates of a turn are few

-- a write of as many blocks as a call may have
abbrev pub IsSmall : Write → Type 0
IsSmall x = blocks_in x.bytes ≤ MOST_CALL_BLOCKS

small_parts : (number : ℕ) (x : Write) → IsSmall x → further_parts (Update number x) ≤ 8
small_parts number x small =
    let long : length x.bytes < length x.bytes / 512 * 512 + 512 = lt-div-mul-add (let some : 0 < 512 = omega arith in some) in
    let few : (16 + length x.bytes + 1023) / 1024 < 10 = div_below (16 + length x.bytes + 1023) 1024 10 (omega arith) (omega (arith, long, small)) in
    less ((16 + length x.bytes + 1023) / 1024) few
  where
    less : (n : ℕ) → n < 10 → pred n ≤ 8
    less n few = subst (λ (i : ℕ). i ≤ 8) (sub-one n) (omega (arith, few))

updates_short : (p s : ℕ) (line : Line) (n : ℕ) (xs : List Write) → AllByRecursion IsSmall xs → length (updates p s line n xs) ≤ 9 * length xs
updates_short p s line n [] small = omega arith
updates_short p s line n (x ∷ xs) (here, rest) =
    let parts : length (updates p s line n (x ∷ xs)) ≡ suc (further_parts (Update n x)) + length (updates p s line (n + 1) xs) = parts_length p s line n x 0
    (suc (further_parts (Update n x))) (updates p s line (n + 1) xs) in
    omega (arith, parts, small_parts n x here, updates_short p s line (n + 1) xs rest)

small_drop : (n : ℕ) (xs : List Write) → AllByRecursion IsSmall xs → AllByRecursion IsSmall (drop n xs)
small_drop zero xs small = small
small_drop (suc n) [] small = tt
small_drop (suc n) (x ∷ xs) (here, rest) = small_drop n xs rest

small_take : (n : ℕ) (xs : List Write) → AllByRecursion IsSmall xs → AllByRecursion IsSmall (take n xs)
small_take zero xs small = tt
small_take (suc n) [] small = tt
small_take (suc n) (x ∷ xs) (here, rest) = (here, small_take n xs rest)

-- at most 8 updates
few_between : (low high : ℕ) (log : List Write) → high ≤ low + 8 → length (between (low + 1) high log) ≤ 8
few_between low high log most =
    let front : length (take high log) ≤ high = omega (arith, length-take high log) in
    omega (arith, most, length-drop (pred (low + 1)) (take high log), front)

is_less : (m n : ℕ) → ltb m n ≡ true → m < n
is_less m n h = grind (arith, nat_tests)

is_least : (m n : ℕ) → ltb m n ≡ false → n ≤ m
is_least m n h = grind (arith, nat_tests)

module _ (p s : ℕ) (a b : Node) (l : Link) (ps : List Packet) (fits : b.safe ≤ length b.log) (whole : a.safe ≤ length a.log)
    (small : AllByRecursion IsSmall a.log) (fit : Fit p s a b l) (session : l.session ≡ b.session) (net : l.net ≡ length b.log)
    (stored : l.stored ≡ b.safe) where
  -- what was sent in a turn: the updates that the receiver may lack, from its next number on
  pub record Sent (w : World) : Type 0 where
    pub high : ℕ
    pub writes : List Write
    pub at : At w p s a b (record l { sent = high; trimmed = 0; since = no_regions }) (ps ++ updates p s a.line (length b.log + 1) writes)
    pub some : length b.log < a.safe → 0 < length writes
    pub few : length (updates p s a.line (length b.log + 1) writes) ≤ MOST_PACKETS

  pub sends : (w : World) → At w p s a b l ps → Sent (run w (Tick p s ∷ Pump p s ∷ []))
  sends w at =
      let high : ℕ = min a.safe (l.net + MOST_AHEAD) in
      let v : World = (step w (Tick p s)).world in
      let m : Link = record l { sent = l.net; trimmed = 0; since = no_regions } in
      let at_v : At v p s a b m ps = tick_at w p s a b l ps at fit in
      let fit_v : Fit p s a b m = fit_since p s a b (record l { sent = l.net; trimmed = 0 }) no_regions (fit_link p s a b l l.session l.net l.stored l.net 0 fit) in
      by_bool (ltb (length b.log) high)
      (λ less. record {
        high = high;
        writes = between (length b.log + 1) high a.log;
        at = pump_at v p s a b m ps at_v fit_v (length b.log) high (omega (arith, net, stored, fits)) refl (is_less (length b.log) high less);
        some = λ _. length_between (length b.log) high a.log (is_less (length b.log) high less) (omega (arith, whole));
        few = omega (
          arith,
          few_between (length b.log) high a.log (omega (arith, net)),
          updates_short p s a.line (length b.log + 1) (between (length b.log + 1) high a.log)
              (small_drop (pred (length b.log + 1)) (take high a.log) (small_take high a.log small)),
        );
      })
      (λ least. record {
        high = l.net;
        writes = [];
        at = subst (λ (x : List Packet). At (step v (Pump p s)).world p s a b m x) (sym (append-nil ps))
            (pump_none v p s a b m ps at_v fit_v (omega (arith, net, stored, fits)) (omega (arith, net, is_least (length b.log) high least)));
        some = λ below. absurd (omega (arith, below, net, is_least (length b.log) high least));
        few = omega arith;
      })

  -- what came of it: the receiver has so many writes more, and the link knows it
  pub record Came (w : World) : Type 0 where
    pub count : ℕ
    pub log : List Write
    pub fed : ℕ
    pub high : ℕ
    pub packets : List Packet
    pub at : At w p s a (record b { log = log; fed_by = fed }) (record l { net = l.net + count; sent = high; trimmed = 0; since = no_regions }) packets
    pub grown : length log ≡ length b.log + count
    pub some : length b.log < a.safe → ltb (length b.log - b.safe) 16 ≡ true → 0 < count

  pub comes : (v w : World) → At v p s a b l ps → Sent w → Came (run w (delivery p s v w))
  comes v w at st =
      let batch : List Packet = updates p s a.line (length b.log + 1) st.writes in
      let m : Link = record l { sent = st.high; trimmed = 0; since = no_regions } in
      let fit_m : Fit p s a b m = fit_since p s a b (record l { sent = st.high; trimmed = 0 }) no_regions (fit_link p s a b l l.session l.net l.stored st.high 0 fit) in
      let first : World = run w (deliver_each (length ps) batch) in
      let came : Arrived p s a b m (ps ++ batch) st.writes (length batch) first =
      updates_any p s a st.writes (length ps) (length b.log + 1) w b m (ps ++ batch) st.at fit_m (in_new ps batch) refl
      (omega (arith, st.few, length-append ps batch)) in
      let log : List Write = b.log ++ take came.count st.writes in
      let c : Node = record b { log = log; fed_by = came.fed } in
      let all : List Packet = (ps ++ batch) ++ came.acks in
      let second : World = run first (deliver_each (length (ps ++ batch)) came.acks) in
      let told : Told p s a c m all (length b.log + came.count) came.acks second =
      acks_any p s a c came.acks (length (ps ++ batch)) (length b.log + came.count) first m all came.at (fit_log p s a b m log came.fed fit_m)
      (in_new (ps ++ batch) came.acks) came.are session (omega (arith, net))
      (omega (arith, came.short, st.few, length-append (ps ++ batch) came.acks)) in
      let known : told.net ≡ l.net + came.count = knows came.count told.net told.rises told.most (λ some. told.all (came.last some)) in
      let over : Came second = record {
        count = came.count;
        log = log;
        fed = came.fed;
        high = st.high;
        packets = all;
        at = subst (λ (i : ℕ). At second p s a c (record l { net = i; sent = st.high; trimmed = 0; since = no_regions }) all) known told.at;
        grown = omega (arith, length-append b.log (take came.count st.writes), length-take came.count st.writes, came.few);
        some = λ below room. came.some (st.some below) room;
      } in
      subst Came (sym (run_append w (deliver_new p s v w) (deliver_new p s w (run w (deliver_new p s v w)))))
      (subst (λ (es : List Event). Came (run (run w es) (deliver_new p s w (run w es))))
      (sym (new_is p s v w ps batch at.sent st.at.sent (updates_between p s a.line (length b.log + 1) st.writes)))
      (subst (λ (es : List Event). Came (run first es))
      (sym (new_is p s w first (ps ++ batch) came.acks st.at.sent came.at.sent (acks_between p s b.line b.session (length b.log + came.count) came.acks came.are)))
      over))
    where
      knows : (count now : ℕ) → l.net ≤ now → now ≤ length b.log + count → (0 < count → now ≡ length b.log + count) → now ≡ l.net + count
      knows zero now least most all = omega (arith, least, most, net)
      knows (suc k) now least most all = omega (arith, all (omega arith), net)

-- A turn is over: all that the receiver has is on its disks. The link knows it, or counts as stored what it counted, where the receiver told
-- another site.
pub record Turned (p s : ℕ) (a b : Node) (l : Link) (w : World) : Type 0 where
  pub site : Node
  pub link : Link
  pub packets : List Packet
  pub at : At w p s a site link packets
  pub fit : Fit p s a site link
  pub session : link.session ≡ site.session
  pub net : link.net ≡ length site.log
  pub stored : (link.stored ≡ site.safe) ⊎ (link.stored ≡ l.stored)
  pub whole : site.safe ≡ length site.log
  pub grown : length b.log ≤ length site.log
  pub some : length b.log < a.safe → ltb (length b.log - b.safe) 16 ≡ true → length b.log < length site.log
  pub role : site.role ≡ b.role
  pub bunker : link.bunker ≡ l.bunker

pub fit_applied : (p s : ℕ) (a b : Node) (l : Link) (number : ℕ) (mark : Mark) → Fit p s a b l → Fit p s a (applied b number mark) l
fit_applied p s a b l number mark fit = record {
  apart = fit.apart;
  up_a = fit.up_a;
  up_b = fit.up_b;
  runs_a = fit.runs_a;
  runs_b = fit.runs_b;
  sends = fit.sends;
  receives = fit.receives;
  line = fit.line;
  takes = fit.takes;
  linked = fit.linked;
  attached = fit.attached;
  connected = fit.connected;
  running = fit.running;
  mode = fit.mode;
}

module _ (p s : ℕ) (a b : Node) (l : Link) (ps : List Packet) (fits : b.safe ≤ length b.log) (whole : a.safe ≤ length a.log)
    (small : AllByRecursion IsSmall a.log) (fit : Fit p s a b l) (session : l.session ≡ b.session) (net : l.net ≡ length b.log)
    (stored : l.stored ≡ b.safe) where
  pub closes : (w : World) → Came p s a b l ps fits whole small fit session net stored w
      → let x = run w (Apply s (length (w.nodes s).log - (w.nodes s).safe) 0 ∷ []) in Turned p s a b l (run x (delivery p s w x))
  closes w came =
      let n : Node = record b { log = came.log; fed_by = came.fed } in
      subst (λ (y : Node). let x = run w (Apply s (length y.log - y.safe) 0 ∷ []) in Turned p s a b l (run x (delivery p s w x))) (sym came.at.at_s)
      (by_bool (eqb (length came.log - b.safe) 0) (λ none. at_rest (is_none (length came.log - b.safe) none))
      (λ some. at_work (is_some (length came.log - b.safe) some)))
    where
      is_none : (m : ℕ) → eqb m 0 ≡ true → m ≡ 0
      is_none m h = grind (arith, nat_tests)

      is_some : (m : ℕ) → eqb m 0 ≡ false → 0 < m
      is_some m h = grind (arith, nat_tests)

      fit_came : Fit p s a (record b { log = came.log; fed_by = came.fed }) (record l { net = l.net + came.count; sent = came.high; trimmed = 0; since = no_regions })
      fit_came = fit_log p s a b (record l { net = l.net + came.count; sent = came.high; trimmed = 0; since = no_regions }) came.log came.fed
          (fit_since p s a b (record l { net = l.net + came.count; sent = came.high; trimmed = 0 }) no_regions
          (fit_link p s a b l l.session (l.net + came.count) l.stored came.high 0 fit))

      at_rest : length came.log - b.safe ≡ 0 → (let x = run w (Apply s (length came.log - b.safe) 0 ∷ []) in Turned p s a b l (run x (delivery p s w x)))
      at_rest none =
          let n : Node = record b { log = came.log; fed_by = came.fed } in
          let m : Link = record l { net = l.net + came.count; sent = came.high; trimmed = 0; since = no_regions } in
          let x : World = run w (Apply s (length came.log - b.safe) 0 ∷ []) in
          let at_x : At x p s a n m came.packets = apply_none w p s a n m came.packets came.at fit_came (length came.log - b.safe) none in
          let quiet : deliver_new p s w x ≡ [] = nothing_new p s w x came.packets came.at.sent at_x.sent in
          let over : Turned p s a b l x = record {
            site = n;
            link = m;
            packets = came.packets;
            at = at_x;
            fit = fit_came;
            session = session;
            net = omega (arith, net, came.grown);
            stored = inl stored;
            whole = omega (arith, none, fits, came.grown);
            grown = omega (arith, came.grown);
            some = λ below room. omega (arith, came.grown, came.some below room);
            role = refl;
            bunker = refl;
          } in
          subst (λ (es : List Event). Turned p s a b l (run x (es ++ deliver_new p s x (run x es)))) (sym quiet)
          (subst (λ (es : List Event). Turned p s a b l (run x es)) (sym (nothing_new p s x x came.packets at_x.sent at_x.sent)) over)

      -- the records are applied, and the receiver tells the link's site
      told_back : came.fed ≡ p → 0 < length came.log - b.safe
          → (let x = run w (Apply s (length came.log - b.safe) 0 ∷ []) in Turned p s a b l (run x (delivery p s w x)))
      told_back back some =
          let n : Node = record b { log = came.log; fed_by = came.fed } in
          let m : Link = record l { net = l.net + came.count; sent = came.high; trimmed = 0; since = no_regions } in
          let x : World = run w (Apply s (length came.log - b.safe) 0 ∷ []) in
          let done = apply_all w p s a n m came.packets came.at fit_came (length came.log - b.safe) refl some in
          let mark : Mark = done.0 in
          let z : Node = applied n (length came.log) mark in
          let ack : Packet = packet s p b.line (DataAck (length came.log)) 0 in
          let at_x : At x p s a z m (came.packets ++ ack ∷ []) =
          subst (λ (q : ℕ). At x p s a z m (came.packets ++ packet s q b.line (DataAck (length came.log)) 0 ∷ [])) back done.1 in
          let fit_x : Fit p s a z m = fit_applied p s a n m (length came.log) mark fit_came in
          let u : World = run x (deliver_each (length came.packets) (ack ∷ [])) in
          let link : Link = record m { stored = length came.log; net = max m.net (length came.log) } in
          let at_u : At u p s a z link (came.packets ++ ack ∷ []) =
          disk_at x p s a z m (came.packets ++ ack ∷ []) at_x fit_x (length came.packets) (length came.log)
          (omega (arith, length-append came.packets (ack ∷ [])))
          (first came.packets ack) (omega (arith, stored, some)) in
          let over : Turned p s a b l u = record {
            site = z;
            link = link;
            packets = came.packets ++ ack ∷ [];
            at = at_u;
            fit = fit_link p s a z m m.session (max m.net (length came.log)) (length came.log) m.sent m.trimmed fit_x;
            session = session;
            net = omega (arith, net, came.grown);
            stored = inl refl;
            whole = refl;
            grown = omega (arith, came.grown);
            some = λ below room. omega (arith, came.grown, came.some below room);
            role = refl;
            bunker = refl;
          } in
          subst (λ (es : List Event). Turned p s a b l (run x (es ++ deliver_new p s x (run x es))))
          (sym (new_is p s w x came.packets (ack ∷ []) came.at.sent at_x.sent (between_back p s b.line (DataAck (length came.log)) 0, tt)))
          (subst (λ (v : World). Turned p s a b l v) (sym (run_append x (deliver_each (length came.packets) (ack ∷ [])) (deliver_new p s x u)))
          (subst (λ (es : List Event). Turned p s a b l (run u es)) (sym (nothing_new p s x u (came.packets ++ ack ∷ []) at_x.sent at_u.sent)) over))
        where
          first : (xs : List Packet) (y : Packet) → slice_get (xs ++ y ∷ []) (length xs) ≡ Some y
          first [] y = refl
          first (x ∷ xs) y = first xs y

      -- it tells another site: of what is stored the link hears nothing
      told_apart : eqb came.fed p ≡ false → 0 < length came.log - b.safe
          → (let x = run w (Apply s (length came.log - b.safe) 0 ∷ []) in Turned p s a b l (run x (delivery p s w x)))
      told_apart other some =
          let n : Node = record b { log = came.log; fed_by = came.fed } in
          let m : Link = record l { net = l.net + came.count; sent = came.high; trimmed = 0; since = no_regions } in
          let x : World = run w (Apply s (length came.log - b.safe) 0 ∷ []) in
          let done = apply_all w p s a n m came.packets came.at fit_came (length came.log - b.safe) refl some in
          let mark : Mark = done.0 in
          let z : Node = applied n (length came.log) mark in
          let ack : Packet = packet s came.fed b.line (DataAck (length came.log)) 0 in
          let at_x : At x p s a z m (came.packets ++ ack ∷ []) = done.1 in
          let quiet : deliver_new p s w x ≡ [] =
          new_between p s w x came.packets (ack ∷ []) came.at.sent at_x.sent
          ∙ ap (λ (c : Bool). if c then Deliver (suc (length came.packets)) ∷ [] else [])
          (between_none p s came.fed b.line (DataAck (length came.log)) 0 fit.apart other) in
          let over : Turned p s a b l x = record {
            site = z;
            link = m;
            packets = came.packets ++ ack ∷ [];
            at = at_x;
            fit = fit_applied p s a n m (length came.log) mark fit_came;
            session = session;
            net = omega (arith, net, came.grown);
            stored = inr refl;
            whole = refl;
            grown = omega (arith, came.grown);
            some = λ below room. omega (arith, came.grown, came.some below room);
            role = refl;
            bunker = refl;
          } in
          subst (λ (es : List Event). Turned p s a b l (run x (es ++ deliver_new p s x (run x es)))) (sym quiet)
          (subst (λ (es : List Event). Turned p s a b l (run x es)) (sym (nothing_new p s x x (came.packets ++ ack ∷ []) at_x.sent at_x.sent)) over)

      at_work : 0 < length came.log - b.safe → (let x = run w (Apply s (length came.log - b.safe) 0 ∷ []) in Turned p s a b l (run x (delivery p s w x)))
      at_work some = by_bool (eqb came.fed p) (λ back. told_back (eqb_equal came.fed p back) some) (λ other. told_apart other some)
