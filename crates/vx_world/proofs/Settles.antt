-- Settling a link ends with all that is durable stored at its receiver.
use Rattle.std.proofs.Common.{◌≡◌, ℕ, zero, suc, ◌+◌, ◌-◌, ◌≤◌, ◌<◌, List, [], ◌∷◌, ◌++◌, length, refl, ap, sym, ◌∙◌, subst, arith, Bool, true, false, inl, inr, length-append}
use Rattle.std.specs.Prelude.{if◌then◌else◌, leb, ltb, Some, slice_get}
use Rattle.std.proofs.lemmas.Bool.Decides.{nat_tests}
use Rattle.std.proofs.lemmas.List.{length-take}
use Rattle.vx_model.specs.Content.{Write}
use Rattle.vx_history.specs.World.{World, Node, Link, Packet, Hello}
use Rattle.vx_model.specs.Sites.{is_origin}
use Rattle.vx_history.specs.Good.{IsMade}
use Rattle.vx_model.specs.declared.history.Line.{Line}
use Rattle.vx_model.specs.declared.limits.TheConstants.{MOST_WAITING}
use Rattle.vx_model.specs.declared.link.Mode.{Mode}
use Rattle.vx_model.specs.declared.site.Role.TheVariants.{Secondary}
use Rattle.vx_history.proofs.GoodLemmas.{up_is_made, made_is_given}
use Rattle.vx_history.proofs.StateCases.{origin_keeps}
use Rattle.vx_history.proofs.Updates.{by_test}
use Rattle.vx_history.specs.declared.event.Event.{Event}
use Rattle.vx_history.specs.declared.event.Event.TheVariants.{Apply, Pump, Tick, Connect}
use Rattle.vx_history.specs.Sends.{packet, is_linked}
use Rattle.vx_history.specs.Step.{step, run}
use Rattle.vx_history.specs.Settling.{delivery, greeting_events, is_stuck, turn, turns, settling, MaySettle, IsMet}
use Rattle.vx_history.specs.Sound.{Sound, GoodLink, IsFollowed}
use Rattle.vx_history.specs.GoodCopies.{GoodMode}
use Rattle.vx_history.specs.Fits.{WriteFits}
use Rattle.vx_history.specs.GoodWorld.{GoodWorld}
use Rattle.std.specs.List.{AllByRecursion}
use Rattle.vx_world.proofs.Lists.{prefix_length, each_weaker}
use Rattle.vx_world.proofs.Pair.{At, Fit, places_in, itself}
use Rattle.vx_world.proofs.ToldApart.{connect_at, hello_at}
use Rattle.vx_world.proofs.Batches.{deliver_each, between_back, fit_link}
use Rattle.vx_world.proofs.Turns.{IsSmall, run_append, new_is, Sent, sends, Came, comes, Turned, closes}
use Rattle.vx_world.proofs.Whole.{run_good}

not_past : (a b : ℕ) → b < a → leb a b ≡ false
not_past a b h = grind (arith, nat_tests)

-- what a good world says of a link that may be settled
module _ (w : World) (p s : ℕ) (good : GoodWorld w) (may : MaySettle w p s) where
  sound : Sound w
  sound = good.sound

  origin : is_origin (w.nodes p).role ≡ true
  origin = may.sender

  receiver : is_origin (w.nodes s).role ≡ false
  receiver = ap is_origin may.secondary

  followed : IsFollowed (w.nodes p) (w.nodes s) (w.links p s)
  followed = (may.linked, receiver, may.line)

  made_p : IsMade (w.nodes p)
  made_p = up_is_made (w.nodes p) may.here

  made_s : IsMade (w.nodes s)
  made_s = up_is_made (w.nodes s) may.there

  pub fits : Fit p s (w.nodes p) (w.nodes s) (w.links p s)
  fits = record {
    apart = (sound.links p s).apart may.linked;
    up_a = may.here;
    up_b = may.there;
    runs_a = may.runs_here;
    runs_b = may.runs_there;
    sends = origin_keeps (w.nodes p).role origin;
    receives = receiver;
    line = may.line;
    takes = (subst (λ (m : Mode). GoodMode (w.lines (w.nodes p).line).held ((w.lines (w.nodes p).line).replays s) (w.nodes s) (w.links p s).map (w.links p s).stored m) may.mode ((sound.links p s).says origin followed)).1;
    linked = may.linked;
    attached = may.attached;
    connected = may.connected;
    running = may.running;
    mode = may.mode;
  }

  pub stands : At w p s (w.nodes p) (w.nodes s) (w.links p s) w.packets
  stands = itself w p s (not_past w.sites p (made_is_given w p sound.good made_p)) (not_past w.sites s (made_is_given w s sound.good made_s))
      (places_in s (w.nodes s) w.packets (w.gathering s) (good.gathers.each s))

  -- the writes of the sending site are small
  pub small : AllByRecursion IsSmall (w.nodes p).log
  small = each_weaker (WriteFits (w.nodes p)) IsSmall (λ x h. h.few) (w.nodes p).log (good.fits.logs p)

  -- no more is stored than is durable
  pub stored_most : (w.links p s).stored ≤ (w.nodes p).safe
  stored_most =
      omega (
        arith,
        ((sound.links p s).stored followed).0,
        (sound.good.nodes s).safe_fits,
        prefix_length (w.nodes s).log (w.lines (w.nodes s).line).held ((sound.good.nodes s).receiver_log made_s receiver),
        ap (λ (x : Line). length (w.lines x).held) may.line,
        ap (λ (xs : List Write). length xs) ((sound.good.nodes p).origin_log made_p origin),
        length-take (w.nodes p).safe (w.nodes p).log,
      )

-- what stands under its names may be settled
may_by : (v : World) (p s : ℕ) (a b : Node) (l : Link) (ps : List Packet) → At v p s a b l ps → Fit p s a b l → is_origin a.role ≡ true → b.role ≡ Secondary → l.bunker ≡ false
    → MaySettle v p s
may_by v p s a b l ps at fit sender role bunker = record {
  here = ap (λ (x : Node). x.state) at.at_p ∙ fit.up_a;
  there = ap (λ (x : Node). x.state) at.at_s ∙ fit.up_b;
  runs_here = ap (λ (x : Node). x.halted) at.at_p ∙ fit.runs_a;
  runs_there = ap (λ (x : Node). x.halted) at.at_s ∙ fit.runs_b;
  sender = ap (λ (x : Node). is_origin x.role) at.at_p ∙ sender;
  secondary = ap (λ (x : Node). x.role) at.at_s ∙ role;
  line = ap (λ (x : Node). x.line) at.at_s ∙ fit.line ∙ ap (λ (x : Node). x.line) (sym at.at_p);
  linked = ap is_linked at.at_l ∙ fit.linked;
  bunker = ap (λ (x : Link). x.bunker) at.at_l ∙ bunker;
  attached = ap (λ (x : Link). x.attached) at.at_l ∙ fit.attached;
  connected = ap (λ (x : Link). x.connected) at.at_l ∙ fit.connected;
  running = ap (λ (x : Link). x.paused) at.at_l ∙ fit.running;
  mode = ap (λ (x : Link). x.mode) at.at_l ∙ fit.mode;
}

met_by : (v : World) (p s : ℕ) (a b : Node) (l : Link) (ps : List Packet) → At v p s a b l ps → Fit p s a b l → is_origin a.role ≡ true → b.role ≡ Secondary → l.bunker ≡ false
    → l.session ≡ b.session → l.net ≡ length b.log → l.stored ≡ b.safe → IsMet v p s
met_by v p s a b l ps at fit sender role bunker session net stored = record {
  may = may_by v p s a b l ps at fit sender role bunker;
  session = ap (λ (x : Link). x.session) at.at_l ∙ session ∙ ap (λ (x : Node). x.session) (sym at.at_s);
  net = ap (λ (x : Link). x.net) at.at_l ∙ net ∙ ap (λ (x : Node). length x.log) (sym at.at_s);
  stored = ap (λ (x : Link). x.stored) at.at_l ∙ stored ∙ ap (λ (x : Node). x.safe) (sym at.at_s);
}

-- ## The greeting

-- behind it the two sites have met, and what is durable at each is as it was
pub greeted_meets : (w : World) (p s : ℕ) → GoodWorld w → MaySettle w p s
    → IsMet (run w (greeting_events w p s)) p s × (((run w (greeting_events w p s)).nodes p).safe ≡ (w.nodes p).safe)
    × (((run w (greeting_events w p s)).nodes s).safe ≡ (w.nodes s).safe)
greeted_meets w p s good_w may =
    let sound : Sound w = good_w.sound in
    let a : Node = w.nodes p in
    let b : Node = w.nodes s in
    let l : Link = w.links p s in
    let hello : Packet = packet s p b.line (Hello b.session (length b.log) b.safe) 0 in
    let fit : Fit p s a b l = fits w p s good_w may in
    let at : At w p s a b l w.packets = stands w p s good_w may in
    let v : World = (step w (Connect p s)).world in
    let at_v : At v p s a b l (w.packets ++ hello ∷ []) = connect_at w p s a b l w.packets at fit in
    let good : GoodLink (w.lines a.line) p s a b l = sound.links p s in
    let told = hello_at v p s a b l (w.packets ++ hello ∷ []) at_v fit (length w.packets) (omega (arith, length-append w.packets (hello ∷ [])))
    (first w.packets hello) (good.session may.linked)
    (good.stored (followed w p s good_w may)).0 (sound.good.nodes s).safe_fits
    (λ same. good.net (followed w p s good_w may) (may.there, sym same)) in
    let m : Link = record l { session = b.session; net = length b.log; stored = b.safe; sent = told.0 } in
    subst (λ (es : List Event). IsMet (run v es) p s × (((run v es).nodes p).safe ≡ a.safe) × (((run v es).nodes s).safe ≡ b.safe)) (sym (new_is p s w v w.packets (hello ∷ []) refl at_v.sent (between_back p s b.line (Hello b.session (length b.log) b.safe) 0, tt))) (
      met_by (run v (deliver_each (length w.packets) (hello ∷ []))) p s a b m (w.packets ++ hello ∷ []) told.1
          (fit_link p s a b l b.session (length b.log) b.safe told.0 l.trimmed fit) may.sender may.secondary may.bunker refl refl refl,
      ap (λ (x : Node). x.safe) told.1.at_p,
      ap (λ (x : Node). x.safe) told.1.at_s,
    )
  where
    first : (xs : List Packet) (y : Packet) → slice_get (xs ++ y ∷ []) (length xs) ≡ Some y
    first [] y = refl
    first (x ∷ xs) y = first xs y

-- ## A turn

-- the world in which a turn is over, before it is looked at whether the link heard of it
turned : (w : World) (p s : ℕ) → GoodWorld w → IsMet w p s
    → (v : World) × GoodWorld v × Turned p s (w.nodes p) (w.nodes s) (w.links p s) v
    × (run w (turn w p s) ≡ run v (if is_stuck (w.links p s).stored (v.links p s).stored (v.nodes p).safe then greeting_events v p s else []))
turned w p s good_w met =
    let sound : Sound w = good_w.sound in
    let small_a : AllByRecursion IsSmall (w.nodes p).log = small w p s good_w met.may in
    let a : Node = w.nodes p in
    let b : Node = w.nodes s in
    let l : Link = w.links p s in
    let fit : Fit p s a b l = fits w p s good_w met.may in
    let at : At w p s a b l w.packets = stands w p s good_w met.may in
    let small : b.safe ≤ length b.log = (sound.good.nodes s).safe_fits in
    let head : a.safe ≤ length a.log = (sound.good.nodes p).safe_fits in
    let sent : List Event = Tick p s ∷ Pump p s ∷ [] in
    let w1 : World = run w sent in
    let st : Sent p s a b l w.packets small head small_a fit met.session met.net met.stored w1 = sends p s a b l w.packets small head small_a fit met.session met.net met.stored w at in
    let came : List Event = delivery p s w w1 in
    let w2 : World = run w1 came in
    let c : Came p s a b l w.packets small head small_a fit met.session met.net met.stored w2 = comes p s a b l w.packets small head small_a fit met.session met.net met.stored w w1 at st in
    let applied : List Event = Apply s (length (w2.nodes s).log - (w2.nodes s).safe) 0 ∷ [] in
    let w3 : World = run w2 applied in
    let heard : List Event = delivery p s w2 w3 in
    let w4 : World = run w3 heard in
    let t : Turned p s a b l w4 = closes p s a b l w.packets small head small_a fit met.session met.net met.stored w2 c in
    let last : List Event = if is_stuck l.stored (w4.links p s).stored (w4.nodes p).safe then greeting_events w4 p s else [] in (
      w4,
      run_good w3 heard (run_good w2 applied (run_good w1 came (run_good w sent good_w))),
      t,
      run_append w sent (came ++ (applied ++ (heard ++ last)))
          ∙ run_append w1 came (applied ++ (heard ++ last))
          ∙ run_append w2 applied (heard ++ last)
          ∙ run_append w3 heard last,
    )

waits_none : (safe have head : ℕ) → leb have safe ≡ true → safe < head → have < head
waits_none safe have head e h = grind (arith, nat_tests)

has_room : (safe have : ℕ) → leb have safe ≡ true → ltb (have - safe) MOST_WAITING ≡ true
has_room safe have e = grind (arith, nat_tests)

some_wait : (safe have : ℕ) → leb have safe ≡ false → safe < have
some_wait safe have e = grind (arith, nat_tests)

-- either something waited, or what was sent had room
more : (safe have now head : ℕ) → safe < head → have ≤ now → (have < head → ltb (have - safe) MOST_WAITING ≡ true → have < now) → safe ≤ have → safe < now
more safe have now head below grown some fits = by_cases (leb have safe) refl
  where
    by_cases : (c : Bool) → leb have safe ≡ c → safe < now
    by_cases true e = omega (arith, some (waits_none safe have head e below) (has_room safe have e), fits)
    by_cases false e = omega (arith, grown, some_wait safe have e)

is_told : (before stored head : ℕ) → is_stuck before stored head ≡ false → before < head → stored ≡ before → ⊥
is_told before stored head calm below same = grind (arith, nat_tests)

-- x is w with more stored of what is durable, and the two sites have met there
abbrev Raised : World → (p s : ℕ) → World → Type 0
Raised w p s x = IsMet x p s × ((w.links p s).stored < (x.links p s).stored) × ((x.nodes p).safe ≡ (w.nodes p).safe)

-- What a turn does while less is stored than is durable: the link has heard of what was applied, or hears of it by a greeting.
pub turn_raises : (w : World) (p s : ℕ) → GoodWorld w → IsMet w p s → (w.links p s).stored < (w.nodes p).safe
    → IsMet (run w (turn w p s)) p s × ((w.links p s).stored < ((run w (turn w p s)).links p s).stored) × (((run w
    (turn w p s)).nodes p).safe ≡ (w.nodes p).safe)
turn_raises w p s good_w met below =
    let over = turned w p s good_w met in
    let v : World = over.0 in
    subst (λ (x : World). Raised w p s x) (sym over.3)
    (by_test (λ (es : List Event). Raised w p s (run v es)) (is_stuck (w.links p s).stored (v.links p s).stored (v.nodes p).safe) (greeting_events v p s) []
    (λ _. greets v over.1 over.2)
    (λ calm. rests v over.2 calm))
  where
    -- all that the receiver has is more than was stored
    fuller : (v : World) (t : Turned p s (w.nodes p) (w.nodes s) (w.links p s) v) → (w.links p s).stored < t.site.safe
    fuller v t =
        let b : Node = w.nodes s in
        let more_there : b.safe < length t.site.log = more b.safe (length b.log) (length t.site.log) (w.nodes p).safe
        (omega (arith, below, met.stored)) t.grown t.some (good_w.sound.good.nodes s).safe_fits in
        omega (arith, more_there, t.whole, met.stored)

    may_now : (v : World) (t : Turned p s (w.nodes p) (w.nodes s) (w.links p s) v) → MaySettle v p s
    may_now v t = may_by v p s (w.nodes p) t.site t.link t.packets t.at t.fit met.may.sender (t.role ∙ met.may.secondary) (t.bunker ∙ met.may.bunker)

    greets : (v : World) → GoodWorld v → (t : Turned p s (w.nodes p) (w.nodes s) (w.links p s) v) → Raised w p s (run v (greeting_events v p s))
    greets v good_v t =
        let met_now = greeted_meets v p s good_v (may_now v t) in
        let there : (v.nodes s).safe ≡ t.site.safe = ap (λ (x : Node). x.safe) t.at.at_s in
        let here : (v.nodes p).safe ≡ (w.nodes p).safe = ap (λ (x : Node). x.safe) t.at.at_p in (
          met_now.0,
          omega (arith, fuller v t, there, met_now.2, met_now.0.stored),
          met_now.1 ∙ here,
        )

    rests : (v : World) (t : Turned p s (w.nodes p) (w.nodes s) (w.links p s) v)
        → is_stuck (w.links p s).stored (v.links p s).stored (v.nodes p).safe ≡ false → Raised w p s v
    rests v t calm =
        let here : (v.nodes p).safe ≡ (w.nodes p).safe = ap (λ (x : Node). x.safe) t.at.at_p in
        let link : (v.links p s).stored ≡ t.link.stored = ap (λ (x : Link). x.stored) t.at.at_l in
        elim t.stored [
          | inl told ↦ (
            met_by v p s (w.nodes p) t.site t.link t.packets t.at t.fit met.may.sender (t.role ∙ met.may.secondary) (t.bunker ∙ met.may.bunker) t.session
                t.net told,
            omega (arith, fuller v t, told, link),
            here,
          )
          | inr same ↦ absurd (is_told (w.links p s).stored (v.links p s).stored (v.nodes p).safe calm (omega (arith, below, here)) (link ∙ same))
        ]

-- ## Turns

turns_end : (n : ℕ) (w : World) (p s : ℕ) → GoodWorld w → IsMet w p s → (w.nodes p).safe ≤ (w.links p s).stored + n
    → (((run w (turns n w p s)).links p s).stored ≡ ((run w (turns n w p s)).nodes p).safe) × (((run w (turns n w p s)).nodes p).safe ≡ (w.nodes p).safe)
turns_end zero w p s good_w met few = (omega (arith, few, stored_most w p s good_w met.may), refl)
turns_end (suc n) w p s good_w met few =
    let t : List Event = turn w p s in
    let v : World = run w t in
    by_test (λ (es : List Event). (((run w es).links p s).stored ≡ ((run w es).nodes p).safe) × (((run w es).nodes p).safe ≡ (w.nodes p).safe))
    (leb (w.nodes p).safe (w.links p s).stored) [] (t ++ turns n v p s)
    (λ all. (omega (arith, stored_most w p s good_w met.may, at_least (w.nodes p).safe (w.links p s).stored all), refl))
    (λ less.
    let raises = turn_raises w p s good_w met (below (w.nodes p).safe (w.links p s).stored less) in
    let rest = turns_end n v p s (run_good w t good_w) raises.0 (omega (arith, few, raises.1, raises.2)) in
    subst (λ (x : World). ((x.links p s).stored ≡ (x.nodes p).safe) × ((x.nodes p).safe ≡ (w.nodes p).safe)) (sym (run_append w t (turns n v p s)))
    (rest.0, rest.1 ∙ raises.2))
  where
    at_least : (m n : ℕ) → leb m n ≡ true → m ≤ n
    at_least m n e = grind (arith, nat_tests)

    below : (m n : ℕ) → leb m n ≡ false → n < m
    below m n e = grind (arith, nat_tests)

-- settling ends with all that is durable stored, and the head is as it was
pub settling_ends : (w : World) (p s : ℕ) → GoodWorld w → MaySettle w p s
    → (((run w (settling w p s)).links p s).stored ≡ ((run w (settling w p s)).nodes p).safe) × (((run w (settling w p s)).nodes p).safe ≡ (w.nodes p).safe)
settling_ends w p s good_w may =
    let g : List Event = greeting_events w p s in
    let v : World = run w g in
    let n : ℕ = (w.nodes p).safe in
    let greeted = greeted_meets w p s good_w may in
    let ends = turns_end n v p s (run_good w g good_w) greeted.0 (omega (arith, greeted.1)) in
    subst (λ (x : World). ((x.links p s).stored ≡ (x.nodes p).safe) × ((x.nodes p).safe ≡ (w.nodes p).safe)) (sym (run_append w g (turns n v p s)))
    (ends.0, ends.1 ∙ greeted.1)
