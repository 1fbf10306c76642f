-- The packets that settling sends go between its two sites, on one line.
use Rattle.std.proofs.Common.{◌≡◌, ◌∙◌, inl, inr, ◌+◌, ◌<◌, ◌≤◌, ℕ, List, [], ◌∷◌, Bool, true, false, length, take, refl, ap, sym, subst, arith}
use Rattle.std.proofs.lemmas.Bool.Decides.{nat_tests}
use Rattle.std.specs.List.{AllByRecursion}
use Rattle.std.specs.Prelude.{◌&&◌, ltb, max, min, pred, if◌then◌else◌}
use Rattle.std.proofs.lemmas.List.{length-drop, length-take}
use Rattle.vx_model.specs.Content.{Write}
use Rattle.vx_model.specs.declared.link.Link.{Link as PlainLink}
use Rattle.vx_model.specs.declared.limits.TheConstants.{MOST_AHEAD}
use Rattle.vx_history.proofs.Updates.{by_test}
use Rattle.vx_history.specs.Admission.{is_live_link}
use Rattle.vx_history.specs.Doubts.{Doubted}
use Rattle.vx_history.specs.Events.{greeting_back, greets, link_step}
use Rattle.vx_history.specs.LinkForms.{plain_link}
use Rattle.vx_history.specs.Sending.{by_log, pumped_up_to, with_nothing}
use Rattle.vx_history.specs.Sends.{between, greeting, packets_of, sent_by, updates}
use Rattle.vx_history.specs.World.{DataAck, Hello, Message, NetAck, Node, Packet, Update, World}
use Rattle.vx_history.specs.declared.sender.Action.{Action}
use Rattle.vx_history.specs.declared.sender.Action.TheVariants.{Ignored, Nothing, Taken, Updates}
use Rattle.vx_history.specs.declared.sender.SEvent.TheVariants.{Pump as PumpLink}
use Rattle.vx_world.proofs.Links.{each_packet}
use Rattle.vx_world.proofs.Lists.{each_append}
use Rattle.vx_events.specs.LinkFinds.{GoesAs, GoesOn, MovesBetween, PumpSends, SentBy}
use Rattle.vx_settling.specs.Between.{IsSent, is_update}

-- ---- the numbers of a pump

pump_upto : (live : Bool) (k : PlainLink) (low high from to : ℕ) → (if live then pumped_up_to k low high else with_nothing k).action ≡ Updates from to → (0 < from) × (from ≤ to) × (to ≤ high)
pump_upto true k low high from to is = by (ltb low high) (below low high) is
  where
    below : (a b : ℕ) → ltb a b ≡ true → a < b
    below a b e = grind (arith, nat_tests)

    by : (b : Bool) → (b ≡ true → low < high) → (if b then (record { link = record k { sent = high }; action = Updates (low + 1) high }) else with_nothing (record k { sent = low })).action ≡ Updates from to → (0 < from) × (from ≤ to) × (to ≤ high)
    by true less e =
        let one : low + 1 ≡ from = cc in
        let two : high ≡ to = cc in
        let more = less refl in
        (omega (arith, one), omega (arith, one, two, more), omega (arith, two))
    by false less e = absurd (let f : Nothing ≡ Updates from to = e in cc)
pump_upto false k low high from to is = absurd (let f : Nothing ≡ Updates from to = is in cc)

module _ (p s : ℕ) (w : World) where
  abbrev durable : ℕ
  durable = (w.nodes p).safe

  abbrev pump : Action
  pump = (link_step w p s PumpLink).action

  pump_range : (from to : ℕ) → pump ≡ Updates from to → (0 < from) × (from ≤ to) × (to ≤ durable)
  pump_range from to is =
      let k : PlainLink = plain_link s (w.links p s) in
      let high : ℕ = min durable (k.net + MOST_AHEAD) in
      let r = pump_upto (is_live_link k && by_log k.mode) k (max k.sent k.stored) high from to is in
      (r.0, r.1, let most = r.2 in omega (arith, most))

  -- ---- what is sent

  each_update : (from : ℕ) (xs : List Write) → from + length xs ≤ durable + 1 → AllByRecursion (GoesOn p s w) (updates p s (w.nodes p).line from xs)
  each_update from [] few = tt
  each_update from (x ∷ xs) few =
      each_append (GoesOn p s w) (packets_of p s (w.nodes p).line (Update from x)) (updates p s (w.nodes p).line (from + 1) xs)
      (each_packet (GoesOn p s w) p s (w.nodes p).line (Update from x) (λ part. record { line = refl; way = (refl, refl, omega (arith, few)) }))
      (each_update (from + 1) xs (omega (arith, few)))

  -- of whatever writes
  pub pump_any : (more : List Packet) → PumpSends w p s more → AllByRecursion (GoesOn p s w) more
  pump_any more sends = by pump refl sends
    where
      by : (a : Action) → pump ≡ a → SentBy a p s (w.nodes p).line more → AllByRecursion (GoesOn p s w) more
      by (Updates from to) is (xs, all, sent) =
          let r = pump_range from to is in
          let most = r.2 in
          subst (λ (qs : List Packet). AllByRecursion (GoesOn p s w) qs) (sym sent) (each_update from xs (omega (arith, all, most)))
      by Nothing is none = subst (λ (qs : List Packet). AllByRecursion (GoesOn p s w) qs) (sym none) tt
      by Ignored is none = subst (λ (qs : List Packet). AllByRecursion (GoesOn p s w) qs) (sym none) tt
      by Taken is none = subst (λ (qs : List Packet). AllByRecursion (GoesOn p s w) qs) (sym none) tt

  -- of those of the log
  pub pump_sent : AllByRecursion (GoesOn p s w) (sent_by pump p s (w.nodes p))
  pump_sent = by pump refl
    where
      by : (a : Action) → pump ≡ a → AllByRecursion (GoesOn p s w) (sent_by a p s (w.nodes p))
      by (Updates from to) is =
          let log : List Write = (w.nodes p).log in
          let r = pump_range from to is in
          let some = r.0 in
          let order = r.1 in
          let most = r.2 in
          each_update from (between from to log) (omega (arith, some, order, most, length-drop (pred from) (take to log), length-take to log))
      by Nothing is = tt
      by Ignored is = tt
      by Taken is = tt

  module _ (line : (w.nodes s).line ≡ (w.nodes p).line) where
    pub greeting_sent : AllByRecursion (GoesOn p s w) (greeting_back w p s)
    greeting_sent =
        by_test (λ (qs : List Packet). AllByRecursion (GoesOn p s w) qs) (greets (w.nodes p) (w.nodes s)) (greeting s p (w.nodes s)) []
        (λ _. each_packet (GoesOn p s w) s p (w.nodes s).line (Hello (w.nodes s).session (length (w.nodes s).log) (w.nodes s).safe) (λ part. record { line = line; way = (refl, refl, refl) }))
        (λ _. tt)

    pub memory_sent : (number : ℕ) → AllByRecursion (GoesOn p s w) (packets_of s p (w.nodes s).line (NetAck (w.nodes s).session number))
    memory_sent number =
        each_packet (GoesOn p s w) s p (w.nodes s).line (NetAck (w.nodes s).session number) (λ part. record { line = line; way = (refl, refl, refl) })

    pub disk_sent : (to number : ℕ) → AllByRecursion (GoesOn p s w) (packets_of s to (w.nodes s).line (DataAck number))
    disk_sent to number = each_packet (GoesOn p s w) s to (w.nodes s).line (DataAck number) (λ part. record { line = line; way = refl })

-- ---- packets

pub is_sent : (p s : ℕ) (w : World) (q : Packet) → GoesOn p s w q → IsSent p s q
is_sent p s w q goes = by q.message refl goes.way
  where
    by : (m : Message) → q.message ≡ m → GoesAs p s w q m → IsSent p s q
    by (Hello session number stored) is way = inr (way.0, ap is_update is)
    by (Update number x) is way = inl (way.0, way.1, ap is_update is)
    by (NetAck session number) is way = inr (way.0, ap is_update is)
    by (DataAck number) is way = inr (way, ap is_update is)

-- what goes so behind more that was sent and delivered went so before it
module _ (p s : ℕ) (d e : Doubted) (m : MovesBetween p s d e) where
  first_same : e.world.nodes p ≡ d.world.nodes p
  first_same = m.nodes p (λ (here : p ≡ s). m.apart (sym here))

  session_same : (e.world.nodes s).session ≡ (d.world.nodes s).session
  session_same = ap (λ (n : Node). n.session) m.takes.rest

  pub went : (q : Packet) → GoesOn p s e.world q → GoesOn p s d.world q
  went q goes = record { line = goes.line ∙ ap (λ (n : Node). n.line) first_same; way = by q.message goes.way }
    where
      by : (t : Message) → GoesAs p s e.world q t → GoesAs p s d.world q t
      by (Hello session number stored) way = (way.0, way.1, way.2 ∙ session_same)
      by (Update number x) way = (way.0, way.1, subst (λ (n : Node). number ≤ n.safe) first_same way.2)
      by (NetAck session number) way = (way.0, way.1, way.2 ∙ session_same)
      by (DataAck number) way = way
