-- What is left of the events of settling behind each of them: all events are those that are done, and behind them the rest.
use Rattle.std.proofs.Common.{◌≡◌, ◌∙◌, ◌++◌, ◌<◌, ◌≤◌, ◌-◌, ◌+◌, ℕ, zero, suc, List, [], ◌∷◌, Bool, true, false, refl, ap, sym, subst, arith, append_assoc, length, drop}
use Rattle.std.proofs.lemmas.List.{append-nil}
use Rattle.std.specs.Prelude.{leb, Option, Some, None, slice_get, if◌then◌else◌}
use Rattle.vx_model.specs.declared.limits.TheConstants.{MOST_PACKETS}
use Rattle.vx_model.proofs.Lists.{get_front}
use Rattle.vx_history.proofs.Updates.{by_test}
use Rattle.vx_history.specs.Events.{packet_at}
use Rattle.vx_history.specs.Settling.{deliver_between, delivery, is_between, turn, turns}
use Rattle.vx_history.specs.Step.{run}
use Rattle.vx_history.specs.World.{Packet, World}
use Rattle.vx_history.specs.declared.event.Event.{Event}
use Rattle.vx_history.specs.declared.event.Event.TheVariants.{Apply, Deliver, Pump, Tick}
use Rattle.vx_world.proofs.Turns.{run_append}
use Rattle.vx_settling.specs.Kinds.{StaysAs}
use Rattle.vx_settling.specs.Turning.{applying_all, greeting_if, sending_again}

-- ---- any events

-- so many of them are done, and then some more
pub next_done : (all done xs rest : List Event) → all ≡ done ++ (xs ++ rest) → all ≡ (done ++ xs) ++ rest
next_done all done xs rest is = is ∙ sym (append_assoc done xs rest)

-- none are left
pub all_done : (all done : List Event) → all ≡ done ++ [] → all ≡ done
all_done all done is = is ∙ append-nil done

-- ---- packets between two sites

drop_at : (qs : List Packet) (k : ℕ) (q : Packet) → slice_get qs k ≡ Some q → drop k qs ≡ q ∷ drop (suc k) qs
drop_at [] k q is = absurd (cc)
drop_at (x ∷ qs) zero q is = ap (λ (y : Packet). y ∷ qs) (let same : x ≡ q = cc in same)
drop_at (x ∷ qs) (suc k) q is = drop_at qs k q is

drop_all : (qs : List Packet) (k : ℕ) → length qs ≤ k → drop k qs ≡ []
drop_all [] zero least = refl
drop_all [] (suc k) least = refl
drop_all (x ∷ qs) zero least = absurd (omega (arith, least))
drop_all (x ∷ qs) (suc k) least = drop_all qs k (omega (arith, least))

module _ (p s k : ℕ) (qs : List Packet) where
  abbrev left : ℕ → List Event
  left i = deliver_between p s i (drop i qs)

  -- the next packet, by whether it goes between the two
  unfolds : (q : Packet) (b : Bool) → slice_get qs k ≡ Some q → is_between p s q ≡ b → left k ≡ (if b then Deliver (suc k) ∷ left (suc k) else left (suc k))
  unfolds q b at is =
      ap (λ (xs : List Packet). deliver_between p s k xs) (drop_at qs k q at)
      ∙ ap (λ (c : Bool). if c then Deliver (suc k) ∷ left (suc k) else left (suc k)) is

  -- it does, and is delivered
  pub next_delivered : (q : Packet) (all done : List Event) → slice_get qs k ≡ Some q → is_between p s q ≡ true → all ≡ done ++ left k → all ≡ (done ++ Deliver (suc k) ∷ []) ++ left (suc k)
  next_delivered q all done at is split =
      next_done all done (Deliver (suc k) ∷ []) (left (suc k)) (split ∙ ap (λ (es : List Event). done ++ es) (unfolds q true at is))

  -- it does not, and is passed over
  pub next_passed : (q : Packet) (all done : List Event) → slice_get qs k ≡ Some q → is_between p s q ≡ false → all ≡ done ++ left k → all ≡ done ++ left (suc k)
  next_passed q all done at is split = split ∙ ap (λ (es : List Event). done ++ es) (unfolds q false at is)

  -- there is none
  pub last_delivered : (all done : List Event) → length qs ≤ k → all ≡ done ++ left k → all ≡ done
  last_delivered all done least split =
      split ∙ ap (λ (es : List Event). done ++ es) (ap (λ (xs : List Packet). deliver_between p s k xs) (drop_all qs k least)) ∙ append-nil done

pub some_before : (xs : List Packet) (k : ℕ) → k < length xs → (q : Packet) × (slice_get xs k ≡ Some q)
some_before [] k below = absurd (omega (arith, below))
some_before (x ∷ xs) zero below = (x, refl)
some_before (x ∷ xs) (suc k) below = some_before xs k (omega (arith, below))

-- the packet of a number is the one that was sent under it
pub packet_found : (ps : List Packet) (k : ℕ) (q : Packet) → packet_at ps (suc k) ≡ Some q → slice_get ps k ≡ Some q
packet_found ps k q is =
    by_test (λ (o : Option Packet). o ≡ Some q → slice_get ps k ≡ Some q) (leb (suc k + MOST_PACKETS) (length ps)) None (slice_get ps k) (λ _ e. absurd (cc)) (λ _ e. e) is

pub found_before : (w v : World) (k : ℕ) (q : Packet) → StaysAs w v → k < length w.packets → packet_at v.packets (suc k) ≡ Some q → slice_get w.packets k ≡ Some q
found_before w v k q m below is =
    sym (get_front w.packets m.more k below)
    ∙ subst (λ (ps : List Packet). slice_get ps k ≡ Some q) m.sent (packet_found v.packets k q is)

-- ---- a turn

pub turn_is : (w : World) (p s : ℕ)
    → turn w p s ≡ (let again : List Event = sending_again w p s in
    let v : World = run w again in
    let apply : List Event = applying_all v p s in
    again ++ (apply ++ greeting_if (w.links p s).stored (run v apply) p s))
turn_is w p s =
    let sent : List Event = Tick p s ∷ Pump p s ∷ [] in
    let w1 : World = run w sent in
    let came : List Event = delivery p s w w1 in
    let w2 : World = run w1 came in
    let applied : List Event = Apply s (length (w2.nodes s).log - (w2.nodes s).safe) 0 ∷ [] in
    let w3 : World = run w2 applied in
    let heard : List Event = delivery p s w2 w3 in
    let w4 : World = run w3 heard in
    let last : List Event = greeting_if (w.links p s).stored w4 p s in
    let again : List Event = sending_again w p s in
    let second : run w2 (applying_all w2 p s) ≡ w4 = run_append w2 applied heard in
    let first : run w again ≡ w2 = run_append w sent came in
    sym (
    ap (λ (v : World). again ++ (applying_all v p s ++ greeting_if (w.links p s).stored (run v (applying_all v p s)) p s)) first
    ∙ ap (λ (v : World). again ++ (applying_all w2 p s ++ greeting_if (w.links p s).stored v p s)) second
    ∙ append_assoc sent came ((applied ++ heard) ++ last)
    ∙ ap (λ (es : List Event). sent ++ (came ++ es)) (append_assoc applied heard last)
    )

-- ---- turns

module _ (w : World) (p s : ℕ) (all done : List Event) where
  -- all that is durable is stored
  pub turns_over : (n : ℕ) → leb (w.nodes p).safe (w.links p s).stored ≡ true → all ≡ done ++ turns n w p s → all ≡ done
  turns_over zero is split = split ∙ append-nil done
  turns_over (suc n) is split =
      split ∙ ap (λ (es : List Event). done ++ es) (ap (λ (b : Bool). if b then [] else (turn w p s ++ turns n (run w (turn w p s)) p s)) is) ∙ append-nil done

  -- it is not, and a turn is made
  pub turns_on : (n : ℕ) → leb (w.nodes p).safe (w.links p s).stored ≡ false → all ≡ done ++ turns (suc n) w p s
      → all ≡ (done ++ turn w p s) ++ turns n (run w (turn w p s)) p s
  turns_on n is split =
      next_done all done (turn w p s) (turns n (run w (turn w p s)) p s)
      (split ∙ ap (λ (es : List Event). done ++ es) (ap (λ (b : Bool). if b then [] else (turn w p s ++ turns n (run w (turn w p s)) p s)) is))

  -- no turn is left
  pub turns_none : all ≡ done ++ turns zero w p s → all ≡ done
  turns_none split = split ∙ append-nil done
