-- The turns in which a link is settled.
use Rattle.std.proofs.lemmas.List.{length-append}
use Rattle.std.proofs.Common.{drop, ◌≡◌, ◌∙◌, ◌++◌, ◌-◌, ◌<◌, ◌≤◌, ℕ, suc, Bool, true, false, List, [], ◌∷◌, length, ap, arith, append_assoc, refl, subst, sym}
use Rattle.std.specs.Prelude.{if◌then◌else◌, leb}
use Rattle.vx_disk.specs.declared.shelf.Shelf.{Ghosts}
use Rattle.vx_history.specs.Doubts.{Doubted}
use Rattle.vx_history.specs.Settling.{deliver_between, deliver_new, delivery, greeting_events, is_stuck, turn, turns}
use Rattle.vx_history.specs.Step.{run}
use Rattle.vx_history.specs.World.{Packet, World}
use Rattle.vx_history.specs.declared.event.Event.{Event}
use Rattle.vx_history.specs.declared.event.Event.TheVariants.{Apply, Pump, Tick}
use Rattle.vx_settling.proofs.Running.{are_both, are_deliveries, are_turn}
use Rattle.vx_settling.proofs.Unfolding.{turn_is, turns_none, turns_on, turns_over}
use Rattle.vx_settling.specs.Kinds.{AreSettling}
use Rattle.vx_settling.specs.Works.{CalmTold}
use Rattle.vx_settling.specs.Turning.{applying_all, greeting_if, sending_again}
use Rattle.vx_node.specs.Settling.{OnFor, SettlesFor, ShortFor, WentFor}
use Rattle.vx_yard.specs.Yards.{IsTold}
use Rattle.vx_node.specs.declared.going.Went.{Went}
use Rattle.vx_node.specs.declared.going.Went.TheVariants.{On, Short}
use Rattle.vx_yard.specs.declared.yard.Yard.{Yard}
use Rattle.vx_node.proofs.WentOn.{went_told, world_is}
use Rattle.vx_node.proofs.WentThen.{on_then, went_as, went_more, went_none, went_short, went_then}

pub are_again : (w : World) (a b : ℕ) → AreSettling (sending_again w a b)
are_again w a b = let sent : List Event = Tick a b ∷ Pump a b ∷ [] in are_both sent (delivery a b w (run w sent)) (refl, (refl, tt)) (are_deliveries a b w (run w sent))

pub are_applying : (w : World) (a b : ℕ) → AreSettling (applying_all w a b)
are_applying w a b =
    let applied : List Event = Apply b (length (w.nodes b).log - (w.nodes b).safe) 0 ∷ [] in are_both applied (delivery a b w (run w applied)) (refl, tt) (are_deliveries a b w (run w applied))

-- where it is not stuck no greeting is due
pub greets_not : (w : World) (a b before : ℕ) → is_stuck before (w.links a b).stored (w.nodes a).safe ≡ false → [] ≡ greeting_if before w a b
greets_not w a b before not = sym (ap (λ (t : Bool). if t then greeting_events w a b else []) not)

pub greets_so : (w : World) (a b before : ℕ) → is_stuck before (w.links a b).stored (w.nodes a).safe ≡ true → greeting_events w a b ≡ greeting_if before w a b
greets_so w a b before so = sym (ap (λ (t : Bool). if t then greeting_events w a b else []) so)

-- what a turn leaves to do behind the sending
abbrev pub turn_later : (before : ℕ) → (a b : ℕ) → World → List Event
turn_later before a b v = let apply : List Event = applying_all v a b in apply ++ greeting_if before (run v apply) a b

module _ {R : Type 0} {g : Ghosts R} (first second : List ℕ) (a b : ℕ) where
  -- ---- one part and the next

  -- as many packets as before, or more
  pub more_sent : (d : Doubted) (xs : List Event) (old new : Yard R g) → (one : OnFor first second a b d xs old new) → length d.world.packets ≤ length one.next.world.packets
  more_sent d xs old new one = let many = ap (λ (ps : List Packet). length ps) one.works.moves.sent ∙ length-append d.world.packets one.works.moves.more in omega (arith, many)

  -- those that were sent since this world, which had so many
  pub new_went : (w : World) (before : ℕ) (m : Doubted) (old new : Yard R g) (r : Went) → before ≡ length w.packets → WentFor first second a b m (deliver_between a b before (drop before m.world.packets)) old new r
      → WentFor first second a b m (deliver_new a b w m.world) old new r
  new_went w before m old new r is went = subst (λ (k : ℕ). WentFor first second a b m (deliver_between a b k (drop k m.world.packets)) old new r) is went

  -- the events of a turn
  pub turn_went : (d : Doubted) (before : ℕ) (old new : Yard R g) (r : Went) → before ≡ (d.world.links a b).stored
      → WentFor first second a b d (let again : List Event = sending_again d.world a b in again ++ turn_later before a b (run d.world again)) old new r → WentFor first second a b d (turn d.world a b) old new r
  turn_went d before old new r is w =
      let again : List Event = sending_again d.world a b in
      went_as first second a b d (again ++ turn_later before a b (run d.world again)) (turn d.world a b) old new r
      (λ _. ap (λ (k : ℕ). again ++ turn_later k a b (run d.world again)) is ∙ sym (turn_is d.world a b)) w

  -- so many turns are made, behind which so many are left
  pub record TurnsFor (d : Doubted) (most past : ℕ) (old new : Yard R g) : Type 0 where
    pub events : List Event
    pub are : AreSettling events
    pub on : OnFor first second a b d events old new
    pub rest : CalmTold (IsTold new) d → turns most d.world a b ≡ events ++ turns (most - past) on.next.world a b

  pub turns_begin : (d : Doubted) (most : ℕ) (y : Yard R g) → SettlesFor first second a b d y → TurnsFor d most 0 y y
  turns_begin d most y serves = record {
    events = [];
    are = tt;
    on = went_none first second a b d y serves;
    rest = λ tells. let all : most ≡ most - 0 = omega arith in ap (λ (n : ℕ). turns n d.world a b) all;
  }

  module _ (d : Doubted) (most past : ℕ) (old mid : Yard R g) (made : TurnsFor d most past old mid) (low : past < most) where
    abbrev w : World
    w = made.on.next.world

    all_of : CalmTold (IsTold mid) d → turns most d.world a b ≡ made.events ++ turns (suc (most - suc past)) w a b
    all_of tells = let left : most - past ≡ suc (most - suc past) = omega (arith, low) in made.rest tells ∙ ap (λ (n : ℕ). made.events ++ turns n w a b) left

    -- all that is durable is stored
    pub turns_over_here : leb (w.nodes a).safe (w.links a b).stored ≡ true → OnFor first second a b d (turns most d.world a b) old mid
    turns_over_here over =
        went_as first second a b d made.events (turns most d.world a b) old mid On (λ tells. sym (turns_over w a b (turns most d.world a b) made.events (suc (most - suc past)) over (all_of tells))) made.on

    -- a turn is made
    pub turns_more : (next : ℕ) → next ≡ suc past → leb (w.nodes a).safe (w.links a b).stored ≡ false → (new : Yard R g) → OnFor first second a b made.on.next (turn w a b) mid new → TurnsFor d most next old new
    turns_more next is short new one = subst (λ (k : ℕ). TurnsFor d most k old new) (sym is) (record {
      events = made.events ++ turn w a b;
      are = are_both made.events (turn w a b) made.are (are_turn w a b);
      on = on_then first second a b d made.events (turn w a b) old mid new made.on one;
      rest = λ tells.
          turns_on w a b (turns most d.world a b) made.events (most - suc past) short (all_of (one.told tells.0, tells.1))
          ∙ ap (λ (v : World). (made.events ++ turn w a b) ++ turns (most - suc past) v a b) (sym (world_is first second a b made.on.next (turn w a b) mid new (are_turn w a b) one (tells.0, made.on.works.moves.strayed ∙ tells.1)));
    })

    -- it ended in one
    pub turns_end : leb (w.nodes a).safe (w.links a b).stored ≡ false → (new : Yard R g) (r : Went) → (r ≡ On → ⊥) → WentFor first second a b made.on.next (turn w a b) mid new r → WentFor first second a b d (turns most d.world a b) old new r
    turns_end short new r not two =
        let rest : List Event = turns (most - suc past) (run w (turn w a b)) a b in
        went_as first second a b d (made.events ++ (turn w a b ++ rest)) (turns most d.world a b) old new r
        (λ tells.
        sym (append_assoc made.events (turn w a b) rest)
        ∙ sym (turns_on w a b (turns most d.world a b) made.events (most - suc past) short (all_of (went_told first second a b made.on.next (turn w a b) mid new r two tells.0, tells.1))))
        (went_then first second a b d made.events (turn w a b ++ rest) old mid new r made.are made.on (went_more first second a b made.on.next (turn w a b) rest mid new r not two))

  -- no turn is left
  pub turns_out : (d : Doubted) (most past : ℕ) (old new : Yard R g) → past ≡ most → (made : TurnsFor d most past old new) → OnFor first second a b d (turns most d.world a b) old new
  turns_out d most past old new over made =
      let none : most - past ≡ 0 = omega (arith, over) in
      went_as first second a b d made.events (turns most d.world a b) old new On
      (λ tells. sym (turns_none made.on.next.world a b (turns most d.world a b) made.events (made.rest tells ∙ ap (λ (n : ℕ). made.events ++ turns n made.on.next.world a b) none))) made.on

  -- want of memory ends them
  pub turns_short : (d : Doubted) (most past : ℕ) (old mid : Yard R g) → (made : TurnsFor d most past old mid) → ShortFor a b d (turns most d.world a b) old mid
  turns_short d most past old mid made =
      let rest : List Event = turns (most - past) made.on.next.world a b in
      went_as first second a b d (made.events ++ rest) (turns most d.world a b) old mid Short (λ tells. sym (made.rest tells))
      (went_then first second a b d made.events rest old mid mid Short made.are made.on (went_short first second a b made.on.next rest mid made.on.serves))
