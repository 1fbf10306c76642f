-- The events that settling a link stands for, and which links can be settled.
use Rattle.std.specs.Prelude.{◌≡◌, ℕ, zero, suc, ◌-◌, Bool, true, false, ◌&&◌, ◌||◌, eqb, ltb, leb, if◌then◌else◌, List, [], ◌∷◌, ◌++◌, length, drop, None}
use Rattle.vx_history.specs.World.{Packet, World}
use Rattle.vx_model.specs.Sites.{is_origin}
use Rattle.vx_model.specs.declared.site.Role.TheVariants.{Secondary}
use Rattle.vx_model.specs.declared.site.SiteState.TheVariants.{Up}
use Rattle.vx_model.specs.declared.link.Mode.TheVariants.{Log}
use Rattle.vx_history.specs.declared.event.Event.{Event}
use Rattle.vx_history.specs.declared.event.Event.TheVariants.{Apply, Pump, Tick, Deliver, Connect}
use Rattle.vx_history.specs.Sends.{is_linked}
use Rattle.vx_history.specs.Step.{step, run}

-- the packet goes from one of the two sites to the other
abbrev pub is_between : (p s : ℕ) → Packet → Bool
is_between p s q = (eqb q.source p && eqb q.target s) || (eqb q.source s && eqb q.target p)

-- those of these packets that go between the two sites are delivered in their order; so many packets stand before the first
abbrev pub deliver_between : (p s before : ℕ) → List Packet → List Event
deliver_between p s before [] = []
deliver_between p s before (q ∷ qs) =
    if is_between p s q then Deliver (suc before) ∷ deliver_between p s (suc before) qs else deliver_between p s (suc before) qs

-- those of the packets between the two sites that were sent since the world was the old one
abbrev pub deliver_new : (p s : ℕ) → (old w : World) → List Event
deliver_new p s old w = deliver_between p s (length old.packets) (drop (length old.packets) w.packets)

-- They are delivered, and then what was sent in answer. Nothing is sent in answer to that: acknowledgements have none.
abbrev pub delivery : (p s : ℕ) → (old w : World) → List Event
delivery p s old w = let first = deliver_new p s old w in first ++ deliver_new p s w (run w first)

-- the receiver greets, which is delivered; connecting a link that is connected does nothing else
abbrev pub greeting_events : World → (p s : ℕ) → List Event
greeting_events w p s = Connect p s ∷ deliver_new p s w (step w (Connect p s)).world

-- the link counts less as stored than is durable, and no more than before
abbrev pub is_stuck : (before stored head : ℕ) → Bool
is_stuck before stored head = ltb stored head && leb stored before

-- A turn: what the receiver may lack is sent again and delivered, all that waits there is applied, which is acknowledged; and where
-- this has brought nothing, the receiver greets.
abbrev pub turn : World → (p s : ℕ) → List Event
turn w p s =
    let sent = Tick p s ∷ Pump p s ∷ [] in
    let w1 = run w sent in
    let came = delivery p s w w1 in
    let w2 = run w1 came in
    let applied = Apply s (length (w2.nodes s).log - (w2.nodes s).safe) 0 ∷ [] in
    let w3 = run w2 applied in
    let heard = delivery p s w2 w3 in
    let w4 = run w3 heard in
    sent ++ (came ++ (applied ++ (heard ++ (if is_stuck (w.links p s).stored (w4.links p s).stored (w4.nodes p).safe then greeting_events w4 p s else []))))

-- turns until what is durable is stored, at most so many
abbrev pub turns : ℕ → World → (p s : ℕ) → List Event
turns zero w p s = []
turns (suc n) w p s =
    if leb (w.nodes p).safe (w.links p s).stored then [] else (let t = turn w p s in t ++ turns n (run w t) p s)

-- the receiver greets, and turns follow: each raises what is stored, so that no more are made than there are numbers
abbrev pub settling : World → (p s : ℕ) → List Event
settling w p s = let g = greeting_events w p s in g ++ turns (w.nodes p).safe (run w g) p s

-- An attached, connected link in mode Log that is not paused and leads to no bunker, from a site where writes arise to a secondary on its
-- line; both are up, and no disk has halted them.
pub record MaySettle (w : World) (p s : ℕ) : Type 0 where
  pub here : (w.nodes p).state ≡ Up
  pub there : (w.nodes s).state ≡ Up
  pub runs_here : (w.nodes p).halted ≡ None
  pub runs_there : (w.nodes s).halted ≡ None
  pub sender : is_origin (w.nodes p).role ≡ true
  pub secondary : (w.nodes s).role ≡ Secondary
  pub line : (w.nodes s).line ≡ (w.nodes p).line
  pub linked : is_linked (w.links p s) ≡ true
  pub bunker : (w.links p s).bunker ≡ false
  pub attached : (w.links p s).attached ≡ true
  pub connected : (w.links p s).connected ≡ true
  pub running : (w.links p s).paused ≡ false
  pub mode : (w.links p s).mode ≡ Log

-- the link's site knows what its receiver has, in memory and on disk
pub record IsMet (w : World) (p s : ℕ) : Type 0 where
  pub may : MaySettle w p s
  pub session : (w.links p s).session ≡ (w.nodes s).session
  pub net : (w.links p s).net ≡ length (w.nodes s).log
  pub stored : (w.links p s).stored ≡ (w.nodes s).safe
