-- What the tests see of a site: its state, and its replicated volume group where it came up.
use Rattle.std.proofs.Common.{◌≡◌, ◌∙◌, ℕ, Bool, true, false, List, length, ap, sym, refl}
use Rattle.std.specs.Prelude.{Option, Some, None, if◌then◌else◌}
use Rattle.vx_model.specs.Sites.{is_origin}
use Rattle.vx_model.specs.declared.site.SiteState.TheVariants.{Up}
use Rattle.vx_model.specs.declared.state.KeptLink.{KeptLink}
use Rattle.vx_disk.specs.declared.shelf.Shelf.{Ghosts}
use Rattle.vx_diskset.specs.Holds.{state_with}
use Rattle.vx_history.specs.Doubts.{Doubted}
use Rattle.vx_history.specs.World.{Node}
use Rattle.vx_events.proofs.OverSeats.{over_reads}
use Rattle.vx_events.proofs.Refused.{Named}
use Rattle.vx_events.specs.Facts.{group_fact, head_of, seat_of}
use Rattle.vx_order.specs.declared.facts.RvgFacts.{RvgFacts}
use Rattle.vx_order.specs.declared.facts.SiteFacts.{SiteFacts}
use Rattle.vx_yard.specs.Changes.{up_group}
use Rattle.vx_yard.specs.Standing.{StandsFor}
use Rattle.vx_yard.specs.declared.yard.Yard.{Yard}
use Rattle.vx_yard.proofs.NamedSite.{fact_placed, place_at}

-- a site that came up, all writes of whose log are durable
pub record IsWhole (k : Node) (room : ℕ) : Type 0 where
  pub up : k.state ≡ Up
  pub running : k.halted ≡ None
  pub whole : length k.log ≡ k.safe
  pub low : k.low ≡ 1
  pub ring : room ≡ k.ring

head_whole : (k : Node) → length k.log ≡ k.safe → head_of k ≡ k.safe
head_whole k whole = by_role (is_origin k.role)
  where
    by_role : (b : Bool) → (if b then k.safe else length k.log) ≡ k.safe
    by_role true = refl
    by_role false = whole

abbrev group_with : Node → (last low ring : ℕ) → Option ℕ → RvgFacts
group_with k last low ring halted = record { role = k.role; line = k.line; parent = k.parent; mark = k.mark; low = low; last = last; ring = ring; halted = halted }

pub group_seen : (k : Node) (ring : ℕ) (ls : List KeptLink) → IsWhole k ring → up_group (state_with k ls) k.safe ring ≡ group_fact k
group_seen k ring ls w =
    ap (λ (last : ℕ). group_with k last 1 ring None) (sym (head_whole k w.whole)) ∙ ap (λ (low : ℕ). group_with k (head_of k) low ring None) (sym w.low)
    ∙ ap (λ (r : ℕ). group_with k (head_of k) k.low r None) w.ring ∙ ap (λ (h : Option ℕ). group_with k (head_of k) k.low k.ring h) (sym w.running)

module _ {R : Type 0} {g : Ghosts R} where
  -- the state of the site that a line names
  pub state_placed : (d : Doubted) (y : Yard R g) (name : List ℕ) (s : ℕ) → StandsFor d y → seat_of y.facts.items name ≡ Some s → (n : Named y.facts.items name) → (d.world.nodes s).state ≡ n.facts.state
  state_placed d y name s stands seat n =
      sym (over_reads d.world s (λ (f : SiteFacts). f.state) (d.world.nodes s).state refl refl)
      ∙ ap (λ (f : SiteFacts). f.state) (sym (fact_placed d y name s (place_at d y name s stands seat) seat n))
