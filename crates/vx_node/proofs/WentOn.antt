-- Parts of a line that settles a link, of which the later ones go by what the earlier ones made of the world.
use Rattle.std.proofs.Common.{◌≡◌, ◌++◌, ℕ, List, ap}
use Rattle.vx_disk.specs.declared.shelf.Shelf.{Ghosts}
use Rattle.vx_history.specs.Doubts.{Doubted}
use Rattle.vx_history.specs.Step.{run}
use Rattle.vx_history.specs.World.{World}
use Rattle.vx_history.specs.declared.event.Event.{Event}
use Rattle.vx_settling.proofs.Running.{runs_only}
use Rattle.vx_settling.specs.Kinds.{AreSettling}
use Rattle.vx_settling.specs.Works.{CalmTold}
use Rattle.vx_node.specs.Settling.{OnFor, WentFor}
use Rattle.vx_yard.specs.Yards.{IsTold}
use Rattle.vx_node.specs.declared.going.Went.{Went}
use Rattle.vx_node.specs.declared.going.Went.TheVariants.{Ended, On, Short}
use Rattle.vx_yard.specs.declared.yard.Yard.{Yard}
use Rattle.vx_node.proofs.WentThen.{went_as, went_then}

module _ {R : Type 0} {g : Ghosts R} (first second : List ℕ) (a b : ℕ) where
  -- contents that are told behind it were told before
  pub went_told : (d : Doubted) (xs : List Event) (old new : Yard R g) (r : Went) → WentFor first second a b d xs old new r → IsTold new → IsTold old
  went_told d xs old new On w = w.told
  went_told d xs old new (Ended why) w = w.told
  went_told d xs old new Short w = w.told

  -- where contents are told, the world behind events that are done is what they make of it
  pub world_is : (d : Doubted) (xs : List Event) (old new : Yard R g) → AreSettling xs → (one : OnFor first second a b d xs old new) → CalmTold (IsTold new) d → one.next.world ≡ run d.world xs
  world_is d xs old new are one tells = ap (λ (e : Doubted). e.world) (runs_only d one.next xs are (one.works.exact tells))

  -- the later part goes by the world behind the earlier one
  pub went_on : (d : Doubted) (xs : List Event) (later : World → List Event) (old mid new : Yard R g) (r : Went) → AreSettling xs → (one : OnFor first second a b d xs old mid)
      → WentFor first second a b one.next (later one.next.world) mid new r → WentFor first second a b d (xs ++ later (run d.world xs)) old new r
  went_on d xs later old mid new r are one two =
      went_as first second a b d (xs ++ later one.next.world) (xs ++ later (run d.world xs)) old new r
      (λ tells. ap (λ (w : World). xs ++ later w) (world_is d xs old mid are one (went_told one.next (later one.next.world) mid new r two tells.0, tells.1)))
      (went_then first second a b d xs (later one.next.world) old mid new r are one two)
