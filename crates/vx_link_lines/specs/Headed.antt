-- What an event leads a yard to that writes one header of a site's log: it is done; or the disk of the log failed in it, no number is left for it, or the
-- fuse of the site ran out in it.
use Rattle.std.specs.Prelude.{◌≡◌, ℕ, ◌≤◌, Bool, [], ◌∷◌, Result, Ok, Err}
use Rattle.vx_model.specs.declared.limits.TheConstants.{MOST_NUMBER}
use Rattle.vx_model.specs.declared.no.Counted.TheVariants.{Number}
use Rattle.vx_model.specs.declared.no.No.{No}
use Rattle.vx_model.specs.declared.no.No.TheVariants.{Device, Limit, Down as IsOff}
use Rattle.vx_history.specs.Doubts.{Doubted, crashed_as, halved}
use Rattle.vx_history.specs.Step.{step}
use Rattle.vx_history.specs.Stops.{IsFused}
use Rattle.vx_history.specs.World.{Node, World}
use Rattle.vx_history.specs.declared.event.Event.{Event}
use Rattle.vx_history.specs.Steps.{worked}
use Rattle.vx_disk.specs.declared.shelf.Shelf.{Ghosts}
use Rattle.vx_events.specs.Fails.{Fails, IsLogDisk}
use Rattle.vx_events.specs.StepsOver.{facts_over}
use Rattle.vx_events.specs.LinksFit.{LinksFit}
use Rattle.vx_events.specs.Stamps.{most_stamp_at}
use Rattle.vx_events.specs.declared.said.Said.{Said}
use Rattle.vx_events.specs.declared.said.Said.TheVariants.{Done, Refused}
use Rattle.vx_yard.specs.Carries.{Carries}
use Rattle.vx_yard.specs.Standing.{StandsFor}
use Rattle.vx_yard.specs.Stands.{RoseAll}
use Rattle.vx_yard.specs.Yards.{IsTold, count_of}
use Rattle.vx_yard.specs.declared.yard.Yard.{Yard}

-- the world with what is noted of its nodes
abbrev pub noted_by : ((ℕ → Node) → ℕ → Node) → Doubted → Doubted
noted_by note d = record d { world = record d.world { nodes = note d.world.nodes } }

-- A note of fuses: this site's fuse may have let calls pass, of each site nothing but its fuse is another, and sites that are alike are noted alike.
pub record NotesAt (s : ℕ) (note : (ℕ → Node) → ℕ → Node) : Type 0 where
  pub here : (nodes : ℕ → Node) → note nodes s ≡ worked (nodes s)
  pub alike : (nodes new : ℕ → Node) (i : ℕ) → new i ≡ nodes i → note new i ≡ note nodes i
  pub shows : (w : World) → facts_over (record w { nodes = note w.nodes }) ≡ facts_over w
  pub fits : (d : Doubted) → LinksFit d → LinksFit (noted_by note d)

-- the reply of a part of a line
abbrev pub part_said : Result (Unit {0}) Said → Said
part_said (Ok done) = Done
part_said (Err said) = said

-- the world behind an event that crashes no site
abbrev pub behind : Doubted → Event → Doubted
behind d e = record d { world = (step d.world e).world }

module _ {R : Type 0} {g : Ghosts R} where
  -- The yard stands for this world, where it stood for that one. It carries it, if it did so before.
  pub record NextFor (fails : Fails) (d e : Doubted) (old new : Yard R g) : Type 0 where
    pub stands : StandsFor e new
    pub carries : Carries d old → Carries e new
    pub rose : RoseAll fails (count_of old) (count_of new)

  -- so many writes of the site stand, or the event is on its disks besides
  pub record CutFor (note : (ℕ → Node) → ℕ → Node) (d : Doubted) (e : Event) (s : ℕ) (old new : Yard R g) : Type 0 where
    pub fused : IsFused (d.world.nodes s).fuse
    pub kept : ℕ
    pub taken : Bool
    pub next : NextFor [] (noted_by note d) (noted_by note (crashed_as (halved d e s 0) s kept taken)) old new

  -- no number is left for the header
  pub record FullFor (note : (ℕ → Node) → ℕ → Node) (d : Doubted) (s : ℕ) (why : No) (old new : Yard R g) : Type 0 where
    pub is : why ≡ Limit Number MOST_NUMBER
    pub least : IsTold new → MOST_NUMBER ≤ most_stamp_at d.world s
    pub next : NextFor [] (noted_by note d) (noted_by note d) old new

  abbrev pub HeadedIs : (note : (ℕ → Node) → ℕ → Node) → (d : Doubted) → Event → (s : ℕ) → (old new : Yard R g) → Result (Unit {0}) No → Type 0
  HeadedIs note d e s old new (Ok done) = NextFor [] (noted_by note d) (noted_by note (behind d e)) old new
  HeadedIs note d e s old new (Err (Device disk)) = IsLogDisk (d.world.nodes s) disk × NextFor ((s, disk) ∷ []) (noted_by note d) (noted_by note (halved d e s disk)) old new
  HeadedIs note d e s old new (Err (Limit what most)) = FullFor note d s (Limit what most) old new
  HeadedIs note d e s old new (Err IsOff) = CutFor note d e s old new
  HeadedIs note d e s old new (Err other) = ⊥

  -- the same by the reply of a refusal
  abbrev pub HeadedSo : (note : (ℕ → Node) → ℕ → Node) → (d : Doubted) → Event → (s : ℕ) → (old new : Yard R g) → Result (Unit {0}) Said → Type 0
  HeadedSo note d e s old new (Ok done) = NextFor [] (noted_by note d) (noted_by note (behind d e)) old new
  HeadedSo note d e s old new (Err said) = (why : No) × (said ≡ Refused why) × HeadedIs note d e s old new (Err why)
