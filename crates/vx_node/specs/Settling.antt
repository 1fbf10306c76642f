-- What a part of a line that settles a link makes of a yard.
use Rattle.std.specs.Prelude.{◌≡◌, ◌++◌, ℕ, Bool, List, [], drop, false, true, Option, None, Some, Result, Ok, Err}
use Rattle.vx_model.specs.declared.errors.OutOfMemory.{OutOfMemory}
use Rattle.vx_model.specs.declared.no.No.{No}
use Rattle.vx_history.specs.Doubts.{Doubted}
use Rattle.vx_history.specs.Settling.{deliver_between, turns}
use Rattle.vx_history.specs.Step.{run}
use Rattle.vx_history.specs.World.{Fuse, World}
use Rattle.vx_history.specs.declared.event.Event.{Event}
use Rattle.vx_disk.specs.declared.shelf.Shelf.{Ghosts}
use Rattle.vx_events.specs.Facts.{site_number}
use Rattle.vx_events.specs.Fails.{Fails}
use Rattle.vx_events.specs.declared.said.Said.{Said}
use Rattle.vx_events.specs.declared.said.Said.TheVariants.{Done, Refused, Settled}
use Rattle.vx_settling.specs.Between.{MayMove}
use Rattle.vx_settling.specs.Works.{CalmTold, Shortens, SettleStops, SettleWorks}
use Rattle.vx_yard.specs.Carries.{Carries}
use Rattle.vx_settling.specs.Burnt.{MayBurn, noted_as}
use Rattle.vx_yard.specs.BothSites.{BothSites, SettleBurns}
use Rattle.vx_yard.specs.OfSites.{AllSameFailing}
use Rattle.vx_yard.specs.Standing.{GoodFor, StandsFor}
use Rattle.vx_yard.specs.Stands.{RoseAll}
use Rattle.vx_yard.specs.Yards.{IsTold, count_of}
use Rattle.vx_yard.specs.declared.yard.Yard.{Yard}
use Rattle.vx_node.specs.declared.going.Went.{Went}
use Rattle.vx_node.specs.declared.going.Went.TheVariants.{Ended, On, Short}

-- how it went, by what a line within it was answered
abbrev pub went_by : Said → Went
went_by (Refused why) = Ended why
went_by other = On

abbrev pub went_of : Result Said OutOfMemory → Went
went_of (Ok said) = went_by said
went_of (Err e) = Short

-- what the line is answered, by how its parts went, and by whether all is stored up to the last number there was
abbrev pub end_by : Went → Bool → ℕ → Option Said
end_by (Ended why) settled head = Some (Refused why)
end_by Short settled head = None
end_by On true head = Some (Settled head)
end_by On false head = None

abbrev pub ended_as : Result Said OutOfMemory → Option Said
ended_as (Ok said) = Some said
ended_as (Err e) = None

-- what follows on the receiver's greeting: it is delivered, and turns follow; so many packets were sent before it
abbrev pub settled_on : (a b before head : ℕ) → World → List Event
settled_on a b before head w = let came = deliver_between a b before (drop before w.packets) in came ++ turns head (run w came) a b

module _ {R : Type 0} {g : Ghosts R} where
  -- the yard stands for this world and carries it, where the fuses of two sites may have been noted
  pub record NotedFor (a b : ℕ) (d : Doubted) (y : Yard R g) : Type 0 where
    pub fuses : ℕ → Fuse
    pub burns : MayBurn a b fuses d.world
    pub stands : StandsFor (noted_as fuses d) y
    pub carries : Carries (noted_as fuses d) y

  -- a link between the two sites of these names, and numbers, that may be settled
  pub record SettlesFor (first second : List ℕ) (a b : ℕ) (d : Doubted) (y : Yard R g) : Type 0 where
    pub noted : NotedFor a b d y
    pub may : MayMove a b d.world
    pub good : GoodFor d y
    pub from : site_number d.world first ≡ a
    pub to : site_number d.world second ≡ b

  -- these events are done
  pub record OnFor (first second : List ℕ) (a b : ℕ) (d : Doubted) (events : List Event) (old new : Yard R g) : Type 0 where
    pub next : Doubted
    pub works : SettleWorks (CalmTold (IsTold new) d) a b d events next
    pub serves : SettlesFor first second a b next new
    pub told : IsTold new → IsTold old
    pub asked : AllSameFailing old new
    pub called : BothSites (SettleBurns Done) a b old new
    pub rose : RoseAll [] (count_of old) (count_of new)

  -- they are ended by this refusal
  pub record EndedFor (a b : ℕ) (d : Doubted) (events : List Event) (why : No) (old new : Yard R g) : Type 0 where
    pub last : Doubted
    pub fails : Fails
    pub stops : SettleStops (CalmTold (IsTold new) d) a b d events fails (Refused why) last
    pub sites : last.world.sites ≡ d.world.sites
    pub noted : NotedFor a b last new
    pub told : IsTold new → IsTold old
    pub asked : AllSameFailing old new
    pub called : BothSites (SettleBurns (Refused why)) a b old new
    pub rose : RoseAll fails (count_of old) (count_of new)

  -- memory ran out in them
  pub record ShortFor (a b : ℕ) (d : Doubted) (events : List Event) (old new : Yard R g) : Type 0 where
    pub last : Doubted
    pub short : Shortens (CalmTold (IsTold new) d) a b d events last
    pub noted : NotedFor a b last new
    pub told : IsTold new → IsTold old
    pub asked : AllSameFailing old new
    pub rose : RoseAll [] (count_of old) (count_of new)

  abbrev pub WentFor : (first second : List ℕ) → (a b : ℕ) → (d : Doubted) → (events : List Event) → (old new : Yard R g) → Went → Type 0
  WentFor first second a b d events old new On = OnFor first second a b d events old new
  WentFor first second a b d events old new (Ended why) = EndedFor a b d events why old new
  WentFor first second a b d events old new Short = ShortFor a b d events old new
