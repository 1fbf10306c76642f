-- A world in which the fuses of two sites may have been noted: they may have let calls pass.
use Rattle.std.specs.Prelude.{◌≡◌, ◌⊎◌, ℕ, List}
use Rattle.vx_model.specs.declared.no.No.{No}
use Rattle.vx_history.specs.Doubts.{Doubted}
use Rattle.vx_history.specs.Steps.{burned}
use Rattle.vx_history.specs.World.{Fuse, World}
use Rattle.vx_history.specs.declared.event.Event.{Event}
use Rattle.vx_events.specs.Fails.{AreBorne, Fails}
use Rattle.vx_events.specs.declared.said.Said.{Said}
use Rattle.vx_events.specs.declared.said.Said.TheVariants.{Refused}
use Rattle.vx_settling.specs.Works.{SettleStops, SettleWorks}

-- the world with these fuses of its sites
abbrev pub burnt_world : (ℕ → Fuse) → World → World
burnt_world fuses w = record w { nodes = λ i. record (w.nodes i) { fuse = fuses i } }

abbrev pub noted_as : (ℕ → Fuse) → Doubted → Doubted
noted_as fuses d = record d { world = burnt_world fuses d.world }

-- each fuse is that of the world, or it is noted, at one of the two sites
pub record MayBurn (a b : ℕ) (fuses : ℕ → Fuse) (w : World) : Type 0 where
  pub each : (i : ℕ) → (fuses i ≡ (w.nodes i).fuse) ⊎ (((i ≡ a) ⊎ (i ≡ b)) × (fuses i ≡ burned (w.nodes i).fuse))

-- a world in which fuses of the two may have been noted
pub record NotedAs (a b : ℕ) (d e : Doubted) : Type 0 where
  pub fuses : ℕ → Fuse
  pub burns : MayBurn a b fuses d.world
  pub is : e ≡ noted_as fuses d

-- a line within one that settles a link did these events
pub record OnTo (told : Type 0) (a b : ℕ) (d : Doubted) (events : List Event) (fails : Fails) (e : Doubted) : Type 0 where
  pub next : Doubted
  pub borne : AreBorne d.world b fails
  pub works : SettleWorks told a b d events next
  pub noted : NotedAs a b next e

-- they were ended by this refusal
pub record EndTo (told : Type 0) (a b : ℕ) (d : Doubted) (events : List Event) (fails : Fails) (why : No) (e : Doubted) : Type 0 where
  pub last : Doubted
  pub stops : SettleStops told a b d events fails (Refused why) last
  pub sites : last.world.sites ≡ d.world.sites
  pub noted : NotedAs a b last e

-- by the reply
abbrev pub Going : (on : Type 0) → (off : No → Type 0) → Said → Type 0
Going on off (Refused why) = off why
Going on off other = on

abbrev pub GoesTo : (told : Type 0) → (a b : ℕ) → (d : Doubted) → List Event → Fails → Doubted → Said → Type 0
GoesTo told a b d events fails e said = Going (OnTo told a b d events fails e) (λ why. EndTo told a b d events fails why e) said
