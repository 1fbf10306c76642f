-- What a line leads a yard to that makes a replicated volume group over a group of disks.
use Rattle.std.specs.Prelude.{◌≡◌, ℕ, List, [], Result, Ok, Err}
use Rattle.vx_model.specs.declared.errors.OutOfMemory.{OutOfMemory}
use Rattle.vx_disk.specs.declared.shelf.Shelf.{Ghosts}
use Rattle.vx_history.specs.Doubts.{Doubted}
use Rattle.vx_script.specs.declared.line.ScriptLine.TheVariants.{Rvg}
use Rattle.vx_events.specs.Facts.{site_number}
use Rattle.vx_events.specs.Fails.{Fails}
use Rattle.vx_events.specs.RvgMakes.{MakesRvg}
use Rattle.vx_events.specs.RvgParts.{ShortFull}
use Rattle.vx_events.specs.RvgSteps.{HasNoRvgs}
use Rattle.vx_events.specs.declared.said.Said.{Said}
use Rattle.vx_events.specs.declared.said.Said.TheVariants.{Done}
use Rattle.vx_yard.specs.Carries.{Carries}
use Rattle.vx_yard.specs.Standing.{StandsFor}
use Rattle.vx_yard.specs.Stands.{RoseAll}
use Rattle.vx_yard.specs.Yards.{IsTold, count_of}
use Rattle.vx_yard.specs.declared.yard.Yard.{Yard}

module _ {R : Type 0} {g : Ghosts R} where
  -- The line worked, and was answered so. The yard stands for what it made of the world, and carries that, if it did so before. Only a line that is done makes a
  -- replicated volume group.
  pub record LeadsRvg (d : Doubted) (site srl maps : List ℕ) (volumes : List (List ℕ)) (said : Said) (old new : Yard R g) : Type 0 where
    pub next : Doubted
    pub fails : Fails
    pub makes : MakesRvg (IsTold new) d (Rvg site srl maps volumes) (site_number d.world site) fails said next
    pub stands : StandsFor next new
    pub none : (said ≡ Done → ⊥) → HasNoRvgs d.world → HasNoRvgs next.world
    pub carries : Carries d old → Carries next new
    pub rose : RoseAll fails (count_of old) (count_of new)

  -- memory ran out before it worked or within it, which left this of it
  pub record StopsRvg (d : Doubted) (site srl maps : List ℕ) (volumes : List (List ℕ)) (old new : Yard R g) : Type 0 where
    pub next : Doubted
    pub part : ShortFull (IsTold new) d (Rvg site srl maps volumes) next
    pub stands : StandsFor next new
    pub none : HasNoRvgs d.world → HasNoRvgs next.world
    pub carries : Carries d old → Carries next new
    pub rose : RoseAll [] (count_of old) (count_of new)

  abbrev pub LeadsRvgIs : Doubted → (site srl maps : List ℕ) → (volumes : List (List ℕ)) → Yard R g → Yard R g → Result Said OutOfMemory → Type 0
  LeadsRvgIs d site srl maps volumes old new (Ok said) = LeadsRvg d site srl maps volumes said old new
  LeadsRvgIs d site srl maps volumes old new (Err e) = StopsRvg d site srl maps volumes old new
