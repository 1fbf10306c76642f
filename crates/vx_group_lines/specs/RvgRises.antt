-- What a recovery leads a yard to of a site with a replicated volume group over its group of disks.
use Rattle.std.specs.Prelude.{◌≡◌, ◌⊎◌, ℕ, Bool, true, [], Result, Ok, Err}
use Rattle.vx_model.specs.declared.errors.OutOfMemory.{OutOfMemory}
use Rattle.vx_disk.specs.declared.shelf.Shelf.{Ghosts}
use Rattle.vx_history.specs.Doubts.{Doubted}
use Rattle.vx_script.specs.declared.line.ScriptLine.{ScriptLine}
use Rattle.vx_events.specs.Doubts.{run_as}
use Rattle.vx_events.specs.Fails.{Fails}
use Rattle.vx_events.specs.LinksFit.{LinksFit}
use Rattle.vx_events.specs.RvgBack.{RvgBack, RvgFinds, fall_first}
use Rattle.vx_events.specs.RvgParts.{RvgShort}
use Rattle.vx_events.specs.RvgViews.{is_over_rvg}
use Rattle.vx_events.specs.declared.said.Said.{Said}
use Rattle.vx_above.specs.OwnDisks.{own_disks}
use Rattle.vx_yard.specs.Carries.{Carries}
use Rattle.vx_yard.specs.Standing.{StandsFor}
use Rattle.vx_yard.specs.Stands.{RoseAll}
use Rattle.vx_yard.specs.Yards.{IsTold, count_of}
use Rattle.vx_yard.specs.declared.yard.Yard.{Yard}

-- the world behind the crash with which the line begins where the site is up, and the same with the disks of the site that are made to fail
abbrev pub rests_world : Doubted → (s kept : ℕ) → (taken : Bool) → Doubted
rests_world d s kept taken = run_as taken d (fall_first (d.world.nodes s).state s kept)

abbrev pub rests_as : Doubted → (s kept : ℕ) → (taken : Bool) → Doubted
rests_as d s kept taken = own_disks taken s d.world (rests_world d s kept taken)

-- the site lies there on the disks that it had, with what it noted of its group
pub record RestsSo (d : Doubted) (s kept : ℕ) (taken : Bool) : Type 0 where
  pub fits : LinksFit (rests_world d s kept taken)
  pub disks : ((rests_as d s kept taken).world.nodes s).disks ≡ (d.world.nodes s).disks
  pub blocks : ((rests_as d s kept taken).world.nodes s).blocks ≡ (d.world.nodes s).blocks
  pub group : ((rests_as d s kept taken).world.nodes s).group ≡ (d.world.nodes s).group
  pub over : is_over_rvg (d.world.nodes s) ≡ true

module _ {R : Type 0} {g : Ghosts R} where
  -- The line was answered so, from this yard on, which stands for the world in which the site rests.
  pub record RaisesFor (d : Doubted) (line : ScriptLine) (s kept : ℕ) (taken : Bool) (said : Said) (old new : Yard R g) : Type 0 where
    pub next : Doubted
    pub fails : Fails
    pub works : RvgBack (IsTold new) d line s fails said next ⊎ RvgFinds (IsTold new) d line s fails said next
    pub stands : StandsFor next new
    pub carries : Carries (rests_as d s kept taken) old → Carries next new
    pub rose : RoseAll fails (count_of old) (count_of new)

  -- memory ran out in it
  pub record RaisesShort (d : Doubted) (line : ScriptLine) (s kept : ℕ) (taken : Bool) (old new : Yard R g) : Type 0 where
    pub next : Doubted
    pub part : RvgShort (IsTold new) d line s next
    pub stands : StandsFor next new
    pub carries : Carries (rests_as d s kept taken) old → Carries next new
    pub rose : RoseAll [] (count_of old) (count_of new)

  abbrev pub RaisesIs : Doubted → ScriptLine → (s kept : ℕ) → (taken : Bool) → Yard R g → Yard R g → Result Said OutOfMemory → Type 0
  RaisesIs d line s kept taken old new (Ok said) = RaisesFor d line s kept taken said old new
  RaisesIs d line s kept taken old new (Err e) = RaisesShort d line s kept taken old new
