-- Whole runs: the lines, the failed calls in each, and the text of each.
use Rattle.std.specs.Prelude.{◌≡◌, ℕ, Bool, false, List, [], ◌∷◌, ◌++◌}
use Rattle.vx_history.specs.Doubts.{Doubted}
use Rattle.vx_world.specs.Lines.{GoodDoubted}
use Rattle.vx_disk.specs.Shelf.{Meaning}
use Rattle.vx_yard.specs.Holds.{GroupsHold, RacksHold, RacksTell}
use Rattle.vx_yard.specs.Steps.{BytesStep}
use Rattle.vx_events.specs.Fails.{Fails}

-- the lines, one after another, each a step from the world that the line before it left
abbrev pub RunsLines : Type 0 → Bool → Doubted → List (List ℕ) → List Fails → List (List ℕ) → Doubted → Type 0
RunsLines told files d [] [] [] new = new ≡ d
RunsLines told files d (line ∷ lines) (fails ∷ failures) (text ∷ texts) new =
    (mid : Doubted) × BytesStep told files d line fails text mid × RunsLines told files mid lines failures texts new
RunsLines told files d [] [] (text ∷ texts) new = ⊥
RunsLines told files d [] (fails ∷ failures) texts new = ⊥
RunsLines told files d (line ∷ lines) [] texts new = ⊥
RunsLines told files d (line ∷ lines) (fails ∷ failures) [] new = ⊥

-- the failed calls of all lines
abbrev pub fails_of_lines : List Fails → Fails
fails_of_lines [] = []
fails_of_lines (fails ∷ failures) = fails ++ fails_of_lines failures

module _ {R : Type 0} (meaning : R → Meaning) where
  -- The world at the end of a run: the racks hold it. Where they tell their contents they hold the groups of its sites too, and it is good, as every world
  -- is that comes about, whichever of the sites in doubt are as they may be on their disks, as long as it has not strayed: no log came up from disks of which
  -- nothing was known.
  pub record LeavesRacks (racks : List R) (d : Doubted) : Type 0 where
    pub good : RacksTell meaning racks → d.strayed ≡ false → GoodDoubted d
    pub holds : RacksHold meaning d racks
    pub groups : RacksTell meaning racks → GroupsHold meaning d racks
