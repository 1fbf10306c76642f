-- What marks in the change maps make of a group that has writes staged.
use Rattle.std.specs.Prelude.{ℕ, Bool, List, take}
use Rattle.vx_model.specs.Content.{Write}
use Rattle.vx_disk.specs.Shelf.{Image, Meaning}
use Rattle.vx_rvg.specs.Commits.{HasStaged}
use Rattle.vx_rvg.specs.Holdings.{Holding, with_writes}
use Rattle.vx_rvg.specs.Marks.{AllMarkedIn, HasAllMaps, MarksBetween, with_blocks_of_maps, with_marks}
use Rattle.vx_rvg.specs.Stands.{FoundAs}
use Rattle.vx_rvg.specs.Views.{Core}

-- an image has this, with a first part of these writes behind it, which may be none or all
pub record FoundPart (core : Core) (i : Image) (xs : List Write) (h : Holding) : Type 0 where
  pub count : ℕ
  pub found : FoundAs core i (with_writes (take count xs) h)

-- Of whatever the group held, with all of its maps, and had staged: an image in the call has what it held, with some of the marks of these places changed and with a
-- first part of what was staged.
pub record StagedMarking (core : Core) (mine : ℕ → Type 0) (value : Bool) (m : Meaning) (i : Image) : Type 0 where
  pub each : (xs : List Write) (h : Holding) → HasStaged xs core h m → HasAllMaps core.maps h.maps
      → (maps : List (List ℕ)) × MarksBetween core.maps mine value h.maps maps × FoundPart core i xs (with_blocks_of_maps maps h)

-- behind the call the group holds what it held with all of its maps and has the same staged, with the marks that it has in memory
pub record StagedRemarks (core after : Core) (old new : Meaning) : Type 0 where
  pub each : (xs : List Write) (h : Holding) → HasStaged xs core h old → HasAllMaps core.maps h.maps → HasStaged xs after (with_marks after.maps h) new

-- Of whatever the group held, with all of its maps, and had staged: an image in the call has what it held, with each of these places marked, and with a first part of what
-- was staged.
pub record MarkedCommitting (core : Core) (mine : ℕ → Type 0) (m : Meaning) (i : Image) : Type 0 where
  pub each : (xs : List Write) (h : Holding) → HasStaged xs core h m → HasAllMaps core.maps h.maps → AllMarkedIn core.maps mine h.maps × FoundPart core i xs h
