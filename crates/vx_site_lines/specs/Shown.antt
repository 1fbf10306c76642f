-- What is promised of blocks that a site shows with all writes that came to it.
use Rattle.std.specs.Prelude.{◌≡◌, ℕ, ◌*◌, List, length, Result, Ok, Err}
use Rattle.vx_model.specs.declared.limits.TheConstants.{BLOCK}
use Rattle.vx_model.specs.declared.no.No.{No}
use Rattle.vx_model.specs.declared.no.No.TheVariants.{Device}
use Rattle.vx_history.specs.World.{Node}
use Rattle.vx_disk.specs.declared.shelf.Shelf.{Ghosts}
use Rattle.vx_rvg.specs.Contents.{ShowsContent}
use Rattle.vx_events.specs.Sayings.{received_content}
use Rattle.vx_diskset.specs.DiskSets.{RoseAt}
use Rattle.vx_diskset.specs.Holds.{KeptBeside}
use Rattle.vx_diskset.specs.Stands.{IsToldAt, SiteStands}
use Rattle.vx_diskset.specs.declared.disk_set.DiskSet.{DiskSet}

module _ {R : Type 0} {g : Ghosts R} where
  -- so many blocks, which are those of that content where it is told
  pub record GaveShown (beside : KeptBeside) (n : Node) (volume start count : ℕ) (bytes : List ℕ) (new : DiskSet R g) : Type 0 where
    pub size : length bytes ≡ BLOCK * count
    pub shows : IsToldAt new → ShowsContent (received_content n) volume start count bytes
    pub stands : SiteStands beside n new

  -- the blocks, or a failing disk
  abbrev pub GaveShownAt : KeptBeside → Node → ℕ → ℕ → ℕ → DiskSet R g → DiskSet R g → Result (List ℕ) No → Type 0
  GaveShownAt beside n volume start count old new (Ok bytes) = GaveShown beside n volume start count bytes new
  GaveShownAt beside n volume start count old new (Err (Device disk)) = SiteStands beside n new × RoseAt old new disk
  GaveShownAt beside n volume start count old new (Err other) = ⊥
