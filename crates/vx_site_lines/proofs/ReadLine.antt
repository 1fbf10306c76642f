-- What a line that reads blocks comes to.
use Rattle.std.proofs.Common.{ℕ, List, ⊎_elim}
use Rattle.vx_disk.specs.declared.shelf.Shelf.{Ghosts}
use Rattle.vx_yard.specs.declared.yard.Yard.{Yard}
use Rattle.vx_site_lines.specs.Fetching.{IsFetchFree}
use Rattle.vx_yard.specs.Yards.{in_files}
use Rattle.vx_events.proofs.RefusedCalls.{CallMay, read_may, show_may}

module _ {R : Type 0} {g : Ghosts R} where
  pub may_read : (y : Yard R g) (name volume : List ℕ) (start count : ℕ) → IsFetchFree y name volume start count → CallMay y.facts.items name volume start count
  may_read y name volume start count free = ⊎_elim (λ e. read_may y.facts.items (in_files y) name volume start count e) (λ e. show_may y.facts.items (in_files y) name volume start count e) free
