-- The loop of `copy_regions` over `region`: what stays true.
use Rattle.std.proofs.Common.{◌≤◌}
use Rattle.std.specs.Option.{option_copied}
use Rattle.vx_resync.specs.Picks.{InPickedBelow, marked_or}
use Rattle.vx_group.specs.Copying.{RunCopied}
use Rattle.vx_group.proofs.copying.copy_regions.Given as goal

abbrev pub invariant-loop-region : goal.invariant-loop-region
invariant-loop-region g l = RunCopied l.fn.core l.vol l.source (InPickedBelow (marked_or (option_copied l.drl)) l.region) l.core (g.S.Shelf.meaning l.fn.shelf) (g.S.Shelf.meaning l.shelf) × (l.region ≤ l.regions)
