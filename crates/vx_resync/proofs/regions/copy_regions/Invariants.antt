-- The loop of `copy_regions` over `region`: what stays true.
use Rattle.std.proofs.Common.{◌≤◌}
use Rattle.std.specs.Option.{option_copied}
use Rattle.vx_resync.specs.Copies.{CopiedBelow}
use Rattle.vx_resync.specs.Picks.{is_picked}
use Rattle.vx_resync.proofs.regions.copy_regions.Given as goal

abbrev pub invariant-loop-region : goal.invariant-loop-region
invariant-loop-region g l = CopiedBelow l.config l.vol l.source l.to (is_picked l.to (option_copied l.drl) (option_copied l.fmr)) l.region l.copied (g.S.Shelf.meaning l.fn.shelf) (g.S.Shelf.meaning l.shelf) × (l.region ≤ l.regions)
