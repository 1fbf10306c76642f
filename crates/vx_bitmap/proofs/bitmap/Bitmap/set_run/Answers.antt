-- Which disk a refusal names.
use Rattle.std.proofs.Common.{ap}
use Rattle.vx_disk.proofs.Naming.{blames_failed}
use Rattle.vx_bitmap.specs.Maps.{Map}
use Rattle.vx_bitmap.proofs.bitmap.Bitmap.set_run.Goals.{in-Ok, in-Err}
use Rattle.vx_bitmap.proofs.bitmap.Bitmap.set_run.Goals as goal

pub returns-clause-blames : goal.returns-clause-blames
returns-clause-blames g c = elim c.match-change.branch [
  | in-Ok w ↦ rw w.result-is tt
  | in-Err w ↦ rw w.result-is (blames_failed (Unit {0}) (g.S.Shelf.meaning c.args.shelf.now).disks _ _ w.in-Err.error _ (ap (λ (m : Map). m.unit) c.self.view_is) w.refusal.ensures w.in-Err.ensures.names)
]
