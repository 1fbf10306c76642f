-- `write_marked`, where it is refused.
use Rattle.std.proofs.Common.{inl, refl, true}
use Rattle.vx_rvg.proofs.Blaming.{blames_idle}
use Rattle.vx_rvg.proofs.MarkedStands.{between_none, still_short}
use Rattle.vx_disk.proofs.Spending.{spends_none}
use Rattle.vx_rvg.proofs.marked.write_marked.Goals as goal

pub returns-in-Some-clause-part : goal.returns-in-Some-clause-part
returns-in-Some-clause-part g c = between_none _ true c.args.core.now.maps c.args.core.now.maps refl

pub returns-in-Some-clause-calls : goal.returns-in-Some-clause-calls
returns-in-Some-clause-calls g c = λ all. tt

pub returns-in-Some-clause-short : goal.returns-in-Some-clause-short
returns-in-Some-clause-short g c = λ all fits. still_short 4 (g.S.Shelf.meaning c.args.shelf.now)

pub returns-then-is_down-clause-part : goal.returns-then-is_down-clause-part
returns-then-is_down-clause-part g c = between_none _ true c.args.core.now.maps c.args.core.now.maps refl

pub returns-then-is_down-clause-calls : goal.returns-then-is_down-clause-calls
returns-then-is_down-clause-calls g c = λ all. tt

pub returns-then-is_down-clause-short : goal.returns-then-is_down-clause-short
returns-then-is_down-clause-short g c = λ all fits. still_short 4 (g.S.Shelf.meaning c.args.shelf.now)

pub returns-in-Some-clause-blames : goal.returns-in-Some-clause-blames
returns-in-Some-clause-blames g c = inl (blames_idle (g.S.Shelf.meaning c.args.shelf.now).disks c.args.core.now.units.maps c.in-Some.no c.in-Some.ensures.idle)

pub returns-then-is_down-clause-blames : goal.returns-then-is_down-clause-blames
returns-then-is_down-clause-blames g c = inl tt

pub returns-in-Some-clause-unchanged : goal.returns-in-Some-clause-unchanged
returns-in-Some-clause-unchanged g c = λ is. refl

pub returns-in-Some-clause-sound : goal.returns-in-Some-clause-sound
returns-in-Some-clause-sound g c = c.requires.sound

pub returns-in-Some-clause-marked : goal.returns-in-Some-clause-marked
returns-in-Some-clause-marked g c = tt

pub returns-in-Some-clause-least : goal.returns-in-Some-clause-least
returns-in-Some-clause-least g c = tt

pub returns-in-Some-clause-works : goal.returns-in-Some-clause-works
returns-in-Some-clause-works g c = tt

pub returns-in-Some-clause-spends : goal.returns-in-Some-clause-spends
returns-in-Some-clause-spends g c = spends_none (g.S.Shelf.meaning c.args.shelf.now)

pub returns-then-is_down-clause-unchanged : goal.returns-then-is_down-clause-unchanged
returns-then-is_down-clause-unchanged g c = λ is. refl

pub returns-then-is_down-clause-sound : goal.returns-then-is_down-clause-sound
returns-then-is_down-clause-sound g c = c.requires.sound

pub returns-then-is_down-clause-marked : goal.returns-then-is_down-clause-marked
returns-then-is_down-clause-marked g c = tt

pub returns-then-is_down-clause-least : goal.returns-then-is_down-clause-least
returns-then-is_down-clause-least g c = tt

pub returns-then-is_down-clause-works : goal.returns-then-is_down-clause-works
returns-then-is_down-clause-works g c = tt

pub returns-then-is_down-clause-spends : goal.returns-then-is_down-clause-spends
returns-then-is_down-clause-spends g c = spends_none (g.S.Shelf.meaning c.args.shelf.now)
