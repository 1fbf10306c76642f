-- `stage_plain`, where it is refused.
use Rattle.vx_rvg.proofs.Blaming.{blames_idle}
use Rattle.std.proofs.Common.{refl}
use Rattle.vx_disk.proofs.Spending.{spends_none}
use Rattle.vx_rvg.proofs.stage.stage_plain.Goals as goal

pub returns-in-Some-clause-blames : goal.returns-in-Some-clause-blames
returns-in-Some-clause-blames g c = blames_idle (g.S.Shelf.meaning c.args.shelf.now).disks c.args.core.now.log.unit c.in-Some.no c.in-Some.ensures.idle

pub returns-in-Some-clause-unchanged : goal.returns-in-Some-clause-unchanged
returns-in-Some-clause-unchanged g c = λ is. refl

pub returns-in-Some-clause-sound : goal.returns-in-Some-clause-sound
returns-in-Some-clause-sound g c = c.requires.sound

pub returns-in-Some-clause-least : goal.returns-in-Some-clause-least
returns-in-Some-clause-least g c = tt

pub returns-in-Some-clause-works : goal.returns-in-Some-clause-works
returns-in-Some-clause-works g c = tt

pub returns-in-Some-clause-spends : goal.returns-in-Some-clause-spends
returns-in-Some-clause-spends g c = spends_none (g.S.Shelf.meaning c.args.shelf.now)
