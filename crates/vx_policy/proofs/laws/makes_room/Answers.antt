-- `makes_room`: clauses up, room and stays.
use Rattle.vx_policy.proofs.Room.{parts-of, none-down, all-room, all-stay}
use Rattle.vx_policy.proofs.laws.makes_room.Goals as goal

pub returns-clause-up : goal.returns-clause-up
returns-clause-up c need room links used cs at d h k = none-down links at d (parts-of need room links used cs h).up k

pub returns-clause-room : goal.returns-clause-room
returns-clause-room c need room links used cs at d h k le =
    let p : _ = parts-of need room links used cs h in rw p.is (all-room need room links used at d p.fits k le)

pub returns-clause-stays : goal.returns-clause-stays
returns-clause-stays c need room links used cs at d h k le fits = rw (parts-of need room links used cs h).is (all-stay need room links used at d k le fits)
