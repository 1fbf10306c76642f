-- What the shape of a raw set says of the disks.
use Rattle.std.proofs.Common.{◌∙◌, sym}
use Rattle.vx_events.proofs.Refused.{raw_set}
use Rattle.vx_diskset.proofs.units.can_be_raw.Goals as goal

pub returns-then-disks-le-MOST_DISKS-clause-is : goal.returns-then-disks-le-MOST_DISKS-clause-is
returns-then-disks-le-MOST_DISKS-clause-is c = λ yes.
    let shape = raw_set c.args.disks c.args.blocks (sym c.is_raw_shape.ensures ∙ yes) in
    record { some = shape.0; maps = shape.2 }

pub returns-then-disks-le-MOST_DISKS-clause-large : goal.returns-then-disks-le-MOST_DISKS-clause-large
returns-then-disks-le-MOST_DISKS-clause-large c = λ yes. (raw_set c.args.disks c.args.blocks (sym c.is_raw_shape.ensures ∙ yes)).1
