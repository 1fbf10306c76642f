-- A group obeys the laws of a shelf.
use Rattle.std.proofs.Common.{arith}
use Rattle.vx_disk.specs.Shelf.{Lawful, Meaning}
use Rattle.vx_kept.specs.Commits.{Member}
use Rattle.vx_kept.proofs.Facts.{from_fact}
use Rattle.vx_kept.proofs.Narrower.{has_active, wanted_sound}
use Rattle.vx_kept.proofs.Steps.{group-Lawful}
use Rattle.vx_group.specs.Stands.{InnerStands, volume_faults, inner_meaning}
use Rattle.vx_group.specs.declared.inner.Inner.{Inner}

pub group_lawful : (core : Inner) (m : Meaning) → Lawful m → InnerStands core m → Lawful (inner_meaning core m)
group_lawful core m lawful stands =
    group-Lawful core.config (Member core.good m) (volume_faults core.faults) m lawful (from_fact core.config (Member core.good m) m stands.kept)
    (has_active core.config (wanted_sound m.units m.size core.config stands.wanted) stands.on) (let few = stands.few in omega (arith, few)) stands.small
