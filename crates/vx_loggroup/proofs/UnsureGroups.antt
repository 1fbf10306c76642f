-- A group of which more volumes are unsure stands as it did.
use Rattle.std.proofs.Common.{Bool, List}
use Rattle.vx_disk.specs.Shelf.{Meaning}
use Rattle.vx_group.specs.Holding.{GroupStands}
use Rattle.vx_group.specs.declared.group_core.GroupCore.{GroupCore}
use Rattle.vx_logs.specs.declared.logs.Logs.{Logs}
use Rattle.vx_loggroup.specs.LoggedVolumes.{LoggedStands}

-- the group with these volumes unsure
abbrev pub with_unsure : List Bool → GroupCore → GroupCore
with_unsure unsure c = record {
  inner = record { config = c.inner.config; good = c.inner.good; room = c.inner.room; unsettled = c.inner.unsettled; committed = c.inner.committed; agreed = c.inner.agreed; next = c.inner.next; faults = c.inner.faults; unsure = unsure };
  held = c.held;
}

-- what a group keeps has no word of unsure volumes
unsure_group : (c : GroupCore) (unsure : List Bool) (m : Meaning) → GroupStands c m → GroupStands (with_unsure unsure c) m
unsure_group c unsure m it = record {
  stands = record {
    wanted = it.stands.wanted;
    serial = it.stands.serial;
    disks = it.stands.disks;
    rvg = it.stands.rvg;
    few = it.stands.few;
    small = it.stands.small;
    large = it.stands.large;
    on = it.stands.on;
    some = it.stands.some;
    kept = it.stands.kept;
    tidy = it.stands.tidy;
    trusts = it.stands.trusts;
  };
  held = it.held;
}

pub unsure_stands : (c : GroupCore) (unsure : List Bool) (ls : List Logs) (a : List Bool) (s : Bool) (m : Meaning) → LoggedStands c ls a s m → LoggedStands (with_unsure unsure c) ls a s m
unsure_stands c unsure ls a s m it = record {
  group = unsure_group c unsure m it.group;
  many = it.many;
  each = λ v l is. let was = it.each v l is in record { on = was.on; maps = was.maps; alike = was.alike };
}
