-- `begin_on`: the group that is begun on a rack.
use Rattle.std.proofs.Common.{refl}
use Rattle.vx_diskset.proofs.group_starts.begin_on.Goals as goal

pub returns-clause-begun : goal.returns-clause-begun
returns-clause-begun g c = c.begin_group-group.ensures.begun

pub returns-clause-since : goal.returns-clause-since
returns-clause-since g c = c.begin_group-group.ensures.since

pub returns-clause-cut : goal.returns-clause-cut
returns-clause-cut g c = refl

pub returns-clause-told : goal.returns-clause-told
returns-clause-told g c = c.begin_group-group.ensures.told
