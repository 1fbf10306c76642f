-- The volumes of a replicated volume group are named over disks with an account of their calls.
use Rattle.std.proofs.Common.{◌∙◌}
use Rattle.vx_ground.specs.Named.{NamesGroup}
use Rattle.vx_grouped.proofs.CarryLemmas.{carried, shelf_of}
use Rattle.vx_ground.proofs.naming.name_watched.Goals as goal

pub returns-clause-names : goal.returns-clause-names
returns-clause-names g c =
    carried (λ x s y t. NamesGroup c.args.units.now x (g.R.Shelf.meaning s) y (g.R.Shelf.meaning t) c.name_rvg-group.result.1)
    c.args.group.core c.together-group.result.core c.together.result.core c.name_rvg-group.result.0.core c.args.group.shelf c.together-group.result.shelf.shelf c.together.result.shelf c.name_rvg-group.result.0.shelf.shelf
    (c.together-group.ensures.core ∙ c.apart-rack.ensures.core) (shelf_of _ _ c.together-group.ensures.shelf ∙ c.over-watched.ensures ∙ c.apart-rack.ensures.shelf)
    (c.together.ensures.core ∙ c.apart-watched.ensures.core) (c.together.ensures.shelf ∙ c.into_shelf-rack.ensures.shelf ∙ shelf_of _ _ c.apart-watched.ensures.shelf)
    (record {
      refused = λ why is. let it = c.name_rvg-group.ensures.refused why is in (it.0, it.1);
      goes = c.name_rvg-group.ensures.goes;
      same = c.name_rvg-group.ensures.same;
      disks = c.name_rvg-group.ensures.disks;
      ends = c.name_rvg-group.ensures.ends;
      trust = c.name_rvg-group.ensures.trust;
      agreed = c.name_rvg-group.ensures.agreed;
      later = c.name_rvg-group.ensures.later;
      finds = c.name_rvg-group.ensures.finds;
      up = c.name_rvg-group.ensures.up;
      cause = c.name_rvg-group.ensures.cause;
      few = c.name_rvg-group.ensures.few;
    })
