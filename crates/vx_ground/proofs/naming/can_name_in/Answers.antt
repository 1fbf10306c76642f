-- Whether volumes may be named: the group is given back as it was.
use Rattle.std.proofs.Common.{◌∙◌, ap, subst, sym}
use Rattle.vx_config.specs.Checks.{is_group}
use Rattle.vx_group.specs.declared.group_core.GroupCore.{GroupCore}
use Rattle.vx_group.proofs.HoldLemmas.{narrow_sound}
use Rattle.vx_group.proofs.RvgLemmas.{same_core}
use Rattle.vx_loggroup.specs.Fresh.{FreshStands}
use Rattle.vx_loggroup.specs.LoggedVolumes.{LoggedStands}
use Rattle.vx_loggroup.specs.Settled.{SettledFact}
use Rattle.vx_ground.proofs.naming.can_name_in.Goals as goal

pub may_name-may-requires : goal.may_name-may-requires
may_name-may-requires g c = record { sound = narrow_sound c.apart-shelf.result.1.core (g.S.Shelf.meaning c.apart-shelf.result.0) c.apart-shelf.ensures.stands.group }

pub together-requires : goal.together-requires
together-requires g c =
    let same = sym (same_core c.apart-shelf.result.1.core c.may_name-may.new.config c.may_name-may.ensures.same) in
    record {
      stands = subst (λ (k : GroupCore). LoggedStands k c.apart-shelf.result.1.logs.items c.apart-shelf.result.1.alike c.apart-shelf.result.1.stopped (g.S.Shelf.meaning c.apart-shelf.result.0)) same c.apart-shelf.ensures.stands;
      begins = subst (λ (k : GroupCore). FreshStands k c.apart-shelf.result.1.fresh (g.S.Shelf.meaning c.apart-shelf.result.0)) same c.apart-shelf.ensures.begins;
      settles = subst (λ (k : GroupCore). SettledFact k c.apart-shelf.result.1.alike (g.S.Shelf.meaning c.apart-shelf.result.0)) same c.apart-shelf.ensures.settles;
    }

pub returns-clause-core : goal.returns-clause-core
returns-clause-core g c = c.together.ensures.core ∙ same_core c.apart-shelf.result.1.core c.may_name-may.new.config c.may_name-may.ensures.same ∙ c.apart-shelf.ensures.core

pub returns-clause-shelf : goal.returns-clause-shelf
returns-clause-shelf g c = c.together.ensures.shelf ∙ c.apart-shelf.ensures.shelf

pub returns-clause-is : goal.returns-clause-is
returns-clause-is g c = c.may_name-may.ensures.is ∙ ap (λ (k : GroupCore). is_group k.inner.config.volumes c.args.units.now) c.apart-shelf.ensures.core
