-- The same of the disks of a site.
use Rattle.std.proofs.Common.{◌∙◌, ap}
use Rattle.vx_config.specs.Checks.{is_group}
use Rattle.vx_group.specs.declared.group_core.GroupCore.{GroupCore}
use Rattle.vx_ground.proofs.naming.can_name.Goals as goal

pub returns-clause-core : goal.returns-clause-core
returns-clause-core g c = c.of.ensures.core ∙ c.can_name_in-group.ensures.core ∙ c.together.ensures.core

pub returns-clause-shelf : goal.returns-clause-shelf
returns-clause-shelf g c = c.of.ensures.shelf ∙ c.can_name_in-group.ensures.shelf ∙ c.together.ensures.shelf

pub returns-clause-is : goal.returns-clause-is
returns-clause-is g c = c.can_name_in-group.ensures.is ∙ ap (λ (k : GroupCore). is_group k.inner.config.volumes c.args.units.now) c.together.ensures.core
