-- The configuration of a group that is up is sound.
use Rattle.vx_group.proofs.HoldLemmas.{narrow_sound}
use Rattle.vx_untold.specs.Shades.{shade_meaning}
use Rattle.vx_grouped.proofs.laid.Laid.sound.Goals as goal

pub returns : goal.returns
returns g c = narrow_sound c.args.self.now.core (shade_meaning g.R.Shelf.meaning c.args.self.now.shelf) c.args.self.now.stands.group
