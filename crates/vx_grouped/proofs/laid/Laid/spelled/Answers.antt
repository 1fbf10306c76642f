-- A sound configuration has few subdisks.
use Rattle.vx_group.proofs.HoldLemmas.{narrow_sound}
use Rattle.vx_kept.proofs.Narrower.{sound_few}
use Rattle.vx_untold.specs.Shades.{shade_meaning}
use Rattle.vx_grouped.proofs.laid.Laid.spelled.Goals as goal

pub is_short-requires-clause-few : goal.is_short-requires-clause-few
is_short-requires-clause-few g c = sound_few c.args.self.now.core.inner.config (narrow_sound c.args.self.now.core (shade_meaning g.R.Shelf.meaning c.args.self.now.shelf) c.args.self.now.stands.group)

pub encode_into-requires-clause-few : goal.encode_into-requires-clause-few
encode_into-requires-clause-few g c = sound_few c.args.self.now.core.inner.config (narrow_sound c.args.self.now.core (shade_meaning g.R.Shelf.meaning c.args.self.now.shelf) c.args.self.now.stands.group)
