-- `find_source`: what `unreachable` asks; what stays true in its loop over `plex`.
use Rattle.std.proofs.Common.{sym, ◌∙◌}
use Rattle.vx_resync.proofs.PickLemmas.{none_next, some_gives}
use Rattle.vx_resync.proofs.sources.find_source.Goals as goal

pub loop-plex-preserved : goal.loop-plex-preserved
loop-plex-preserved c = none_next c.args.config.now c.args.vol c.loop-plex.plex c.args.to c.loop-plex.invariant (sym c.can_give.ensures ∙ c.if-can_give.false)

pub unreachable-requires : goal.unreachable-requires
unreachable-requires c = some_gives c.args.config.now c.args.vol c.loop-plex.plex c.args.to c.requires.checked c.loop-plex-test.false c.loop-plex.invariant c.requires.some
