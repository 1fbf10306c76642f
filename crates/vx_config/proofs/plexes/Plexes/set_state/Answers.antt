-- The state of a plex, by its place.
use Rattle.std.proofs.Common.{refl, arith}
use Rattle.vx_config.specs.Changes.{with_state}
use Rattle.vx_config.proofs.Changed.{changed-item, changed-none}
use Rattle.vx_config.proofs.plexes.Plexes.set_state.Goals as goal

pub returns-then-plex-len : goal.returns-then-plex-len
returns-then-plex-len c =
    changed-item (with_state c.args.state c.args.whole) c.args.plex c.args.self.now c.self.inside.plexes.items c.index_mut-entry.result.now _ c.self.view_is (omega arith) c.index_mut-entry.ensures.value refl

pub returns-else-plex-len : goal.returns-else-plex-len
returns-else-plex-len c = changed-none (with_state c.args.state c.args.whole) c.args.plex c.args.self.now c.self.inside.plexes.items c.self.view_is (omega arith)
