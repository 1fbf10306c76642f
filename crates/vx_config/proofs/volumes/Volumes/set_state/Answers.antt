-- The state of a plex of a volume, by their places.
use Rattle.std.proofs.Common.{ap, arith, List}
use Rattle.vx_config.specs.Changes.{with_plex}
use Rattle.vx_config.specs.declared.entry.PlexEntry.{PlexEntry}
use Rattle.vx_config.proofs.Changed.{changed-item, changed-none}
use Rattle.vx_config.proofs.volumes.Volumes.set_state.Goals as goal

pub returns-then-volume-len : goal.returns-then-volume-len
returns-then-volume-len c =
    changed-item (with_plex c.args.plex c.args.state c.args.whole) c.args.volume c.args.self.now c.self.inside.volumes.items c.index_mut.result.now _ c.self.view_is (omega arith) c.index_mut.ensures.value
    (ap (λ (ps : List PlexEntry). record c.index_mut.result.now { plexes = ps }) c.set_state.ensures)

pub returns-else-volume-len : goal.returns-else-volume-len
returns-else-volume-len c = changed-none (with_plex c.args.plex c.args.state c.args.whole) c.args.volume c.args.self.now c.self.inside.volumes.items c.self.view_is (omega arith)
