-- A plex that is attached.
use Rattle.vx_groupmaps.proofs.BetweenLemmas.{attach_covers}
use Rattle.vx_groupmaps.proofs.laws.attached_plexes_leave_the_others.Goals as goal

pub returns : goal.returns
returns g c = λ d spare attaches unmapped content cover.
    attach_covers c.args.config.now c.requires.checked c.args.vol c.args.plex c.requires.off c.requires.has c.args.logs.now (g.S.Shelf.meaning c.args.before.now) (g.S.Shelf.meaning c.args.after.now) c.requires.reads d attaches unmapped content spare cover
