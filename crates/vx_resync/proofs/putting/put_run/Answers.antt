-- `put_run`: what `put_one` asks.
use Rattle.std.proofs.Common.{◌/◌, length}
use Rattle.vx_resync.proofs.CopyLemmas.{some_fits}
use Rattle.vx_resync.proofs.putting.put_run.Goals as goal

pub put_one-requires-clause-fits : goal.put_one-requires-clause-fits
put_one-requires-clause-fits g c = some_fits c.args.config.now c.args.vol c.in-Some.plex c.args.to c.args.block (length c.args.bytes.now / 512) (g.S.Shelf.meaning c.args.shelf.now) c.requires.checked c.in-Some.is c.requires.volume c.requires.within c.requires.active c.requires.disks
