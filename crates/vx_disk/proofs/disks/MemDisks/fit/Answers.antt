-- `fit`: clause fitted.
use Rattle.std.proofs.Common.{refl}
use Rattle.vx_disk.proofs.Fits.{zeroed-Fitted}
use Rattle.vx_disk.proofs.disks.MemDisks.fit.Goals as goal

pub returns-clause-fitted : goal.returns-clause-fitted
returns-clause-fitted c = zeroed-Fitted _ _ _ c.in_ok-units.ensures.zeroed _ c.requires.unfitted c.args.self.now.units _ _ _ _ c.requires.up refl c.note.ensures
