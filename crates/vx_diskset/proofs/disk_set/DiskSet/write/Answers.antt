-- A write of a site without links is one behind which none needs any number.
use Rattle.vx_diskset.specs.Holds.{site_alone}
use Rattle.vx_diskset.proofs.NeedLemmas.{all_room}
use Rattle.vx_diskset.proofs.disk_set.DiskSet.write.Goals as goal

pub returns-clause-wrote : goal.returns-clause-wrote
returns-clause-wrote g c = λ n stands can. c.write_keeping.ensures.wrote site_alone n stands can (all_room n c.args.volume c.args.start _ c.last-hold.result c.args.self.now stands can (c.last-hold.ensures.is site_alone n stands can.up can.running))
