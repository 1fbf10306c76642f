-- `fall`: what the crash leaves, put back.
use Rattle.vx_diskset.specs.Asked.{MayCrash}
use Rattle.vx_diskset.specs.DiskSets.{CrashedAt, Later}
use Rattle.vx_diskset.specs.Noted.{OversFall}
use Rattle.vx_diskset.specs.Stands.{CutAt, IsToldAt, KeepsRole}
use Rattle.vx_diskset.proofs.OverStays.{put_there}
use Rattle.vx_diskset.proofs.disk_set.DiskSet.fall.Goals as goal

pub returns-clause-falls : goal.returns-clause-falls
returns-clause-falls g c = λ beside n. put_there (λ o e. CutAt beside n o → CrashedAt beside n e) c.replace-disk_set.result c.args.self.now c.crash.result c.put_back.new.place c.replace-disk_set.ensures.value c.put_back.ensures (c.crash.ensures.cut beside n)

pub returns-clause-stopped : goal.returns-clause-stopped
returns-clause-stopped g c = put_there (λ o e. MayCrash 0xffff_ffff_ffff_ffff o e) c.replace-disk_set.result c.args.self.now c.crash.result c.put_back.new.place c.replace-disk_set.ensures.value c.put_back.ensures c.crash.ensures.stopped

pub returns-clause-seen : goal.returns-clause-seen
returns-clause-seen g c = put_there (λ o e. IsToldAt e → IsToldAt o) c.replace-disk_set.result c.args.self.now c.crash.result c.put_back.new.place c.replace-disk_set.ensures.value c.put_back.ensures c.crash.ensures.seen

pub returns-clause-role : goal.returns-clause-role
returns-clause-role g c = put_there (λ o e. KeepsRole o e) c.replace-disk_set.result c.args.self.now c.crash.result c.put_back.new.place c.replace-disk_set.ensures.value c.put_back.ensures c.crash.ensures.role

pub returns-clause-fallen : goal.returns-clause-fallen
returns-clause-fallen g c = put_there (λ o e. OversFall o e) c.replace-disk_set.result c.args.self.now c.crash.result c.put_back.new.place c.replace-disk_set.ensures.value c.put_back.ensures c.crash.ensures.fallen

pub returns-clause-later : goal.returns-clause-later
returns-clause-later g c = put_there (λ o e. Later o e) c.replace-disk_set.result c.args.self.now c.crash.result c.put_back.new.place c.replace-disk_set.ensures.value c.put_back.ensures c.crash.ensures.later
