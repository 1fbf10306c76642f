-- `read`: clauses read and still.
use Rattle.std.proofs.Common.{refl, subst, sym}
use Rattle.vx_model.specs.Content.{blocks_in}
use Rattle.vx_diskset.specs.Asked.{IsRawSet, LeavesAlone}
use Rattle.vx_diskset.specs.declared.disk_set.DiskSet.TheVariants.{Up, Over}
use Rattle.vx_diskset.proofs.KeepsFailing.{alone_same}
use Rattle.vx_diskset.proofs.ReadGroup.{read_at}
use Rattle.vx_diskset.proofs.Receiving.{durable_of, read_received, receiver_as, wait_core}
use Rattle.vx_diskset.specs.DiskSets.{ReadAt}
use Rattle.vx_diskset.specs.Stands.{SiteStands}
use Rattle.vx_diskset.proofs.OverCalled.{over_later, over_role}
use Rattle.vx_diskset.proofs.OverNoted.{notes_raw, notes_read}
use Rattle.vx_diskset.proofs.disk_set.DiskSet.read.Goals as goal
use Rattle.vx_diskset.proofs.RawSets.{receiver_there}

pub returns-then-volume-volumes-clause-read : goal.returns-then-volume-volumes-clause-read
returns-then-volume-volumes-clause-read g c = λ beside n stands can.
    let lawful = (g.met.R.Shelf g.world.𝓛 g.world.𝓜 g.world.𝓡 ((λ s x. x), (λ x. x), (λ x. x), λ x. x)).lawful in
    read_at beside n c.args.volume c.args.start (blocks_in c.args.into.now) c.read.new.into c.args.self.now c.in-Up.rvg c.read.new.self c.read.result c.in-Up.is stands can
    (lawful c.in-Up.rvg.shelf) (lawful c.read.new.self.shelf) c.read.ensures.core c.read.ensures.answers c.read.ensures.gives c.read.ensures.goes c.read.ensures.down c.read.ensures.disks

pub returns-then-volume-volumes-clause-still : goal.returns-then-volume-volumes-clause-still
returns-then-volume-volumes-clause-still g c = λ raw. subst (λ e. LeavesAlone e (Up c.read.new.self)) (sym c.in-Up.is) (record { told = c.read.ensures.disks; sizes = c.read.ensures.goes.size })

pub returns-else-volume-volumes-clause-still : goal.returns-else-volume-volumes-clause-still
returns-else-volume-volumes-clause-still g c = λ raw. subst (λ e. LeavesAlone e (Up c.in-Up.rvg)) (sym c.in-Up.is) (alone_same (Up c.in-Up.rvg))

pub returns-then-volume-volumes-2-clause-read : goal.returns-then-volume-volumes-2-clause-read
returns-then-volume-volumes-2-clause-read g c = λ beside n stands can.
    let lawful = (g.met.R.Shelf g.world.𝓛 g.world.𝓜 g.world.𝓡 ((λ s x. x), (λ x. x), (λ x. x), λ x. x)).lawful in
    read_received beside n c.args.self.now c.in-Receives.site
    (record {
      rvg = c.read-then-volume-volumes-2.new.self;
      waiting = c.in-Receives.site.waiting;
      waits = wait_core c.in-Receives.site.rvg.core c.read-then-volume-volumes-2.new.self.core (g.R.Shelf.meaning c.in-Receives.site.rvg.shelf) (g.R.Shelf.meaning c.read-then-volume-volumes-2.new.self.shelf) c.in-Receives.site.waiting
          c.read-then-volume-volumes-2.ensures.core c.read-then-volume-volumes-2.ensures.goes.size c.in-Receives.site.waits;
    }) c.in-Receives.is stands can.running refl c.args.volume c.args.start (blocks_in c.args.into.now) c.read-then-volume-volumes-2.new.into c.read-then-volume-volumes-2.result
    (read_at beside (durable_of n) c.args.volume c.args.start (blocks_in c.args.into.now) c.read-then-volume-volumes-2.new.into (Up c.in-Receives.site.rvg) c.in-Receives.site.rvg c.read-then-volume-volumes-2.new.self c.read-then-volume-volumes-2.result refl
    ((receiver_there beside n c.args.self.now c.in-Receives.site c.in-Receives.is stands).0, receiver_as beside n c.args.self.now c.in-Receives.site c.in-Receives.is stands can.running (lawful c.in-Receives.site.rvg.shelf))
    (record { up = can.up; running = can.running; volume_exists = can.volume_exists; within = can.within })
    (lawful c.in-Receives.site.rvg.shelf) (lawful c.read-then-volume-volumes-2.new.self.shelf) c.read-then-volume-volumes-2.ensures.core c.read-then-volume-volumes-2.ensures.answers c.read-then-volume-volumes-2.ensures.gives
    c.read-then-volume-volumes-2.ensures.goes c.read-then-volume-volumes-2.ensures.down c.read-then-volume-volumes-2.ensures.disks)

pub returns-in-Over-clause-still : goal.returns-in-Over-clause-still
returns-in-Over-clause-still g c = λ raw. absurd (subst (λ e. IsRawSet e) c.in-Over.is raw)

pub returns-then-volume-volumes-clause-notes : goal.returns-then-volume-volumes-clause-notes
returns-then-volume-volumes-clause-notes g c = notes_raw c.args.self.now _ (subst (λ e. IsRawSet e) (sym c.in-Up.is) tt)

pub returns-else-volume-volumes-clause-notes : goal.returns-else-volume-volumes-clause-notes
returns-else-volume-volumes-clause-notes g c = notes_raw c.args.self.now _ (subst (λ e. IsRawSet e) (sym c.in-Up.is) tt)

pub returns-then-volume-volumes-2-clause-notes : goal.returns-then-volume-volumes-2-clause-notes
returns-then-volume-volumes-2-clause-notes g c = notes_raw c.args.self.now _ (subst (λ e. IsRawSet e) (sym c.in-Receives.is) tt)

pub returns-else-volume-volumes-2-clause-notes : goal.returns-else-volume-volumes-2-clause-notes
returns-else-volume-volumes-2-clause-notes g c = notes_raw c.args.self.now _ (subst (λ e. IsRawSet e) (sym c.in-Receives.is) tt)

pub returns-in-Over-clause-read : goal.returns-in-Over-clause-read
returns-in-Over-clause-read g c = λ beside n stands can.
    subst (λ e. ReadAt beside n c.args.volume c.args.start (blocks_in c.args.into.now) c.read-in-Over.new.into e (Over c.read-in-Over.new.self) c.read-in-Over.result) (sym c.in-Over.is) (c.read-in-Over.ensures.read beside n (subst (λ e. SiteStands beside n e) c.in-Over.is stands) can)

pub returns-in-Over-clause-role : goal.returns-in-Over-clause-role
returns-in-Over-clause-role g c = over_role c.args.self.now c.in-Over.over c.read-in-Over.new.self c.in-Over.is c.read-in-Over.ensures.called

pub returns-in-Over-clause-later : goal.returns-in-Over-clause-later
returns-in-Over-clause-later g c = over_later c.args.self.now c.in-Over.over c.read-in-Over.new.self c.in-Over.is c.read-in-Over.ensures.called

pub returns-in-Over-clause-notes : goal.returns-in-Over-clause-notes
returns-in-Over-clause-notes g c = notes_read c.args.self.now c.in-Over.over c.read-in-Over.new.self c.in-Over.is c.read-in-Over.ensures.called c.read-in-Over.ensures.down
