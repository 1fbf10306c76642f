-- What is shown, case by case.
use Rattle.std.proofs.Common.{subst, sym}
use Rattle.vx_model.specs.Content.{blocks_in}
use Rattle.vx_diskset.specs.declared.disk_set.DiskSet.TheVariants.{Receives, Over}
use Rattle.vx_diskset.specs.Asked.{IsRawSet}
use Rattle.vx_diskset.proofs.Showing.{read_showed, showed, showed_at}
use Rattle.vx_diskset.specs.Received.{ShowedAt}
use Rattle.vx_diskset.specs.Stands.{SiteStands}
use Rattle.vx_diskset.proofs.OverCalled.{over_later, over_role}
use Rattle.vx_diskset.proofs.OverNoted.{notes_raw, notes_read}
use Rattle.vx_diskset.proofs.disk_set.DiskSet.show.Goals as goal

pub returns-then-volume-volumes-clause-shows : goal.returns-then-volume-volumes-clause-shows
returns-then-volume-volumes-clause-shows g c = λ beside n stands can.
    let lawful = (g.met.R.Shelf g.world.𝓛 g.world.𝓜 g.world.𝓡 ((λ s x. x), (λ x. x), (λ x. x), λ x. x)).lawful in
    showed_at beside n c.args.self.now (Receives c.show.new.self) c.in-Receives.site c.args.volume c.args.start (blocks_in c.args.into.now) c.show.new.into c.show.result c.in-Receives.is
    (λ raw r. showed beside n c.in-Receives.site c.show.new.self c.args.volume c.args.start (blocks_in c.args.into.now) c.show.new.into raw r can (lawful c.in-Receives.site.rvg.shelf) (lawful c.show.new.self.rvg.shelf) c.show.ensures.core c.show.ensures.waiting
    c.show.ensures.goes c.show.ensures.down c.show.ensures.disks c.show.result c.show.ensures.answers c.show.ensures.gives)
    stands

pub returns-in-Up-clause-shows : goal.returns-in-Up-clause-shows
returns-in-Up-clause-shows g c = λ beside n stands can.
    read_showed beside n c.args.self.now c.read.new.self _ c.args.volume c.args.start (blocks_in c.args.into.now) c.read.new.into c.read.result c.in-Up.is stands can.running (c.read.ensures.read beside n stands can)

pub returns-in-Over-clause-still : goal.returns-in-Over-clause-still
returns-in-Over-clause-still g c = λ raw. absurd (subst (λ e. IsRawSet e) c.in-Over.is raw)

pub returns-then-volume-volumes-clause-notes : goal.returns-then-volume-volumes-clause-notes
returns-then-volume-volumes-clause-notes g c = notes_raw c.args.self.now _ (subst (λ e. IsRawSet e) (sym c.in-Receives.is) tt)

pub returns-else-volume-volumes-clause-notes : goal.returns-else-volume-volumes-clause-notes
returns-else-volume-volumes-clause-notes g c = notes_raw c.args.self.now _ (subst (λ e. IsRawSet e) (sym c.in-Receives.is) tt)

pub returns-in-Up-clause-notes : goal.returns-in-Up-clause-notes
returns-in-Up-clause-notes g c = c.read.ensures.notes

pub returns-in-Over-clause-shows : goal.returns-in-Over-clause-shows
returns-in-Over-clause-shows g c = λ beside n stands can.
    subst (λ e. ShowedAt beside n c.args.volume c.args.start (blocks_in c.args.into.now) c.show-in-Over.new.into e (Over c.show-in-Over.new.self) c.show-in-Over.result) (sym c.in-Over.is) (c.show-in-Over.ensures.shows beside n (subst (λ e. SiteStands beside n e) c.in-Over.is stands) can)

pub returns-in-Over-clause-role : goal.returns-in-Over-clause-role
returns-in-Over-clause-role g c = over_role c.args.self.now c.in-Over.over c.show-in-Over.new.self c.in-Over.is c.show-in-Over.ensures.called

pub returns-in-Over-clause-later : goal.returns-in-Over-clause-later
returns-in-Over-clause-later g c = over_later c.args.self.now c.in-Over.over c.show-in-Over.new.self c.in-Over.is c.show-in-Over.ensures.called

pub returns-in-Over-clause-notes : goal.returns-in-Over-clause-notes
returns-in-Over-clause-notes g c = notes_read c.args.self.now c.in-Over.over c.show-in-Over.new.self c.in-Over.is c.show-in-Over.ensures.called c.show-in-Over.ensures.down
