-- The work of each line that goes to a group.
use Rattle.std.proofs.Common.{◌<◌, arith, refl, subst, sym}
use Rattle.std.specs.Prelude.{IfOk, IfSome, Ok}
use Rattle.vx_yard.proofs.Seats.{named_some}
use Rattle.vx_yard.specs.OfSites.{AsAsked, HasCalled}
use Rattle.vx_yard.specs.Working.{IsFree}
use Rattle.vx_yard.specs.Yards.{in_files}
use Rattle.vx_group_lines.proofs.Tests.{volume_may}
use Rattle.vx_group_lines.proofs.WorkLines.{memory_short, ok_any, prefers_below, prefers_few, rest_blocks, shape_layout}
use Rattle.vx_group_lines.proofs.Worked.{goes_alone, works_both, works_closed, works_import, works_made, works_recover}
use Rattle.vx_group_lines.proofs.lines.work_group.Goals as goal

pub init_line-requires-clause-free : goal.init_line-requires-clause-free
init_line-requires-clause-free g c = λ κs lives. subst (λ line. IsFree c.args.yard.now line) c.in-GroupInit.is c.requires.free

pub returns-in-GroupInit-clause-leads : goal.returns-in-GroupInit-clause-leads
returns-in-GroupInit-clause-leads g c = λ d stands goes closed.
    works_closed d c.args.yard.now c.init_line.new.yard c.args.words.now _ c.init_line.result c.in-GroupInit.is tt stands c.requires.kept c.requires.free goes closed (λ group. c.init_line.ensures.leads d stands group)

pub returns-in-GroupInit-clause-asked : goal.returns-in-GroupInit-clause-asked
returns-in-GroupInit-clause-asked g c = λ d stands goes off. subst (λ line. AsAsked d.world line c.args.yard.now c.init_line.new.yard) (sym c.in-GroupInit.is) (c.init_line.ensures.asked d stands (goes_alone d c.args.yard.now c.args.words.now _ c.in-GroupInit.is tt stands c.requires.kept c.requires.free goes off))

pub returns-in-GroupInit-clause-called : goal.returns-in-GroupInit-clause-called
returns-in-GroupInit-clause-called g c = λ d stands goes off. ok_any (λ said. HasCalled d.world c.args.words.now said c.args.yard.now c.init_line.new.yard) c.init_line.result (λ said. subst (λ line. HasCalled d.world line said c.args.yard.now c.init_line.new.yard) (sym c.in-GroupInit.is) tt)

pub returns-in-GroupInit-clause-whole : goal.returns-in-GroupInit-clause-whole
returns-in-GroupInit-clause-whole g c = λ none. memory_short c.args.words.now _ c.in-GroupInit.is refl none

pub deport_line-requires-clause-free : goal.deport_line-requires-clause-free
deport_line-requires-clause-free g c = λ κs lives. subst (λ line. IsFree c.args.yard.now line) c.in-GroupDeport.is c.requires.free

pub returns-in-GroupDeport-clause-leads : goal.returns-in-GroupDeport-clause-leads
returns-in-GroupDeport-clause-leads g c = λ d stands goes closed.
    works_both d c.args.yard.now c.deport_line.new.yard c.args.words.now _ _ c.deport_line.result c.in-GroupDeport.is tt refl stands c.requires.kept c.requires.free goes closed (λ group. c.deport_line.ensures.leads d stands group)
    (λ over. c.deport_line.ensures.above d stands over)

pub returns-in-GroupDeport-clause-asked : goal.returns-in-GroupDeport-clause-asked
returns-in-GroupDeport-clause-asked g c = λ d stands goes off. subst (λ line. AsAsked d.world line c.args.yard.now c.deport_line.new.yard) (sym c.in-GroupDeport.is) (c.deport_line.ensures.asked d stands (goes_alone d c.args.yard.now c.args.words.now _ c.in-GroupDeport.is tt stands c.requires.kept c.requires.free goes off))

pub returns-in-GroupDeport-clause-called : goal.returns-in-GroupDeport-clause-called
returns-in-GroupDeport-clause-called g c = λ d stands goes off.
    subst (λ line. IfOk c.deport_line.result (λ said. HasCalled d.world line said c.args.yard.now c.deport_line.new.yard)) (sym c.in-GroupDeport.is) (c.deport_line.ensures.called d stands (goes_alone d c.args.yard.now c.args.words.now _ c.in-GroupDeport.is tt stands c.requires.kept c.requires.free goes off))

pub returns-in-GroupDeport-clause-whole : goal.returns-in-GroupDeport-clause-whole
returns-in-GroupDeport-clause-whole g c = λ none. memory_short c.args.words.now _ c.in-GroupDeport.is refl none

pub import_line-requires-clause-free : goal.import_line-requires-clause-free
import_line-requires-clause-free g c = λ κs lives. subst (λ line. IsFree c.args.yard.now line) c.in-GroupImport.is c.requires.free

pub returns-in-GroupImport-clause-leads : goal.returns-in-GroupImport-clause-leads
returns-in-GroupImport-clause-leads g c = λ d stands goes closed.
    works_import d c.args.yard.now c.import_line.new.yard c.args.words.now _ c.import_line.result c.in-GroupImport.is stands c.requires.kept c.requires.free (λ group. c.import_line.ensures.beside d stands group) (λ over. c.import_line.ensures.above d stands over)

pub returns-in-GroupImport-clause-asked : goal.returns-in-GroupImport-clause-asked
returns-in-GroupImport-clause-asked g c = λ d stands goes off. subst (λ line. AsAsked d.world line c.args.yard.now c.import_line.new.yard) (sym c.in-GroupImport.is) (c.import_line.ensures.asked d stands (goes_alone d c.args.yard.now c.args.words.now _ c.in-GroupImport.is tt stands c.requires.kept c.requires.free goes off))

pub returns-in-GroupImport-clause-called : goal.returns-in-GroupImport-clause-called
returns-in-GroupImport-clause-called g c = λ d stands goes off.
    subst (λ line. IfOk c.import_line.result (λ said. HasCalled d.world line said c.args.yard.now c.import_line.new.yard)) (sym c.in-GroupImport.is) (c.import_line.ensures.called d stands (goes_alone d c.args.yard.now c.args.words.now _ c.in-GroupImport.is tt stands c.requires.kept c.requires.free goes off))

pub returns-in-GroupImport-clause-whole : goal.returns-in-GroupImport-clause-whole
returns-in-GroupImport-clause-whole g c = λ none. memory_short c.args.words.now _ c.in-GroupImport.is refl none

pub detach_line-requires-clause-free : goal.detach_line-requires-clause-free
detach_line-requires-clause-free g c = λ κs lives. subst (λ line. IsFree c.args.yard.now line) c.in-PlexDetach.is c.requires.free

pub returns-in-PlexDetach-clause-leads : goal.returns-in-PlexDetach-clause-leads
returns-in-PlexDetach-clause-leads g c = λ d stands goes closed.
    works_both d c.args.yard.now c.detach_line.new.yard c.args.words.now _ _ c.detach_line.result c.in-PlexDetach.is tt refl stands c.requires.kept c.requires.free goes closed (λ group. c.detach_line.ensures.leads d stands group)
    (λ over. c.detach_line.ensures.above d stands over)

pub returns-in-PlexDetach-clause-asked : goal.returns-in-PlexDetach-clause-asked
returns-in-PlexDetach-clause-asked g c = λ d stands goes off. subst (λ line. AsAsked d.world line c.args.yard.now c.detach_line.new.yard) (sym c.in-PlexDetach.is) (c.detach_line.ensures.asked d stands (goes_alone d c.args.yard.now c.args.words.now _ c.in-PlexDetach.is tt stands c.requires.kept c.requires.free goes off))

pub returns-in-PlexDetach-clause-called : goal.returns-in-PlexDetach-clause-called
returns-in-PlexDetach-clause-called g c = λ d stands goes off.
    subst (λ line. IfOk c.detach_line.result (λ said. HasCalled d.world line said c.args.yard.now c.detach_line.new.yard)) (sym c.in-PlexDetach.is) (c.detach_line.ensures.called d stands (goes_alone d c.args.yard.now c.args.words.now _ c.in-PlexDetach.is tt stands c.requires.kept c.requires.free goes off))

pub returns-in-PlexDetach-clause-whole : goal.returns-in-PlexDetach-clause-whole
returns-in-PlexDetach-clause-whole g c = λ none. memory_short c.args.words.now _ c.in-PlexDetach.is refl none

pub attach_line-requires-clause-free : goal.attach_line-requires-clause-free
attach_line-requires-clause-free g c = λ κs lives. subst (λ line. IsFree c.args.yard.now line) c.in-PlexAttach.is c.requires.free

pub returns-in-PlexAttach-clause-leads : goal.returns-in-PlexAttach-clause-leads
returns-in-PlexAttach-clause-leads g c = λ d stands goes closed.
    works_both d c.args.yard.now c.attach_line.new.yard c.args.words.now _ _ c.attach_line.result c.in-PlexAttach.is tt refl stands c.requires.kept c.requires.free goes closed (λ group. c.attach_line.ensures.leads d stands group)
    (λ over. c.attach_line.ensures.above d stands over)

pub returns-in-PlexAttach-clause-asked : goal.returns-in-PlexAttach-clause-asked
returns-in-PlexAttach-clause-asked g c = λ d stands goes off. subst (λ line. AsAsked d.world line c.args.yard.now c.attach_line.new.yard) (sym c.in-PlexAttach.is) (c.attach_line.ensures.asked d stands (goes_alone d c.args.yard.now c.args.words.now _ c.in-PlexAttach.is tt stands c.requires.kept c.requires.free goes off))

pub returns-in-PlexAttach-clause-called : goal.returns-in-PlexAttach-clause-called
returns-in-PlexAttach-clause-called g c = λ d stands goes off.
    subst (λ line. IfOk c.attach_line.result (λ said. HasCalled d.world line said c.args.yard.now c.attach_line.new.yard)) (sym c.in-PlexAttach.is) (c.attach_line.ensures.called d stands (goes_alone d c.args.yard.now c.args.words.now _ c.in-PlexAttach.is tt stands c.requires.kept c.requires.free goes off))

pub returns-in-PlexAttach-clause-whole : goal.returns-in-PlexAttach-clause-whole
returns-in-PlexAttach-clause-whole g c = λ none. memory_short c.args.words.now _ c.in-PlexAttach.is refl none

pub rvg_line-requires-clause-free : goal.rvg_line-requires-clause-free
rvg_line-requires-clause-free g c = λ κs lives. subst (λ line. IsFree c.args.yard.now line) c.in-Rvg.is c.requires.free

pub returns-in-Rvg-clause-leads : goal.returns-in-Rvg-clause-leads
returns-in-Rvg-clause-leads g c = λ d stands goes closed. works_made d c.args.yard.now c.rvg_line.new.yard c.args.words.now c.in-Rvg.site c.in-Rvg.srl c.in-Rvg.dcm c.in-Rvg.volumes c.rvg_line.result c.in-Rvg.is (c.rvg_line.ensures.leads d stands)

pub returns-in-Rvg-clause-asked : goal.returns-in-Rvg-clause-asked
returns-in-Rvg-clause-asked g c = λ d stands goes off. subst (λ line. AsAsked d.world line c.args.yard.now c.rvg_line.new.yard) (sym c.in-Rvg.is) tt

pub returns-in-Rvg-clause-called : goal.returns-in-Rvg-clause-called
returns-in-Rvg-clause-called g c = λ d stands goes off. ok_any (λ said. HasCalled d.world c.args.words.now said c.args.yard.now c.rvg_line.new.yard) c.rvg_line.result (λ said. subst (λ line. HasCalled d.world line said c.args.yard.now c.rvg_line.new.yard) (sym c.in-Rvg.is) tt)

pub returns-in-Rvg-clause-whole : goal.returns-in-Rvg-clause-whole
returns-in-Rvg-clause-whole g c = λ none. memory_short c.args.words.now _ c.in-Rvg.is refl none

pub disk_line-requires-clause-free : goal.disk_line-requires-clause-free
disk_line-requires-clause-free g c = λ κs lives. subst (λ line. IsFree c.args.yard.now line) c.in-Disk.is c.requires.free

pub returns-in-Disk-clause-leads : goal.returns-in-Disk-clause-leads
returns-in-Disk-clause-leads g c = λ d stands goes closed.
    works_closed d c.args.yard.now c.disk_line.new.yard c.args.words.now _ (Ok c.disk_line.result) c.in-Disk.is tt stands c.requires.kept c.requires.free goes closed (λ group. c.disk_line.ensures.leads d stands group)

pub returns-in-Disk-clause-asked : goal.returns-in-Disk-clause-asked
returns-in-Disk-clause-asked g c = λ d stands goes off. subst (λ line. AsAsked d.world line c.args.yard.now c.disk_line.new.yard) (sym c.in-Disk.is) (c.disk_line.ensures.asked d stands (goes_alone d c.args.yard.now c.args.words.now _ c.in-Disk.is tt stands c.requires.kept c.requires.free goes off))

pub returns-in-Disk-clause-called : goal.returns-in-Disk-clause-called
returns-in-Disk-clause-called g c = λ d stands goes off. subst (λ line. HasCalled d.world line c.disk_line.result c.args.yard.now c.disk_line.new.yard) (sym c.in-Disk.is) tt

pub crash_line-requires-clause-free : goal.crash_line-requires-clause-free
crash_line-requires-clause-free g c = λ κs lives. subst (λ line. IsFree c.args.yard.now line) c.in-Crash.is c.requires.free

pub returns-in-Crash-clause-leads : goal.returns-in-Crash-clause-leads
returns-in-Crash-clause-leads g c = λ d stands goes closed.
    works_closed d c.args.yard.now c.crash_line.new.yard c.args.words.now _ (Ok c.crash_line.result) c.in-Crash.is tt stands c.requires.kept c.requires.free goes closed (λ group. c.crash_line.ensures.leads d stands group)

pub returns-in-Crash-clause-asked : goal.returns-in-Crash-clause-asked
returns-in-Crash-clause-asked g c = λ d stands goes off. subst (λ line. AsAsked d.world line c.args.yard.now c.crash_line.new.yard) (sym c.in-Crash.is) (c.crash_line.ensures.asked d stands (goes_alone d c.args.yard.now c.args.words.now _ c.in-Crash.is tt stands c.requires.kept c.requires.free goes off))

pub returns-in-Crash-clause-called : goal.returns-in-Crash-clause-called
returns-in-Crash-clause-called g c = λ d stands goes off. subst (λ line. HasCalled d.world line c.crash_line.result c.args.yard.now c.crash_line.new.yard) (sym c.in-Crash.is) tt

pub fuse_line-requires-clause-free : goal.fuse_line-requires-clause-free
fuse_line-requires-clause-free g c = λ κs lives. subst (λ line. IsFree c.args.yard.now line) c.in-Fuse.is c.requires.free

pub returns-in-Fuse-clause-leads : goal.returns-in-Fuse-clause-leads
returns-in-Fuse-clause-leads g c = λ d stands goes closed.
    works_closed d c.args.yard.now c.fuse_line.new.yard c.args.words.now _ (Ok c.fuse_line.result) c.in-Fuse.is tt stands c.requires.kept c.requires.free goes closed (λ group. c.fuse_line.ensures.leads d stands group)

pub returns-in-Fuse-clause-asked : goal.returns-in-Fuse-clause-asked
returns-in-Fuse-clause-asked g c = λ d stands goes off. subst (λ line. AsAsked d.world line c.args.yard.now c.fuse_line.new.yard) (sym c.in-Fuse.is) (c.fuse_line.ensures.asked d stands (goes_alone d c.args.yard.now c.args.words.now _ c.in-Fuse.is tt stands c.requires.kept c.requires.free goes off))

pub returns-in-Fuse-clause-called : goal.returns-in-Fuse-clause-called
returns-in-Fuse-clause-called g c = λ d stands goes off. subst (λ line. HasCalled d.world line c.fuse_line.result c.args.yard.now c.fuse_line.new.yard) (sym c.in-Fuse.is) tt

pub recover_line-requires-clause-free : goal.recover_line-requires-clause-free
recover_line-requires-clause-free g c = λ κs lives. subst (λ line. IsFree c.args.yard.now line) c.in-Recover.is c.requires.free

pub returns-in-Recover-clause-leads : goal.returns-in-Recover-clause-leads
returns-in-Recover-clause-leads g c = λ d stands goes closed.
    works_recover d c.args.yard.now c.recover_line.new.yard c.args.words.now _ c.recover_line.result c.in-Recover.is goes (λ group. c.recover_line.ensures.beside d stands group) (λ over. c.recover_line.ensures.above d stands over)

pub returns-in-Recover-clause-asked : goal.returns-in-Recover-clause-asked
returns-in-Recover-clause-asked g c = λ d stands goes off. subst (λ line. AsAsked d.world line c.args.yard.now c.recover_line.new.yard) (sym c.in-Recover.is) (c.recover_line.ensures.asked d stands (goes_alone d c.args.yard.now c.args.words.now _ c.in-Recover.is tt stands c.requires.kept c.requires.free goes off))

pub returns-in-Recover-clause-called : goal.returns-in-Recover-clause-called
returns-in-Recover-clause-called g c = λ d stands goes off. ok_any (λ said. HasCalled d.world c.args.words.now said c.args.yard.now c.recover_line.new.yard) c.recover_line.result (λ said. subst (λ line. HasCalled d.world line said c.args.yard.now c.recover_line.new.yard) (sym c.in-Recover.is) tt)

pub returns-in-Recover-clause-whole : goal.returns-in-Recover-clause-whole
returns-in-Recover-clause-whole g c = λ none. memory_short c.args.words.now _ c.in-Recover.is refl none

pub status_line-requires-clause-free : goal.status_line-requires-clause-free
status_line-requires-clause-free g c = λ κs lives. subst (λ line. IsFree c.args.yard.now line) c.in-Status.is c.requires.free

pub returns-in-Status-clause-leads : goal.returns-in-Status-clause-leads
returns-in-Status-clause-leads g c = λ d stands goes closed.
    works_closed d c.args.yard.now c.args.yard.now c.args.words.now _ c.status_line.result c.in-Status.is tt stands c.requires.kept c.requires.free goes closed (λ group. c.status_line.ensures.leads d stands group)

pub returns-in-Status-clause-asked : goal.returns-in-Status-clause-asked
returns-in-Status-clause-asked g c = λ d stands goes off. subst (λ line. AsAsked d.world line c.args.yard.now c.args.yard.now) (sym c.in-Status.is) refl

pub returns-in-Status-clause-called : goal.returns-in-Status-clause-called
returns-in-Status-clause-called g c = λ d stands goes off. ok_any (λ said. HasCalled d.world c.args.words.now said c.args.yard.now c.args.yard.now) c.status_line.result (λ said. subst (λ line. HasCalled d.world line said c.args.yard.now c.args.yard.now) (sym c.in-Status.is) tt)

pub returns-in-Status-clause-whole : goal.returns-in-Status-clause-whole
returns-in-Status-clause-whole g c = λ none. memory_short c.args.words.now _ c.in-Status.is refl none

pub shape_of-want-requires-in-Volume-clause-mirrors : goal.shape_of-want-requires-in-Volume-clause-mirrors
shape_of-want-requires-in-Volume-clause-mirrors g c = omega (arith, (volume_may c.args.yard.now.facts.items (in_files c.args.yard.now) c.in-Volume.site c.in-Volume.volume c.in-Volume.blocks c.in-Volume.mirrors c.in-Volume.layout c.in-Volume.log c.in-Volume.map c.in-Volume.policy (subst (λ line. IsFree c.args.yard.now line) c.in-Volume.is c.requires.free)).plexes)

pub shape_of-want-requires-in-Volume-clause-columns : goal.shape_of-want-requires-in-Volume-clause-columns
shape_of-want-requires-in-Volume-clause-columns g c = omega (arith, (shape_layout c.in-Volume.blocks c.in-Volume.mirrors c.in-Volume.layout (volume_may c.args.yard.now.facts.items (in_files c.args.yard.now) c.in-Volume.site c.in-Volume.volume c.in-Volume.blocks c.in-Volume.mirrors c.in-Volume.layout c.in-Volume.log c.in-Volume.map c.in-Volume.policy (subst (λ line. IsFree c.args.yard.now line) c.in-Volume.is c.requires.free)).shape).0)

pub shape_of-want-requires-in-Volume-clause-width : goal.shape_of-want-requires-in-Volume-clause-width
shape_of-want-requires-in-Volume-clause-width g c = (shape_layout c.in-Volume.blocks c.in-Volume.mirrors c.in-Volume.layout (volume_may c.args.yard.now.facts.items (in_files c.args.yard.now) c.in-Volume.site c.in-Volume.volume c.in-Volume.blocks c.in-Volume.mirrors c.in-Volume.layout c.in-Volume.log c.in-Volume.map c.in-Volume.policy (subst (λ line. IsFree c.args.yard.now line) c.in-Volume.is c.requires.free)).shape).1

pub shape_of-want-requires-in-Volume-clause-prefer : goal.shape_of-want-requires-in-Volume-clause-prefer
shape_of-want-requires-in-Volume-clause-prefer g c = let may = volume_may c.args.yard.now.facts.items (in_files c.args.yard.now) c.in-Volume.site c.in-Volume.volume c.in-Volume.blocks c.in-Volume.mirrors c.in-Volume.layout c.in-Volume.log c.in-Volume.map c.in-Volume.policy (subst (λ line. IsFree c.args.yard.now line) c.in-Volume.is c.requires.free) in prefers_few c.in-Volume.policy c.in-Volume.mirrors may.plexes may.prefer

pub volume_line-requires-clause-named : goal.volume_line-requires-clause-named
volume_line-requires-clause-named g c = λ κs lives. named_some c.args.yard.now c.in-Volume.site (volume_may c.args.yard.now.facts.items (in_files c.args.yard.now) c.in-Volume.site c.in-Volume.volume c.in-Volume.blocks c.in-Volume.mirrors c.in-Volume.layout c.in-Volume.log c.in-Volume.map c.in-Volume.policy (subst (λ line. IsFree c.args.yard.now line) c.in-Volume.is c.requires.free)).may.site

pub volume_line-requires-clause-prefer : goal.volume_line-requires-clause-prefer
volume_line-requires-clause-prefer g c = λ κs lives.
    subst (λ want. IfSome want.prefer (λ p. p < want.mirrors)) (sym c.shape_of-want.ensures) (prefers_below c.in-Volume.policy c.in-Volume.mirrors (volume_may c.args.yard.now.facts.items (in_files c.args.yard.now) c.in-Volume.site c.in-Volume.volume c.in-Volume.blocks c.in-Volume.mirrors c.in-Volume.layout c.in-Volume.log c.in-Volume.map c.in-Volume.policy (subst (λ line. IsFree c.args.yard.now line) c.in-Volume.is c.requires.free)).prefer)

pub returns-in-Volume-clause-leads : goal.returns-in-Volume-clause-leads
returns-in-Volume-clause-leads g c = λ d stands goes closed.
    works_both d c.args.yard.now c.volume_line.new.yard c.args.words.now _ _ c.volume_line.result c.in-Volume.is tt refl stands c.requires.kept c.requires.free goes closed
    (λ group. c.volume_line.ensures.leads d c.in-Volume.blocks c.in-Volume.mirrors c.in-Volume.layout c.in-Volume.log c.in-Volume.map c.in-Volume.policy stands c.shape_of-want.ensures (subst (λ line. IsFree c.args.yard.now line) c.in-Volume.is c.requires.free) group)
    (λ over. c.volume_line.ensures.above d c.in-Volume.blocks c.in-Volume.mirrors c.in-Volume.layout c.in-Volume.log c.in-Volume.map c.in-Volume.policy stands c.shape_of-want.ensures (subst (λ line. IsFree c.args.yard.now line) c.in-Volume.is c.requires.free) over)

pub returns-in-Volume-clause-asked : goal.returns-in-Volume-clause-asked
returns-in-Volume-clause-asked g c = λ d stands goes off.
    subst (λ line. AsAsked d.world line c.args.yard.now c.volume_line.new.yard) (sym c.in-Volume.is) (c.volume_line.ensures.asked d c.in-Volume.blocks c.in-Volume.mirrors c.in-Volume.layout c.in-Volume.log c.in-Volume.map c.in-Volume.policy stands c.shape_of-want.ensures (subst (λ line. IsFree c.args.yard.now line) c.in-Volume.is c.requires.free) (goes_alone d c.args.yard.now c.args.words.now _ c.in-Volume.is tt stands c.requires.kept c.requires.free goes off))

pub returns-in-Volume-clause-called : goal.returns-in-Volume-clause-called
returns-in-Volume-clause-called g c = λ d stands goes off.
    subst (λ line. IfOk c.volume_line.result (λ said. HasCalled d.world line said c.args.yard.now c.volume_line.new.yard)) (sym c.in-Volume.is)
    (c.volume_line.ensures.called d c.in-Volume.blocks c.in-Volume.mirrors c.in-Volume.layout c.in-Volume.log c.in-Volume.map c.in-Volume.policy stands c.shape_of-want.ensures (subst (λ line. IsFree c.args.yard.now line) c.in-Volume.is c.requires.free) (goes_alone d c.args.yard.now c.args.words.now _ c.in-Volume.is tt stands c.requires.kept c.requires.free goes off))

pub returns-in-Volume-clause-whole : goal.returns-in-Volume-clause-whole
returns-in-Volume-clause-whole g c = λ none. memory_short c.args.words.now _ c.in-Volume.is refl none

pub work_blocks-requires-clause-goes : goal.work_blocks-requires-clause-goes
work_blocks-requires-clause-goes g c = λ κs lives.
    rest_blocks c.args.words.now c.requires.goes c.in_default.not-GroupInit c.in_default.not-GroupDeport c.in_default.not-GroupImport c.in_default.not-Volume c.in_default.not-PlexDetach c.in_default.not-PlexAttach
    c.in_default.not-Rvg c.in_default.not-Disk c.in_default.not-Crash c.in_default.not-Fuse c.in_default.not-Recover c.in_default.not-Status

pub returns-in_default-clause-leads : goal.returns-in_default-clause-leads
returns-in_default-clause-leads g c = λ d stands goes closed. c.work_blocks.ensures.leads d stands goes closed
