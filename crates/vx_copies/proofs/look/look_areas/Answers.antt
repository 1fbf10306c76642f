-- `look_areas`: clauses sees, goes, disks and counts.
use Rattle.std.proofs.Common.{IsTrue, subst, Bool, ◌∙◌}
use Rattle.vx_disk.proofs.Runs.{then_nothing}
use Rattle.vx_disk.proofs.Untouching.{untouched_both}
use Rattle.vx_disk.specs.Shelf.{Nothing}
use Rattle.vx_copies.specs.Looking.{CountsArea, SeesArea}
use Rattle.vx_copies.proofs.Reading.{both_areas}
use Rattle.vx_copies.proofs.look.look_areas.Goals as goal

pub returns-in-Ok-Seen-read_area-clause-sees : goal.returns-in-Ok-Seen-read_area-clause-sees
returns-in-Ok-Seen-read_area-clause-sees g c =
    both_areas c.args.disk (g.S.Shelf.meaning c.args.shelf.now) (g.S.Shelf.meaning c.read_area.new.shelf) c.in-Ok-Seen.copy c.in-Ok-Seen-read_area.second c.greater.result
    (record { goes = c.in-Ok-Seen.ensures.goes; up = λ down. c.requires.up (subst (λ (t : Bool). IsTrue t) c.in-Ok-Seen.ensures.down down) })
    (subst (SeesArea c.args.disk 1 (g.S.Shelf.meaning c.args.shelf.now) (g.S.Shelf.meaning c.read_area.new.shelf)) c.in-Ok-Seen.field-0-is c.in-Ok-Seen.ensures.sees)
    (subst (SeesArea c.args.disk 129 (g.S.Shelf.meaning c.read_area.new.shelf) (g.S.Shelf.meaning c.read_area-2.new.shelf)) c.in-Ok-Seen-read_area.field-0-is c.in-Ok-Seen-read_area.ensures.sees) c.greater.ensures.copy

pub returns-in-Ok-Unreadable-read_area-clause-goes : goal.returns-in-Ok-Unreadable-read_area-clause-goes
returns-in-Ok-Unreadable-read_area-clause-goes g c = then_nothing Nothing _ _ _ c.in-Ok-Seen.ensures.goes c.in-Ok-Unreadable-read_area.ensures.goes

pub returns-in-Err-read_area-clause-goes : goal.returns-in-Err-read_area-clause-goes
returns-in-Err-read_area-clause-goes g c = then_nothing Nothing _ _ _ c.in-Ok-Seen.ensures.goes c.in-Err-read_area.ensures.goes

pub returns-in-Ok-Unreadable-read_area-clause-disks : goal.returns-in-Ok-Unreadable-read_area-clause-disks
returns-in-Ok-Unreadable-read_area-clause-disks g c = untouched_both _ _ _ c.in-Ok-Seen.ensures.disks c.in-Ok-Unreadable-read_area.ensures.disks

pub returns-in-Err-read_area-clause-disks : goal.returns-in-Err-read_area-clause-disks
returns-in-Err-read_area-clause-disks g c = untouched_both _ _ _ c.in-Ok-Seen.ensures.disks c.in-Err-read_area.ensures.disks

pub returns-in-Ok-Seen-read_area-clause-counts : goal.returns-in-Ok-Seen-read_area-clause-counts
returns-in-Ok-Seen-read_area-clause-counts g c =
    let first = subst (CountsArea c.args.disk (g.S.Shelf.meaning c.args.shelf.now).faults (g.S.Shelf.meaning c.read_area.new.shelf).faults) c.in-Ok-Seen.field-0-is c.in-Ok-Seen.ensures.counts in
    let second = subst (CountsArea c.args.disk (g.S.Shelf.meaning c.read_area.new.shelf).faults (g.S.Shelf.meaning c.read_area-2.new.shelf).faults) c.in-Ok-Seen-read_area.field-0-is c.in-Ok-Seen-read_area.ensures.counts in
    λ v. second v ∙ first v
