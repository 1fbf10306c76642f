-- The log of a volume behind marks that were taken off.
use Rattle.std.proofs.Common.{None, refl}
use Rattle.vx_grouplogs.proofs.DirtyLemmas.{gone_fewer, marks_fewer, marks_off}
use Rattle.vx_grouplogs.proofs.GoneLemmas.{drops_cleared, drops_down}
use Rattle.vx_grouplogs.proofs.KnowActs.{know_logs, know_none, know_same}
use Rattle.vx_grouplogs.proofs.OnCalls.{clear_down, on_gone, on_others}
use Rattle.vx_grouplogs.proofs.guarding.clear_run.Goals as goal

pub returns-in-Ok-clause-on : goal.returns-in-Ok-clause-on
returns-in-Ok-clause-on g c =
    let on = c.requires.on in
    record {
      fits = c.clear_marks.ensures.fits;
      stands = c.in-Ok.ensures.stands on.stands;
      memory = c.clear_marks.ensures.memory c.requires.alike;
      disk = λ trusted. c.clear_marks.ensures.covers c.requires.alike;
    }

pub returns-in-Err-clause-on : goal.returns-in-Err-clause-on
returns-in-Err-clause-on g c =
    on_gone c.args.config.now c.args.vol (g.S.Shelf.meaning c.clear_marks.new.shelf) (λ trusted. c.clear_marks.ensures.covers c.requires.alike)

pub returns-in-Ok-clause-others : goal.returns-in-Ok-clause-others
returns-in-Ok-clause-others g c =
    on_others c.args.config.now c.args.vol (g.S.Shelf.meaning c.args.shelf.now) (g.S.Shelf.meaning c.clear_marks.new.shelf) c.clear_marks.ensures.others

pub returns-in-Err-clause-others : goal.returns-in-Err-clause-others
returns-in-Err-clause-others g c =
    on_others c.args.config.now c.args.vol (g.S.Shelf.meaning c.args.shelf.now) (g.S.Shelf.meaning c.clear_marks.new.shelf) c.clear_marks.ensures.others

pub returns-in-Ok-clause-up : goal.returns-in-Ok-clause-up
returns-in-Ok-clause-up g c =
    c.in-Ok.ensures.clears.3

pub returns-in-Err-clause-down : goal.returns-in-Err-clause-down
returns-in-Err-clause-down g c =
    clear_down c.args.logs.now c.clear_marks.new.logs (g.S.Shelf.meaning c.args.shelf.now) (g.S.Shelf.meaning c.clear_marks.new.shelf) c.in-Err.no c.in-Err.ensures.clears

pub returns-in-Ok-clause-fewer : goal.returns-in-Ok-clause-fewer
returns-in-Ok-clause-fewer g c =
    marks_fewer c.args.config.now c.requires.checked c.args.vol c.requires.some c.args.logs.now c.requires.on.fits (g.S.Shelf.meaning c.args.shelf.now) c.requires.disks _ c.clear_marks.new.logs (g.S.Shelf.meaning c.args.shelf.now) (g.S.Shelf.meaning c.clear_marks.new.shelf) c.in-Ok.ensures.clears.0

pub returns-in-Ok-clause-off : goal.returns-in-Ok-clause-off
returns-in-Ok-clause-off g c =
    marks_off c.args.config.now c.requires.checked c.args.vol c.requires.some c.args.logs.now c.requires.on.fits (g.S.Shelf.meaning c.args.shelf.now) c.requires.disks _ c.clear_marks.new.logs (g.S.Shelf.meaning c.args.shelf.now) (g.S.Shelf.meaning c.clear_marks.new.shelf) c.in-Ok.ensures.clears.0

pub returns-in-Err-clause-fewer : goal.returns-in-Err-clause-fewer
returns-in-Err-clause-fewer g c = gone_fewer _ c.args.logs.now _ refl

pub returns-in-Ok-clause-maps : goal.returns-in-Ok-clause-maps
returns-in-Ok-clause-maps g c = λ spare know.
    know_same c.args.config.now c.args.vol spare c.args.logs.now c.clear_marks.new.logs (g.S.Shelf.meaning c.clear_marks.new.shelf) c.in-Ok.ensures.clears.1
    (know_logs c.args.config.now c.requires.checked c.args.vol (g.S.Shelf.meaning c.args.shelf.now) (g.S.Shelf.meaning c.clear_marks.new.shelf) c.clear_marks.ensures.goes c.args.vol spare c.args.logs.now know)

pub returns-in-Ok-clause-same : goal.returns-in-Ok-clause-same
returns-in-Ok-clause-same g c = c.in-Ok.ensures.clears.1

pub returns-in-Err-clause-maps : goal.returns-in-Err-clause-maps
returns-in-Err-clause-maps g c = λ spare know. know_none c.args.config.now c.args.vol spare (record { drl = None; fmr = None }) (g.S.Shelf.meaning c.clear_marks.new.shelf) refl

pub returns-in-Ok-clause-drops : goal.returns-in-Ok-clause-drops
returns-in-Ok-clause-drops g c =
    drops_cleared c.args.config.now c.args.vol c.in-Ok.field-0.drl c.args.logs.now c.clear_marks.new.logs (g.S.Shelf.meaning c.args.shelf.now) (g.S.Shelf.meaning c.clear_marks.new.shelf) c.requires.on.fits c.in-Ok.ensures.clears.0 c.in-Ok.ensures.clears.1

pub returns-in-Err-clause-drops : goal.returns-in-Err-clause-drops
returns-in-Err-clause-drops g c =
    drops_down c.args.config.now c.args.vol c.args.logs.now (g.S.Shelf.meaning c.args.shelf.now) (g.S.Shelf.meaning c.clear_marks.new.shelf)
    (clear_down c.args.logs.now c.clear_marks.new.logs (g.S.Shelf.meaning c.args.shelf.now) (g.S.Shelf.meaning c.clear_marks.new.shelf) c.in-Err.no c.in-Err.ensures.clears)
