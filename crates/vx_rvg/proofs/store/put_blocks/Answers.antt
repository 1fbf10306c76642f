-- The group behind blocks that were put into a volume.
use Rattle.std.proofs.Common.{sym, subst}
use Rattle.vx_rvg.specs.Views.{Core, IsSound}
use Rattle.vx_rvg.proofs.StoreStands.{put_cause, store_fails, store_moves, store_puts}
use Rattle.vx_rvg.proofs.WriteSound.{kept_sound}
use Rattle.vx_rvg.proofs.store.put_blocks.Goals as goal

pub returns-in-Ok-clause-stands : goal.returns-in-Ok-clause-stands
returns-in-Ok-clause-stands g c =
    store_puts c.args.core.now c.args.vol c.args.start c.args.bytes.now (g.S.Shelf.meaning c.args.shelf.now) (g.S.Shelf.meaning c.put.new.shelf)
    c.requires.sound c.requires.volume c.requires.blocks c.requires.emptied c.requires.within c.unit.result c.unit.ensures c.put.ensures.goes c.in-Ok.ensures.kept c.in-Ok.ensures.cause.after

pub returns-in-Ok-clause-moves : goal.returns-in-Ok-clause-moves
returns-in-Ok-clause-moves g c =
    store_moves c.args.core.now c.args.vol c.args.start c.args.bytes.now (g.S.Shelf.meaning c.args.shelf.now) (g.S.Shelf.meaning c.put.new.shelf)
    c.requires.sound c.requires.volume c.requires.blocks c.requires.emptied c.requires.within c.unit.result c.unit.ensures c.put.ensures.goes

pub returns-in-Err-clause-sound : goal.returns-in-Err-clause-sound
returns-in-Err-clause-sound g c =
    subst (λ (k : Core). IsSound k (g.S.Shelf.meaning c.put.new.shelf)) (sym c.halt.ensures)
    (store_fails c.args.core.now c.args.vol c.args.start c.args.bytes.now (g.S.Shelf.meaning c.args.shelf.now) (g.S.Shelf.meaning c.put.new.shelf)
    c.requires.sound c.requires.volume c.requires.blocks c.requires.emptied c.requires.within c.unit.result c.unit.ensures c.put.ensures.goes c.refusal-no.result
    (put_cause (g.S.Shelf.meaning c.args.shelf.now) (g.S.Shelf.meaning c.put.new.shelf) c.unit.result c.in-Err.error c.refusal-no.result c.refusal-no.ensures c.in-Err.ensures.cause))

pub returns-in-Err-clause-moves : goal.returns-in-Err-clause-moves
returns-in-Err-clause-moves g c =
    store_moves c.args.core.now c.args.vol c.args.start c.args.bytes.now (g.S.Shelf.meaning c.args.shelf.now) (g.S.Shelf.meaning c.put.new.shelf)
    c.requires.sound c.requires.volume c.requires.blocks c.requires.emptied c.requires.within c.unit.result c.unit.ensures c.put.ensures.goes

pub returns-in-Ok-clause-sound : goal.returns-in-Ok-clause-sound
returns-in-Ok-clause-sound g c =
    let goes = c.put.ensures.goes in
    kept_sound c.args.core.now (g.S.Shelf.meaning c.args.shelf.now) (g.S.Shelf.meaning c.put.new.shelf) (record { units = goes.units; size = goes.size }) goes.falls c.requires.sound
