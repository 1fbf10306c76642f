-- The group behind blocks that were put into a volume where its log may hold records.
use Rattle.std.proofs.Common.{ℕ, ◌≡◌, ◌+◌, arith, subst, ◌∙◌, ap}
use Rattle.vx_disk.specs.Moves.{Moves, Run}
use Rattle.vx_rvg.specs.Saves.{reclaimed}
use Rattle.vx_rvg.specs.Stands.{Saving}
use Rattle.vx_rvg.specs.Views.{Core, last_of}
use Rattle.vx_rvg.specs.contracts.rvg_core.RvgCore.{the_view}
use Rattle.vx_rvg.proofs.StoreMoves.{at_its_last, empty_moves, empty_puts_ok, empty_stores, give_up_part, given_up, is_empty, is_held, put_part, put_stands}
use Rattle.vx_disk.proofs.Spending.{then_spends}
use Rattle.vx_rvg.proofs.store.store_applied.Goals as goal

pub returns-then-last-low-clause-stores : goal.returns-then-last-low-clause-stores
returns-then-last-low-clause-stores g c =
    let empty = is_empty (the_view c.core.inside) c.args.core.now c.core.view_is (omega (arith, c.if-last-low.true, c.head-last.ensures, c.low.ensures.is)) in
    empty_stores c.args.core.now empty c.requires.running (g.S.Shelf.meaning c.args.shelf.now) (g.S.Shelf.meaning c.put_blocks.new.shelf) c.put_blocks.new.core c.put_blocks.result c.put_blocks.ensures.puts

pub returns-then-last-low-clause-moves : goal.returns-then-last-low-clause-moves
returns-then-last-low-clause-moves g c =
    let empty = is_empty (the_view c.core.inside) c.args.core.now c.core.view_is (omega (arith, c.if-last-low.true, c.head-last.ensures, c.low.ensures.is)) in
    empty_moves c.args.core.now empty c.args.vol c.args.start c.args.bytes.now (g.S.Shelf.meaning c.args.shelf.now) (g.S.Shelf.meaning c.put_blocks.new.shelf) c.put_blocks.ensures.moves

pub returns-then-last-low-clause-stands : goal.returns-then-last-low-clause-stands
returns-then-last-low-clause-stands g c =
    let empty = is_empty (the_view c.core.inside) c.args.core.now c.core.view_is (omega (arith, c.if-last-low.true, c.head-last.ensures, c.low.ensures.is)) in
    empty_puts_ok c.args.core.now empty c.put_blocks.new.core _ (g.S.Shelf.meaning c.args.shelf.now) (g.S.Shelf.meaning c.put_blocks.new.shelf) c.put_blocks.result c.put_blocks.ensures.stands

pub returns-in-Ok-clause-stands : goal.returns-in-Ok-clause-stands
returns-in-Ok-clause-stands g c =
    put_stands c.args.core.now c.give_up.new.core _ (g.S.Shelf.meaning c.args.shelf.now) (g.S.Shelf.meaning c.give_up.new.shelf)
    (at_its_last (the_view c.core.inside) c.args.core.now c.give_up.new.core c.head-last.result c.core.view_is c.head-last.ensures
    (given_up _ c.args.core.now (reclaimed c.args.core.now c.head-last.result) c.give_up.new.core (g.S.Shelf.meaning c.args.shelf.now) (g.S.Shelf.meaning c.give_up.new.shelf) c.in-Ok.field-0 c.in-Ok.ensures.answers))
    c.in-Ok.ensures.stands (g.S.Shelf.meaning c.put_blocks-in-Ok.new.shelf) c.put_blocks-in-Ok.new.core c.put_blocks-in-Ok.result c.put_blocks-in-Ok.ensures.stands

pub returns-in-Ok-clause-moves : goal.returns-in-Ok-clause-moves
returns-in-Ok-clause-moves g c =
    let held = is_held (the_view c.core.inside) c.args.core.now c.core.view_is (omega (arith, c.if-last-low.false, c.head-last.ensures, c.low.ensures.is)) in
    let last_is : c.head-last.result ≡ last_of c.args.core.now = c.head-last.ensures ∙ ap (λ (k : Core). last_of k) c.core.view_is in
    let m = g.S.Shelf.meaning c.args.shelf.now in
    let mid = g.S.Shelf.meaning c.give_up.new.shelf in
    put_part c.args.core.now c.args.vol c.args.start c.args.bytes.now held m mid
    (subst (λ (n : ℕ). Moves (Run c.args.core.now.units.srl 0 (c.args.core.now.log.ring + 2)) (Saving c.args.core.now (reclaimed c.args.core.now n) m) m mid) last_is c.give_up.ensures.moves)
    c.give_up.new.core
    (at_its_last (the_view c.core.inside) c.args.core.now c.give_up.new.core c.head-last.result c.core.view_is c.head-last.ensures
    (given_up _ c.args.core.now (reclaimed c.args.core.now c.head-last.result) c.give_up.new.core m mid c.in-Ok.field-0 c.in-Ok.ensures.answers))
    c.in-Ok.ensures.stands (g.S.Shelf.meaning c.put_blocks-in-Ok.new.shelf) c.put_blocks-in-Ok.ensures.moves

pub returns-in-Err-clause-moves : goal.returns-in-Err-clause-moves
returns-in-Err-clause-moves g c =
    let held = is_held (the_view c.core.inside) c.args.core.now c.core.view_is (omega (arith, c.if-last-low.false, c.head-last.ensures, c.low.ensures.is)) in
    let last_is : c.head-last.result ≡ last_of c.args.core.now = c.head-last.ensures ∙ ap (λ (k : Core). last_of k) c.core.view_is in
    let m = g.S.Shelf.meaning c.args.shelf.now in
    let mid = g.S.Shelf.meaning c.give_up.new.shelf in
    give_up_part c.args.core.now c.args.vol c.args.start c.args.bytes.now held m mid
    (subst (λ (n : ℕ). Moves (Run c.args.core.now.units.srl 0 (c.args.core.now.log.ring + 2)) (Saving c.args.core.now (reclaimed c.args.core.now n) m) m mid) last_is c.give_up.ensures.moves)

pub returns-in-Ok-clause-spends : goal.returns-in-Ok-clause-spends
returns-in-Ok-clause-spends g c = then_spends _ _ _ c.give_up.ensures.spends c.put_blocks-in-Ok.ensures.spends

pub returns-in-Err-clause-stands : goal.returns-in-Err-clause-stands
returns-in-Err-clause-stands g c = tt
