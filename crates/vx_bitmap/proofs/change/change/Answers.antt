-- The change of a run, block by block.
use Rattle.std.proofs.Common.{◌≡◌, ◌∙◌, ◌+◌, ◌*◌, ◌/◌, ℕ, refl, subst, arith}
use Rattle.std.proofs.lemmas.Result.{err_from_is_err_and}
use Rattle.vx_disk.proofs.Naming.{names_done, names_exit}
use Rattle.vx_disk.proofs.Runs.{same_Goes}
use Rattle.vx_disk.proofs.Spending.{spends_none, then_spends}
use Rattle.vx_bitmap.proofs.Runs.{DoneTo, done_next, done_none, next_moves, next_writes, rest_are}
use Rattle.vx_bitmap.proofs.change.change.Goals as goal

pub loop-block-init : goal.loop-block-init
loop-block-init g c = (
  done_none c.args.unit c.args.first c.args.start c.args.end (4096 * (c.args.start / 4096)) c.args.value c.args.bytes.now (g.S.Shelf.meaning c.args.shelf.now) (omega arith),
  λ all. refl,
  same_Goes _ _,
  λ down. down,
  spends_none _,
)

pub returns-in_err-change_block-clause-moves : goal.returns-in_err-change_block-clause-moves
returns-in_err-change_block-clause-moves g c = next_moves c.args.unit c.args.first c.args.start c.args.end (4096 * c.loop-block.block) c.max-from.result c.min-to.result c.args.value c.args.bytes.now c.loop-block.bytes (g.S.Shelf.meaning c.args.shelf.now) (g.S.Shelf.meaning c.loop-block.shelf) (g.S.Shelf.meaning c.change_block.new.shelf) c.loop-block.invariant.0 c.max-from.ensures c.min-to.ensures c.change_block.ensures.moves

pub returns-in_err-change_block-clause-writes : goal.returns-in_err-change_block-clause-writes
returns-in_err-change_block-clause-writes g c = next_writes c.args.unit c.args.first c.args.start c.args.end (4096 * c.loop-block.block) c.max-from.result c.min-to.result c.args.value c.args.bytes.now c.loop-block.bytes (g.S.Shelf.meaning c.args.shelf.now) (g.S.Shelf.meaning c.loop-block.shelf) (g.S.Shelf.meaning c.change_block.new.shelf) c.loop-block.invariant.0 c.max-from.ensures c.min-to.ensures c.loop-block.invariant.2 c.change_block.ensures.writes

pub returns-in_err-change_block-clause-nothing : goal.returns-in_err-change_block-clause-nothing
returns-in_err-change_block-clause-nothing g c = λ all. c.change_block.ensures.nothing (rest_are c.args.unit c.args.first c.args.start c.args.end (4096 * c.loop-block.block) c.max-from.result c.min-to.result c.args.value c.args.bytes.now c.loop-block.bytes (g.S.Shelf.meaning c.args.shelf.now) (g.S.Shelf.meaning c.loop-block.shelf) (g.S.Shelf.meaning c.change_block.new.shelf) c.loop-block.invariant.0 c.max-from.ensures c.min-to.ensures all c.requires.last) ∙ c.loop-block.invariant.1 all

pub loop-block-preserved : goal.loop-block-preserved
loop-block-preserved g c = (
  subst (λ (n : ℕ). DoneTo c.args.unit c.args.first c.args.start c.args.end c.args.value n c.args.bytes.now c.change_block.new.bytes (g.S.Shelf.meaning c.args.shelf.now) (g.S.Shelf.meaning c.change_block.new.shelf)) (let e : 4096 * c.loop-block.block + 4096 ≡ 4096 * (c.loop-block.block + 1) = omega arith in e)
      (done_next c.args.unit c.args.first c.args.start c.args.end (4096 * c.loop-block.block) c.max-from.result c.min-to.result c.args.value c.args.bytes.now c.loop-block.bytes (g.S.Shelf.meaning c.args.shelf.now) (g.S.Shelf.meaning c.loop-block.shelf) (g.S.Shelf.meaning c.change_block.new.shelf) c.loop-block.invariant.0 c.max-from.ensures c.min-to.ensures c.change_block.new.bytes (c.change_block.auto.bytes) c.in_ok-change_block.ensures.changed c.change_block.ensures.moves c.in_ok-change_block.ensures.stands),
  λ all. c.change_block.ensures.nothing (rest_are c.args.unit c.args.first c.args.start c.args.end (4096 * c.loop-block.block) c.max-from.result c.min-to.result c.args.value c.args.bytes.now c.loop-block.bytes (g.S.Shelf.meaning c.args.shelf.now) (g.S.Shelf.meaning c.loop-block.shelf) (g.S.Shelf.meaning c.change_block.new.shelf) c.loop-block.invariant.0 c.max-from.ensures c.min-to.ensures all c.requires.last) ∙ c.loop-block.invariant.1 all,
  next_writes c.args.unit c.args.first c.args.start c.args.end (4096 * c.loop-block.block) c.max-from.result c.min-to.result c.args.value c.args.bytes.now c.loop-block.bytes (g.S.Shelf.meaning c.args.shelf.now) (g.S.Shelf.meaning c.loop-block.shelf) (g.S.Shelf.meaning c.change_block.new.shelf) c.loop-block.invariant.0 c.max-from.ensures c.min-to.ensures c.loop-block.invariant.2 c.change_block.ensures.writes,
  λ down. c.loop-block.invariant.3 (c.in_ok-change_block.ensures.up down),
  then_spends _ _ _ c.loop-block.invariant.4 c.change_block.ensures.spends,
)

pub returns-in_err-change_block-clause-spends : goal.returns-in_err-change_block-clause-spends
returns-in_err-change_block-clause-spends g c = then_spends _ _ _ c.loop-block.invariant.4 c.change_block.ensures.spends

pub returns-in_err-change_block-clause-names : goal.returns-in_err-change_block-clause-names
returns-in_err-change_block-clause-names g c =
    let p = err_from_is_err_and c.from_residual.result c.from_residual.ensures.1 in
    names_exit (Unit {0}) (Unit {0}) _ _ _ _ _ c.from_residual.result p.0 _ p.1 p.2 refl c.loop-block.invariant.4.told c.in_err-change_block.ensures.names

pub returns-clause-names : goal.returns-clause-names
returns-clause-names g c = names_done (Unit {0}) _ (g.S.Shelf.meaning c.args.shelf.now).disks c.args.unit
