-- `scan`: clauses cause, takes, finds, kept, goes and spends; what `look` asks; what stays true in its loop.
use Rattle.std.proofs.Common.{arith, refl, subst}
use Rattle.vx_disk.specs.Shelf.{Nothing}
use Rattle.vx_disk.proofs.Runs.{then_nothing}
use Rattle.vx_srl.specs.Scans.{Differ}
use Rattle.vx_srl.proofs.ScanCauses.{lies_still}
use Rattle.vx_srl.proofs.ScanLoops.{begun, damaged_read, ended, emptied, undamaged, found_kept, found_chained, went_on}
use Rattle.vx_srl.proofs.StartPlaces.{place_of_ring}
use Rattle.vx_disk.proofs.Spending.{spends_none, then_spends}
use Rattle.vx_srl.proofs.scan.scan.Goals.{else-loop-test, then-loop-test+in-Ok-End}
use Rattle.vx_srl.proofs.scan.scan.Goals as goal

pub loop-init : goal.loop-init
loop-init g c = (begun c.args.unit c.args.ring c.args.header.now _ _ _ c.requires.spell (place_of_ring c.args.ring c.args.header.now c.requires.of_ring) c.requires.room c.requires.none, spends_none _)

pub look-requires-clause-lies : goal.look-requires-clause-lies
look-requires-clause-lies g c = lies_still c.args.unit c.args.ring _ _ c.loop.invariant.0.goes c.requires.lies

pub loop-preserved : goal.loop-preserved
loop-preserved g c = (
  went_on c.args.unit c.args.ring c.args.header.now _ _ _ _ _ _ _ _ c.loop.invariant.0 c.in-Ok-Taken.head _ c.in-Ok-Taken.field-0 c.len.result c.in-Ok-Taken.field-0-is (omega arith)
      c.in-Ok-Taken.ensures.fits c.in-Ok-Taken.ensures.agrees c.in-Ok-Taken.ensures.stands c.in-Ok-Taken.ensures.shown c.look.ensures.goes c.in-Ok-Taken.ensures.cause.after _ _ _ _ c.push_back_reserved.ensures.items c.push_back_reserved.ensures.capacity refl refl,
  then_spends _ _ _ c.loop.invariant.1 c.look.ensures.spends,
)

pub returns-in-Ok-Broken-clause-cause : goal.returns-in-Ok-Broken-clause-cause
returns-in-Ok-Broken-clause-cause g c = (
  refl,
  subst Differ c.in-Ok-Broken.field-0-is c.in-Ok-Broken.ensures.differ,
  damaged_read c.args.unit c.args.ring c.args.header.now _ _ _ _ _ _ _ _ c.loop.invariant.0 c.in-Ok-Broken.field-0 _ _ _ c.in-Ok-Broken.field-0-is c.in-Ok-Broken.ensures.shown,
  undamaged c.args.unit c.args.ring c.args.header.now _ _ _ _ _ _ _ _ c.loop.invariant.0 c.in-Ok-Broken.field-0 c.len.result _ _ _ c.in-Ok-Broken.field-0-is (omega (arith, c.len.ensures)) c.in-Ok-Broken.ensures.agrees,
)

pub returns-clause-takes : goal.returns-clause-takes
returns-clause-takes g c = found_chained c.args.unit c.args.ring c.args.header.now _ _ _ _ _ _ _ _ c.loop.invariant.0

pub returns-clause-finds : goal.returns-clause-finds
returns-clause-finds g c = λ rs scans. elim c.loop-test.branch [
  | else-loop-test w ↦ absurd (emptied c.args.unit c.args.ring c.args.header.now _ _ _ _ _ _ _ _ c.loop.invariant.0 c.requires.some (omega (arith, w.loop-test.false)))
  | then-loop-test+in-Ok-End w ↦ ended c.args.unit c.args.ring c.args.header.now _ _ _ _ _ _ _ _ c.loop.invariant.0 w.in-Ok-End.field-0 w.len.result w.in-Ok-End.field-0-is (omega (arith, w.len.ensures)) w.in-Ok-End.ensures.agrees rs scans
]

pub returns-clause-kept : goal.returns-clause-kept
returns-clause-kept g c =
    found_kept c.args.unit c.args.ring c.args.header.now _ _ _ _ _ _ _ _ c.loop.invariant.0 c.requires.some c.requires.few c.requires.spell c.requires.of_ring _ (omega (arith, c.loop.invariant.0.left_is))

pub returns-clause-goes : goal.returns-clause-goes
returns-clause-goes g c = elim c.loop-test.branch [
  | else-loop-test w ↦ rw w.shelf-is c.loop.invariant.0.goes
  | then-loop-test+in-Ok-End w ↦ rw w.shelf-is (then_nothing Nothing _ _ _ c.loop.invariant.0.goes w.look.ensures.goes)
]

pub returns-in-Ok-Broken-clause-goes : goal.returns-in-Ok-Broken-clause-goes
returns-in-Ok-Broken-clause-goes g c = then_nothing Nothing _ _ _ c.loop.invariant.0.goes c.look.ensures.goes

pub returns-in-Err-clause-spends : goal.returns-in-Err-clause-spends
returns-in-Err-clause-spends g c = then_spends _ _ _ c.loop.invariant.1 c.look.ensures.spends

pub returns-in-Ok-Broken-clause-spends : goal.returns-in-Ok-Broken-clause-spends
returns-in-Ok-Broken-clause-spends g c = then_spends _ _ _ c.loop.invariant.1 c.look.ensures.spends

pub returns-clause-spends : goal.returns-clause-spends
returns-clause-spends g c = elim c.loop-test.branch [
  | else-loop-test w ↦ rw w.shelf-is c.loop.invariant.1
  | then-loop-test+in-Ok-End w ↦ rw w.shelf-is (then_spends _ _ _ c.loop.invariant.1 w.look.ensures.spends)
]
