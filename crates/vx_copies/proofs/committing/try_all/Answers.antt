-- `try_all`: clauses underway, ends, last, calls and named; what stays true in its loop over `shelf`.
use Rattle.std.proofs.Common.{Err, ◌*◌, inl, inr, refl, subst, sym, ◌∙◌, ◌<◌, arith, List}
use Rattle.vx_disk.specs.declared.shelf.ShelfError.{ShelfError}
use Rattle.vx_disk.specs.Shelf.{Meaning}
use Rattle.vx_disk.proofs.Burning.{no_calls}
use Rattle.vx_disk.proofs.Causing.{Rose_before}
use Rattle.vx_config.specs.declared.entry.DiskEntry.{DiskEntry}
use Rattle.vx_copies.specs.Commits.{TryEnds}
use Rattle.vx_copies.specs.Marks.{HasGood, good_count}
use Rattle.vx_copies.proofs.Lasting.{names_last, one_last}
use Rattle.vx_copies.proofs.Marked.{some_good}
use Rattle.vx_copies.proofs.Used.{few_done, none_then}
use Rattle.vx_copies.proofs.ManyTries.{names_failed, both_remain, both_stand, both_tidy, both_underway, none_yet, stays_large}
use Rattle.vx_copies.proofs.committing.try_all.Goals as goal

pub loop-shelf-init : goal.loop-shelf-init
loop-shelf-init g c = record {
  large = c.requires.large;
  can = c.requires.can;
  short = c.requires.short;
  wanted = c.requires.wanted;
  room = c.requires.room;
  underway = none_yet c.args.good c.args.config.now (g.S.Shelf.meaning c.args.shelf.now);
  remain = record { each = λ u held. inl (record { each = λ b v left. left }) };
  few = omega arith;
  calls = λ same. no_calls (g.S.Shelf.meaning c.args.shelf.now) 0 refl;
  up = λ was. was;
  last = inr (refl, c.lowest-device.ensures);
  device = inr (refl, c.lowest-device.ensures);
}

pub returns-in-Ok-clause-underway : goal.returns-in-Ok-clause-underway
returns-in-Ok-clause-underway g c =
    both_underway c.args.good c.args.config.now c.loop-shelf.config c.try_next.new.config (g.S.Shelf.meaning c.args.shelf.now) (g.S.Shelf.meaning c.loop-shelf.shelf) (g.S.Shelf.meaning c.try_next.new.shelf)
    c.loop-shelf.invariant.underway c.loop-shelf.invariant.remain c.try_next.ensures.underway (g.met.S.Shelf.lawful c.loop-shelf.shelf)

pub returns-in-Err-Down-clause-underway : goal.returns-in-Err-Down-clause-underway
returns-in-Err-Down-clause-underway g c =
    both_underway c.args.good c.args.config.now c.loop-shelf.config c.try_next.new.config (g.S.Shelf.meaning c.args.shelf.now) (g.S.Shelf.meaning c.loop-shelf.shelf) (g.S.Shelf.meaning c.try_next.new.shelf)
    c.loop-shelf.invariant.underway c.loop-shelf.invariant.remain c.try_next.ensures.underway (g.met.S.Shelf.lawful c.loop-shelf.shelf)

pub returns-in-Ok-clause-ends : goal.returns-in-Ok-clause-ends
returns-in-Ok-clause-ends g c =
    let ends = c.in-Ok.ensures.ends in (
      omega (arith, c.loop-shelf.invariant.underway.serial, c.try_next.ensures.serial),
      subst (λ (ds : List DiskEntry). HasGood ds c.args.good) (sym ends.0) (c.loop-shelf-test.ensures.may refl).0,
      both_tidy c.args.good c.args.config.now c.loop-shelf.config c.try_next.new.config (g.S.Shelf.meaning c.args.shelf.now) (g.S.Shelf.meaning c.loop-shelf.shelf) (g.S.Shelf.meaning c.try_next.new.shelf)
          c.loop-shelf.invariant.underway c.loop-shelf.invariant.remain c.try_next.ensures.underway ends.1,
      both_stand c.args.good c.args.config.now c.loop-shelf.config c.try_next.new.config (g.S.Shelf.meaning c.args.shelf.now) (g.S.Shelf.meaning c.loop-shelf.shelf) (g.S.Shelf.meaning c.try_next.new.shelf)
          c.loop-shelf.invariant.underway c.loop-shelf.invariant.remain c.try_next.ensures.underway ends.2,
      few_done c.args.config.now c.loop-shelf.config c.try_next.new.config c.loop-shelf.invariant.few c.try_next.ensures.serial ends.0,
    )

pub loop-shelf-preserved : goal.loop-shelf-preserved
loop-shelf-preserved g c =
    let mid : Meaning = g.S.Shelf.meaning c.loop-shelf.shelf in
    let new : Meaning = g.S.Shelf.meaning c.try_next.new.shelf in
    let ends = subst (λ (e : ShelfError). TryEnds {T = Unit {0}} c.loop-shelf.config c.try_next.new.config mid new (Err e)) c.in-Err-Fault.field-0-is c.in-Err-Fault.ensures.ends in
    record {
      large = stays_large mid new c.try_next.ensures.underway.moves.units c.try_next.ensures.underway.moves.size c.loop-shelf.invariant.large;
      can = c.try_next.ensures.can;
      short = c.try_next.ensures.short;
      wanted = c.try_next.ensures.wanted;
      room = c.try_next.auto.room ∙ c.loop-shelf.invariant.room;
      underway = both_underway c.args.good c.args.config.now c.loop-shelf.config c.try_next.new.config (g.S.Shelf.meaning c.args.shelf.now) (g.S.Shelf.meaning c.loop-shelf.shelf) (g.S.Shelf.meaning c.try_next.new.shelf)
          c.loop-shelf.invariant.underway c.loop-shelf.invariant.remain c.try_next.ensures.underway (g.met.S.Shelf.lawful c.loop-shelf.shelf);
      remain = both_remain c.args.good c.args.config.now c.loop-shelf.config c.try_next.new.config (g.S.Shelf.meaning c.args.shelf.now) (g.S.Shelf.meaning c.loop-shelf.shelf) (g.S.Shelf.meaning c.try_next.new.shelf)
          c.loop-shelf.invariant.underway c.loop-shelf.invariant.remain c.try_next.ensures.underway ends.1;
      few = omega (arith, c.loop-shelf.invariant.few, c.try_next.ensures.serial, ends.0.fewer);
      calls = λ same. absurd (omega (arith, same, c.try_next.ensures.serial, c.loop-shelf.invariant.underway.serial));
      up = λ was. ends.2;
      last = inl (one_last g.S.Shelf.meaning c.args.config.now c.loop-shelf.config c.try_next.new.config c.args.shelf.now c.loop-shelf.shelf c.try_next.new.shelf c.in-Err-Fault.disk
          c.loop-shelf.invariant.underway.grown ends.0);
      device = inl (Rose_before _ _ _ (c.loop-shelf.invariant.underway.moves.disk_faults c.in-Err-Fault.disk) ends.0.failed.1);
    }

-- the shelf fell in a try that had a good disk
pub returns-in-Err-Down-clause-ends : goal.returns-in-Err-Down-clause-ends
returns-in-Err-Down-clause-ends g c =
    let down = subst (λ (e : ShelfError). TryEnds {T = Unit {0}} c.loop-shelf.config c.try_next.new.config (g.S.Shelf.meaning c.loop-shelf.shelf) (g.S.Shelf.meaning c.try_next.new.shelf) (Err e)) c.in-Err-Down.field-0-is c.in-Err-Down.ensures.ends in
    let some : 0 < good_count c.loop-shelf.config.disks = some_good c.loop-shelf.config.disks c.args.good (c.loop-shelf-test.ensures.may refl).0 in
    (down, omega (arith, c.loop-shelf.invariant.few, c.try_next.ensures.serial, some))

pub returns-clause-last : goal.returns-clause-last
returns-clause-last g c =
    names_last g.S.Shelf.meaning c.args.good c.args.config.now c.loop-shelf.config c.args.shelf.now c.loop-shelf.shelf c.loop-shelf.device c.requires.more (c.loop-shelf-test.ensures.none refl)
    c.loop-shelf.invariant.underway.grown.disks.count c.loop-shelf.invariant.last

-- one try that began at once
pub returns-in-Ok-clause-calls : goal.returns-in-Ok-clause-calls
returns-in-Ok-clause-calls g c next =
    none_then (4 * good_count c.try_next.new.config.disks) (g.S.Shelf.meaning c.args.shelf.now) (g.S.Shelf.meaning c.loop-shelf.shelf) (g.S.Shelf.meaning c.try_next.new.shelf)
    (c.loop-shelf.invariant.calls (omega (arith, next, c.try_next.ensures.serial))) c.in-Ok.ensures.calls

pub returns-in-Ok-clause-named : goal.returns-in-Ok-clause-named
returns-in-Ok-clause-named g c =
    names_failed c.args.good c.args.config.now c.loop-shelf.config c.try_next.new.config (g.S.Shelf.meaning c.args.shelf.now) (g.S.Shelf.meaning c.loop-shelf.shelf) (g.S.Shelf.meaning c.try_next.new.shelf) c.loop-shelf.device
    c.loop-shelf.invariant.device c.in-Ok.ensures.ends.0 c.try_next.ensures.underway.moves.disk_faults

pub returns-in-Ok-clause-up : goal.returns-in-Ok-clause-up
returns-in-Ok-clause-up g c was = c.in-Ok.ensures.up (c.loop-shelf.invariant.up was)
