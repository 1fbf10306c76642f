-- `try_next`: clauses wanted, underway and ends; what `put_config` asks.
use Rattle.std.proofs.Common.{◌≡◌, ◌+◌, length, ap, refl, subst, arith}
use Rattle.vx_disk.specs.declared.shelf.ShelfError.TheVariants.{Fault}
use Rattle.vx_disk.specs.Shelf.{Meaning}
use Rattle.vx_copyio.specs.Putting.{FailedOn}
use Rattle.vx_config.specs.declared.config.Config.{Config}
use Rattle.vx_copies.specs.Commits.{Grown, HeldGood}
use Rattle.vx_copies.proofs.MarkedDisks.{mark_grown, mark_new, mark_other, serial_grown}
use Rattle.vx_copies.proofs.OneTry.{held_member, kept_good, member_held, try_remain, try_stands, try_tidy, try_underway, wanted_count, wanted_same, wanted_serial}
use Rattle.vx_copies.proofs.committing.try_next.Goals as goal
use Rattle.vx_copies.proofs.committing.try_next.Given.{Over}

-- the configuration that is written
abbrev next : Config → Config
next c = record { serial = c.serial + 1; site = c.site; disks = c.disks; volumes = c.volumes; rvg = c.rvg }

pub put_config-requires-clause-wanted : goal.put_config-requires-clause-wanted
put_config-requires-clause-wanted g c = wanted_serial (g.S.Shelf.meaning c.args.shelf.now).units (g.S.Shelf.meaning c.args.shelf.now).size c.args.config.now (c.args.config.now.serial + 1) c.requires.wanted

pub returns-in-Ok-clause-wanted : goal.returns-in-Ok-clause-wanted
returns-in-Ok-clause-wanted g c =
    let old : Meaning = g.S.Shelf.meaning c.args.shelf.now in
    let new : Meaning = g.S.Shelf.meaning c.put_config.new.shelf in
    wanted_same old new (next c.args.config.now) c.put_config.ensures.tried.moves.units c.put_config.ensures.tried.moves.size
    (wanted_serial old.units old.size c.args.config.now (c.args.config.now.serial + 1) c.requires.wanted)

pub returns-in-Down-clause-wanted : goal.returns-in-Down-clause-wanted
returns-in-Down-clause-wanted g c =
    let old : Meaning = g.S.Shelf.meaning c.args.shelf.now in
    let new : Meaning = g.S.Shelf.meaning c.put_config.new.shelf in
    wanted_same old new (next c.args.config.now) c.put_config.ensures.tried.moves.units c.put_config.ensures.tried.moves.size
    (wanted_serial old.units old.size c.args.config.now (c.args.config.now.serial + 1) c.requires.wanted)

pub returns-in-Fault-clause-wanted : goal.returns-in-Fault-clause-wanted
returns-in-Fault-clause-wanted g c =
    let old : Meaning = g.S.Shelf.meaning c.args.shelf.now in
    let new : Meaning = g.S.Shelf.meaning c.put_config.new.shelf in
    wanted_same old new c.hold_failed.new.config c.put_config.ensures.tried.moves.units c.put_config.ensures.tried.moves.size
    (c.hold_failed.ensures.wanted old.units old.size (wanted_serial old.units old.size c.args.config.now (c.args.config.now.serial + 1) c.requires.wanted))

pub returns-in-Ok-clause-underway : goal.returns-in-Ok-clause-underway
returns-in-Ok-clause-underway g c =
    let old : Meaning = g.S.Shelf.meaning c.args.shelf.now in
    let new : Meaning = g.S.Shelf.meaning c.put_config.new.shelf in
    let own : Grown old new c.args.config.now (next c.args.config.now) = serial_grown c.args.config.now (c.args.config.now.serial + 1) old new in
    try_underway c.args.config.now (next c.args.config.now) (next c.args.config.now) old new refl refl refl (wanted_count old.units old.size c.args.config.now c.requires.wanted) own own c.put_config.ensures.tried
    c.args.good c.requires.some c.put_config.ensures.order

pub returns-in-Down-clause-underway : goal.returns-in-Down-clause-underway
returns-in-Down-clause-underway g c =
    let old : Meaning = g.S.Shelf.meaning c.args.shelf.now in
    let new : Meaning = g.S.Shelf.meaning c.put_config.new.shelf in
    let own : Grown old new c.args.config.now (next c.args.config.now) = serial_grown c.args.config.now (c.args.config.now.serial + 1) old new in
    try_underway c.args.config.now (next c.args.config.now) (next c.args.config.now) old new refl refl refl (wanted_count old.units old.size c.args.config.now c.requires.wanted) own own c.put_config.ensures.tried
    c.args.good c.requires.some c.put_config.ensures.order

pub returns-in-Ok-clause-ends : goal.returns-in-Ok-clause-ends
returns-in-Ok-clause-ends g c =
    let old : Meaning = g.S.Shelf.meaning c.args.shelf.now in
    let new : Meaning = g.S.Shelf.meaning c.put_config.new.shelf in
    let own : Grown old new c.args.config.now (next c.args.config.now) = serial_grown c.args.config.now (c.args.config.now.serial + 1) old new in
    let count : length c.args.config.now.disks ≡ old.units = wanted_count old.units old.size c.args.config.now c.requires.wanted in (
      refl,
      try_tidy c.args.config.now (next c.args.config.now) old new refl refl count own c.put_config.ensures.tried c.in-Ok.ensures.ok,
      try_stands c.args.config.now (next c.args.config.now) old new refl refl count own c.put_config.ensures.tried c.in-Ok.ensures.ok,
    )

fault : (g : Over) (c : goal.After-hold_failed g) → FailedOn (g.S.Shelf.meaning c.args.shelf.now) (g.S.Shelf.meaning c.put_config.new.shelf) c.in-Err.failed.disk (Fault c.in-Fault.disk)
fault g c = subst (FailedOn (g.S.Shelf.meaning c.args.shelf.now) (g.S.Shelf.meaning c.put_config.new.shelf) c.in-Err.failed.disk) c.in-Fault.is c.in-Err.ensures.stops.cause

marks : (g : Over) (c : goal.After-hold_failed g) → Grown (g.S.Shelf.meaning c.args.shelf.now) (g.S.Shelf.meaning c.put_config.new.shelf) c.args.config.now c.hold_failed.new.config
marks g c =
    mark_grown c.args.config.now (c.args.config.now.serial + 1) c.in-Err.failed.disk c.hold_failed.new.config (g.S.Shelf.meaning c.args.shelf.now) (g.S.Shelf.meaning c.put_config.new.shelf)
    (fault g c).0 c.hold_failed.ensures.marked

pub returns-in-Fault-clause-underway : goal.returns-in-Fault-clause-underway
returns-in-Fault-clause-underway g c =
    let old : Meaning = g.S.Shelf.meaning c.args.shelf.now in
    let new : Meaning = g.S.Shelf.meaning c.put_config.new.shelf in
    try_underway c.args.config.now (next c.args.config.now) c.hold_failed.new.config old new refl refl (ap (λ (x : Config). x.serial) c.hold_failed.ensures.marked) (wanted_count old.units old.size c.args.config.now c.requires.wanted)
    (serial_grown c.args.config.now (c.args.config.now.serial + 1) old new) (marks g c) c.put_config.ensures.tried
    c.args.good c.requires.some c.put_config.ensures.order

pub returns-in-Fault-clause-ends : goal.returns-in-Fault-clause-ends
returns-in-Fault-clause-ends g c =
    let old : Meaning = g.S.Shelf.meaning c.args.shelf.now in
    let new : Meaning = g.S.Shelf.meaning c.put_config.new.shelf in
    let count : length c.args.config.now.disks ≡ old.units = wanted_count old.units old.size c.args.config.now c.requires.wanted in
    let was : HeldGood (next c.args.config.now) old c.in-Err.failed.disk = member_held (next c.args.config.now) old count c.in-Err.failed.disk c.in-Err.ensures.stops.member in (
      record {
        unit = c.in-Err.failed.disk;
        failed = ((fault g c).0, (fault g c).1);
        fewer = c.hold_failed.ensures.falls was.good;
        others = λ u held failed. mark_new c.args.config.now (c.args.config.now.serial + 1) c.in-Err.failed.disk u c.hold_failed.new.config c.hold_failed.ensures.marked held failed;
      },
      try_remain c.args.config.now (next c.args.config.now) c.hold_failed.new.config old new refl refl (ap (λ (x : Config). x.serial) c.hold_failed.ensures.marked) count (serial_grown c.args.config.now (c.args.config.now.serial + 1) old new) (marks g c)
          c.put_config.ensures.tried (λ u held.
          c.in-Err.ensures.stops.others u
          (held_member (next c.args.config.now) old count u (record { below = held.below; good = kept_good (marks g c) u held.good }))
          (mark_other c.args.config.now (c.args.config.now.serial + 1) c.in-Err.failed.disk u c.hold_failed.new.config (omega (arith, count, was.below)) c.hold_failed.ensures.marked held.good)),
      (fault g c).2,
    )
