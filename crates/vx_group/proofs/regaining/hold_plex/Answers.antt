-- `hold_plex`: clause regained; what `hold_one-any` asks; what stays true in its loop over `disk`.
use Rattle.std.proofs.Common.{length, ap, arith}
use Rattle.vx_group.proofs.RegainLemmas.{regained_start, regained_step, regained_to}
use Rattle.vx_group.proofs.regaining.hold_plex.Goals as goal

pub loop-disk-init : goal.loop-disk-init
loop-disk-init c = regained_start c.args.config.now c.args.vol c.args.plex

pub hold_one-any-requires : goal.hold_one-any-requires
hold_one-any-requires c =
    let same = ap length c.as_slice.ensures.disks in
    let count = c.loop-disk.invariant.same.count in
    let lt = c.loop-disk-test.true in
    record { inside = omega (arith, same, count, lt) }

pub loop-disk-preserved : goal.loop-disk-preserved
loop-disk-preserved c =
    regained_step c.args.config.now c.loop-disk.config c.hold_one-any.new.config c.args.vol c.args.plex c.loop-disk.disk c.loop-disk.any c.loop-disk.invariant c.hold_one-any.result c.hold_one-any.ensures

pub returns-clause-regained : goal.returns-clause-regained
returns-clause-regained c =
    regained_to c.args.config.now c.loop-disk.config c.args.vol c.args.plex c.loop-disk.disk (length c.args.config.now.disks) c.loop-disk.any
    (let same = ap length c.as_slice.ensures.disks in let le = c.loop-disk-test.false in omega (arith, same, le)) c.loop-disk.invariant
