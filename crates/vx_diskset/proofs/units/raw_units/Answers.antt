-- `raw_units`: what `push` asks; what stays true in its loop over `k`.
use Rattle.std.proofs.Common.{ap, arith, length, ℕ, ◌-◌}
use Rattle.vx_events.proofs.Values.{raw_more, length-values_from}
use Rattle.vx_diskset.proofs.units.raw_units.Goals as goal

pub push-requires : goal.push-requires
push-requires c =
    let e = ap (length {A = ℕ}) c.loop-k.invariant in
    record { room = omega (arith, e, length-values_from (λ (j : ℕ). j) 1 (c.loop-k.k - 1)) }

pub loop-k-preserved : goal.loop-k-preserved
loop-k-preserved c = raw_more c.loop-k.k c.loop-k.vols c.push.new.self (omega arith) c.loop-k.invariant c.push.ensures
