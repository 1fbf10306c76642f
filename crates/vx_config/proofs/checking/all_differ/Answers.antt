-- `all_differ`: its result; what stays true in its loop over `i`.
use Rattle.std.proofs.Common.{◌≡◌, ◌+◌, ◌-◌, length, take, drop, subst, true, false}
use Rattle.std.specs.List.{list_all}
use Rattle.vx_config.specs.Checks.{differ}
use Rattle.vx_config.specs.declared.entry.VolumeEntry.{VolumeEntry}
use Rattle.vx_config.proofs.PairLemmas.{pairwise-more, pairwise-over, pairwise-all}
use Rattle.vx_config.proofs.checking.all_differ.Goals as goal

pub returns-then-not-differs_from : goal.returns-then-not-differs_from
returns-then-not-differs_from c =
    let P : VolumeEntry → Type 0 = λ v. false ≡ list_all (differ v) (take (length c.args.volumes.now - (c.loop-i.i + 1)) (drop (c.loop-i.i + 1) c.args.volumes.now)) in
    pairwise-over differ c.args.volumes.now c.loop-i.i _ c.loop-i-test.true (subst P c.index-volumes-i.is c.if-not-differs_from.ensures) c.loop-i.invariant

pub loop-i-preserved : goal.loop-i-preserved
loop-i-preserved c =
    let P : VolumeEntry → Type 0 = λ v. true ≡ list_all (differ v) (take (length c.args.volumes.now - (c.loop-i.i + 1)) (drop (c.loop-i.i + 1) c.args.volumes.now)) in
    pairwise-more differ c.args.volumes.now c.loop-i.i _ c.loop-i-test.true (subst P c.index-volumes-i.is c.if-not-differs_from.ensures) c.loop-i.invariant

pub returns : goal.returns
returns c = pairwise-all differ c.args.volumes.now c.loop-i.i c.loop-i-test.false c.loop-i.invariant
