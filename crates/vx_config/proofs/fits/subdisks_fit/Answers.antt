-- `subdisks_fit`: its result; what stays true in its loop over `subdisk`.
use Rattle.vx_config.specs.Table.{subdisk}
use Rattle.vx_config.proofs.FitLemmas.{fit-more, fit-all}
use Rattle.vx_config.proofs.fits.subdisks_fit.Goals as goal

pub loop-subdisk-preserved : goal.loop-subdisk-preserved
loop-subdisk-preserved c = fit-more subdisk c.args.subdisks.now c.loop-subdisk.subdisk-index _ c.loop-subdisk-test.true c.loop-subdisk.invariant c.subdisk_fits.ensures

pub returns : goal.returns
returns c = fit-all subdisk c.args.subdisks.now c.loop-subdisk.subdisk-index c.loop-subdisk-test.false c.loop-subdisk.invariant
