-- `fell_any`: its clause; what stays true in its loop over `plex`.
use Rattle.std.proofs.Common.{◌∙◌, arith, sym}
use Rattle.vx_logged.proofs.HoldsLemmas.{none_fell, one_more, fell_few}
use Rattle.vx_logged.proofs.missing.fell_any.Goals as goal

pub loop-plex-init : goal.loop-plex-init
loop-plex-init c = none_fell c.args.was.now c.args.core.now c.args.vol

pub loop-plex-preserved : goal.loop-plex-preserved
loop-plex-preserved c = one_more c.args.was.now c.args.core.now c.args.vol c.loop-plex.plex (sym c.fell.ensures ∙ c.if-fell.false) c.loop-plex.invariant

pub returns : goal.returns
returns c = λ is. fell_few c.args.was.now c.args.core.now c.args.vol c.loop-plex.plex 8 (let test = c.loop-plex-test.false in omega (arith, test)) c.loop-plex.invariant
