-- `actives`: its clauses; what stays true in its loop over `plex`.
use Rattle.std.proofs.Common.{arith}
use Rattle.vx_logged.proofs.BeginLemmas.{actives_none, actives_one}
use Rattle.vx_logged.proofs.beginning.actives.Goals as goal

pub returns-clause-some : goal.returns-clause-some
returns-clause-some c = c.loop-plex.invariant.some

pub returns-clause-all : goal.returns-clause-all
returns-clause-all c = λ p lt is. c.loop-plex.invariant.all p (let test = c.loop-plex-test.false in omega (arith, lt, test)) is

pub loop-plex-preserved : goal.loop-plex-preserved
loop-plex-preserved c = actives_one c.args.config.now c.args.vol c.loop-plex.plex c.loop-plex.was c.is_active.result (let test = c.loop-plex-test.true in omega (arith, test)) c.is_active.ensures c.loop-plex.invariant

pub loop-plex-init : goal.loop-plex-init
loop-plex-init c = actives_none c.args.config.now c.args.vol
