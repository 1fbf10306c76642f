-- `first_active`: its clauses; what stays true in its loop over `plex`.
use Rattle.std.proofs.Common.{◌∙◌, sym, arith}
use Rattle.vx_loggroup.proofs.FollowLemmas.{first_next, first_none}
use Rattle.vx_loggroup.proofs.following.first_active.Goals as goal

pub loop-plex-init : goal.loop-plex-init
loop-plex-init c = λ q lt. absurd (omega (arith, lt))

pub loop-plex-preserved : goal.loop-plex-preserved
loop-plex-preserved c = first_next c.args.config.now c.args.vol c.loop-plex.plex (sym c.is_active.ensures ∙ c.if-is_active.false) c.loop-plex.invariant

pub returns-clause-all : goal.returns-clause-all
returns-clause-all c = first_none c.args.config.now c.args.vol c.loop-plex.plex (omega (arith, c.loop-plex-test.false)) c.loop-plex.invariant
