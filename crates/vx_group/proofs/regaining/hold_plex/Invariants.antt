-- The loop of `hold_plex` over `disk`: what stays true.
use Rattle.vx_group.specs.Regains.{Regained}
use Rattle.vx_group.proofs.regaining.hold_plex.Given as goal

abbrev pub invariant-loop-disk : goal.invariant-loop-disk
invariant-loop-disk l = Regained l.fn.config l.config l.vol l.plex l.disk l.any
