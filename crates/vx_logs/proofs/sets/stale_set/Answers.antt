-- The flags as bits.
use Rattle.std.proofs.Common.{◌∙◌, ap, arith}
use Rattle.vx_disk.specs.Blocks.{bit_at}
use Rattle.vx_volume.proofs.BitLemmas.{bit_of}
use Rattle.vx_logs.proofs.LogLemmas.{set_is}
use Rattle.vx_logs.proofs.sets.stale_set.Goals as goal

pub returns : goal.returns
returns c =
    set_is c.args.config.now c.requires c.args.vol c.set_of.result
    (λ p lt. ap (λ s. bit_at s p) c.set_of.ensures ∙ bit_of c.loop-plex.flags p ∙ c.loop-plex.invariant.0 p (omega (arith, lt, c.loop-plex-test.false)))
