-- What was read has a bit for each region of each plex.
use Rattle.std.proofs.Common.{◌*◌, ℕ, ap, arith}
use Rattle.vx_fmr.proofs.Keeping.{kept_of}
use Rattle.vx_fmr.proofs.fmr.Fmr.load.Goals as goal

pub invariant_of-result : goal.invariant_of-result
invariant_of-result g c =
    kept_of c.args.config.now c.args.volume c.in-Ok.map c.blocks_of-blocks.result c.plexes_of-plexes.result (4096 * c.map_blocks-stride.result) c.div_ceil-regions.result c.in-Ok.ensures.loaded
    c.blocks_of-blocks.ensures (omega (arith, c.blocks_of-blocks.ensures, c.requires.has.some)) c.plexes_of-plexes.ensures (ap (λ (n : ℕ). 4096 * n) c.map_blocks-stride.ensures.value) c.div_ceil-regions.ensures
