-- `has_block`: its result.
use Rattle.std.proofs.Common.{◌≡◌, ap, arith, length}
use Rattle.std.proofs.lemmas.Bool.{ltb-true}
use Rattle.vx_layout.proofs.Placing.{got, has_from}
use Rattle.vx_region_rows.proofs.layout.has_block.Goals as goal

pub returns-then-plex-as_slice : goal.returns-then-plex-as_slice
returns-then-plex-as_slice c = λ is.
    let l = c.in-Some.ensures.lookup in
    let long : length c.as_slice-in-Some.result.now ≡ length c.in-Some.volume.now.plexes = ap length c.as_slice-in-Some.ensures.plexes in
    has_from c.args.config.now c.args.vol c.args.plex c.args.block c.in-Some.volume.now (got c.args.config.now.volumes c.as_slice.result.now c.args.vol c.in-Some.volume.now c.as_slice.ensures.volumes l.3.0 l.1) (omega (arith, c.if-plex-as_slice.true, long)) (ltb-true _ _ is)
