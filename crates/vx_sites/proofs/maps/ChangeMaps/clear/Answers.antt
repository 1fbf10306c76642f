-- `clear`: its result.
use Rattle.std.proofs.Common.{◌∙◌, List, ap}
use Rattle.vx_history.specs.World.{no_regions}
use Rattle.vx_sites.specs.declared.maps.MapChange.TheVariants.{Clear}
use Rattle.vx_sites.specs.declared.maps.MapEntry.{MapEntry}
use Rattle.vx_sites.specs.Shapes.{link_maps}
use Rattle.vx_sites.proofs.Mapping.{maps_more}
use Rattle.vx_sites.proofs.maps.ChangeMaps.clear.Goals as goal

pub returns : goal.returns
returns c =
    ap (λ (es : List MapEntry). link_maps es) c.in_ok-push.ensures.items
    ∙ maps_more (λ p s. no_regions) c.args.self.now.entries.items (record { from = c.args.from; to = c.args.to; change = Clear })
