-- `mark_map`: its result.
use Rattle.std.proofs.Common.{◌∙◌, ap, sym}
use Rattle.vx_history.specs.World.{Regions}
use Rattle.vx_sites.specs.Shapes.{link_maps, with_link_map}
use Rattle.vx_sites.proofs.Mapping.{after_marked, after_same, marks_same, on_ok}
use Rattle.vx_sites.proofs.row.mark_map.Goals as goal

pub returns-then-has_map : goal.returns-then-has_map
returns-then-has_map c =
    let maps = link_maps c.args.maps.now.entries.items in
    on_ok c.mark.result _ _ c.mark.ensures
    (λ is. is ∙ ap (λ (m : Regions). with_link_map maps c.args.site c.args.to m) (after_marked c.args.mode.now (maps c.args.site c.args.to) c.args.writes.now (sym c.if-has_map.ensures)))

pub returns : goal.returns
returns c =
    let maps = link_maps c.args.maps.now.entries.items in
    marks_same maps c.args.site c.args.to _ (after_same c.args.mode.now (maps c.args.site c.args.to) c.args.writes.now (sym c.if-has_map.ensures))
