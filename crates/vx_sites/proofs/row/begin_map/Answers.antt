-- `begin_map`: its result.
use Rattle.std.proofs.Common.{◌∙◌, ap, sym}
use Rattle.vx_history.specs.World.{Regions}
use Rattle.vx_history.specs.Regions.{joined_maps, marks_of_all}
use Rattle.vx_sites.specs.Shapes.{link_maps, with_link_map}
use Rattle.vx_sites.proofs.Mapping.{kept_in, kept_none, marks_then, on_ok}
use Rattle.vx_sites.proofs.row.begin_map.Goals as goal

pub returns-then-is_in_replay : goal.returns-then-is_in_replay
returns-then-is_in_replay c =
    let maps = link_maps c.args.maps.now.entries.items in
    on_ok c.mark.result _ _ c.mark.ensures
    (λ is. is ∙ ap (λ (m : Regions). with_link_map maps c.args.site c.args.to (joined_maps m (marks_of_all c.args.late.now))) (kept_in c.args.mode.now (maps c.args.site c.args.to) (sym c.if-is_in_replay.ensures)))

pub returns : goal.returns
returns c =
    let maps = link_maps c.args.maps.now.entries.items in
    on_ok c.mark-2.result _ _ c.mark-2.ensures
    (λ is.
    marks_then (link_maps c.clear.new.self.entries.items) maps c.args.site c.args.to _ (λ m. joined_maps m (marks_of_all c.args.late.now)) (link_maps c.mark-2.new.self.entries.items) c.in_ok-clear.ensures is
    ∙ ap (λ (m : Regions). with_link_map maps c.args.site c.args.to (joined_maps m (marks_of_all c.args.late.now))) (kept_none c.args.mode.now (maps c.args.site c.args.to) (sym c.if-is_in_replay.ensures)))
