-- `convert_map`: its result.
use Rattle.std.proofs.Common.{◌≡◌, ◌∙◌, List, drop, ap, sym}
use Rattle.vx_model.specs.Content.{Write}
use Rattle.vx_history.specs.Admission.{hold}
use Rattle.vx_history.specs.ChangeMaps.{map_changed, map_kept}
use Rattle.vx_history.specs.Regions.{joined_maps, marks_of_all}
use Rattle.vx_history.specs.declared.admission.Change.{Change}
use Rattle.vx_sites.specs.Shapes.{link_maps, with_link_map}
use Rattle.vx_sites.proofs.Mapping.{marks_same, on_ok, unmapped}
use Rattle.vx_sites.proofs.row.convert_map.Goals as goal

pub returns-in-Stays : goal.returns-in-Stays
returns-in-Stays c =
    let maps = link_maps c.args.maps.now.entries.items in
    let l = c.args.link.now.state in
    let log = c.args.node.now.log.items in
    marks_same maps c.args.site c.args.to _
    (ap (λ (h : Change). map_changed h l.mode (maps c.args.site c.args.to) log (hold l)) (sym (c.change_of.ensures c.args.to))
    ∙ unmapped c.change_of.result l.mode (maps c.args.site c.args.to) log (hold l) c.in-Stays.is)

pub returns-in-ToDcm : goal.returns-in-ToDcm
returns-in-ToDcm c =
    let maps = link_maps c.args.maps.now.entries.items in
    let l = c.args.link.now.state in
    let log = c.args.node.now.log.items in
    let late : c.log_above-late.result.now ≡ drop (hold l) log = c.log_above-late.ensures ∙ ap (λ (xs : List Write). drop (hold l) xs) c.deref.ensures.value in
    on_ok c.begin_map.result _ _ c.begin_map.ensures
    (λ is.
    is
    ∙ ap (λ (xs : List Write). with_link_map maps c.args.site c.args.to (joined_maps (map_kept l.mode (maps c.args.site c.args.to)) (marks_of_all xs))) late
    ∙ ap (λ (h : Change). with_link_map maps c.args.site c.args.to (map_changed h l.mode (maps c.args.site c.args.to) log (hold l))) (c.in-ToDcm.ensures c.args.to))
