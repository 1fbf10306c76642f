-- `mark`: its result; what stays true in its loop over `write`.
use Rattle.std.proofs.Common.{◌∙◌, ℕ, List, length, take, ap, refl}
use Rattle.vx_history.specs.World.{Regions, no_regions}
use Rattle.vx_history.specs.Regions.{joined_maps}
use Rattle.vx_sites.specs.declared.maps.MapEntry.{MapEntry}
use Rattle.vx_sites.specs.Shapes.{link_maps, with_link_map}
use Rattle.vx_sites.proofs.Mapping.{joined_none, maps_more, marks_are, marks_same, writes_marked}
use Rattle.vx_sites.proofs.maps.ChangeMaps.mark.Goals as goal

pub loop-write-init : goal.loop-write-init
loop-write-init c =
    let maps = link_maps c.args.self.now.entries.items in
    marks_same maps c.args.from c.args.to _ (joined_none (maps c.args.from c.args.to) (take 0 c.args.writes.now) refl)

pub loop-write-preserved : goal.loop-write-preserved
loop-write-preserved c =
    let before = link_maps c.loop-write.self.entries.items in
    writes_marked (link_maps c.args.self.now.entries.items) before _ c.args.from c.args.to c.args.writes.now c.loop-write.write-index c.write-item.result c.loop-write-test.true c.write-item.is
    c.loop-write.invariant
    (ap (λ (es : List MapEntry). link_maps es) c.in_ok-push.ensures.items ∙ maps_more (λ p s. no_regions) c.loop-write.self.entries.items _
    ∙ ap (λ (m : Regions). with_link_map before c.args.from c.args.to (joined_maps (before c.args.from c.args.to) m))
    (marks_are c.write-item.result _ _ _ c.volume.ensures c.start.ensures (ap (λ (b : List ℕ). length b) c.as_bytes.ensures.bytes)))
