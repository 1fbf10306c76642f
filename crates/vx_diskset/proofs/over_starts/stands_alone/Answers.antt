-- Whether a site with this log stands by itself.
use Rattle.std.proofs.Common.{◌∙◌, ◌&&◌, Bool, ap}
use Rattle.vx_model.specs.Sites.{is_origin}
use Rattle.vx_diskset.specs.OverStarts.{has_no_links}
use Rattle.vx_diskset.proofs.over_starts.stands_alone.Goals as goal

pub returns : goal.returns
returns c =
    let s = c.args.state.now in
    c.all_three.ensures
    ∙ ap (λ (b : Bool). b && (c.is_unlinked-unlinked.result && c.is_idle-idle.result)) c.is_origin-origin.ensures
    ∙ ap (λ (b : Bool). is_origin s.role && (b && c.is_idle-idle.result)) (c.is_unlinked-unlinked.ensures ∙ ap (λ ls. has_no_links ls) c.as_slice.ensures.links)
    ∙ ap (λ (b : Bool). is_origin s.role && (has_no_links s.links && b)) c.is_idle-idle.ensures
