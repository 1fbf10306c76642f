-- `list_links`: what stays true in its loop over `place`.
use Rattle.std.proofs.Common.{◌≡◌, ◌∙◌, ◌++◌, ℕ, ◌+◌, [], List, sym, ap, arith, add-one}
use Rattle.std.specs.Prelude.{Option}
use Rattle.vx_model.specs.declared.link.Link.{Link as PlainLink}
use Rattle.vx_history.specs.Events.{plain_links, linked_sites, put_before, link_in_place}
use Rattle.vx_sites.specs.Shapes.{world_of}
use Rattle.vx_world.proofs.Admitting.{linked_on, plain_append}
use Rattle.vx_world.proofs.admission.list_links.Goals as goal

pub loop-place-preserved : goal.loop-place-preserved
loop-place-preserved c =
    let row = (world_of c.args.world.now).links c.args.site in
    let place : ℕ = c.loop-place.place in
    let before : List ℕ = linked_sites row c.args.sites 0 place in
    let there : place ≡ 0 + place = omega arith in
    c.in_ok-add_link.ensures
    ∙ ap (λ (ls : List PlainLink). ls ++ plain_links row (put_before c.find_link-to.result [])) c.loop-place.invariant
    ∙ ap (λ (to : Option ℕ). plain_links row before ++ plain_links row (put_before to [])) c.find_link-to.ensures
    ∙ sym (plain_append row before (put_before (link_in_place row place c.args.sites) []))
    ∙ ap (λ (p : ℕ). plain_links row (before ++ put_before (link_in_place row p c.args.sites) [])) there
    ∙ sym (ap (λ (xs : List ℕ). plain_links row xs) (linked_on row c.args.sites 0 place))
    ∙ ap (λ (k : ℕ). plain_links row (linked_sites row c.args.sites 0 k)) (sym (add-one place))
