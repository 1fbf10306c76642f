-- How many updates wait at a site that a line names.
use Rattle.std.proofs.Common.{◌≡◌, ◌∙◌, ◌-◌, ℕ, List, length, ap, arith, subst, sym}
use Rattle.std.specs.Prelude.{None, Some}
use Rattle.vx_model.specs.declared.site.SiteState.TheVariants.{Up}
use Rattle.vx_order.specs.declared.facts.SiteFacts.{SiteFacts}
use Rattle.vx_diskset.specs.Holds.{beside_of}
use Rattle.vx_events.specs.Facts.{seat_of}
use Rattle.vx_yard.proofs.Lists.{get_at}
use Rattle.vx_yard.proofs.NamedSite.{place_at}
use Rattle.vx_node.proofs.settle.waits_at.Goals as goal

pub returns : goal.returns
returns g c = λ d stands s number up none.
    let y = c.args.yard.now in
    let site = c.in-Some.site in
    let seat : seat_of y.facts.items c.args.name.now ≡ Some site = ap (λ (fs : List SiteFacts). seat_of fs c.args.name.now) (sym c.deref.ensures.value) ∙ sym c.find_seat.ensures ∙ c.in-Some.is in
    let at = place_at d y c.args.name.now site stands seat in
    let same : s ≡ site = sym number ∙ at.number in
    let there = get_at y.disk_sets.items site c.index.result.now (omega (arith, c.if-site-len.false, c.len.ensures)) c.index.ensures in
    let up_here = subst (λ (k : ℕ). (d.world.nodes k).state ≡ Up) same up in
    let none_here = subst (λ (k : ℕ). (d.world.nodes k).halted ≡ None) same none in
    c.from.ensures
    ∙ c.waiting.ensures (beside_of d site) (d.world.nodes site) (stands.disk_sets.sites site c.index.result.now at.below there) up_here none_here
    ∙ ap (λ (k : ℕ). length (d.world.nodes k).log - (d.world.nodes k).safe) (sym same)
