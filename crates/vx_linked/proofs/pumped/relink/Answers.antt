-- `relink`: its result.
use Rattle.std.proofs.Common.{◌≡◌, ◌∙◌, ap, sym, subst}
use Rattle.std.specs.Prelude.{Some, slice_get}
use Rattle.vx_order.specs.declared.facts.SiteFacts.{SiteFacts}
use Rattle.vx_events.proofs.Places.{some_same}
use Rattle.vx_order.specs.declared.facts.LinkFacts.{LinkFacts}
use Rattle.vx_linked.specs.Tables.{place_to, site_relinked}
use Rattle.vx_linked.proofs.Finding.{changed_so}
use Rattle.vx_linked.proofs.Shown.{get_at}
use Rattle.vx_linked.proofs.pumped.relink.Goals as goal

pub returns : goal.returns
returns c =
    let old = c.args.sites.now in
    let here = c.seat-here.result in
    let there = c.seat-there.result in
    let first = get_at old here c.index-sites-here.result c.seat-here.ensures.within c.index-sites-here.is in
    let again = get_at old here c.index-sites-here-2.result c.seat-here.ensures.within c.index-sites-here-2.is in
    let same : c.index-sites-here-2.result ≡ c.index-sites-here.result = some_same (sym again ∙ first) in
    let changed = changed_so (λ (l : LinkFacts). let x : LinkFacts = record l { link = c.args.link.now } in x) old c.args.from.now c.args.to.now c.requires.found here there c.link_place-place.result c.index-sites-here-2.result c.relink_at.new.site c.seat-here.ensures.seat c.seat-there.ensures.seat again
    (ap (λ (s : SiteFacts). place_to there s.links) (same ∙ c.index-sites-here.is) ∙ ap (place_to there) (sym c.as_slice.ensures) ∙ c.link_place-place.ensures.place)
    (subst (λ (s : SiteFacts). (l : LinkFacts) → slice_get s.links c.link_place-place.result ≡ Some l → c.relink_at.new.site ≡ site_relinked s c.link_place-place.result (record l { link = c.args.link.now })) (sym c.index-sites-here-2.is) c.relink_at.ensures) in
    record { at = changed.0; new_is = changed.1 }
