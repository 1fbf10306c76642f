-- Each site so far has the shape; at the end these are all.
use Rattle.std.proofs.Common.{◌≡◌, ◌∙◌, ℕ, ap, sym, subst, arith, ⊎_elim}
use Rattle.std.specs.Prelude.{slice_get}
use Rattle.std.proofs.lemmas.Bool.{cases_eq}
use Rattle.std.proofs.lemmas.Option.{slice_get_within}
use Rattle.vx_order.specs.declared.facts.SiteFacts.{SiteFacts as SiteValue}
use Rattle.vx_events.proofs.Places.{some_same}
use Rattle.vx_yard.specs.Yards.{IsShaped}
use Rattle.vx_yard.proofs.Lists.{get_at}
use Rattle.vx_yard.proofs.whole.are_shaped.Goals as goal

pub loop-site-preserved : goal.loop-site-preserved
loop-site-preserved c = λ s f less at. ⊎_elim
    (λ (same : s ≡ c.loop-site.site-index).
    let here = get_at c.args.sites.now c.loop-site.site-index c.site-item.result (omega (arith, c.loop-site-test.true)) c.site-item.is in
    let is : f ≡ c.site-item.result = some_same (sym at ∙ ap (λ (k : ℕ). slice_get c.args.sites.now k) same ∙ here) in
    subst (λ (x : SiteValue). IsShaped x) (sym is) (c.is_shaped.ensures c.if-not-is_shaped.false))
    (λ apart. c.loop-site.invariant s f (omega (arith, less, apart)) at)
    (cases_eq s c.loop-site.site-index)

pub returns : goal.returns
returns c = λ _ s f at. c.loop-site.invariant s f (omega (arith, slice_get_within c.args.sites.now s f at, c.loop-site-test.false, c.loop-site.auto.site-index-end)) at
