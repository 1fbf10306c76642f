-- The volume that a line names.
use Rattle.std.proofs.Common.{◌∙◌, ap, sym}
use Rattle.vx_order.specs.declared.facts.SiteFacts.{SiteFacts}
use Rattle.vx_events.specs.Facts.{place_of}
use Rattle.vx_events.proofs.Places.{some_same}
use Rattle.vx_yard.proofs.Lists.{get_at}
use Rattle.vx_yard.proofs.Kept.{volume_small}
use Rattle.vx_yard.proofs.Seats.{some_none}
use Rattle.vx_yard.proofs.yard.Yard.volume_of.Goals as goal

pub returns-clause-place : goal.returns-clause-place
returns-clause-place g c = λ f at.
    let here = get_at c.args.self.now.facts.items c.args.site c.index.result.now c.requires.site c.index.ensures in
    ap (λ (k : SiteFacts). place_of k.volumes c.args.name.now) (sym (some_same (sym here ∙ at))) ∙ sym c.place.ensures ∙ c.in-Some.is

pub returns-clause-small : goal.returns-clause-small
returns-clause-small g c =
    let here = get_at c.args.self.now.facts.items c.args.site c.index.result.now c.requires.site c.index.ensures in
    volume_small c.index.result.now c.args.name.now c.in-Some.place (c.requires.kept.each c.args.site c.index.result.now here) (sym c.place.ensures ∙ c.in-Some.is)

pub unreachable-requires : goal.unreachable-requires
unreachable-requires g c =
    let here = get_at c.args.self.now.facts.items c.args.site c.index.result.now c.requires.site c.index.ensures in
    some_none (place_of c.index.result.now.volumes c.args.name.now) (c.requires.named c.index.result.now here) (sym c.place.ensures ∙ c.in-None.is)
