-- Whether the volume of a line is one of a group, and no data volume.
use Rattle.std.proofs.Common.{◌∙◌, ap, sym}
use Rattle.std.specs.Prelude.{slice_get}
use Rattle.vx_events.proofs.Places.{some_same}
use Rattle.vx_order.specs.declared.facts.SiteFacts.{SiteFacts}
use Rattle.vx_yard.proofs.Lists.{get_at}
use Rattle.vx_group_lines.specs.Plain.{is_plain_volume}
use Rattle.vx_group_lines.proofs.Going.{plain_off, plain_seen}
use Rattle.vx_group_lines.proofs.lines.is_plain.Goals as goal

pub returns-then-not-index : goal.returns-then-not-index
returns-then-not-index g c = λ d stands.
    let was = get_at c.args.yard.now.facts.items c.site_of-site.result c.index.result.now c.site_of-site.ensures.fact c.index.ensures in
    plain_off d c.args.yard.now c.args.name.now c.site_of-site.result c.index.result.now stands c.site_of-site.ensures.seat was c.args.volume.now c.if-not-index.true

pub returns : goal.returns
returns g c = λ d stands.
    let facts = c.args.yard.now.facts.items in
    let s = c.site_of-site.result in
    let was = get_at facts s c.index.result.now c.site_of-site.ensures.fact c.index.ensures in
    let at = get_at facts s c.index-2.result.now c.site_of-site.ensures.fact c.index-2.ensures in
    c.is_plain_in.ensures ∙ ap (λ vs. is_plain_volume (slice_get vs c.volume_of-place.result)) c.as_slice.ensures
    ∙ plain_seen d c.args.yard.now c.args.name.now s c.index-2.result.now stands c.site_of-site.ensures.seat at c.args.volume.now c.volume_of-place.result
    (ap (λ (f : SiteFacts). f.grouped) (some_same (sym at ∙ was)) ∙ c.if-not-index.false) (c.volume_of-place.ensures.place c.index-2.result.now at)
