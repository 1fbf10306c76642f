-- `note_volumes`: what the tests see then.
use Rattle.std.proofs.Common.{◌≡◌, ◌∙◌, ap, sym}
use Rattle.std.specs.Prelude.{Option, Some, slice_set}
use Rattle.vx_config.specs.declared.config.Config.{Config}
use Rattle.vx_diskset.specs.GroupCalls.{config_in}
use Rattle.vx_events.proofs.Places.{some_same}
use Rattle.vx_events.specs.RvgViews.{kinds_by, kinds_of}
use Rattle.vx_order.specs.declared.facts.SiteFacts.{SiteFacts}
use Rattle.vx_yard.proofs.Lists.{get_at}
use Rattle.vx_yard.specs.GroupFacts.{with_table}
use Rattle.vx_group_lines.proofs.GroupShown.{config_at}
use Rattle.vx_group_lines.proofs.noting.note_volumes.Goals as goal

-- the configuration that is asked for is sound
pub table_of-volumes-requires-clause-sound : goal.table_of-volumes-requires-clause-sound
table_of-volumes-requires-clause-sound g c = λ x is.
    let one = get_at c.args.yard.now.disk_sets.items c.args.site c.index.result.now c.requires.disk_set c.index.ensures in
    let two = get_at c.args.yard.now.disk_sets.items c.args.site c.index-2.result.now c.requires.disk_set c.index-2.ensures in
    c.sound.ensures x (ap (λ e. config_in e) (some_same (sym one ∙ two)) ∙ sym c.config.ensures ∙ is)

pub returns-clause-facts : goal.returns-clause-facts
returns-clause-facts g c = λ f x at has.
    let facts = c.args.yard.now.facts.items in
    let s = c.args.site in
    let there = get_at c.args.yard.now.disk_sets.items s c.index-2.result.now c.requires.disk_set c.index-2.ensures in
    let same = some_same (sym has.there ∙ there) in
    let is : config_in c.index-2.result.now ≡ Some x = ap (λ e. config_in e) (sym same) ∙ config_at has.disk_set (Some x) has.is in
    let here = get_at facts s c.index_mut.result.now c.requires.facts c.index_mut.ensures.value in
    ap (λ (k : SiteFacts). slice_set facts s k)
    (c.set_volumes.ensures
    ∙ ap (λ vs. with_table vs c.index_mut.result.now) (c.table_of-volumes.ensures ∙ ap (λ (o : Option Config). kinds_of o) (c.config.ensures ∙ is))
    ∙ ap (λ (k : SiteFacts). with_table (kinds_by x.rvg x.volumes) k) (some_same (sym here ∙ at)))
