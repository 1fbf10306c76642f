-- `note_rvg`: what the tests see of the site then.
use Rattle.std.proofs.Common.{◌≡◌, ◌∙◌, ap, sym}
use Rattle.std.specs.Prelude.{Option, Some, None, slice_set}
use Rattle.vx_diskset.specs.GroupCalls.{core_in}
use Rattle.vx_events.proofs.Places.{some_same}
use Rattle.vx_order.specs.declared.facts.SiteFacts.{SiteFacts}
use Rattle.vx_rvg.specs.Views.{Core}
use Rattle.vx_yard.proofs.Lists.{get_at, length-set, set_same}
use Rattle.vx_group_lines.specs.Noting.{core_shown}
use Rattle.vx_group_lines.proofs.noting.note_rvg.Goals as goal

pub returns-clause-none : goal.returns-clause-none
returns-clause-none g c = λ none.
    let facts = c.args.yard.now.facts.items in
    let s = c.args.site in
    let there = get_at c.args.yard.now.disk_sets.items s c.index.result.now c.requires.disk_set c.index.ensures in
    let here = get_at facts s c.index_mut.result.now c.requires.facts c.index_mut.ensures.value in
    let is : core_in c.index.result.now ≡ None = ap (λ e. core_in e) (some_same (sym there ∙ none.there)) ∙ none.is in
    ap (λ (k : SiteFacts). slice_set facts s k) (c.show_rvg.ensures ∙ ap (λ (o : Option Core). core_shown o c.index_mut.result.now) is) ∙ set_same facts s c.index_mut.result.now here

pub returns-clause-some : goal.returns-clause-some
returns-clause-some g c = λ f core at has.
    let facts = c.args.yard.now.facts.items in
    let s = c.args.site in
    let there = get_at c.args.yard.now.disk_sets.items s c.index.result.now c.requires.disk_set c.index.ensures in
    let here = get_at facts s c.index_mut.result.now c.requires.facts c.index_mut.ensures.value in
    let is : core_in c.index.result.now ≡ Some core = ap (λ e. core_in e) (some_same (sym there ∙ has.there)) ∙ has.is in
    ap (λ (k : SiteFacts). slice_set facts s k)
    (c.show_rvg.ensures ∙ ap (λ (o : Option Core). core_shown o c.index_mut.result.now) is ∙ ap (λ (k : SiteFacts). core_shown (Some core) k) (some_same (sym here ∙ at)))

pub returns-clause-many : goal.returns-clause-many
returns-clause-many g c = length-set c.args.yard.now.facts.items c.args.site c.show_rvg.new.facts
