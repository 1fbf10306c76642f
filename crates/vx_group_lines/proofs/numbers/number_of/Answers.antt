-- `number_of`: by the configuration of the group.
use Rattle.std.proofs.Common.{◌≡◌, ◌∙◌, ap, sym}
use Rattle.std.specs.Prelude.{Some}
use Rattle.vx_diskset.specs.GroupCalls.{config_in}
use Rattle.vx_events.proofs.Places.{some_same}
use Rattle.vx_yard.proofs.Lists.{get_at}
use Rattle.vx_group_lines.proofs.GroupShown.{config_at}
use Rattle.vx_group_lines.proofs.numbers.number_of.Goals as goal

-- the configuration that is asked for is sound
pub number_by-requires : goal.number_by-requires
number_by-requires g c = record {
  sound = λ x is.
      let one = get_at c.args.yard.now.disk_sets.items c.args.site c.index.result.now c.requires.disk_set c.index.ensures in
      let two = get_at c.args.yard.now.disk_sets.items c.args.site c.index-2.result.now c.requires.disk_set c.index-2.ensures in
      c.sound.ensures x (ap (λ e. config_in e) (some_same (sym one ∙ two)) ∙ sym c.config.ensures ∙ is);
}

pub returns : goal.returns
returns g c = λ x has.
    let there = get_at c.args.yard.now.disk_sets.items c.args.site c.index-2.result.now c.requires.disk_set c.index-2.ensures in
    let is : config_in c.index-2.result.now ≡ Some x = ap (λ e. config_in e) (sym (some_same (sym has.there ∙ there))) ∙ config_at has.disk_set (Some x) has.is in
    c.number_by.ensures x (c.config.ensures ∙ is)
