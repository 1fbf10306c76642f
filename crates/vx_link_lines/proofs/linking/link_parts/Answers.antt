-- Each case of the parts of a line that makes a link.
use Rattle.std.proofs.Common.{List, length, ap, arith}
use Rattle.std.specs.Prelude.{Ok}
use Rattle.vx_model.proofs.Lists.{get_there}
use Rattle.vx_events.specs.declared.said.Said.TheVariants.{Done}
use Rattle.vx_order.specs.declared.facts.LinkFacts.{LinkFacts}
use Rattle.vx_link_lines.proofs.LinkEnding.{burns_done, burns_four, burns_one, burns_three, burns_two, under_one, under_three, under_two, comes_one, comes_three, comes_two, ends_done, ends_four, ends_one, ends_three, ends_two, below_one, below_three, below_two}
use Rattle.vx_yard.proofs.OfSites.{all_of_site, all_then}
use Rattle.vx_link_lines.proofs.linking.link_parts.Goals as goal

pub join_site-requires-clause-empty : goal.join_site-requires-clause-empty
join_site-requires-clause-empty g c κs within = c.requires.waiting

pub join_site-requires-clause-first : goal.join_site-requires-clause-first
join_site-requires-clause-first g c κs within = c.requires.first

pub join_site-requires-clause-small : goal.join_site-requires-clause-small
join_site-requires-clause-small g c κs within = omega (arith, c.requires.first, c.requires.kept.few)

pub join_site-requires-clause-facts : goal.join_site-requires-clause-facts
join_site-requires-clause-facts g c κs within = c.requires.second

pub join_site-requires-clause-disk_set : goal.join_site-requires-clause-disk_set
join_site-requires-clause-disk_set g c κs within = omega (arith, c.requires.second, c.requires.kept.few, c.requires.kept.eight)

pub join_site-requires-clause-state : goal.join_site-requires-clause-state
join_site-requires-clause-state g c κs within = c.requires.states.joined

pub make_link-requires-clause-empty : goal.make_link-requires-clause-empty
make_link-requires-clause-empty g c κs within = c.requires.room

pub make_link-requires-clause-facts : goal.make_link-requires-clause-facts
make_link-requires-clause-facts g c κs within = omega (arith, c.requires.first, c.in-Ok.ensures.many)

pub make_link-requires-clause-disk_set : goal.make_link-requires-clause-disk_set
make_link-requires-clause-disk_set g c κs within = omega (arith, c.requires.first, c.requires.kept.few, c.requires.kept.eight, c.in-Ok.ensures.disk_sets)

pub make_link-requires-clause-few : goal.make_link-requires-clause-few
make_link-requires-clause-few g c κs within = λ site is.
    let f = get_there c.args.yard.now.facts.items c.args.here c.requires.first in
    omega (arith, c.requires.few f.0 f.1, ap (λ (ls : List LinkFacts). length ls) (c.in-Ok.ensures.links c.args.here f.0 site f.1 is))

pub make_link-requires-clause-state : goal.make_link-requires-clause-state
make_link-requires-clause-state g c κs within = c.requires.states.made

pub mark_site-requires-clause-facts : goal.mark_site-requires-clause-facts
mark_site-requires-clause-facts g c κs within = omega (arith, c.requires.second, c.in-Ok.ensures.many, c.in-Ok-make_link.ensures.many)

pub mark_site-requires-clause-disk_set : goal.mark_site-requires-clause-disk_set
mark_site-requires-clause-disk_set g c κs within = omega (arith, c.requires.second, c.requires.kept.few, c.requires.kept.eight, c.in-Ok.ensures.disk_sets, c.in-Ok-make_link.ensures.disk_sets)

pub mark_site-requires-clause-state : goal.mark_site-requires-clause-state
mark_site-requires-clause-state g c κs within = c.requires.states.marked

pub open_link-requires-clause-facts : goal.open_link-requires-clause-facts
open_link-requires-clause-facts g c κs within = omega (arith, c.requires.first, c.in-Ok.ensures.many, c.in-Ok-make_link.ensures.many, c.in-Ok-mark_site.ensures.many)

pub open_link-requires-clause-disk_set : goal.open_link-requires-clause-disk_set
open_link-requires-clause-disk_set g c κs within =
    omega (arith, c.requires.first, c.requires.kept.few, c.requires.kept.eight, c.in-Ok.ensures.disk_sets, c.in-Ok-make_link.ensures.disk_sets, c.in-Ok-mark_site.ensures.disk_sets)

pub open_link-requires-clause-state : goal.open_link-requires-clause-state
open_link-requires-clause-state g c κs within = c.requires.states.opened

pub returns-in-Err-clause-leads : goal.returns-in-Err-clause-leads
returns-in-Err-clause-leads g c = λ d first second prot stands l.
    ends_one d first second prot c.args.here c.args.there c.args.sync c.args.states.now l c.args.yard.now stands c.join_site.new.yard c.in-Err.said (λ e note notes stood fit below first alone said is. c.in-Err.ensures.heads e note c.args.sync notes stood fit below first alone said is)

pub returns-in-Err-clause-asked : goal.returns-in-Err-clause-asked
returns-in-Err-clause-asked g c = λ d first second prot stands l.
    (all_of_site c.args.there c.args.yard.now c.join_site.new.yard (c.in-Err.ensures.asked d stands l.below_too))

pub returns-in-Err-clause-told : goal.returns-in-Err-clause-told
returns-in-Err-clause-told g c = λ told. (c.in-Err.ensures.told told)

pub returns-in-Err-make_link-clause-leads : goal.returns-in-Err-make_link-clause-leads
returns-in-Err-make_link-clause-leads g c = λ d first second prot stands l.
    let one = comes_one d first second prot c.args.here c.args.there c.args.sync c.args.states.now l c.args.yard.now stands c.join_site.new.yard (λ e note notes stood fit below first alone said is. c.in-Ok.ensures.heads e note c.args.sync notes stood fit below first alone said is) in
    ends_two d first second prot c.args.here c.args.there c.args.sync c.args.states.now l c.args.yard.now stands c.join_site.new.yard c.make_link.new.yard c.in-Err-make_link.said one (λ e note notes stood fit below alone session said is. c.in-Err-make_link.ensures.heads e note notes stood fit below alone session said is)

pub returns-in-Err-make_link-clause-asked : goal.returns-in-Err-make_link-clause-asked
returns-in-Err-make_link-clause-asked g c = λ d first second prot stands l.
    let one = comes_one d first second prot c.args.here c.args.there c.args.sync c.args.states.now l c.args.yard.now stands c.join_site.new.yard (λ e note notes stood fit below first alone said is. c.in-Ok.ensures.heads e note c.args.sync notes stood fit below first alone said is) in
    (all_then c.args.yard.now c.join_site.new.yard c.make_link.new.yard
    (all_of_site c.args.there c.args.yard.now c.join_site.new.yard (c.in-Ok.ensures.asked d stands l.below_too))
    (all_of_site c.args.here c.join_site.new.yard c.make_link.new.yard (c.in-Err-make_link.ensures.asked _ one.stands (below_one d first second prot c.args.here c.args.there c.args.sync c.args.states.now l c.args.yard.now stands c.args.here l.below))))

pub returns-in-Err-make_link-clause-told : goal.returns-in-Err-make_link-clause-told
returns-in-Err-make_link-clause-told g c = λ told. (c.in-Ok.ensures.told (c.in-Err-make_link.ensures.told told))

pub returns-in-Err-mark_site-clause-leads : goal.returns-in-Err-mark_site-clause-leads
returns-in-Err-mark_site-clause-leads g c = λ d first second prot stands l.
    let one = comes_one d first second prot c.args.here c.args.there c.args.sync c.args.states.now l c.args.yard.now stands c.join_site.new.yard (λ e note notes stood fit below first alone said is. c.in-Ok.ensures.heads e note c.args.sync notes stood fit below first alone said is) in
    let two = comes_two d first second prot c.args.here c.args.there c.args.sync c.args.states.now l c.args.yard.now stands c.join_site.new.yard c.make_link.new.yard one (λ e note notes stood fit below alone session said is. c.in-Ok-make_link.ensures.heads e note notes stood fit below alone session said is) in
    ends_three d first second prot c.args.here c.args.there c.args.sync c.args.states.now l c.args.yard.now stands c.make_link.new.yard c.mark_site.new.yard c.in-Err-mark_site.said two (λ e note notes stood fit below alone said is. c.in-Err-mark_site.ensures.heads e note c.args.here c.args.sync notes stood fit below alone said is)

pub returns-in-Err-mark_site-clause-asked : goal.returns-in-Err-mark_site-clause-asked
returns-in-Err-mark_site-clause-asked g c = λ d first second prot stands l.
    let one = comes_one d first second prot c.args.here c.args.there c.args.sync c.args.states.now l c.args.yard.now stands c.join_site.new.yard (λ e note notes stood fit below first alone said is. c.in-Ok.ensures.heads e note c.args.sync notes stood fit below first alone said is) in
    let two = comes_two d first second prot c.args.here c.args.there c.args.sync c.args.states.now l c.args.yard.now stands c.join_site.new.yard c.make_link.new.yard one (λ e note notes stood fit below alone session said is. c.in-Ok-make_link.ensures.heads e note notes stood fit below alone session said is) in
    (all_then c.args.yard.now c.make_link.new.yard c.mark_site.new.yard
    (all_then c.args.yard.now c.join_site.new.yard c.make_link.new.yard
    (all_of_site c.args.there c.args.yard.now c.join_site.new.yard (c.in-Ok.ensures.asked d stands l.below_too))
    (all_of_site c.args.here c.join_site.new.yard c.make_link.new.yard (c.in-Ok-make_link.ensures.asked _ one.stands (below_one d first second prot c.args.here c.args.there c.args.sync c.args.states.now l c.args.yard.now stands c.args.here l.below))))
    (all_of_site c.args.there c.make_link.new.yard c.mark_site.new.yard (c.in-Err-mark_site.ensures.asked _ two.stands (below_two d first second prot c.args.here c.args.there c.args.sync c.args.states.now l c.args.yard.now stands c.args.there l.below_too))))

pub returns-in-Err-mark_site-clause-told : goal.returns-in-Err-mark_site-clause-told
returns-in-Err-mark_site-clause-told g c = λ told. (c.in-Ok.ensures.told (c.in-Ok-make_link.ensures.told (c.in-Err-mark_site.ensures.told told)))

pub returns-in-Err-open_link-clause-leads : goal.returns-in-Err-open_link-clause-leads
returns-in-Err-open_link-clause-leads g c = λ d first second prot stands l.
    let one = comes_one d first second prot c.args.here c.args.there c.args.sync c.args.states.now l c.args.yard.now stands c.join_site.new.yard (λ e note notes stood fit below first alone said is. c.in-Ok.ensures.heads e note c.args.sync notes stood fit below first alone said is) in
    let two = comes_two d first second prot c.args.here c.args.there c.args.sync c.args.states.now l c.args.yard.now stands c.join_site.new.yard c.make_link.new.yard one (λ e note notes stood fit below alone session said is. c.in-Ok-make_link.ensures.heads e note notes stood fit below alone session said is) in
    let three = comes_three d first second prot c.args.here c.args.there c.args.sync c.args.states.now l c.args.yard.now stands c.make_link.new.yard c.mark_site.new.yard two (λ e note notes stood fit below alone said is. c.in-Ok-mark_site.ensures.heads e note c.args.here c.args.sync notes stood fit below alone said is) in
    ends_four d first second prot c.args.here c.args.there c.args.sync c.args.states.now l c.args.yard.now stands c.mark_site.new.yard c.open_link.new.yard c.in-Err-open_link.said three (λ e note notes stood fit below alone last said is. c.in-Err-open_link.ensures.heads e note c.args.sync notes stood fit below alone last said is)

pub returns-in-Err-open_link-clause-asked : goal.returns-in-Err-open_link-clause-asked
returns-in-Err-open_link-clause-asked g c = λ d first second prot stands l.
    let one = comes_one d first second prot c.args.here c.args.there c.args.sync c.args.states.now l c.args.yard.now stands c.join_site.new.yard (λ e note notes stood fit below first alone said is. c.in-Ok.ensures.heads e note c.args.sync notes stood fit below first alone said is) in
    let two = comes_two d first second prot c.args.here c.args.there c.args.sync c.args.states.now l c.args.yard.now stands c.join_site.new.yard c.make_link.new.yard one (λ e note notes stood fit below alone session said is. c.in-Ok-make_link.ensures.heads e note notes stood fit below alone session said is) in
    let three = comes_three d first second prot c.args.here c.args.there c.args.sync c.args.states.now l c.args.yard.now stands c.make_link.new.yard c.mark_site.new.yard two (λ e note notes stood fit below alone said is. c.in-Ok-mark_site.ensures.heads e note c.args.here c.args.sync notes stood fit below alone said is) in
    (all_then c.args.yard.now c.mark_site.new.yard c.open_link.new.yard
    (all_then c.args.yard.now c.make_link.new.yard c.mark_site.new.yard
    (all_then c.args.yard.now c.join_site.new.yard c.make_link.new.yard
    (all_of_site c.args.there c.args.yard.now c.join_site.new.yard (c.in-Ok.ensures.asked d stands l.below_too))
    (all_of_site c.args.here c.join_site.new.yard c.make_link.new.yard (c.in-Ok-make_link.ensures.asked _ one.stands (below_one d first second prot c.args.here c.args.there c.args.sync c.args.states.now l c.args.yard.now stands c.args.here l.below))))
    (all_of_site c.args.there c.make_link.new.yard c.mark_site.new.yard (c.in-Ok-mark_site.ensures.asked _ two.stands (below_two d first second prot c.args.here c.args.there c.args.sync c.args.states.now l c.args.yard.now stands c.args.there l.below_too))))
    (all_of_site c.args.here c.mark_site.new.yard c.open_link.new.yard (c.in-Err-open_link.ensures.asked _ three.stands (below_three d first second prot c.args.here c.args.there c.args.sync c.args.states.now l c.args.yard.now stands c.args.here l.below))))

pub returns-in-Err-open_link-clause-told : goal.returns-in-Err-open_link-clause-told
returns-in-Err-open_link-clause-told g c = λ told. (c.in-Ok.ensures.told (c.in-Ok-make_link.ensures.told (c.in-Ok-mark_site.ensures.told (c.in-Err-open_link.ensures.told told))))

pub returns-in-Ok-open_link-clause-leads : goal.returns-in-Ok-open_link-clause-leads
returns-in-Ok-open_link-clause-leads g c = λ d first second prot stands l.
    let one = comes_one d first second prot c.args.here c.args.there c.args.sync c.args.states.now l c.args.yard.now stands c.join_site.new.yard (λ e note notes stood fit below first alone said is. c.in-Ok.ensures.heads e note c.args.sync notes stood fit below first alone said is) in
    let two = comes_two d first second prot c.args.here c.args.there c.args.sync c.args.states.now l c.args.yard.now stands c.join_site.new.yard c.make_link.new.yard one (λ e note notes stood fit below alone session said is. c.in-Ok-make_link.ensures.heads e note notes stood fit below alone session said is) in
    let three = comes_three d first second prot c.args.here c.args.there c.args.sync c.args.states.now l c.args.yard.now stands c.make_link.new.yard c.mark_site.new.yard two (λ e note notes stood fit below alone said is. c.in-Ok-mark_site.ensures.heads e note c.args.here c.args.sync notes stood fit below alone said is) in
    let racks = (g.met.R.Rack g.world.𝓛 g.world.𝓜 g.world.𝓡 ((λ s x. x), (λ x. x), (λ x. x), λ x. x)).rack in
    let first_part = under_one d first second prot c.args.here c.args.there c.args.sync c.args.states.now l c.args.yard.now stands c.join_site.new.yard (Ok tt) (λ e note notes stood fit below alone said. c.in-Ok.ensures.called e note c.args.sync notes stood fit below alone said) in
    let second_part = under_two d first second prot c.args.here c.args.there c.args.sync c.args.states.now l c.args.yard.now stands c.join_site.new.yard c.make_link.new.yard Done first_part (c.in-Ok-make_link.ensures.called _ one.stands (below_one d first second prot c.args.here c.args.there c.args.sync c.args.states.now l c.args.yard.now stands c.args.here l.below)) in
    let third_part = under_three d first second prot c.args.here c.args.there c.args.sync c.args.states.now l c.args.yard.now stands c.make_link.new.yard c.mark_site.new.yard Done second_part (c.in-Ok-mark_site.ensures.called _ two.stands (below_two d first second prot c.args.here c.args.there c.args.sync c.args.states.now l c.args.yard.now stands c.args.there l.below_too)) in
    let both = burns_done d first second prot c.args.here c.args.there c.args.sync c.args.states.now l c.args.yard.now stands c.mark_site.new.yard c.open_link.new.yard third_part (c.in-Ok-open_link.ensures.called _ three.stands (below_three d first second prot c.args.here c.args.there c.args.sync c.args.states.now l c.args.yard.now stands c.args.here l.below)) in
    ends_done d first second prot c.args.here c.args.there c.args.sync c.args.states.now l c.args.yard.now stands racks c.mark_site.new.yard c.open_link.new.yard three (λ e note notes stood fit below alone last said is. c.in-Ok-open_link.ensures.heads e note c.args.sync notes stood fit below alone last said is) both

pub returns-in-Ok-open_link-clause-asked : goal.returns-in-Ok-open_link-clause-asked
returns-in-Ok-open_link-clause-asked g c = λ d first second prot stands l.
    let one = comes_one d first second prot c.args.here c.args.there c.args.sync c.args.states.now l c.args.yard.now stands c.join_site.new.yard (λ e note notes stood fit below first alone said is. c.in-Ok.ensures.heads e note c.args.sync notes stood fit below first alone said is) in
    let two = comes_two d first second prot c.args.here c.args.there c.args.sync c.args.states.now l c.args.yard.now stands c.join_site.new.yard c.make_link.new.yard one (λ e note notes stood fit below alone session said is. c.in-Ok-make_link.ensures.heads e note notes stood fit below alone session said is) in
    let three = comes_three d first second prot c.args.here c.args.there c.args.sync c.args.states.now l c.args.yard.now stands c.make_link.new.yard c.mark_site.new.yard two (λ e note notes stood fit below alone said is. c.in-Ok-mark_site.ensures.heads e note c.args.here c.args.sync notes stood fit below alone said is) in
    (all_then c.args.yard.now c.mark_site.new.yard c.open_link.new.yard
    (all_then c.args.yard.now c.make_link.new.yard c.mark_site.new.yard
    (all_then c.args.yard.now c.join_site.new.yard c.make_link.new.yard
    (all_of_site c.args.there c.args.yard.now c.join_site.new.yard (c.in-Ok.ensures.asked d stands l.below_too))
    (all_of_site c.args.here c.join_site.new.yard c.make_link.new.yard (c.in-Ok-make_link.ensures.asked _ one.stands (below_one d first second prot c.args.here c.args.there c.args.sync c.args.states.now l c.args.yard.now stands c.args.here l.below))))
    (all_of_site c.args.there c.make_link.new.yard c.mark_site.new.yard (c.in-Ok-mark_site.ensures.asked _ two.stands (below_two d first second prot c.args.here c.args.there c.args.sync c.args.states.now l c.args.yard.now stands c.args.there l.below_too))))
    (all_of_site c.args.here c.mark_site.new.yard c.open_link.new.yard (c.in-Ok-open_link.ensures.asked _ three.stands (below_three d first second prot c.args.here c.args.there c.args.sync c.args.states.now l c.args.yard.now stands c.args.here l.below))))

pub returns-in-Ok-open_link-clause-told : goal.returns-in-Ok-open_link-clause-told
returns-in-Ok-open_link-clause-told g c = λ told. (c.in-Ok.ensures.told (c.in-Ok-make_link.ensures.told (c.in-Ok-mark_site.ensures.told (c.in-Ok-open_link.ensures.told told))))

pub returns-in-Err-clause-called : goal.returns-in-Err-clause-called
returns-in-Err-clause-called g c = λ d first second prot stands l.
    burns_one d first second prot c.args.here c.args.there c.args.sync c.args.states.now l c.args.yard.now stands c.join_site.new.yard c.in-Err.said (λ e note notes stood fit below first alone said is. c.in-Err.ensures.heads e note c.args.sync notes stood fit below first alone said is) (λ e note notes stood fit below alone said. c.in-Err.ensures.called e note c.args.sync notes stood fit below alone said)

pub returns-in-Err-make_link-clause-called : goal.returns-in-Err-make_link-clause-called
returns-in-Err-make_link-clause-called g c = λ d first second prot stands l.
    let one = comes_one d first second prot c.args.here c.args.there c.args.sync c.args.states.now l c.args.yard.now stands c.join_site.new.yard (λ e note notes stood fit below first alone said is. c.in-Ok.ensures.heads e note c.args.sync notes stood fit below first alone said is) in
    let first_part = under_one d first second prot c.args.here c.args.there c.args.sync c.args.states.now l c.args.yard.now stands c.join_site.new.yard (Ok tt) (λ e note notes stood fit below alone said. c.in-Ok.ensures.called e note c.args.sync notes stood fit below alone said) in
    burns_two d first second prot c.args.here c.args.there c.args.sync c.args.states.now l c.args.yard.now stands c.join_site.new.yard c.make_link.new.yard c.in-Err-make_link.said one (λ e note notes stood fit below alone session said is. c.in-Err-make_link.ensures.heads e note notes stood fit below alone session said is) first_part
    (c.in-Err-make_link.ensures.called _ one.stands (below_one d first second prot c.args.here c.args.there c.args.sync c.args.states.now l c.args.yard.now stands c.args.here l.below))

pub returns-in-Err-mark_site-clause-called : goal.returns-in-Err-mark_site-clause-called
returns-in-Err-mark_site-clause-called g c = λ d first second prot stands l.
    let one = comes_one d first second prot c.args.here c.args.there c.args.sync c.args.states.now l c.args.yard.now stands c.join_site.new.yard (λ e note notes stood fit below first alone said is. c.in-Ok.ensures.heads e note c.args.sync notes stood fit below first alone said is) in
    let two = comes_two d first second prot c.args.here c.args.there c.args.sync c.args.states.now l c.args.yard.now stands c.join_site.new.yard c.make_link.new.yard one (λ e note notes stood fit below alone session said is. c.in-Ok-make_link.ensures.heads e note notes stood fit below alone session said is) in
    let first_part = under_one d first second prot c.args.here c.args.there c.args.sync c.args.states.now l c.args.yard.now stands c.join_site.new.yard (Ok tt) (λ e note notes stood fit below alone said. c.in-Ok.ensures.called e note c.args.sync notes stood fit below alone said) in
    let second_part = under_two d first second prot c.args.here c.args.there c.args.sync c.args.states.now l c.args.yard.now stands c.join_site.new.yard c.make_link.new.yard Done first_part (c.in-Ok-make_link.ensures.called _ one.stands (below_one d first second prot c.args.here c.args.there c.args.sync c.args.states.now l c.args.yard.now stands c.args.here l.below)) in
    burns_three d first second prot c.args.here c.args.there c.args.sync c.args.states.now l c.args.yard.now stands c.make_link.new.yard c.mark_site.new.yard c.in-Err-mark_site.said two (λ e note notes stood fit below alone said is. c.in-Err-mark_site.ensures.heads e note c.args.here c.args.sync notes stood fit below alone said is) second_part
    (c.in-Err-mark_site.ensures.called _ two.stands (below_two d first second prot c.args.here c.args.there c.args.sync c.args.states.now l c.args.yard.now stands c.args.there l.below_too))

pub returns-in-Err-open_link-clause-called : goal.returns-in-Err-open_link-clause-called
returns-in-Err-open_link-clause-called g c = λ d first second prot stands l.
    let one = comes_one d first second prot c.args.here c.args.there c.args.sync c.args.states.now l c.args.yard.now stands c.join_site.new.yard (λ e note notes stood fit below first alone said is. c.in-Ok.ensures.heads e note c.args.sync notes stood fit below first alone said is) in
    let two = comes_two d first second prot c.args.here c.args.there c.args.sync c.args.states.now l c.args.yard.now stands c.join_site.new.yard c.make_link.new.yard one (λ e note notes stood fit below alone session said is. c.in-Ok-make_link.ensures.heads e note notes stood fit below alone session said is) in
    let three = comes_three d first second prot c.args.here c.args.there c.args.sync c.args.states.now l c.args.yard.now stands c.make_link.new.yard c.mark_site.new.yard two (λ e note notes stood fit below alone said is. c.in-Ok-mark_site.ensures.heads e note c.args.here c.args.sync notes stood fit below alone said is) in
    let first_part = under_one d first second prot c.args.here c.args.there c.args.sync c.args.states.now l c.args.yard.now stands c.join_site.new.yard (Ok tt) (λ e note notes stood fit below alone said. c.in-Ok.ensures.called e note c.args.sync notes stood fit below alone said) in
    let second_part = under_two d first second prot c.args.here c.args.there c.args.sync c.args.states.now l c.args.yard.now stands c.join_site.new.yard c.make_link.new.yard Done first_part (c.in-Ok-make_link.ensures.called _ one.stands (below_one d first second prot c.args.here c.args.there c.args.sync c.args.states.now l c.args.yard.now stands c.args.here l.below)) in
    let third_part = under_three d first second prot c.args.here c.args.there c.args.sync c.args.states.now l c.args.yard.now stands c.make_link.new.yard c.mark_site.new.yard Done second_part (c.in-Ok-mark_site.ensures.called _ two.stands (below_two d first second prot c.args.here c.args.there c.args.sync c.args.states.now l c.args.yard.now stands c.args.there l.below_too)) in
    burns_four d first second prot c.args.here c.args.there c.args.sync c.args.states.now l c.args.yard.now stands c.mark_site.new.yard c.open_link.new.yard c.in-Err-open_link.said three (λ e note notes stood fit below alone last said is. c.in-Err-open_link.ensures.heads e note c.args.sync notes stood fit below alone last said is) third_part
    (c.in-Err-open_link.ensures.called _ three.stands (below_three d first second prot c.args.here c.args.there c.args.sync c.args.states.now l c.args.yard.now stands c.args.here l.below))

pub returns-in-Ok-open_link-clause-called : goal.returns-in-Ok-open_link-clause-called
returns-in-Ok-open_link-clause-called g c = λ d first second prot stands l.
    let one = comes_one d first second prot c.args.here c.args.there c.args.sync c.args.states.now l c.args.yard.now stands c.join_site.new.yard (λ e note notes stood fit below first alone said is. c.in-Ok.ensures.heads e note c.args.sync notes stood fit below first alone said is) in
    let two = comes_two d first second prot c.args.here c.args.there c.args.sync c.args.states.now l c.args.yard.now stands c.join_site.new.yard c.make_link.new.yard one (λ e note notes stood fit below alone session said is. c.in-Ok-make_link.ensures.heads e note notes stood fit below alone session said is) in
    let three = comes_three d first second prot c.args.here c.args.there c.args.sync c.args.states.now l c.args.yard.now stands c.make_link.new.yard c.mark_site.new.yard two (λ e note notes stood fit below alone said is. c.in-Ok-mark_site.ensures.heads e note c.args.here c.args.sync notes stood fit below alone said is) in
    let first_part = under_one d first second prot c.args.here c.args.there c.args.sync c.args.states.now l c.args.yard.now stands c.join_site.new.yard (Ok tt) (λ e note notes stood fit below alone said. c.in-Ok.ensures.called e note c.args.sync notes stood fit below alone said) in
    let second_part = under_two d first second prot c.args.here c.args.there c.args.sync c.args.states.now l c.args.yard.now stands c.join_site.new.yard c.make_link.new.yard Done first_part (c.in-Ok-make_link.ensures.called _ one.stands (below_one d first second prot c.args.here c.args.there c.args.sync c.args.states.now l c.args.yard.now stands c.args.here l.below)) in
    let third_part = under_three d first second prot c.args.here c.args.there c.args.sync c.args.states.now l c.args.yard.now stands c.make_link.new.yard c.mark_site.new.yard Done second_part (c.in-Ok-mark_site.ensures.called _ two.stands (below_two d first second prot c.args.here c.args.there c.args.sync c.args.states.now l c.args.yard.now stands c.args.there l.below_too)) in
    burns_done d first second prot c.args.here c.args.there c.args.sync c.args.states.now l c.args.yard.now stands c.mark_site.new.yard c.open_link.new.yard third_part (c.in-Ok-open_link.ensures.called _ three.stands (below_three d first second prot c.args.here c.args.there c.args.sync c.args.states.now l c.args.yard.now stands c.args.here l.below))
