-- The site that came up has a row, with no more links than any.
use Rattle.std.proofs.Common.{◌∙◌, ap, length}
use Rattle.vx_model.proofs.Lists.{get_there}
use Rattle.vx_site_lines.specs.Rises.{risen_facts}
use Rattle.vx_site_lines.proofs.RiseNeeds.{few_places, risen_few, risen_many}
use Rattle.vx_site_lines.proofs.recover.stand_up.Goals as goal

pub show_risen-requires-clause-facts : goal.show_risen-requires-clause-facts
show_risen-requires-clause-facts g c κs within =
    let fs = c.args.yard.now.facts.items in
    let found = get_there fs c.args.site c.requires.facts in
    risen_many fs c.follow-session.new.yard.facts.items c.args.site (risen_facts c.args.risen.state c.note_risen-last.result c.args.ring c.args.risen.used found.0) c.requires.facts
    (ap (λ fs. fs.items) c.follow-session.ensures.facts ∙ c.note_risen-last.ensures.facts found.0 found.1)

pub show_risen-requires-clause-few : goal.show_risen-requires-clause-few
show_risen-requires-clause-few g c κs within = λ f at.
    let fs = c.args.yard.now.facts.items in
    let found = get_there fs c.args.site c.requires.facts in
    risen_few fs c.follow-session.new.yard.facts.items c.args.site found.0 f c.args.risen.state c.note_risen-last.result c.args.ring c.args.risen.used c.requires.facts
    (ap (λ fs. fs.items) c.follow-session.ensures.facts ∙ c.note_risen-last.ensures.facts found.0 found.1) at (few_places (length c.args.risen.state.links) c.requires.state.few)
